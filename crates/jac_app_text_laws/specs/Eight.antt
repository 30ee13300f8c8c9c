-- The text of an application in which the policy of each of eight groups but the last reads the
-- field that the next group guards.
use Rattle.std.specs.Prelude.{ℕ, List, ◌++◌, codes}

-- Boxes with eight fields. The label of each field is shown if the next field says `a`. The last
-- field is for everybody.
unfoldable pub eight_text : List ℕ
eight_text =
    codes "(app (model Box (fields (f0 text) (f1 text) (f2 text) (f3 text)"
    ++ codes " (f4 text) (f5 text) (f6 text) (f7 text))\n"
    ++ codes "  (group (guards (f0 \"p\")) (policy (eq (get Box f1 this) \"a\")))\n"
    ++ codes "  (group (guards (f1 \"p\")) (policy (eq (get Box f2 this) \"a\")))\n"
    ++ codes "  (group (guards (f2 \"p\")) (policy (eq (get Box f3 this) \"a\")))\n"
    ++ codes "  (group (guards (f3 \"p\")) (policy (eq (get Box f4 this) \"a\")))\n"
    ++ codes "  (group (guards (f4 \"p\")) (policy (eq (get Box f5 this) \"a\")))\n"
    ++ codes "  (group (guards (f5 \"p\")) (policy (eq (get Box f6 this) \"a\")))\n"
    ++ codes "  (group (guards (f6 \"p\")) (policy (eq (get Box f7 this) \"a\")))\n"
    ++ codes "  (group (guards (f7 \"p\")) (policy true)))\n"
    ++ codes " (view post \"/new\" (params) (create b Box (set (f0 \"a\") (f1 \"a\") (f2 \"a\")"
    ++ codes " (f3 \"a\") (f4 \"a\") (f5 \"a\") (f6 \"a\") (f7 \"a\"))))\n"
    ++ codes " (view get \"/all\" (params)\n"
    ++ codes "  (for (from ((b Box)) true key) (put (get Box f0 b)) (put \";\"))))\n"
