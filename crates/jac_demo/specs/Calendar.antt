-- The text of the demonstration's application, a calendar.
use Rattle.std.specs.Prelude.{ℕ, List, ◌++◌, codes}

-- The models are users and events. Only the host of an event sees its title, unless the event is
-- open. The three views join, add and list.
unfoldable pub calendar_text : List ℕ
calendar_text =
    codes "(app (viewer User)\n"
    ++ codes " (model User (fields (name text)))\n"
    ++ codes " (model Event (fields (title text) (host (ref User)) (open bool))\n"
    ++ codes "  (group (guards (title \"private\"))\n"
    ++ codes "   (policy (or (get Event open this) (eq (get Event host this) viewer)))))\n"
    ++ codes " (view post \"/join\" (params (name text))\n"
    ++ codes "  (create u User (set (name name)) (put u)))\n"
    ++ codes " (view post \"/add\" (params (title text) (open bool))\n"
    ++ codes "  (create e Event (set (title title) (host viewer) (open open)) (put e)))\n"
    ++ codes " (view get \"/list\" (params)\n"
    ++ codes "  (for (from ((e Event)) true key) (put (get Event title e)) (put \";\"))))\n"
