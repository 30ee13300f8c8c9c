use Rattle.std.proofs.Common.{◌≡◌, ◌++◌, ◌∷◌, [], string_bytes}
use Rattle.std.specs.Str.Iter.{chars_rest}
use Rattle.jac_tree.specs.Printed.{text_pieces}
use Rattle.jac_tree.proofs.print.put_text.Given as goal

-- The text so far, followed by the pieces of the characters that are left, is the text of all
-- characters.
abbrev pub invariant-characters : goal.invariant-characters
invariant-characters l = string_bytes l.to ++ text_pieces (chars_rest l.c-iterator) ≡ (string_bytes l.fn.to ++ 34 ∷ []) ++ text_pieces l.text
