use Rattle.std.proofs.Common.{◌≡◌, ◌↔◌, ◌≤◌, ℕ, List, ◌++◌, length, take, drop}
use Rattle.std.specs.Str.Iter.{chars_rest}
use Rattle.jac_tree.specs.Grammar.{Spells}
use Rattle.jac_tree.specs.Plain.{PlainTree}
use Rattle.jac_tree.specs.Reading.{open_lists, Completes, IsShallow}
use Rattle.jac_tree.proofs.read.read_str.Given as goal

-- The bytes that complete a document after those read so far are the bytes that the reader's state
-- accepts.
abbrev pub invariant-characters : goal.invariant-characters
invariant-characters l = record {
  within : l.at ≤ length l.text;
  left : chars_rest l.c-iterator ≡ drop l.at l.text;
  reads : (rest : List ℕ) (t : PlainTree) → Completes (open_lists l.stack.items) l.mode rest t ↔ Spells (take l.at l.text ++ rest) t;
  shallow : IsShallow (open_lists l.stack.items) l.mode;
}
