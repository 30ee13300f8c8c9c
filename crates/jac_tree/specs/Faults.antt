-- The fault that bytes have if they aren't the text of a tree. The order is length, encoding,
-- place.
use Rattle.std.specs.Prelude.{ℕ, ◌<◌, ◌≤◌, List, length, IsUtf8}
use Rattle.std.specs.Str.{IsValidUpTo}
use Rattle.jac_tree.specs.declared.fault.TreeFault.{TreeFault}
use Rattle.jac_tree.specs.declared.fault.TreeFault.TheVariants as faults
use Rattle.jac_tree.specs.Grammar.{IsStrayAt, IsDeepAt, IsUnclosedAt}

-- At most 1,048,576 bytes, which are UTF-8.
abbrev pub IsShortText : List ℕ → Type 0
IsShortText bytes = (length bytes ≤ 1048576) × IsUtf8 bytes

-- The fault is one of the bytes. Out of memory is not.
abbrev pub IsFaultOf : List ℕ → TreeFault → Type 0
IsFaultOf bytes faults.Long = 1048576 < length bytes
IsFaultOf bytes (faults.NotUtf8 at) = (length bytes ≤ 1048576) × IsValidUpTo bytes at
IsFaultOf bytes (faults.Stray at) = IsShortText bytes × IsStrayAt bytes at
IsFaultOf bytes (faults.Deep at) = IsShortText bytes × IsDeepAt bytes at
IsFaultOf bytes (faults.Unclosed at) = IsShortText bytes × IsUnclosedAt bytes at
IsFaultOf bytes faults.Memory = ⊥
