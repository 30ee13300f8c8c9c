use Rattle.std.proofs.Common.{◌≡◌, ◌++◌, drop}
use Rattle.jac_keep.specs.Alterations.{of_model}
use Rattle.jac_keep.proofs.placement.copies_of.Given as goal

abbrev pub invariant-changed : goal.invariant-changed
invariant-changed l = l.copies.items ++ of_model l.model (drop l.alteration-index l.changed) ≡ of_model l.model l.changed
