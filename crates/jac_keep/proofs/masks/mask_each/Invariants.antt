use Rattle.std.proofs.Common.{◌≡◌, ◌++◌, drop}
use Rattle.jac_keep.specs.MatchingRecords.{masked_alterations}
use Rattle.jac_keep.proofs.masks.mask_each.Given as goal

abbrev pub invariant-changed : goal.invariant-changed
invariant-changed l = l.out.items ++ masked_alterations l.field l.value (drop l.alteration-index l.changed) ≡ masked_alterations l.field l.value l.changed
