use Rattle.std.proofs.Common.{◌∙◌, ap, sym, subst}
use Rattle.jac_keep.specs.Alterations.{AreApart}
use Rattle.jac_keep.specs.MatchingRecords.{masked_alterations}
use Rattle.jac_keep.proofs.Held.{apart_masked}
use Rattle.jac_keep.proofs.masks.masked.Goals as goal

pub from_vec-requires : goal.from_vec-requires
from_vec-requires c =
    let v = c.args.value.now in
    let all = c.in_ok-masked.ensures ∙ ap (masked_alterations c.args.field v) c.as_slice-items.ensures.items in
    subst AreApart (sym all) (apart_masked c.args.field v c.args.changed.now c.as_slice-items.ensures.apart)
