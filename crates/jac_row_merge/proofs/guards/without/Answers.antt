use Rattle.std.proofs.Common.{◌∙◌, ap, sym, subst, suc}
use Rattle.std.specs.List.{list_all}
use Rattle.jac_world.specs.World.{IsRising}
use Rattle.jac_row_merge.proofs.Joining.{all_without}
use Rattle.jac_row_merge.proofs.Placed.{rising-remove}
use Rattle.jac_row_merge.proofs.guards.without.Goals as goal

pub from_pairs-requires : goal.from_pairs-requires
from_pairs-requires c =
    subst IsRising (sym c.remove.ensures.items)
    (rising-remove c.in_ok-pairs.pairs.items c.args.place (subst IsRising (sym (c.in_ok-pairs.ensures.items ∙ c.pairs.ensures.pairs)) c.pairs.ensures.rising))

pub returns-clause-fewer : goal.returns-clause-fewer
returns-clause-fewer c p h =
    ap (list_all p) (c.from_pairs.ensures ∙ c.remove.ensures.items)
    ∙ all_without p c.args.place (suc c.args.place) c.in_ok-pairs.pairs.items (ap (list_all p) (c.in_ok-pairs.ensures.items ∙ c.pairs.ensures.pairs) ∙ h)
