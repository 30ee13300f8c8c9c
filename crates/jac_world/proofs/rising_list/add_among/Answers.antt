use Rattle.std.proofs.Common.{◌∙◌, List, ℕ, ap, subst, sym}
use Rattle.jac_world.specs.World.{shown_by, IsAscending}
use Rattle.jac_world.proofs.Bisected.{shows_end, shows_found}
use Rattle.jac_world.proofs.rising_list.add_among.Goals as goal

pub returns-then-is_last-clause-added : goal.returns-then-is_last-clause-added
returns-then-is_last-clause-added c =
    shows_found c.args.labels.now.items c.args.label (rw c.as_slice.ensures.value at (c.is_last.ensures c.if-is_last.true))

pub returns-then-is_above-clause-added : goal.returns-then-is_above-clause-added
returns-then-is_above-clause-added c k =
    ap (λ (l : List ℕ). shown_by l k) c.in_ok-push.ensures.items ∙ shows_end c.args.labels.now.items c.args.label k

pub returns-then-is_above-clause-ascending : goal.returns-then-is_above-clause-ascending
returns-then-is_above-clause-ascending c =
    subst IsAscending (sym c.in_ok-push.ensures.items) (rw c.as_slice-2.ensures.value at (c.is_above.ensures c.if-is_above.true))
