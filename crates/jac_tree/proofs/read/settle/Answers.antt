use Rattle.std.proofs.Common.{◌∙◌}
use Rattle.jac_tree.specs.Mirror.{plain}
use Rattle.jac_tree.proofs.States.{opened, grown, settles, settles_shallow}
use Rattle.jac_tree.proofs.read.settle.Goals as goal

pub returns-in_ok-push-in-Some-clause-settles : goal.returns-in_ok-push-in-Some-clause-settles
returns-in_ok-push-in-Some-clause-settles c =
    settles _ _ _ _ (plain c.args.tree) (opened _ _ _ c.in-Some.ensures.items)
    (opened _ _ _ c.in_ok-push-in-Some.ensures.items ∙ grown _ _ _ _ _ c.in_ok-first-in-Some.ensures.ok c.in_ok-rest-in-Some.ensures.ok)

pub returns-in_ok-push-in-Some-clause-shallow : goal.returns-in_ok-push-in-Some-clause-shallow
returns-in_ok-push-in-Some-clause-shallow c h n = (
  settles_shallow _ _ _ _ (plain c.args.tree) (opened _ _ _ c.in-Some.ensures.items)
      (opened _ _ _ c.in_ok-push-in-Some.ensures.items ∙ grown _ _ _ _ _ c.in_ok-first-in-Some.ensures.ok c.in_ok-rest-in-Some.ensures.ok) h n,
  tt,
)
