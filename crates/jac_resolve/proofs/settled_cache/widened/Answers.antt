use Rattle.std.proofs.Common.{◌∙◌, ℕ, List, Option, ap, sym, subst}
use Rattle.std.specs.List.{list_all}
use Rattle.jac_world.specs.World.{shown_by}
use Rattle.jac_policy_cache.specs.Linked.{AreLinkedIf}
use Rattle.jac_resolve.proofs.Apart.{linked_back}
use Rattle.jac_resolve.proofs.settled_cache.widened.Goals as goal

pub returns-then-has_all : goal.returns-then-has_all
returns-then-has_all c =
    let answers = c.args.answers.now in
    let near = c.args.near.now in
    linked_back answers near c.in-Some.all (subst (λ (o : Option (List ℕ)). AreLinkedIf answers near o) c.in-Some.is c.in_ok-all.ensures)
    (ap (list_all (shown_by near)) (sym c.as_slice.ensures.labels) ∙ sym c.has_all.ensures ∙ c.if-has_all.true)
