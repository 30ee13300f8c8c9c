use Rattle.std.proofs.Common.{◌≡◌, drop}
use Rattle.jac_world.specs.World.{shown_by}
use Rattle.jac_plain.specs.Policies.{with_label}
use Rattle.jac_policy_cache.specs.Memo.{first_fitting}
use Rattle.jac_policy_cache.proofs.policy_memo.first_fitting.Given as goal

abbrev pub invariant-answers : goal.invariant-answers
invariant-answers l =
    let w = with_label l.label (shown_by l.a) in
    first_fitting (drop l.known-index l.answers) w ≡ first_fitting l.answers w
