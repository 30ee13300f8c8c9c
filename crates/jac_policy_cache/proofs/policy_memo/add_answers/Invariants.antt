use Rattle.std.proofs.Common.{◌≡◌, ◌||◌, ℕ, drop}
use Rattle.jac_world.specs.World.{shown_by}
use Rattle.jac_policy_cache.specs.Memo.{names_label}
use Rattle.jac_policy_cache.proofs.policy_memo.add_answers.Given as goal

abbrev pub invariant-answers : goal.invariant-answers
invariant-answers l = (k : ℕ) → (shown_by l.labels k || names_label (drop l.known-index l.answers) k) ≡ (shown_by l.fn.labels k || names_label l.answers k)
