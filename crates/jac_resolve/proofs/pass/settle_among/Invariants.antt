use Rattle.std.proofs.Common.{[], ◌≤◌}
use Rattle.jac_world.specs.World.{shown_by}
use Rattle.jac_lang.specs.Mirror.{application_of}
use Rattle.jac_keep.specs.WorkState.{state_of}
use Rattle.jac_resolve.specs.RightMemo.{IsUnderway}
use Rattle.jac_shown_rows.specs.Local.{IsLocalCase}
use Rattle.jac_resolve.specs.Rounds.{Within, hidden_count}
use Rattle.jac_shown_rows.proofs.Working.{LoopOver}
use Rattle.jac_resolve.specs.Room.{AreLocalAnswers, Spends}
use Rattle.jac_resolve.proofs.Room.{AsBounded}
use Rattle.jac_resolve.proofs.pass.settle_among.Given as goal
use Rattle.jac_plain.specs.Shown.{worlds_of}

abbrev pub invariant-rounds : goal.invariant-rounds
invariant-rounds g l =
    let k = g.K.Keeper in
    Within l.tried [] l.assignment × (l.fn.evaluations ≤ l.evaluations) ×
    LoopOver k.seen l.fn.work l.work (AsBounded (IsUnderway (application_of l.app) (worlds_of (state_of k.seen l.fn.work)) l.viewer l.assignment l.answers)
    (IsLocalCase (application_of l.app) (state_of k.seen l.fn.work) l.viewer → AreLocalAnswers l.tried l.fn.answers → Spends l.tried l.fn.evaluations l.evaluations l.fn.answers l.answers))

abbrev pub decreases-rounds : goal.decreases-rounds
decreases-rounds g l = hidden_count (shown_by l.assignment) l.tried
