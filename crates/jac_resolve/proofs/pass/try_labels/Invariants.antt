use Rattle.std.proofs.Common.{drop}
use Rattle.jac_lang.specs.Mirror.{application_of}
use Rattle.jac_keep.specs.WorkState.{state_of}
use Rattle.jac_resolve.specs.RightMemo.{IsUnderway}
use Rattle.jac_shown_rows.specs.Local.{IsLocalCase}
use Rattle.jac_resolve.specs.Room.{AreLocalAnswers, Spends}
use Rattle.jac_shown_rows.proofs.Working.{LoopOver}
use Rattle.jac_resolve.proofs.Room.{AsBounded}
use Rattle.jac_resolve.proofs.Greedy.{Round, InRound}
use Rattle.jac_resolve.proofs.pass.try_labels.Given as goal
use Rattle.jac_plain.specs.Shown.{worlds_of}

abbrev pub invariant-labels : goal.invariant-labels
invariant-labels g l =
    let k = g.K.Keeper in
    let app = application_of l.app in
    let worlds = worlds_of (state_of k.seen l.fn.work) in
    InRound l.labels l.fn.a l.a l.added l.fn.answers l.answers l.fn.evaluations l.evaluations
    (LoopOver k.seen l.fn.work l.work
    (AsBounded (IsUnderway app worlds l.viewer l.fn.a l.fn.answers → Round app worlds l.viewer l.labels (drop l.label-index l.labels) l.a l.answers l.added)
    (IsLocalCase app (state_of k.seen l.fn.work) l.viewer → AreLocalAnswers l.labels l.fn.answers → Spends l.labels l.fn.evaluations l.evaluations l.fn.answers l.answers)))
