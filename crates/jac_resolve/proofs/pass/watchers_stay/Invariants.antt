use Rattle.std.proofs.Common.{◌≡◌, ℕ, List, true, drop}
use Rattle.jac_world.specs.World.{shown_by}
use Rattle.jac_lang.specs.Mirror.{application_of}
use Rattle.jac_keep.specs.WorkState.{state_of}
use Rattle.jac_plain.specs.Policies.{is_allowed}
use Rattle.jac_resolve.specs.RightMemo.{AreRight}
use Rattle.jac_shown_rows.specs.Local.{IsLocalCase}
use Rattle.jac_resolve.specs.Room.{AreLocalAnswers, Spends}
use Rattle.jac_shown_rows.proofs.Working.{LoopOver}
use Rattle.jac_resolve.proofs.Greedy.{SoFar}
use Rattle.jac_resolve.proofs.Underway.{AllBut, InWatching}
use Rattle.jac_resolve.proofs.Room.{AsBounded}
use Rattle.jac_resolve.proofs.pass.watchers_stay.Given as goal
use Rattle.jac_plain.specs.Shown.{worlds_of}

abbrev pub invariant-watchers : goal.invariant-watchers
invariant-watchers g l =
    let k = g.K.Keeper in
    let app = application_of l.app in
    let worlds = worlds_of (state_of k.seen l.fn.work) in
    let w = shown_by l.a in
    let left = drop l.watcher-index l.watchers in
    InWatching l.fn.evaluations l.evaluations l.fn.answers l.answers w l.watchers left
    (LoopOver k.seen l.fn.work l.work
    (AsBounded (AreRight app worlds l.viewer l.fn.answers →
    SoFar (AreRight app worlds l.viewer l.answers) (AllBut (λ j. w j ≡ true → is_allowed app (worlds w) l.viewer j ≡ true) l.watchers left))
    (IsLocalCase app (state_of k.seen l.fn.work) l.viewer → (labels : List ℕ) → ((j : ℕ) → shown_by l.watchers j ≡ true → shown_by labels j ≡ true) → AreLocalAnswers labels l.fn.answers →
    Spends labels l.fn.evaluations l.evaluations l.fn.answers l.answers)))
