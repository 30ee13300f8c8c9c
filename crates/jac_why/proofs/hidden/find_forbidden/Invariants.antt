use Rattle.std.proofs.Common.{◌≡◌, ◌≤◌, drop}
use Rattle.jac_world.specs.World.{shown_by}
use Rattle.jac_lang.specs.Mirror.{application_of}
use Rattle.jac_keep.specs.WorkState.{state_of}
use Rattle.jac_shown_rows.proofs.Working.{LoopOver}
use Rattle.jac_why.specs.Whys.{first_forbidden}
use Rattle.jac_why.proofs.hidden.find_forbidden.Given as goal
use Rattle.jac_plain.specs.Shown.{worlds_of}

abbrev pub invariant-labels : goal.invariant-labels
invariant-labels g l =
    let k = g.K.Keeper in
    let app = application_of l.app in
    let t = worlds_of (state_of k.seen l.fn.work) (shown_by l.a) in
    (l.fn.evaluations ≤ l.evaluations) ×
    LoopOver k.seen l.fn.work l.work
    (first_forbidden app t l.viewer (drop l.label-index l.labels) ≡ first_forbidden app t l.viewer l.labels)
