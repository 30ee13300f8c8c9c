use Rattle.std.proofs.Common.{◌≡◌, ◌++◌, true, drop}
use Rattle.std.specs.List.{list_all}
use Rattle.jac_lang.specs.Mirror.{application_of}
use Rattle.jac_keep.specs.WorkState.{state_of}
use Rattle.jac_shown_rows.proofs.Working.{LoopOver}
use Rattle.jac_why.specs.Context.{context_on}
use Rattle.jac_why.specs.Whys.{is_standing}
use Rattle.jac_admin.specs.Explain.{why_lines}
use Rattle.jac_admin.proofs.hidden.push_checked.Given as goal

abbrev pub invariant-whys : goal.invariant-whys
invariant-whys g l =
    let k = g.K.Keeper in
    let app = application_of l.context.app.now in
    let stands = is_standing (context_on (state_of k.seen l.fn.work) l.context) in
    LoopOver k.seen l.fn.work l.work
    (list_all stands l.whys ≡ true →
    (l.text.items ++ why_lines app.models (drop l.why-index l.whys) ≡ l.fn.text.items ++ why_lines app.models l.whys) × (list_all stands (drop l.why-index l.whys) ≡ true))
