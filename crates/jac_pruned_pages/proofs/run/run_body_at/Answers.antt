use Rattle.std.proofs.Common.{◌∙◌, ap, List, []}
use Rattle.jac_lang.specs.declared.bindings.Binding.{Binding}
use Rattle.jac_lang.specs.Mirror.{statements_of}
use Rattle.jac_keep.specs.WorkState.{state_of}
use Rattle.jac_plain.specs.Shown.{setting_at}
use Rattle.jac_plain.specs.Statements.{leaves_all}
use Rattle.jac_pruned_pages.specs.Buffers.{buffer_of, page_in}
use Rattle.jac_pruned_pages.specs.Runs.{Left, page_ran, run_in}
use Rattle.jac_pruned_pages.proofs.Buffering.{page-in, page-made}
use Rattle.jac_pruned_pages.proofs.Running.{are-reading}
use Rattle.jac_pruned_pages.proofs.run.run_body_at.Goals as goal

pub execute_all-requires-clause-reading : goal.execute_all-requires-clause-reading
execute_all-requires-clause-reading g c = are-reading (statements_of c.args.body.now) c.requires.reading

pub returns-clause-page : goal.returns-clause-page
returns-clause-page g c told w agree =
    let app = c.args.at.now.app.now in
    let ctx = c.args.at.now.ctx.now in
    let s = state_of g.K.Keeper.seen c.args.work.now in
    let body = statements_of c.args.body.now in
    c.in_ok-page.ensures
    ∙ ap page_in (ap (λ (l : Left). l.page) (c.in_ok-execute_all.ensures.left told w agree [] c.empty.ensures))
    ∙ page-in (leaves_all (setting_at app ctx w) body (run_in w s c.into_vec.result.items [])).pieces
    ∙ ap (λ (env : List Binding). page_ran app ctx w s env body) c.into_vec.ensures

pub returns-clause-made : goal.returns-clause-made
returns-clause-made g c = page-made c.in_ok-page.page (buffer_of c.execute_all.new.run.page) c.in_ok-page.ensures
