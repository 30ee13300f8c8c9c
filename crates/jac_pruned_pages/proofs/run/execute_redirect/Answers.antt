use Rattle.std.proofs.Common.{◌∙◌, ap}
use Rattle.jac_value.specs.declared.value.Value.{Value}
use Rattle.jac_lang.specs.Mirror.{expression_of}
use Rattle.jac_keep.specs.WorkState.{state_of}
use Rattle.jac_plain.specs.declared.page.Piece.TheVariants as piece
use Rattle.jac_plain.specs.Expressions.{bytes_of, mean}
use Rattle.jac_plain.specs.Shown.{setting_at, world_at}
use Rattle.jac_plain.specs.Statements.{value_in}
use Rattle.jac_pruned_pages.specs.Buffers.{buffer_of}
use Rattle.jac_pruned_pages.specs.Runs.{run_in}
use Rattle.jac_pruned_pages.proofs.Running.{piece_more, value_here}
use Rattle.jac_pruned_pages.proofs.run.execute_redirect.Goals as goal

pub returns-clause-left : goal.returns-clause-left
returns-clause-left g c told w agree pieces is =
    let app = c.args.at.now.app.now in
    let ctx = c.args.at.now.ctx.now in
    let s = state_of g.K.Keeper.seen c.args.work.now in
    let e = expression_of c.args.e.now in
    let env = c.args.run.now.env.items in
    let made = λ (v : Value). piece.Redirect (bytes_of v) in
    piece_more w s env (buffer_of c.args.run.now.page) (buffer_of c.lead_to.new.self) pieces
    (made (value_in (setting_at app ctx w) e (run_in w s env pieces))) (made c.in_ok-value.value) is c.lead_to.ensures
    (ap made (value_here app ctx w s env pieces e c.in_ok-value.value c.requires.no_record (c.in_ok-value.ensures.value told w agree ∙ ap (mean (world_at app ctx s w) e) c.as_slice.ensures.value)))
