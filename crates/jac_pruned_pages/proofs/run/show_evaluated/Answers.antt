use Rattle.std.proofs.Common.{◌∙◌, ap}
use Rattle.jac_lang.specs.Mirror.{expression_of}
use Rattle.jac_lang.specs.Syntax.{Expression}
use Rattle.jac_rows.specs.declared.state.State.{State}
use Rattle.jac_keep.specs.WorkState.{state_of}
use Rattle.jac_value.specs.declared.value.Value.{Value}
use Rattle.jac_plain.specs.Expressions.{mean}
use Rattle.jac_plain.specs.Pieces.{piece_of}
use Rattle.jac_plain.specs.Shown.{setting_at, world_at}
use Rattle.jac_plain.specs.Statements.{value_in}
use Rattle.jac_plain.specs.World.{got}
use Rattle.jac_pruned_pages.specs.Buffers.{buffer_of}
use Rattle.jac_pruned_pages.specs.Runs.{run_in}
use Rattle.jac_shown_rows.proofs.Growing.{agrees_less}
use Rattle.jac_pruned_pages.proofs.Running.{piece_more, value_here}
use Rattle.jac_pruned_pages.proofs.run.show_evaluated.Goals as goal

pub returns-clause-left : goal.returns-clause-left
returns-clause-left g c told w agree pieces is =
    let app = c.args.at.now.app.now in
    let ctx = c.args.at.now.ctx.now in
    let s = state_of g.K.Keeper.seen c.args.work.now in
    let e = expression_of c.args.of.now in
    let cell = c.args.cell.now in
    let env = c.args.run.now.env.items in
    let made = λ (v : Value). piece_of cell.form v in
    let before = c.in_ok-add_got.ensures.reads.same.told told in
    let v = got (world_at app ctx (state_of g.K.Keeper.seen c.eval.new.work) w) cell.model.now cell.field.now c.in_ok-value.value in
    let of_get = Expression.get cell.model.now cell.field.now e in
    piece_more w s env (buffer_of c.args.run.now.page) (buffer_of c.add_got.new.page) pieces
    (made (value_in (setting_at app ctx w) of_get (run_in w s env pieces))) (made v) is
    (c.in_ok-add_got.ensures.piece told w agree)
    (ap made (value_here app ctx w s env pieces of_get v c.requires.no_record
    (ap (λ (x : State). got (world_at app ctx x w) cell.model.now cell.field.now c.in_ok-value.value) (c.in_ok-value.ensures.reads.same.same_state before)
    ∙ ap (got (world_at app ctx s w) cell.model.now cell.field.now)
    (c.in_ok-value.ensures.value before w (agrees_less _ _ _ _ c.in_ok-add_got.ensures.grows agree)
    ∙ ap (mean (world_at app ctx s w) e) c.as_slice.ensures.value))))
