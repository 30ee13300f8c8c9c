use Rattle.std.proofs.Common.{◌∙◌, ap}
use Rattle.jac_value.specs.Values.{value_text}
use Rattle.jac_lang.specs.Mirror.{expression_of}
use Rattle.jac_keep.specs.WorkState.{state_of}
use Rattle.jac_plain.specs.declared.page.Piece.TheVariants as piece
use Rattle.jac_plain.specs.Expressions.{mean}
use Rattle.jac_plain.specs.Shown.{setting_at}
use Rattle.jac_plain.specs.Statements.{world_of}
use Rattle.jac_pruned_pages.specs.Buffers.{buffer_of}
use Rattle.jac_pruned_pages.specs.Runs.{run_in}
use Rattle.jac_pruned_pages.proofs.Running.{piece_more}
use Rattle.jac_pruned_pages.proofs.run.execute_put.Goals as goal

pub returns-in_ok-add_bytes-in-Some-clause-left : goal.returns-in_ok-add_bytes-in-Some-clause-left
returns-in_ok-add_bytes-in-Some-clause-left g c told w agree pieces is =
    let k = setting_at c.args.at.now.app.now c.args.at.now.ctx.now w in
    let s = state_of g.K.Keeper.seen c.args.work.now in
    let e = expression_of c.args.e.now in
    let env = c.args.run.now.env.items in
    let world = world_of k (run_in w s env pieces) in
    piece_more w s env (buffer_of c.args.run.now.page) (buffer_of c.add_bytes.new.self) pieces
    (piece.Added (value_text (mean world e env))) (piece.Added c.in-Some.text.now) is c.in_ok-add_bytes-in-Some.ensures
    (ap piece.Added (c.in-Some.ensures world ∙ ap (λ b. value_text (mean world e b)) c.as_slice.ensures.value))
