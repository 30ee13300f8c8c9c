use Rattle.std.proofs.Common.{◌∙◌, ap, refl}
use Rattle.jac_keep.specs.WorkState.{state_of}
use Rattle.jac_plain.specs.Pieces.{piece_of}
use Rattle.jac_pruned_pages.specs.Buffers.{buffer_of, buffer_with}
use Rattle.jac_shown_rows.specs.Seen.{seen_at}
use Rattle.jac_pruned_pages.proofs.page_cells.add_got.Goals as goal

pub returns-in_ok-add_one-in-Some-clause-piece : goal.returns-in_ok-add_one-in-Some-clause-piece
returns-in_ok-add_one-in-Some-clause-piece g c told w agree =
    c.in_ok-add_one-in-Some.ensures.piece told w agree
    ∙ ap (λ v. buffer_with (piece_of c.args.cell.now.form v) (buffer_of c.args.page.now))
    (c.in-Some.ensures.got (seen_at c.args.at.now (state_of g.K.Keeper.seen c.args.work.now) w) refl c.args.value.now)

pub returns-in_ok-add-in-None-clause-piece : goal.returns-in_ok-add-in-None-clause-piece
returns-in_ok-add-in-None-clause-piece g c told w agree =
    c.in_ok-add-in-None.ensures
    ∙ ap (λ v. buffer_with (piece_of c.args.cell.now.form v) (buffer_of c.args.page.now))
    (c.in-None.ensures.got (seen_at c.args.at.now (state_of g.K.Keeper.seen c.args.work.now) w) refl c.args.value.now)
