use Rattle.std.proofs.Common.{◌≡◌, refl, ◌∙◌, ap, arith, rules, sym, ◌+◌, ℕ, List, [], ◌∷◌, Option, drop, subst}
use Rattle.jac_lang.specs.declared.queries.Binder.{Binder}
use Rattle.jac_lang.specs.Mirror.{binders_of, question_of, statements_of}
use Rattle.jac_keep.specs.WorkState.{state_of}
use Rattle.jac_plain.specs.declared.page.Piece.TheVariants as piece
use Rattle.jac_plain.specs.Expressions.{answers, bound}
use Rattle.jac_plain.specs.Statements.{for_each, leaves_all, world_of}
use Rattle.jac_pruned_pages.specs.Buffers.{buffer_of}
use Rattle.jac_shown_rows.specs.RecordIds.{lengthened_tuples}
use Rattle.jac_pruned_pages.specs.Runs.{left_at, run_left, run_in}
use Rattle.jac_pruned.proofs.Bound.{bound-is}
use Rattle.jac_shown_rows.proofs.Growing.{agrees_less, grows_then}
use Rattle.jac_pruned_pages.proofs.Running.{comes_first, for_all, piece_more, record_more, records_end, scopes, tuple_more, tuples_end}
use Rattle.jac_shown_rows.proofs.Working.{next}
use Rattle.jac_pruned_pages.proofs.run.+run.Goals as goal
use Rattle.jac_plain.specs.Shown.{setting_around, setting_at, world_at}

pub execute_bound-returns-clause-left : goal.execute_bound-returns-clause-left
execute_bound-returns-clause-left g t c told w agree pieces is =
    let app = c.args.at.now.app.now in
    let ctx = c.args.at.now.ctx.now in
    let body = statements_of c.args.body.now in
    let ids = c.args.ids.now in
    let state = state_of g.K.Keeper.seen c.args.work.now in
    let env = c.args.run.now.env.items in
    let bs = binders_of c.args.binders.now in
    let left = c.execute_all.new.run.env.items in
    let page = buffer_of c.execute_all.new.run.page in
    let inner = c.rebind_tuple.new.env.items in
    let ran : left_at w state left page ≡ run_left (leaves_all (setting_around app ctx ids w) body (run_in w state inner pieces)) =
    subst (λ (around : Option ℕ). left_at w state left page
    ≡ run_left (leaves_all (record (setting_at app ctx w) { around = around }) body (run_in w state inner pieces)))
    c.loop_of.ensures (c.in_ok-execute_all.ensures.left told w agree pieces is) in
    scopes (leaves_all (setting_around app ctx ids w) body) w state env (bound bs ids env) inner left
    c.unbind.new.env.items c.len-outer.result page pieces
    (bound-is bs ids env inner c.in_ok-rebind_tuple.ensures) (search rules) c.in_ok-unbind.ensures ran

pub execute_tuples-tuples-init : goal.execute_tuples-tuples-init
execute_tuples-tuples-init g t c = record {
  grown = search rules;
  read = record {
    told = λ told w agree pieces is.
        let s = state_of g.K.Keeper.seen c.args.work.now in
        comes_first w s c.args.run.now.env.items (buffer_of c.args.run.now.page) pieces
        (for_each (binders_of c.args.binders.now)
        (λ (ids : List ℕ). leaves_all (setting_around c.args.at.now.app.now c.args.at.now.ctx.now ids w) (statements_of c.args.body.now)) c.args.tuples.now) is;
    same = search rules;
  };
}

pub execute_tuples-tuples-preserved : goal.execute_tuples-tuples-preserved
execute_tuples-tuples-preserved g t c =
    let before = c.tuples.invariant in
    let ids = c.ids-item.result in
    let i = c.tuples.ids-index in
    let tuples = c.args.tuples.now in
    record {
      grown = grows_then _ _ _ before.grown c.in_ok-execute_bound.ensures.grows;
      read = record {
        told = λ told w agree pieces is.
            let before_told = c.in_ok-execute_bound.ensures.reads.same.told told in
            let bs = binders_of c.args.binders.now in
            let body = λ (ids : List ℕ). leaves_all (setting_around c.args.at.now.app.now c.args.at.now.ctx.now ids w) (statements_of c.args.body.now) in
            let start = state_of g.K.Keeper.seen c.args.work.now in
            tuple_more bs body ids (drop i tuples) (drop (i + 1) tuples) (for_each bs body tuples (run_in w start c.args.run.now.env.items pieces)) w
            (state_of g.K.Keeper.seen c.tuples.work) start c.tuples.run.env.items c.execute_bound.new.run.env.items
            (buffer_of c.tuples.run.page) (buffer_of c.execute_bound.new.run.page)
            (next tuples ids i c.ids-item.is c.tuples-test.true) (before.read.same.same_state before_told)
            (c.in_ok-execute_bound.ensures.left told w agree)
            (before.read.told before_told w (agrees_less _ _ _ _ c.in_ok-execute_bound.ensures.grows agree) pieces is);
        same = search rules;
      };
    }

pub execute_record-returns-clause-left : goal.execute_record-returns-clause-left
execute_record-returns-clause-left g t c told w agree pieces is =
    let app = c.args.at.now.app.now in
    let ctx = c.args.at.now.ctx.now in
    let body = statements_of c.args.body.now in
    let ids : List ℕ = c.args.id ∷ [] in
    let state = state_of g.K.Keeper.seen c.args.work.now in
    let env = c.args.run.now.env.items in
    let bs : List Binder = c.args.binder.now ∷ [] in
    let left = c.execute_all.new.run.env.items in
    let page = buffer_of c.execute_all.new.run.page in
    let inner = c.rebind.new.env.items in
    scopes (leaves_all (setting_around app ctx ids w) body) w state env (bound bs ids env) inner left
    c.unbind.new.env.items c.len-outer.result page pieces
    c.in_ok-rebind.ensures (search rules) c.in_ok-unbind.ensures (c.in_ok-execute_all.ensures.left told w agree pieces is)

pub execute_records-ids-init : goal.execute_records-ids-init
execute_records-ids-init g t c = record {
  grown = search rules;
  read = record {
    told = λ told w agree pieces is.
        let s = state_of g.K.Keeper.seen c.args.work.now in
        comes_first w s c.args.run.now.env.items (buffer_of c.args.run.now.page) pieces
        (for_each (c.args.binder.now ∷ [])
        (λ (ids : List ℕ). leaves_all (setting_around c.args.at.now.app.now c.args.at.now.ctx.now ids w) (statements_of c.args.body.now)) (lengthened_tuples [] c.args.ids.now)) is;
    same = search rules;
  };
}

pub execute_records-ids-preserved : goal.execute_records-ids-preserved
execute_records-ids-preserved g t c =
    let before = c.ids.invariant in
    let id = c.id-item.result in
    let i = c.ids.id-index in
    let ids = c.args.ids.now in
    record {
      grown = grows_then _ _ _ before.grown c.in_ok-execute_record.ensures.grows;
      read = record {
        told = λ told w agree pieces is.
            let before_told = c.in_ok-execute_record.ensures.reads.same.told told in
            let bs : List Binder = c.args.binder.now ∷ [] in
            let body = λ (ids : List ℕ). leaves_all (setting_around c.args.at.now.app.now c.args.at.now.ctx.now ids w) (statements_of c.args.body.now) in
            let start = state_of g.K.Keeper.seen c.args.work.now in
            record_more c.args.binder.now body id (drop i ids) (drop (i + 1) ids) (for_each bs body (lengthened_tuples [] ids) (run_in w start c.args.run.now.env.items pieces)) w
            (state_of g.K.Keeper.seen c.ids.work) start c.ids.run.env.items c.execute_record.new.run.env.items
            (buffer_of c.ids.run.page) (buffer_of c.execute_record.new.run.page)
            (next ids id i c.id-item.is c.ids-test.true) (before.read.same.same_state before_told)
            (c.in_ok-execute_record.ensures.left told w agree)
            (before.read.told before_told w (agrees_less _ _ _ _ c.in_ok-execute_record.ensures.grows agree) pieces is);
        same = search rules;
      };
    }

pub execute_records-returns-clause-left : goal.execute_records-returns-clause-left
execute_records-returns-clause-left g t c told w agree pieces is =
    let bs : List Binder = c.args.binder.now ∷ [] in
    let body = λ (ids : List ℕ). leaves_all (setting_around c.args.at.now.app.now c.args.at.now.ctx.now ids w) (statements_of c.args.body.now) in
    let start = state_of g.K.Keeper.seen c.args.work.now in
    records_end c.args.binder.now body c.args.ids.now c.ids.id-index (left_at w start c.ids.run.env.items (buffer_of c.ids.run.page))
    (for_each bs body (lengthened_tuples [] c.args.ids.now) (run_in w start c.args.run.now.env.items pieces)) (omega arith)
    (c.ids.invariant.read.told told w agree pieces is)

pub execute_alone-returns-clause-left : goal.execute_alone-returns-clause-left
execute_alone-returns-clause-left g t c told w agree pieces is =
    let before = c.in_ok-execute_records.ensures.reads.same.told told in
    let app = c.args.at.now.app.now in
    let ctx = c.args.at.now.ctx.now in
    let q = question_of c.args.query.now in
    let env = c.args.run.now.env.items in
    let s = state_of g.K.Keeper.seen c.args.work.now in
    let body = λ (ids : List ℕ). leaves_all (setting_around app ctx ids w) (statements_of c.args.body.now) in
    let asked = answers (world_of (setting_at app ctx w) (run_in w s env pieces)) q env in
    for_all (c.args.binder.now ∷ []) body w
    (state_of g.K.Keeper.seen c.answering_ids.new.work) s env c.execute_records.new.run.env.items (buffer_of c.execute_records.new.run.page) pieces
    (lengthened_tuples [] c.as_slice-ids.result.now) asked
    (c.in_ok-ids.ensures.reads.same.same_state before)
    (ap (lengthened_tuples []) c.as_slice-ids.ensures.value
    ∙ c.in_ok-ids.ensures.ids before w (agrees_less _ _ _ _ c.in_ok-execute_records.ensures.grows agree)
    ∙ ap (answers (world_at app ctx s w) q) c.as_slice.ensures.value
    ∙ ap (λ (this : Option ℕ). answers (record (world_at app ctx s w) { this = this }) q env) c.requires.no_record)
    (c.in_ok-execute_records.ensures.left told w agree pieces is)
    ∙ ap (λ (bs : List Binder). run_left (for_each bs body asked (run_in w s env pieces))) (sym c.requires.alone)

pub execute-returns-in-Let-clause-left : goal.execute-returns-in-Let-clause-left
execute-returns-in-Let-clause-left g t c = λ told. rw c.in-Let.is (c.execute_let.ensures.left told)

pub execute-returns-in-Missing-clause-left : goal.execute-returns-in-Missing-clause-left
execute-returns-in-Missing-clause-left g t c told w agree pieces is =
    rw c.in-Missing.is (piece_more w (state_of g.K.Keeper.seen c.args.work.now) c.args.run.now.env.items (buffer_of c.args.run.now.page) (buffer_of c.set_missing.new.self) pieces
    piece.Missing piece.Missing is c.set_missing.ensures refl)

pub execute_answers-returns-clause-left : goal.execute_answers-returns-clause-left
execute_answers-returns-clause-left g t c told w agree pieces is =
    let before = c.in_ok-execute_tuples.ensures.reads.same.told told in
    let app = c.args.at.now.app.now in
    let ctx = c.args.at.now.ctx.now in
    let q = question_of c.args.query.now in
    let env = c.args.run.now.env.items in
    let s = state_of g.K.Keeper.seen c.args.work.now in
    for_all q.binders (λ (ids : List ℕ). leaves_all (setting_around app ctx ids w) (statements_of c.args.body.now)) w
    (state_of g.K.Keeper.seen c.answers_at.new.work) s env c.execute_tuples.new.run.env.items (buffer_of c.execute_tuples.new.run.page) pieces
    c.as_slice-answers.result.now (answers (world_of (setting_at app ctx w) (run_in w s env pieces)) q env)
    (c.in_ok-answers.ensures.reads.same.same_state before)
    (c.as_slice-answers.ensures.value
    ∙ c.in_ok-answers.ensures.answers before w (agrees_less _ _ _ _ c.in_ok-execute_tuples.ensures.grows agree)
    ∙ ap (answers (world_at app ctx s w) q) c.as_slice.ensures.value
    ∙ ap (λ (this : Option ℕ). answers (record (world_at app ctx s w) { this = this }) q env) c.requires.no_record)
    (c.in_ok-execute_tuples.ensures.left told w agree pieces is)

pub execute_tuples-returns-clause-left : goal.execute_tuples-returns-clause-left
execute_tuples-returns-clause-left g t c told w agree pieces is =
    let bs = binders_of c.args.binders.now in
    let body = λ (ids : List ℕ). leaves_all (setting_around c.args.at.now.app.now c.args.at.now.ctx.now ids w) (statements_of c.args.body.now) in
    let start = state_of g.K.Keeper.seen c.args.work.now in
    tuples_end bs body c.args.tuples.now c.tuples.ids-index (left_at w start c.tuples.run.env.items (buffer_of c.tuples.run.page))
    (for_each bs body c.args.tuples.now (run_in w start c.args.run.now.env.items pieces)) (omega arith)
    (c.tuples.invariant.read.told told w agree pieces is)
