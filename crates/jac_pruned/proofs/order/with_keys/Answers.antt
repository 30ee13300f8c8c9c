use Rattle.std.proofs.Common.{rules, ◌+◌, ◌∙◌, ap, [], drop}
use Rattle.std.proofs.lemmas.List.{drop_all}
use Rattle.jac_lang.specs.Mirror.{binders_of}
use Rattle.jac_keep.specs.WorkState.{state_of}
use Rattle.jac_plain.specs.Expressions.{bound, look, key_of}
use Rattle.jac_plain.specs.World.{got}
use Rattle.jac_shown_rows.specs.Seen.{app_at, seen_at}
use Rattle.jac_shown_rows.proofs.Growing.{agrees_less, grows_then}
use Rattle.jac_pruned.proofs.Keyed.{keyed-more, keyed-all}
use Rattle.jac_shown_rows.proofs.Working.{next}
use Rattle.jac_rows.specs.declared.state.State.{State}
use Rattle.jac_shown_rows.specs.Own.{is_own_table, table_named}
use Rattle.jac_pruned.proofs.order.with_keys.Goals as goal

pub tuples-preserved : goal.tuples-preserved
tuples-preserved g c =
    let k = g.K.Keeper in
    let before = c.tuples.invariant in
    let tuples = c.args.tuples.now in
    let i = c.tuples.ids-index in
    let ids = c.ids-item.result in
    record {
      grown = grows_then _ _ _ before.grown c.in_ok-key.ensures.grows;
      own = λ told this all own.
          let app = app_at c.args.at.now in
          let before_told = c.in_ok-key.ensures.reads.same.told told in
          c.in_ok-key.ensures.own told this
          (ap (λ (x : State). is_own_table this (table_named app x c.in_ok-model.model)) (before.read.same.same_state before_told)
          ∙ ap (λ m. is_own_table this (table_named app (state_of k.seen c.args.work.now) m)) c.in_ok-model.ensures ∙ all)
          (before.own before_told this all own);
      read = record {
        told = λ told w agree.
            let bs = binders_of c.args.by.now.binders.now in
            let world = seen_at c.args.at.now (state_of k.seen c.args.work.now) w in
            let before_told = c.in_ok-key.ensures.reads.same.told told in
            let record_of = look (bound bs ids []) c.args.by.now.name.now in
            keyed-more (key_of world bs c.args.by.now.name.now c.args.by.now.field.now)
            c.tuples.keyed.items c.push_keyed.new.keyed.items ids c.in_ok-key.key
            (drop i tuples) (drop (i + 1) tuples) tuples
            (next tuples ids i c.ids-item.is c.tuples-test.true) c.in_ok-push_keyed.ensures
            (c.in_ok-key.ensures.key told w agree
            ∙ ap (λ s. got (seen_at c.args.at.now s w) c.in_ok-model.model c.args.by.now.field.now record_of) (before.read.same.same_state before_told)
            ∙ ap (λ m. got world m c.args.by.now.field.now record_of) c.in_ok-model.ensures)
            (before.read.told before_told w (agrees_less _ _ _ _ c.in_ok-key.ensures.grows agree));
        same = search rules;
      };
    }

pub returns-clause-keys : goal.returns-clause-keys
returns-clause-keys g c told w agree =
    keyed-all (key_of (seen_at c.args.at.now (state_of g.K.Keeper.seen c.args.work.now) w) (binders_of c.args.by.now.binders.now) c.args.by.now.name.now c.args.by.now.field.now)
    c.tuples.keyed.items (drop c.tuples.ids-index c.args.tuples.now) c.args.tuples.now (drop_all c.tuples.ids-index c.args.tuples.now c.tuples-test.false) (c.tuples.invariant.read.told told w agree)
