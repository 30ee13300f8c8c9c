use Rattle.std.proofs.Common.{rules, ◌+◌, ◌∙◌, ap, ℕ, Some, drop}
use Rattle.std.proofs.lemmas.List.{drop_all}
use Rattle.jac_value.specs.declared.value.Value.{Value}
use Rattle.jac_value.specs.declared.value.Value.TheVariants as value
use Rattle.jac_rows.specs.declared.state.State.{State}
use Rattle.jac_rows.specs.Project.{project_at}
use Rattle.jac_keep.specs.WorkState.{state_of}
use Rattle.jac_shown_rows.specs.Columns.{column_got}
use Rattle.jac_shown_rows.proofs.Growing.{agrees_less, grows_then}
use Rattle.jac_shown_rows.proofs.KeyedIds.{each_more, each_all}
use Rattle.jac_shown_rows.proofs.Working.{next}
use Rattle.jac_shown_rows.proofs.keys.keyed_apart.Goals as goal

pub ids-preserved : goal.ids-preserved
ids-preserved g c =
    let before = c.ids.invariant in
    let ids = c.args.ids.now in
    let i = c.ids.id-index in
    let id = c.id-item.result in
    record {
      grown = grows_then _ _ _ before.grown c.in_ok-key.ensures.grows;
      read = record {
        told = λ told w agree.
            let before_told = c.in_ok-key.ensures.reads.same.told told in
            let key : State → ℕ → Value = λ s j. column_got (project_at w s).tables (Some c.args.column.now) (value.Ref (Some j)) in
            each_more (key (state_of g.K.Keeper.seen c.args.work.now)) c.ids.keyed.items c.push.new.self.items id c.in_ok-key.key
            (drop i ids) (drop (i + 1) ids) ids (next ids id i c.id-item.is c.ids-test.true) (search rules)
            (c.in_ok-key.ensures.value told w agree ∙ ap (λ s. key s id) (before.read.same.same_state before_told))
            (before.read.told before_told w (agrees_less _ _ _ _ c.in_ok-key.ensures.grows agree));
        same = search rules;
      };
    }

pub returns-clause-keys : goal.returns-clause-keys
returns-clause-keys g c told w agree =
    each_all (λ j. column_got (project_at w (state_of g.K.Keeper.seen c.args.work.now)).tables (Some c.args.column.now) (value.Ref (Some j)))
    c.ids.keyed.items (drop c.ids.id-index c.args.ids.now) c.args.ids.now (drop_all c.ids.id-index c.args.ids.now c.ids-test.false) (c.ids.invariant.read.told told w agree)
