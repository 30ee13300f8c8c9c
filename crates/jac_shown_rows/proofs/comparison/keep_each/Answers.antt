use Rattle.std.proofs.Common.{rules, ◌≡◌, ◌∙◌, ◌+◌, ap, sym, if◌then◌else◌, ℕ, [], ◌∷◌, ◌++◌, drop, append-nil}
use Rattle.std.proofs.lemmas.List.{drop_all}
use Rattle.jac_value.specs.declared.value.Value.{Value}
use Rattle.jac_rows.specs.declared.state.State.{State}
use Rattle.jac_rows.specs.Project.{project_at}
use Rattle.jac_rows.specs.Tables.{rows_of}
use Rattle.jac_keep.specs.WorkState.{state_of}
use Rattle.jac_plain.specs.Expressions.{is_true}
use Rattle.jac_shown_rows.specs.Comparisons.{comparison_value, ids_compared, two_with}
use Rattle.jac_shown_rows.specs.Own.{is_own_table}
use Rattle.jac_shown_rows.proofs.Compared.{compared_more}
use Rattle.jac_shown_rows.proofs.Growing.{agrees_less, grows_then}
use Rattle.jac_shown_rows.proofs.OwnRows.{rows_of_table}
use Rattle.jac_shown_rows.proofs.Working.{next}
use Rattle.jac_shown_rows.proofs.comparison.keep_each.Goals as goal

pub ids-preserved : goal.ids-preserved
ids-preserved g c =
    let before = c.ids.invariant in
    let ids = c.args.ids.now in
    let i = c.ids.id-index in
    let id = c.id-item.result in
    let k = c.args.comparison.now in
    record {
      grown = grows_then _ _ _ before.grown c.in_ok-cell.ensures.grows;
      own = λ told this free own.
          let before_told = c.in_ok-cell.ensures.reads.same.told told in
          c.in_ok-cell.ensures.own told this
          (rows_of_table this id _ (ap (λ (s : State). is_own_table this (rows_of s.tables k.column.model)) (before.read.same.same_state before_told) ∙ free))
          (before.own before_told this free own);
      read = record {
        told = λ told w agree.
            let before_told = c.in_ok-cell.ensures.reads.same.told told in
            let value : State → ℕ → Value = λ s. comparison_value (project_at w s).tables k in
            let start = state_of g.K.Keeper.seen c.args.work.now in
            let value_is : c.compare_with-value.result ≡ value start id =
            c.compare_with-value.ensures
            ∙ ap (two_with k.is_first k.op k.value) (c.in_ok-cell.ensures.value told w agree)
            ∙ ap (λ s. value s id) (before.read.same.same_state before_told) in
            compared_more (value start) c.ids.kept.items c.push_if.new.kept.items id (drop i ids) (drop (i + 1) ids)
            (ids_compared (value start) ids) (next ids id i c.id-item.is c.ids-test.true)
            (c.in_ok-push_if.ensures
            ∙ ap (λ b. c.ids.kept.items ++ (if b then id ∷ [] else [])) (c.is_true.ensures ∙ ap is_true value_is))
            (before.read.told before_told w (agrees_less _ _ _ _ c.in_ok-cell.ensures.grows agree));
        same = search rules;
      };
    }

pub returns-clause-kept : goal.returns-clause-kept
returns-clause-kept g c told w agree =
    let value = comparison_value (project_at w (state_of g.K.Keeper.seen c.args.work.now)).tables c.args.comparison.now in
    let kept = c.ids.kept.items in
    sym (append-nil kept)
    ∙ ap (λ l. kept ++ ids_compared value l) (sym (drop_all c.ids.id-index c.args.ids.now c.ids-test.false))
    ∙ c.ids.invariant.read.told told w agree
