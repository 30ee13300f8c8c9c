use Rattle.std.proofs.Common.{◌≡◌, ◌∙◌, ap, sym, subst, ℕ, Bool}
use Rattle.std.specs.Prelude.{IfOk}
use Rattle.jac_world.specs.World.{shown_by}
use Rattle.jac_rows.specs.declared.state.State.{State}
use Rattle.jac_rows.specs.Project.{project_at, rows_at}
use Rattle.jac_rows.specs.Tables.{rows_of}
use Rattle.jac_keep.specs.WorkState.{state_of}
use Rattle.jac_shown_rows.specs.Comparisons.{comparison_among, comparison_value, ids_compared}
use Rattle.jac_shown_rows.specs.Consulted.{Agrees}
use Rattle.jac_shown_rows.specs.Own.{is_own_table}
use Rattle.jac_shown_rows.proofs.Rows.{rows_of-project}
use Rattle.jac_shown_rows.proofs.comparison.keep_compared.Goals as goal

pub returns-then-suit-clause-kept : goal.returns-then-suit-clause-kept
returns-then-suit-clause-kept g c told w agree =
    let k = c.args.comparison.now in
    let m = k.column.model in
    let seen = g.K.Keeper.seen in
    let ids = c.args.ids.now in
    c.in_ok-kept.ensures.kept w agree
    ∙ ap (λ rs. ids_compared (comparison_among rs k) ids)
    (ap (rows_at w) (c.in-Some.ensures told ∙ ap (λ (s : State). rows_of s.tables m) (c.in_ok-at_hand.ensures.same.same_state told))
    ∙ sym (rows_of-project w (state_of seen c.args.work.now).tables m))

pub returns-then-suit-clause-own : goal.returns-then-suit-clause-own
returns-then-suit-clause-own g c told this all own =
    let m = c.args.comparison.now.column.model in
    c.in_ok-kept.ensures.own this
    (ap (is_own_table this) (c.in-Some.ensures told ∙ ap (λ (s : State). rows_of s.tables m) (c.in_ok-at_hand.ensures.same.same_state told)) ∙ all) own

pub returns-clause-kept : goal.returns-clause-kept
returns-clause-kept g c told =
    let before = c.keep_each.ensures.reads.same.told told in
    subst (λ (s : State). IfOk c.keep_each.result (λ js. (w : ℕ → Bool) → Agrees c.keep_each.new.support (shown_by c.args.a.now) w →
    js.items ≡ ids_compared (comparison_value (project_at w s).tables c.args.comparison.now) c.args.ids.now))
    (c.in_ok-at_hand.ensures.same.same_state before) (c.keep_each.ensures.kept told)

pub returns-clause-own : goal.returns-clause-own
returns-clause-own g c told this all own =
    let m = c.args.comparison.now.column.model in
    let before = c.keep_each.ensures.reads.same.told told in
    c.keep_each.ensures.own told this
    (ap (λ (s : State). is_own_table this (rows_of s.tables m)) (c.in_ok-at_hand.ensures.same.same_state before) ∙ all) own
