use Rattle.std.proofs.Common.{◌≡◌, ◌∙◌, ap, sym, subst, ℕ, Bool, Some}
use Rattle.std.specs.Prelude.{IfOk}
use Rattle.jac_value.specs.declared.value.Value.TheVariants as value
use Rattle.jac_world.specs.World.{shown_by}
use Rattle.jac_rows.specs.declared.state.State.{State}
use Rattle.jac_rows.specs.Project.{project_at, rows_at}
use Rattle.jac_rows.specs.Tables.{rows_of}
use Rattle.jac_keep.specs.WorkState.{state_of}
use Rattle.jac_plain.specs.World.{cell_of, record_with}
use Rattle.jac_shown_rows.specs.Columns.{absent_in, column_got}
use Rattle.jac_shown_rows.specs.Consulted.{Agrees}
use Rattle.jac_shown_rows.specs.RecordIds.{keyed_each}
use Rattle.jac_shown_rows.proofs.Rows.{rows_of-project}
use Rattle.jac_shown_rows.proofs.keys.keyed_by.Goals as goal

pub returns-then-suit-clause-keys : goal.returns-then-suit-clause-keys
returns-then-suit-clause-keys g c told w agree =
    let column = c.args.column.now in
    let m = column.model in
    let seen = g.K.Keeper.seen in
    c.in_ok-keyed.ensures.keys w agree
    ∙ ap (λ rs. keyed_each (λ j. cell_of (record_with j rs) column.field (absent_in column)) c.args.ids.now)
    (ap (rows_at w) (c.in-Some.ensures told ∙ ap (λ (s : State). rows_of s.tables m) (c.in_ok-at_hand.ensures.same.same_state told))
    ∙ sym (rows_of-project w (state_of seen c.args.work.now).tables m))

pub returns-clause-keys : goal.returns-clause-keys
returns-clause-keys g c told =
    let before = c.keyed_apart.ensures.reads.same.told told in
    subst (λ (s : State). IfOk c.keyed_apart.result (λ ps. (w : ℕ → Bool) → Agrees c.keyed_apart.new.support (shown_by c.args.a.now) w →
    ps.items ≡ keyed_each (λ j. column_got (project_at w s).tables (Some c.args.column.now) (value.Ref (Some j))) c.args.ids.now))
    (c.in_ok-at_hand.ensures.same.same_state before) (c.keyed_apart.ensures.keys told)
