use Rattle.std.proofs.Common.{◌+◌, ℕ, drop}
use Rattle.std.proofs.lemmas.List.{drop_all}
use Rattle.jac_value.specs.declared.value.Value.{Value}
use Rattle.jac_rows.specs.Project.{rows_at}
use Rattle.jac_plain.specs.World.{cell_of, record_with}
use Rattle.jac_shown_rows.specs.Columns.{absent_in}
use Rattle.jac_shown_rows.proofs.Growing.{agrees_less, grows_then}
use Rattle.jac_shown_rows.proofs.KeyedIds.{each_more, each_all}
use Rattle.jac_shown_rows.proofs.Working.{next}
use Rattle.jac_shown_rows.proofs.keys.keyed_among.Goals as goal

pub ids-preserved : goal.ids-preserved
ids-preserved c =
    let before = c.ids.invariant in
    let ids = c.args.ids.now in
    let i = c.ids.id-index in
    let id = c.id-item.result in
    let column = c.args.column.now in
    record {
      grown = grows_then _ _ _ before.grown c.in_ok-cell.ensures.grows;
      keys = λ w agree.
          let key : ℕ → Value = λ j. cell_of (record_with j (rows_at w c.args.rows.now)) column.field (absent_in column) in
          each_more key c.ids.keyed.items c.push_keyed.new.keyed.items id _
          (drop i ids) (drop (i + 1) ids) ids (next ids id i c.id-item.is c.ids-test.true) c.in_ok-push_keyed.ensures
          (c.in_ok-cell.ensures.value w agree (absent_in column))
          (before.keys w (agrees_less _ _ _ _ c.in_ok-cell.ensures.grows agree));
    }

pub returns-clause-keys : goal.returns-clause-keys
returns-clause-keys c w agree =
    let column = c.args.column.now in
    each_all (λ j. cell_of (record_with j (rows_at w c.args.rows.now)) column.field (absent_in column))
    c.ids.keyed.items (drop c.ids.id-index c.args.ids.now) c.args.ids.now (drop_all c.ids.id-index c.args.ids.now c.ids-test.false) (c.ids.invariant.keys w agree)
