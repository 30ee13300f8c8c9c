use Rattle.std.proofs.Common.{List, sym, subst, rules}
use Rattle.jac_rows.specs.declared.row.Row.{Row as Kept}
use Rattle.jac_sql_spec.specs.Statements.{replacement, additions}
use Rattle.jac_row_codec.specs.Faults.{CanBeSpelled}
use Rattle.jac_sqlkeep.proofs.Read.{all_from}
use Rattle.jac_sqlkeep.proofs.Steps.{Halfway, replaced_start, replaced_next}
use Rattle.jac_sqlkeep.proofs.records.write_record.Goals as goal

pub rows-init : goal.rows-init
rows-init g c =
    let a = c.args.alteration.now in
    let start = c.args.tx.now.conn.now in
    let removed = c.remove.new.tx.conn.now in
    record {
      same = search rules;
      listed = search rules;
      half = subst (λ (rows : List Kept). Halfway g.S.Store (replacement a) (additions 0 rows) start removed) (sym c.as_slice-rows.ensures)
          (replaced_start g.S.Store a start removed c.in_ok-remove.field-0 c.in_ok-remove.ensures.inside);
      spelled = λ all. all;
    }

pub rows-preserved : goal.rows-preserved
rows-preserved g c = record {
  same = search rules;
  listed = search rules;
  half = replaced_next g.S.Store (replacement c.args.alteration.now) c.as_slice-rows.result.now c.rows.alt c.index-rows-alt.result c.args.tx.now.conn.now c.rows.tx.conn.now c.add.new.tx.conn.now
      c.in_ok-add.field-0 c.rows-test.true c.index-rows-alt.is c.rows.invariant.half c.in_ok-add.ensures.inside;
  spelled = λ more. c.rows.invariant.spelled (all_from CanBeSpelled c.as_slice-rows.result.now c.rows.alt c.index-rows-alt.result c.rows-test.true c.index-rows-alt.is c.in_ok-add.ensures.spelled more);
}
