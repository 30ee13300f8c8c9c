use Rattle.std.proofs.Common.{◌≡◌, ◌∷◌, subst, sym, rules}
use Rattle.jac_sql_spec.specs.Telling.{CanAllBeSpelled}
use Rattle.jac_sql_spec.specs.Statements.{replacements}
use Rattle.jac_sqlkeep.proofs.Steps.{changed_next}
use Rattle.jac_sqlkeep.proofs.records.write_records.Goals as goal

pub changed-preserved : goal.changed-preserved
changed-preserved g c = record {
  same = search rules;
  half = changed_next g.S.Store (replacements c.args.changed.now) c.in-Some.alteration.now c.changed.rest.now c.in-Some.more.now c.args.tx.now.conn.now c.changed.tx.conn.now c.write_record.new.tx.conn.now
      c.in_ok-write_record.field-0 (search rules) c.changed.invariant.half c.in_ok-write_record.ensures.inside;
  spelled = λ all.
      let is : c.changed.rest.now ≡ c.in-Some.alteration.now ∷ c.in-Some.more.now = search rules in
      c.changed.invariant.spelled (subst CanAllBeSpelled (sym is) (c.in_ok-write_record.ensures.spelled, all));
}
