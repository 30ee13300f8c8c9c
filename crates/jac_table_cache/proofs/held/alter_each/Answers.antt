use Rattle.std.proofs.Common.{◌∙◌, arith, inl, inr}
use Rattle.std.proofs.lemmas.Bool.{cases_lt}
use Rattle.jac_table_cache.specs.Held.{held}
use Rattle.jac_table_cache.proofs.HeldLaws.{later_none, later_step, none_held}
use Rattle.jac_table_cache.proofs.held.alter_each.Goals as goal

pub tables-preserved : goal.tables-preserved
tables-preserved c =
    let before = c.tables.invariant in
    let changed = c.args.changed.now in
    let first = c.args.tables.now.items in
    record {
      done = λ m within.
          later_step c.tables.at m changed (held m first) (held m c.tables.tables.items) (held m c.alter_at.new.tables.items) within
          (before.done m) (before.left m) (c.alter_at.ensures.later m) (c.alter_at.ensures.others m);
      left = λ m past. c.alter_at.ensures.others m (grind (arith, past)) ∙ before.left m (omega (arith, past));
      ordered = c.alter_at.ensures.ordered before.ordered;
      same = λ m none. c.alter_at.ensures.same m none ∙ before.same m none;
      count = c.alter_at.ensures.count ∙ before.count;
    }

pub alter_at-requires : goal.alter_at-requires
alter_at-requires c = omega (arith, c.tables-test.true, c.len-at-end.ensures, c.tables.invariant.count)

pub returns-clause-later : goal.returns-clause-later
returns-clause-later c = λ m.
    let first = c.args.tables.now.items in
    elim (cases_lt m c.tables.at) [
      | inl within ↦ c.tables.invariant.done m within
      | inr past ↦ later_none m c.args.changed.now (held m first) (held m c.tables.tables.items) (c.tables.invariant.left m past)
          (none_held m first (omega (arith, past, c.tables-test.false, c.len-at-end.ensures)))
    ]
