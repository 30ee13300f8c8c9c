use Rattle.std.proofs.Common.{rules}
use Rattle.jac_keep.proofs.Bisection.{renamed_at, named_at, renamed_between, named_between, renamed_past_all, named_past_all}
use Rattle.jac_keep.proofs.alteration.place_of.Goals as goal

pub returns-then-at-items-clause-place : goal.returns-then-at-items-clause-place
returns-then-at-items-clause-place c = λ rows. renamed_past_all c.args.id rows c.args.items.now c.count_below-at.result c.if-at-items.true c.count_below-at.ensures.point

pub returns-then-at-items-clause-named : goal.returns-then-at-items-clause-named
returns-then-at-items-clause-named c = named_past_all c.args.id c.args.items.now c.count_below-at.result c.if-at-items.true c.count_below-at.ensures.point

pub returns-then-eq-clause-place : goal.returns-then-eq-clause-place
returns-then-eq-clause-place c = λ rows. renamed_at c.args.id rows c.args.items.now c.count_below-at.result c.index-items-at.result (search rules) c.index-items-at.is (search rules) c.count_below-at.ensures.point

pub returns-then-eq-clause-named : goal.returns-then-eq-clause-named
returns-then-eq-clause-named c = λ d. named_at c.args.id c.args.items.now c.count_below-at.result c.index-items-at.result d (search rules) c.index-items-at.is (search rules) c.count_below-at.ensures.point

pub returns-else-eq-clause-place : goal.returns-else-eq-clause-place
returns-else-eq-clause-place c = λ rows. renamed_between c.args.id rows c.args.items.now c.count_below-at.result c.index-items-at.result (search rules) c.index-items-at.is (search rules) c.count_below-at.ensures.point

pub returns-else-eq-clause-named : goal.returns-else-eq-clause-named
returns-else-eq-clause-named c = named_between c.args.id c.args.items.now c.count_below-at.result c.index-items-at.result (search rules) c.index-items-at.is (search rules) c.requires c.count_below-at.ensures.point
