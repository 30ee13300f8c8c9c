use Rattle.std.proofs.Common.{◌<◌, arith}
use Rattle.jac_semantics_examples.proofs.good.numbers_records.Goals as goal

pub returns-clause-at_once : goal.returns-clause-at_once
returns-clause-at_once c all = let h : 1 < 1 = (all 0).0 in omega (arith, h)

pub returns-clause-in_second : goal.returns-clause-in_second
returns-clause-in_second c all = let h : 2 < 2 = (all 2).0 in omega (arith, h)
