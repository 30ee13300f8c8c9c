use Rattle.std.proofs.Common.{◌≡◌, true, false}
use Rattle.jac_semantics_examples.proofs.good.flattens_tables.Goals as goal

pub returns-clause-wide : goal.returns-clause-wide
returns-clause-wide c all = let no : false ≡ true = (all 0).0 in cc

pub returns-clause-narrow : goal.returns-clause-narrow
returns-clause-narrow c all = let no : false ≡ true = (all 1).0 in cc
