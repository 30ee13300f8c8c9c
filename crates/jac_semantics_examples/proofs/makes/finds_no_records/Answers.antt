use Rattle.std.proofs.Common.{◌≡◌, true, false, refl, Some, None, arith}
use Rattle.jac_semantics_examples.proofs.makes.finds_no_records.Goals as goal

pub returns-clause-standing : goal.returns-clause-standing
returns-clause-standing c all = let no : true ≡ false = all 0 0 None refl (omega arith) (omega arith) in cc

pub returns-clause-second_site : goal.returns-clause-second_site
returns-clause-second_site c all = let no : true ≡ false = all 1 0 None refl (omega arith) (omega arith) in cc

pub returns-clause-around : goal.returns-clause-around
returns-clause-around c all = let no : true ≡ false = all 0 1 (Some 4096) refl (omega arith) (omega arith) in cc
