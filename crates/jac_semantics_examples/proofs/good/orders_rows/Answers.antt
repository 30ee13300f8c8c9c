use Rattle.std.proofs.Common.{◌≡◌, ◌==◌, true, false, refl}
use Rattle.jac_semantics_examples.proofs.good.orders_rows.Goals as goal

pub returns-clause-together : goal.returns-clause-together
returns-clause-together c rising = let no : true ≡ false = rising.0.1 refl (λ k. k == 5) in cc
