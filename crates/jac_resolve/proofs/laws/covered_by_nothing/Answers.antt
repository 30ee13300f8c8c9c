use Rattle.std.proofs.Common.{refl}
use Rattle.jac_resolve.proofs.laws.covered_by_nothing.Goals as goal

pub returns : goal.returns
returns c app worlds viewer invalidation = record { living = λ k absent. (λ h. h, λ h. h); allowed = λ k absent w. refl }
