-- Guards as lists of pairs. A copy shares the pairs of the original.
use Rattle.std.specs.Prelude.{ℕ, Bool, List}
use Rattle.jac_world.specs.declared.guard.PairList.{PairList}
use Rattle.jac_world.specs.declared.guard.PairList.TheVariants as list

-- The pairs of the guard, whether it owns them or shares them with copies.
abbrev pub listed_pairs : PairList → List (ℕ × Bool)
listed_pairs (list.Own own) = own.items
listed_pairs (list.Shared shared) = shared.value.items
