-- The first pair of a name in two lists.
use Rattle.std.proofs.Common.{◌≡◌, refl, Bool, true, false, if◌then◌else◌, ℕ, List, [], ◌∷◌, ◌++◌, Option, Some, None}
use Rattle.std.specs.Str.{bytes_eq}
use Rattle.jac_route.specs.declared.pairs.Pair.{Pair}
use Rattle.jac_route.specs.Pairs.{value_of_name}

abbrev pub first_of : Option (List ℕ) → Option (List ℕ) → Option (List ℕ)
first_of None second = second
first_of (Some v) second = Some v

chosen : (b : Bool) (v : List ℕ) (first second both : Option (List ℕ)) → both ≡ first_of first second
    → (if b then Some v else both) ≡ first_of (if b then Some v else first) second
chosen true v first second both e = refl
chosen false v first second both e = e

pub value_in_both : (name : List ℕ) (path rest : List Pair) → value_of_name name (path ++ rest) ≡ first_of (value_of_name name path) (value_of_name name rest)
value_in_both name [] rest = refl
value_in_both name (p ∷ ps) rest =
    chosen (bytes_eq p.name name) p.value (value_of_name name ps) (value_of_name name rest) (value_of_name name (ps ++ rest)) (value_in_both name ps rest)
