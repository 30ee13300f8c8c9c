-- Values that are equal by `==` are one value.
use Rattle.std.specs.Prelude.{◌≡◌, true, false, Some, None}
use Rattle.std.proofs.Common.{refl, ap}
use Rattle.std.proofs.lemmas.Bool.Decides.{Decides-int_eq, Decides-eqb}
use Rattle.std.proofs.lemmas.Slice.Eq.{slice_eq-Decides}
use Rattle.jac_value.specs.declared.value.Value.{Value}
use Rattle.jac_value.specs.declared.value.Value.TheVariants.{Int, Text, Bool as Truth, Ref}
use Rattle.jac_value.specs.contracts.value.ValuePartialEq.TheImpl.{ghosts}

pub same_value : (x y : Value) → ghosts.eq x y ≡ true → x ≡ y
same_value (Int a) (Int b) e = ap Int ((Decides-int_eq a b).0 e)
same_value (Text a) (Text b) e = ap Text ((slice_eq-Decides Decides-eqb a b _ refl).0 e)
same_value (Truth true) (Truth true) e = refl
same_value (Truth false) (Truth false) e = refl
same_value (Truth true) (Truth false) e = cc
same_value (Truth false) (Truth true) e = cc
same_value (Ref None) (Ref None) e = refl
same_value (Ref None) (Ref (Some b)) e = cc
same_value (Ref (Some a)) (Ref None) e = cc
same_value (Ref (Some a)) (Ref (Some b)) e = ap (λ z. Ref (Some z)) ((Decides-eqb a b).0 e)
same_value x y e = cc
