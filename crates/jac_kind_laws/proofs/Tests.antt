-- What it means that the tests of kinds succeed.
use Rattle.std.proofs.Common.{◌≡◌, refl, ap, subst, ℕ, Bool, true, false, Option, Some, None, is_some}
use Rattle.std.proofs.lemmas.Bool.Decides.{Decides-eqb}
use Rattle.jac_value.specs.declared.value.Kind.{Kind}
use Rattle.jac_value.specs.declared.value.Kind.TheVariants as kind
use Rattle.jac_value.specs.declared.value.Value.{Value}
use Rattle.jac_value.specs.contracts.value.KindPartialEq.TheImpl.{ghosts}
use Rattle.jac_check.specs.Kinds.{kind_if, has, are_alike, refers}
use Rattle.jac_kind_laws.specs.Fits.{Has}

pub given_parts : (b : Bool) (o : Option Kind) (k : Kind) → kind_if b o ≡ Some k → (b ≡ true) × (o ≡ Some k)
given_parts true o k h = (refl, h)
given_parts false o k h = cc

pub same_kind : (j k : Kind) → ghosts.eq j k ≡ true → j ≡ k
same_kind kind.Int kind.Int e = refl
same_kind kind.Text kind.Text e = refl
same_kind kind.Bool kind.Bool e = refl
same_kind (kind.Ref m) (kind.Ref n) e = ap (λ z. Kind.Ref z) ((Decides-eqb m n).0 e)
same_kind j k e = cc

pub has_is : (o : Option Kind) (k : Kind) → has k o ≡ true → o ≡ Some k
has_is None k h = cc
has_is (Some j) k h = ap (λ (z : Kind). Some z) (same_kind j k h)

pub alike_are : (a b : Option Kind) → are_alike a b ≡ true → (k : Kind) × (a ≡ Some k) × (b ≡ Some k)
alike_are None b h = cc
alike_are (Some k) b h = (k, refl, has_is b k h)

pub some_is : (o : Option Kind) → is_some o ≡ true → (k : Kind) × (o ≡ Some k)
some_is None h = cc
some_is (Some k) h = (k, refl)

pub reference_is : (o : Option Kind) → refers o ≡ true → (m : ℕ) × (o ≡ Some (Kind.Ref m))
reference_is None h = cc
reference_is (Some kind.Int) h = cc
reference_is (Some kind.Text) h = cc
reference_is (Some kind.Bool) h = cc
reference_is (Some (kind.Ref m)) h = (m, refl)

pub at_kind : (j k : Kind) (v : Value) → Some j ≡ Some k → Has j v → Has k v
at_kind j k v e h = let same : j ≡ k = cc in subst (λ (x : Kind). Has x v) same h
