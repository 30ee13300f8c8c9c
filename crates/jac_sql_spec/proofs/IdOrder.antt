-- The order of ids by their bytes is their order as numbers.
use Rattle.std.proofs.Common.{◌≡◌, ◌≢◌, ◌⊎◌, refl, sym, ap, subst, ◌∙◌, ℕ, zero, suc, ◌+◌, ◌*◌, ◌/◌, ◌%◌, ◌^◌, ◌<◌, ◌≤◌, ◌==◌, Bool, true, false, List, [], ◌∷◌, inl, inr, arith, Ordering, Less, Equal, Greater, nat_cmp, is_eq}
use Rattle.std.specs.Cmp.Lexicographic.{slice_cmp}
use Rattle.std.specs.Ordering.{ordering_then, ordering_reverse}
use Rattle.std.proofs.Math.Nat.{pow-suc, div-div-eq-div-mul, div-one, div-mul-le_self, le-div_iff_mul-le, div-eq_of_lt}
use Rattle.std.proofs.lemmas.Bool.{cases_lt}
use Rattle.std.proofs.lemmas.Bool.Decides.{nat_tests}
use Rattle.std.proofs.lemmas.Nat.{div-add-mod'}
use Rattle.std.proofs.lemmas.Cmp.{tied_itself, nat_list_cmp_total, nat_cmp_total}
use Rattle.std.specs.Int.{byte_at, bytes_high_first}
use Rattle.jac_sql_spec.specs.Facts.{id_bytes}

pub cases_same : (a b : ℕ) → (a ≡ b) ⊎ (a ≢ b)
cases_same a b = elim (cases_lt a b) [
  | inl less ↦ inr (λ e. omega (arith, e, less))
  | inr not_less ↦ elim (cases_lt b a) [ inl more ↦ inr (λ e. omega (arith, e, more)) | inr not_more ↦ inl (omega (arith, not_less, not_more)) ]
]

power_pos : (k : ℕ) → 0 < 256 ^ k
power_pos zero = omega arith
power_pos (suc k) = let h = power_pos k in let e = pow-suc 256 k in omega (arith, h, e)

pub one_more : (n k : ℕ) → n / 256 ^ suc k ≡ n / 256 ^ k / 256
one_more n k = ap (λ p. n / p) (pow-suc 256 k) ∙ sym (div-div-eq-div-mul n (256 ^ k) 256)

pub byte_is : (k n : ℕ) → byte_at k n ≡ n / 256 ^ k % 256
byte_is zero n = ap (λ x. x % 256) (sym (div-one n))
byte_is (suc k) n = refl

div_rises : (a b k : ℕ) → a ≤ b → a / 256 ^ k ≤ b / 256 ^ k
div_rises a b k le = let below = div-mul-le_self a (256 ^ k) in (le-div_iff_mul-le (power_pos k)).1 (omega (arith, le, below))

-- The first bytes of a number are those without the last one, and then that byte.
pub front_is : (k n : ℕ) → n / 256 ^ k ≡ (n / 256 ^ suc k) * 256 + byte_at k n
front_is k n =
    let whole = div-add-mod' (n / 256 ^ k) 256 in
    let high = one_more n k in
    let low = byte_is k n in
    omega (arith, whole, high, low)

less_is : (a b : ℕ) → a < b → nat_cmp a b ≡ Less
less_is a b h = grind (arith, nat_tests, h)

same_is : (a b : ℕ) → a ≡ b → nat_cmp a b ≡ Equal
same_is a b h = rw h (tied_itself nat_cmp_total b)

pub bytes_rise : (k x y : ℕ) → x / 256 ^ k ≡ y / 256 ^ k → x < y → slice_cmp nat_cmp (bytes_high_first k x) (bytes_high_first k y) ≡ Less
bytes_rise zero x y same less = let e : x ≡ y = sym (div-one x) ∙ same ∙ div-one y in absurd (omega (arith, e, less))
bytes_rise (suc k) x y same less =
    let one = front_is k x in
    let two = front_is k y in
    let rises = div_rises x y k (omega (arith, less)) in
    elim (cases_lt (byte_at k x) (byte_at k y)) [
      | inl below ↦ rw (less_is (byte_at k x) (byte_at k y) below) refl
      | inr not_below ↦ (
          let bytes : byte_at k x ≡ byte_at k y = omega (arith, one, two, rises, same, not_below) in
          let fronts : x / 256 ^ k ≡ y / 256 ^ k = omega (arith, one, two, same, bytes) in
          rw (same_is (byte_at k x) (byte_at k y) bytes) (bytes_rise k x y fronts less))
    ]

-- Ids of 16 bytes.
pub ids_rise : (i j : ℕ) → i < j → j < 2 ^ 128 → slice_cmp nat_cmp (id_bytes i) (id_bytes j) ≡ Less
ids_rise i j less room = bytes_rise 16 i j (div-eq_of_lt {n = i} {m = 256 ^ 16} (omega (arith, less, room)) ∙ sym (div-eq_of_lt {n = j} {m = 256 ^ 16} (omega (arith, room)))) less

pub same_id : (i : ℕ) → slice_cmp nat_cmp (id_bytes i) (id_bytes i) ≡ Equal
same_id i = tied_itself nat_list_cmp_total (id_bytes i)

pub other_id : (i j : ℕ) → i ≢ j → i < 2 ^ 128 → j < 2 ^ 128 → is_eq (slice_cmp nat_cmp (id_bytes i) (id_bytes j)) ≡ false
other_id i j other room space = elim (cases_lt i j) [
  | inl less ↦ ap is_eq (ids_rise i j less space)
  | inr not_less ↦ ap is_eq (nat_list_cmp_total.antisymm (id_bytes i) (id_bytes j) ∙ ap ordering_reverse (ids_rise j i (omega (arith, other, not_less)) room))
]

pub other_number : (i j : ℕ) → i ≢ j → is_eq (nat_cmp i j) ≡ false
other_number i j other = elim (cases_lt i j) [
  | inl less ↦ ap is_eq (less_is i j less)
  | inr not_less ↦ ap is_eq (nat_cmp_total.antisymm i j ∙ ap ordering_reverse (less_is j i (omega (arith, other, not_less))))
]

pub same_number : (i : ℕ) → is_eq (nat_cmp i i) ≡ true
same_number i = ap is_eq (tied_itself nat_cmp_total i)

pub number_less : (a b : ℕ) → a < b → nat_cmp a b ≡ Less
number_less = less_is
