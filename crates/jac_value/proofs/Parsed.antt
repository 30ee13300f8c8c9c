-- How std's `parse` reads a text, and how the text of a parameter is read.
use Rattle.std.proofs.Common.{◌≡◌, ℕ, ◌<◌, ◌≤◌, ◌^◌, ◌/◌, Bool, true, false, ◌&&◌, nat_lt, nat_le, List, [], ◌∷◌, length, drop, refl, sym, ◌∙◌, ap, subst, arith, Option, Some, None, if◌then◌else◌, ℤ, pos, neg_ℤ}
use Rattle.std.proofs.lemmas.Grind.{common_steps}
use Rattle.std.proofs.lemmas.Int.{ints}
use Rattle.std.specs.Prelude.{FitsSigned}
use Rattle.std.specs.Int.{w64}
use Rattle.std.specs.Char.{is_digit, digit_value}
use Rattle.std.specs.List.{list_all}
use Rattle.std.specs.Str.Parse.{AllDigits, IsNumeral, digits_value, without_leading_plus, starts_with_minus, without_leading_sign, signed_digits_value}
use Rattle.jac_value.specs.Ids.{is_id_of}
use Rattle.jac_value.specs.Values.{is_numeral, integer_of, ref_read, starts_with_plus}

both-parts : (a b : Bool) → (a && b) ≡ true → (a ≡ true) × (b ≡ true)
both-parts true true h = (refl, refl)
both-parts true false h = cc
both-parts false b h = cc

pub all_digits-test : (ds : List ℕ) → AllDigits 10 ds → list_all (λ c. is_digit c 10) ds ≡ true
all_digits-test [] h = refl
all_digits-test (c ∷ cs) h =
    let first : nat_lt (digit_value c) 10 ≡ true = grind arith in
    rw (first, all_digits-test cs h.1) refl

pub all_digits-from_test : (ds : List ℕ) → list_all (λ c. is_digit c 10) ds ≡ true → AllDigits 10 ds
all_digits-from_test [] h = tt
all_digits-from_test (c ∷ cs) h =
    let parts : (nat_lt (digit_value c) 10 ≡ true) × (list_all (λ d. is_digit d 10) cs ≡ true) = both-parts _ _ h in
    (grind arith, all_digits-from_test cs parts.1)

pub numeral-test : (ds : List ℕ) → IsNumeral 10 ds → is_numeral ds ≡ true
numeral-test ds h =
    let some : nat_lt 0 (length ds) ≡ true = grind arith in
    rw (all_digits-test ds h.1) some

pub numeral-from_test : (ds : List ℕ) → is_numeral ds ≡ true → IsNumeral 10 ds
numeral-from_test ds h =
    let parts : (list_all (λ d. is_digit d 10) ds ≡ true) × (nat_lt 0 (length ds) ≡ true) = both-parts _ _ h in
    (grind arith, all_digits-from_test ds parts.0)

-- A text that begins with `+` is no numeral.
pub plus-no_numeral : (bs : List ℕ) → starts_with_plus bs ≡ true → is_numeral bs ≡ false
plus-no_numeral [] h = refl
plus-no_numeral (c ∷ cs) h = let e : c ≡ 43 = grind arith in rw e refl

pub without_plus : (bs : List ℕ) → starts_with_plus bs ≡ false → without_leading_plus bs ≡ bs
without_plus bs h = rw h (grind (arith, common_steps))

pub ref-plus : (m : ℕ) (bs : List ℕ) → starts_with_plus bs ≡ true → None ≡ ref_read m bs
ref-plus m bs h = rw (plus-no_numeral bs h) refl

pub ref-number : (m n : ℕ) (bs : List ℕ) → starts_with_plus bs ≡ false → IsNumeral 10 (without_leading_plus bs) → n ≡ digits_value 10 (without_leading_plus bs) →
    (if is_id_of n m then Some n else None) ≡ ref_read m bs
ref-number m n bs p h e =
    let same : without_leading_plus bs ≡ bs = without_plus bs p in
    let num : is_numeral bs ≡ true = numeral-test bs (subst (λ (ds : List ℕ). IsNumeral 10 ds) same h) in
    let val : n ≡ digits_value 10 bs = e ∙ ap (digits_value 10) same in
    rw (num, val) refl

pub wide-no_id : (m n : ℕ) → 2 ^ 128 ≤ n → is_id_of n m ≡ false
wide-no_id m n h =
    let narrow : nat_lt n (2 ^ 52) ≡ false = grind arith in
    let wide : nat_lt (n / 2 ^ 52) (2 ^ 52) ≡ false = grind arith in
    rw (narrow, wide) (grind arith)

pub ref-none : (m : ℕ) (bs : List ℕ) → starts_with_plus bs ≡ false → ¬ (IsNumeral 10 (without_leading_plus bs) × (digits_value 10 (without_leading_plus bs) < 2 ^ 128)) →
    None ≡ ref_read m bs
ref-none m bs p refused = split (is_numeral bs) refl (nat_lt (digits_value 10 bs) (2 ^ 128)) refl
  where
    same : without_leading_plus bs ≡ bs
    same = without_plus bs p

    split : (b : Bool) → is_numeral bs ≡ b → (c : Bool) → nat_lt (digits_value 10 bs) (2 ^ 128) ≡ c → None ≡ ref_read m bs
    split false e c f = rw e refl
    split true e false f = rw (e, wide-no_id m (digits_value 10 bs) (grind arith)) refl
    split true e true f = absurd (refused (subst (λ (ds : List ℕ). IsNumeral 10 ds × (digits_value 10 ds < 2 ^ 128)) (sym same) (numeral-from_test bs e, grind arith)))

fits-below : (n : ℕ) → FitsSigned w64 (pos n) → nat_le n 0x7FFF_FFFF_FFFF_FFFF ≡ true
fits-below n h = let l : n ≤ 0x7FFF_FFFF_FFFF_FFFF = omega (arith, ints) in grind arith

fits-above : (n : ℕ) → FitsSigned w64 (neg_ℤ (pos n)) → nat_le n 0x8000_0000_0000_0000 ≡ true
fits-above n h = let l : n ≤ 0x8000_0000_0000_0000 = omega (arith, ints) in grind arith

below-fits : (n : ℕ) → nat_le n 0x7FFF_FFFF_FFFF_FFFF ≡ true → FitsSigned w64 (pos n)
below-fits n h = let l : n ≤ 0x7FFF_FFFF_FFFF_FFFF = grind arith in omega (arith, ints)

above-fits : (n : ℕ) → nat_le n 0x8000_0000_0000_0000 ≡ true → FitsSigned w64 (neg_ℤ (pos n))
above-fits n h = let l : n ≤ 0x8000_0000_0000_0000 = grind arith in omega (arith, ints)

minus-digits : (bs : List ℕ) → starts_with_minus bs ≡ true → without_leading_sign bs ≡ drop 1 bs
minus-digits bs m = rw m refl

minus-value : (bs : List ℕ) → starts_with_minus bs ≡ true → signed_digits_value 10 bs ≡ neg_ℤ (pos (digits_value 10 (drop 1 bs)))
minus-value bs m = rw m refl

bare-digits : (bs : List ℕ) → starts_with_plus bs ≡ false → starts_with_minus bs ≡ false → without_leading_sign bs ≡ bs
bare-digits bs p m = rw m (without_plus bs p)

bare-value : (bs : List ℕ) → starts_with_plus bs ≡ false → starts_with_minus bs ≡ false → signed_digits_value 10 bs ≡ pos (digits_value 10 bs)
bare-value bs p m = rw m (ap (λ (ds : List ℕ). pos (digits_value 10 ds)) (without_plus bs p))

abbrev some : ℤ → Option ℤ
some z = Some z

pub integer-plus : (bs : List ℕ) → starts_with_plus bs ≡ true → None ≡ integer_of bs
integer-plus [] h = refl
integer-plus (c ∷ cs) h = let e : c ≡ 43 = grind arith in rw e refl

pub integer-number : (bs : List ℕ) (z : ℤ) → starts_with_plus bs ≡ false → IsNumeral 10 (without_leading_sign bs) → FitsSigned w64 (signed_digits_value 10 bs) → z ≡ signed_digits_value 10 bs → Some z ≡ integer_of bs
integer-number bs z p num fits e = split (starts_with_minus bs) refl
  where
    split : (b : Bool) → starts_with_minus bs ≡ b → Some z ≡ integer_of bs
    split true m =
        let digits : is_numeral (drop 1 bs) ≡ true = numeral-test _ (subst (λ (ds : List ℕ). IsNumeral 10 ds) (minus-digits bs m) num) in
        let small : nat_le (digits_value 10 (drop 1 bs)) 0x8000_0000_0000_0000 ≡ true = fits-above _ (subst (λ (v : ℤ). FitsSigned w64 v) (minus-value bs m) fits) in
        rw (m, digits, small) (ap some (e ∙ minus-value bs m))
    split false m =
        let digits : is_numeral bs ≡ true = numeral-test _ (subst (λ (ds : List ℕ). IsNumeral 10 ds) (bare-digits bs p m) num) in
        let small : nat_le (digits_value 10 bs) 0x7FFF_FFFF_FFFF_FFFF ≡ true = fits-below _ (subst (λ (v : ℤ). FitsSigned w64 v) (bare-value bs p m) fits) in
        rw (m, digits, small) (ap some (e ∙ bare-value bs p m))

pub integer-none : (bs : List ℕ) → starts_with_plus bs ≡ false → ¬ (IsNumeral 10 (without_leading_sign bs) × FitsSigned w64 (signed_digits_value 10 bs)) → None ≡ integer_of bs
integer-none bs p refused = split (starts_with_minus bs) refl
  where
    minus : (n s : Bool) → starts_with_minus bs ≡ true → is_numeral (drop 1 bs) ≡ n → nat_le (digits_value 10 (drop 1 bs)) 0x8000_0000_0000_0000 ≡ s → None ≡ integer_of bs
    minus false s m e f = rw (m, e) refl
    minus true false m e f = rw (m, e, f) refl
    minus true true m e f = absurd (refused (
      subst (λ (ds : List ℕ). IsNumeral 10 ds) (sym (minus-digits bs m)) (numeral-from_test _ e),
      subst (λ (v : ℤ). FitsSigned w64 v) (sym (minus-value bs m)) (above-fits _ f),
    ))

    bare : (n s : Bool) → starts_with_minus bs ≡ false → is_numeral bs ≡ n → nat_le (digits_value 10 bs) 0x7FFF_FFFF_FFFF_FFFF ≡ s → None ≡ integer_of bs
    bare false s m e f = rw (m, e) refl
    bare true false m e f = rw (m, e, f) refl
    bare true true m e f = absurd (refused (
      subst (λ (ds : List ℕ). IsNumeral 10 ds) (sym (bare-digits bs p m)) (numeral-from_test _ e),
      subst (λ (v : ℤ). FitsSigned w64 v) (sym (bare-value bs p m)) (below-fits _ f),
    ))

    split : (b : Bool) → starts_with_minus bs ≡ b → None ≡ integer_of bs
    split true m = minus _ _ m refl refl
    split false m = bare _ _ m refl refl
