-- Numbers by their bytes, the most significant first.
use Rattle.std.proofs.Common.{nat_le, ◌&&◌, true, false, ◌≡◌, refl, sym, ap, subst, ◌∙◌, ℕ, zero, suc, ◌+◌, ◌-◌, ◌*◌, ◌/◌, ◌%◌, ◌^◌, ◌<◌, ◌≤◌, List, [], ◌∷◌, ◌++◌, length, append-nil, ◌↔◌, inl, inr, arith}
use Rattle.std.proofs.Math.Nat.{pow-suc, pow-succ', div-div-eq-div-mul, div-one, div-mul-le_self, le-div_iff_mul-le, mul-div_cancel, div-eq_of_lt, div-le_self}
use Rattle.std.proofs.lemmas.Bool.{cases_lt}
use Rattle.std.proofs.lemmas.Bool.Decides.{nat_tests}
use Rattle.std.proofs.lemmas.Nat.{pow-add, div-add-mod', div-mul-add, mod-mul-add}
use Rattle.std.proofs.lemmas.List.{nil_from_length}
use Rattle.std.specs.Int.{byte_at, bytes_high_first}
use Rattle.jac_row_codec.specs.Faults.{GoesOn}
use Rattle.jac_row_codec.specs.Reading.{Stops, IsBehind, Numbers, NumbersBehind, Halfway, IsNumber}
use Rattle.jac_row_codec.proofs.Stops.{stops_at_end, stops_here, stops_behind}

pub power_pos : (k : ℕ) → 0 < 256 ^ k
power_pos zero = omega arith
power_pos (suc k) = let h = power_pos k in let e = pow-suc 256 k in omega (arith, h, e)

one_more : (n k : ℕ) → n / 256 ^ suc k ≡ n / 256 ^ k / 256
one_more n k = ap (λ p. n / p) (pow-suc 256 k) ∙ sym (div-div-eq-div-mul n (256 ^ k) 256)

pub byte_is : (k n : ℕ) → byte_at k n ≡ n / 256 ^ k % 256
byte_is zero n = ap (λ x. x % 256) (sym (div-one n))
byte_is (suc k) n = refl

div_rises : (a b k : ℕ) → a ≤ b → a / 256 ^ k ≤ b / 256 ^ k
div_rises a b k le = let below = div-mul-le_self a (256 ^ k) in (le-div_iff_mul-le (power_pos k)).1 (omega (arith, le, below))

-- One more byte of a number.
more_read : (n k value b : ℕ) → n / 256 ^ suc k ≡ value → b ≡ byte_at k n → n / 256 ^ k ≡ value * 256 + b
more_read n k value b read byte =
    let whole = div-add-mod' (n / 256 ^ k) 256 in
    let high : n / 256 ^ k / 256 ≡ value = sym (one_more n k) ∙ read in
    let low : n / 256 ^ k % 256 ≡ b = sym (byte ∙ byte_is k n) in
    omega (arith, whole, high, low)

less_read : (n k value b : ℕ) → b < 256 → n / 256 ^ k ≡ value * 256 + b → (n / 256 ^ suc k ≡ value) × (b ≡ byte_at k n)
less_read n k value b small read =
    (one_more n k ∙ ap (λ x. x / 256) read ∙ div-mul-add value 256 b small, sym (byte_is k n ∙ ap (λ x. x % 256) read ∙ mod-mul-add value 256 b small))

-- What remains to be read after the first byte.
pub derived : (low high left value b : ℕ) → b < 256 → (t : List ℕ) → NumbersBehind low high (suc left) value (b ∷ t) ↔ NumbersBehind low high left (value * 256 + b) t
derived low high left value b small t = (
  (λ l. let head : b ≡ byte_at left l.thing = cc in
      let tail : t ≡ bytes_high_first left l.thing ++ l.after = cc in
      record { thing = l.thing; is = record { from = l.is.from; to = l.is.to; read = more_read l.thing left value b l.is.read head }; after = l.after; split = tail }),
  (λ l. let both = less_read l.thing left value b small l.is.read in
      record {
        thing = l.thing;
        is = record { from = l.is.from; to = l.is.to; read = both.0 };
        after = l.after;
        split = ap (λ x. x ∷ t) both.1 ∙ ap (λ x. byte_at left l.thing ∷ x) l.split;
      }),
)

-- There is a number between the two bounds.
some_number : (low high left value : ℕ) → low ≤ high → low / 256 ^ left ≤ value → value ≤ high / 256 ^ left → (n : ℕ) × IsBehind low high left value n
some_number low high left value order from to =
    let pos = power_pos left in
    let below : value * 256 ^ left ≤ high = (le-div_iff_mul-le pos).0 to in
    elim (cases_lt (value * 256 ^ left) low) [
      | inl under ↦ let up : value ≤ low / 256 ^ left = (le-div_iff_mul-le pos).1 (omega (arith, under)) in
          (low, record { from = omega arith; to = order; read = omega (arith, up, from) })
      | inr over ↦ (value * 256 ^ left, record { from = over; to = below; read = mul-div_cancel value pos })
    ]

pub number_goes : (low high left value : ℕ) → low ≤ high → low / 256 ^ left ≤ value → value ≤ high / 256 ^ left → GoesOn (NumbersBehind low high left value) []
number_goes low high left value order from to =
    let n = some_number low high left value order from to in
    (bytes_high_first left n.0, record { thing = n.0; is = n.1; after = []; split = sym (append-nil (bytes_high_first left n.0)) })

never_behind : (low high left value b : ℕ) → b < 256 → ¬ ((low / 256 ^ left ≤ value * 256 + b) × (value * 256 + b ≤ high / 256 ^ left)) → ¬ (GoesOn (NumbersBehind low high (suc left) value) (b ∷ []))
never_behind low high left value b small out goes =
    let l = (derived low high left value b small goes.0).0 goes.1 in
    out (subst (λ x. low / 256 ^ left ≤ x) l.is.read (div_rises low l.thing left l.is.from), subst (λ x. x ≤ high / 256 ^ left) l.is.read (div_rises l.thing high left l.is.to))

pub half_start : (low high width : ℕ) (bytes : List ℕ) → low ≤ high → high < 256 ^ width → Halfway low high width bytes width 0 bytes
half_start low high width bytes order wide = record {
  from = let e = div-eq_of_lt {n = low} {m = 256 ^ width} (omega (arith, order, wide)) in omega (arith, e);
  to = omega arith;
  spelled = λ number after read is. is;
  stops = λ n s. stops_behind (Numbers low high width) (NumbersBehind low high width 0) [] bytes n
      (λ t. (
        (λ l. record { thing = l.thing; is = record { from = l.is.from; to = l.is.to; read = div-eq_of_lt (let to = l.is.to in omega (arith, to, wide)) }; after = l.after; split = l.split }),
        (λ l. record { thing = l.thing; is = record { from = l.is.from; to = l.is.to }; after = l.after; split = l.split }),
      )) s;
}

step_of : (low high width : ℕ) (bytes : List ℕ) (left value b : ℕ) (rest : List ℕ) → Halfway low high width bytes (suc left) value (b ∷ rest) → b < 256
    → low / 256 ^ left ≤ value * 256 + b → value * 256 + b ≤ high / 256 ^ left → Halfway low high width bytes left (value * 256 + b) rest
step_of low high width bytes left value b rest h small from to = record {
  from = from;
  to = to;
  spelled = λ number after read is. let both = less_read number left value b small read in
      h.spelled number after both.0 (ap (λ x. x ∷ rest) both.1 ∙ ap (λ x. byte_at left number ∷ x) is);
  stops = λ n s. h.stops n (stops_behind (NumbersBehind low high (suc left) value) (NumbersBehind low high left (value * 256 + b)) (b ∷ []) rest n (derived low high left value b small) s);
}

one_less : (left : ℕ) → 0 < left → suc (left - 1) ≡ left
one_less left more = omega (arith, more)

pub half_step : (low high width : ℕ) (bytes : List ℕ) (left value b : ℕ) (rest more : List ℕ) → Halfway low high width bytes left value more → more ≡ b ∷ rest → 0 < left → b < 256
    → low / 256 ^ (left - 1) ≤ value * 256 + b → value * 256 + b ≤ high / 256 ^ (left - 1) → Halfway low high width bytes (left - 1) (value * 256 + b) rest
half_step low high width bytes left value b rest more h is some small from to =
    step_of low high width bytes (left - 1) value b rest (subst (λ k. Halfway low high width bytes k value (b ∷ rest)) (sym (one_less left some)) (subst (λ l. Halfway low high width bytes left value l) is h)) small from to

short_of : (low high width : ℕ) (bytes : List ℕ) (left value : ℕ) → Halfway low high width bytes (suc left) value [] → low ≤ high → Stops (Numbers low high width) bytes 0
short_of low high width bytes left value h order =
    h.stops 0 (stops_at_end (NumbersBehind low high (suc left) value) (number_goes low high (suc left) value order h.from h.to)
    (λ l. let e : [] ≡ byte_at left l.thing ∷ (bytes_high_first left l.thing ++ l.after) = l.split in cc))

-- The bytes end before the number does.
pub half_short : (low high width : ℕ) (bytes : List ℕ) (left value : ℕ) (more : List ℕ) → Halfway low high width bytes left value more → length more ≡ 0 → 0 < left → low ≤ high → Stops (Numbers low high width) bytes 0
half_short low high width bytes left value more h none some order =
    short_of low high width bytes (left - 1) value (subst (λ k. Halfway low high width bytes k value []) (sym (one_less left some)) (subst (λ l. Halfway low high width bytes left value l) (nil_from_length more none) h)) order

out_of : (low high width : ℕ) (bytes : List ℕ) (left value b : ℕ) (rest : List ℕ) → Halfway low high width bytes (suc left) value (b ∷ rest) → low ≤ high → b < 256
    → ¬ ((low / 256 ^ left ≤ value * 256 + b) × (value * 256 + b ≤ high / 256 ^ left)) → Stops (Numbers low high width) bytes (length (b ∷ rest))
out_of low high width bytes left value b rest h order small out =
    h.stops (length (b ∷ rest)) (stops_here (NumbersBehind low high (suc left) value) b rest (number_goes low high (suc left) value order h.from h.to) (never_behind low high left value b small out))

-- With the next byte, the number is out of the range.
pub half_out : (low high width : ℕ) (bytes : List ℕ) (left value b : ℕ) (rest more : List ℕ) → Halfway low high width bytes left value more → more ≡ b ∷ rest → 0 < left → low ≤ high → b < 256
    → ¬ ((low / 256 ^ (left - 1) ≤ value * 256 + b) × (value * 256 + b ≤ high / 256 ^ (left - 1))) → Stops (Numbers low high width) bytes (length more)
half_out low high width bytes left value b rest more h is some order small out =
    subst (λ n. Stops (Numbers low high width) bytes n) (ap length (sym is))
    (out_of low high width bytes (left - 1) value b rest (subst (λ k. Halfway low high width bytes k value (b ∷ rest)) (sym (one_less left some)) (subst (λ l. Halfway low high width bytes left value l) is h)) order small out)

end_of : (low high width : ℕ) (bytes : List ℕ) (value : ℕ) (more : List ℕ) → Halfway low high width bytes 0 value more → IsNumber low high width bytes value more
end_of low high width bytes value more h = record {
  between = record { from = subst (λ x. x ≤ value) (div-one low) h.from; to = subst (λ x. value ≤ x) (div-one high) h.to };
  split = h.spelled value more (div-one value) refl;
}

-- All bytes of the number were read.
pub half_end : (low high width : ℕ) (bytes : List ℕ) (left value : ℕ) (more : List ℕ) → Halfway low high width bytes left value more → left ≡ 0 → IsNumber low high width bytes value more
half_end low high width bytes left value more h none = end_of low high width bytes value more (subst (λ k. Halfway low high width bytes k value more) none h)

-- If bytes of the number are left, there is room for one more byte.
pub half_room : (low high width : ℕ) (bytes : List ℕ) (left value : ℕ) (more : List ℕ) → Halfway low high width bytes left value more → 0 < left → value * 256 ≤ high
half_room low high width bytes left value more h some =
    let to : value ≤ high / 256 ^ (left - 1) / 256 = subst (λ x. value ≤ x) (ap (λ k. high / 256 ^ k) (sym (one_less left some)) ∙ one_more high (left - 1)) h.to in
    let less : value * 256 ≤ high / 256 ^ (left - 1) = (le-div_iff_mul-le {k = 256} (omega arith)).0 to in
    let whole = div-le_self high (256 ^ (left - 1)) in
    omega (arith, less, whole)

-- A byte has eight bits.
pub by_bytes : (k : ℕ) → 2 ^ (8 * k) ≡ 256 ^ k
by_bytes zero = refl
by_bytes (suc k) =
    let e : 8 * suc k ≡ 8 * k + 8 = omega arith in
    ap (λ x. 2 ^ x) e ∙ (pow-add 2 (8 * k) 8 ∙ (ap (λ x. x * 256) (by_bytes k) ∙ sym (pow-suc 256 k)))

-- A range test that failed.
pub outside : (a n b : ℕ) → (nat_le a n && nat_le n b) ≡ false → ¬ ((a ≤ n) × (n ≤ b))
outside a n b not_so both = let from = both.0 in let to = both.1 in absurd (grind (arith, nat_tests, not_so, from, to))

pub inside : (a n b : ℕ) → (nat_le a n && nat_le n b) ≡ true → (a ≤ n) × (n ≤ b)
inside a n b is_so = (grind (arith, nat_tests, is_so), grind (arith, nat_tests, is_so))

-- Bytes begin with one number only.
pub one_number : (k x y : ℕ) (s t : List ℕ) → x / 256 ^ k ≡ y / 256 ^ k → bytes_high_first k x ++ s ≡ bytes_high_first k y ++ t → (x ≡ y) × (s ≡ t)
one_number zero x y s t same e = (sym (div-one x) ∙ same ∙ div-one y, e)
one_number (suc k) x y s t same e =
    let head : byte_at k x ≡ byte_at k y = cc in
    let tail : bytes_high_first k x ++ s ≡ bytes_high_first k y ++ t = cc in
    one_number k x y s t (more_read x k (y / 256 ^ suc k) (byte_at k x) same refl ∙ sym (more_read y k (y / 256 ^ suc k) (byte_at k x) refl head)) tail

-- The same, if both numbers fit.
pub one_spelled : (k x y : ℕ) (s t : List ℕ) → x < 256 ^ k → y < 256 ^ k → bytes_high_first k x ++ s ≡ bytes_high_first k y ++ t → (x ≡ y) × (s ≡ t)
one_spelled k x y s t fits room e = one_number k x y s t (div-eq_of_lt fits ∙ sym (div-eq_of_lt room)) e

-- The last byte, apart from the others.
pub last_apart : (k n : ℕ) → bytes_high_first (suc k) n ≡ bytes_high_first k (n / 256) ++ (n % 256 ∷ [])
last_apart zero n = refl
last_apart (suc k) n =
    let high : byte_at (suc k) n ≡ byte_at k (n / 256) =
    ap (λ p. n / p % 256) (pow-succ' 256 k) ∙ (ap (λ x. x % 256) (sym (div-div-eq-div-mul n 256 (256 ^ k))) ∙ sym (byte_is k (n / 256))) in
    ap (λ b. b ∷ bytes_high_first (suc k) n) high ∙ ap (λ l. byte_at k (n / 256) ∷ l) (last_apart k n)
