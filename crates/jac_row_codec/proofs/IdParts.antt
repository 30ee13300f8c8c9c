-- What the parts of an id are.
use Rattle.std.proofs.Common.{◌≡◌, refl, sym, ap, subst, ◌∙◌, ℕ, ◌+◌, ◌*◌, ◌/◌, ◌%◌, ◌^◌, ◌<◌, ◌≤◌, Bool, true, false, ◌&&◌, ◌||◌, ◌==◌, ◌⊎◌, inl, inr, if◌then◌else◌, nat_lt, nat_le, arith}
use Rattle.std.proofs.lemmas.Bool.Decides.{nat_tests}
use Rattle.std.proofs.lemmas.Bool.{and_parts}
use Rattle.jac_value.specs.Ids.{is_id_of, is_narrow, is_wide}
use Rattle.jac_row_codec.specs.Reading.{least_next}

-- The number in the first fourteen bytes of an id.
abbrev pub IsFront : ℕ → Type 0
IsFront z = (z < 0x10_0000_0000) ⊎ ((0x1_0000_0000_0000 ≤ z) × (z < 0x100_0000_0000_0000_0000_0000))

pub record AreIdParts (id m : ℕ) : Type 0 where
  pub front : IsFront (id / 0x1_0000)
  pub next : least_next (id / 0x1_0000) ≤ id / 256 % 256
  pub of : id % 64 ≡ m
  pub to : id < 0x100_0000_0000_0000_0000_0000_0000

record IsNarrow (id : ℕ) : Type 0 where
  from : 4096 ≤ id
  to : id < 0x10_0000_0000_0000

narrow_facts : (id : ℕ) → is_narrow id ≡ true → IsNarrow id
narrow_facts id is = record { from = grind (arith, nat_tests, is); to = grind (arith, nat_tests, is) }

narrow_is : (id : ℕ) → 4096 ≤ id → id < 0x10_0000_0000_0000 → is_narrow id ≡ true
narrow_is id from to = grind (arith, nat_tests, from, to)

least_by : (z x : ℕ) (b : Bool) → (z % 0x10_0000_0000 == 0) ≡ b → (z % 0x10_0000_0000 ≡ 0 → 16 ≤ x) → (if b then 16 else 0) ≤ x
least_by z x true e h = h (grind (arith, nat_tests, e))
least_by z x false e h = omega arith

least : (z x : ℕ) → (z % 0x10_0000_0000 ≡ 0 → 16 ≤ x) → least_next z ≤ x
least z x h = least_by z x (z % 0x10_0000_0000 == 0) refl h

least_from_by : (z x : ℕ) (b : Bool) → (z % 0x10_0000_0000 == 0) ≡ b → (if b then 16 else 0) ≤ x → (16 ≤ x) ⊎ (0 < z % 0x10_0000_0000)
least_from_by z x true e h = inl h
least_from_by z x false e h = inr (grind (arith, nat_tests, e))

least_from : (z x : ℕ) → least_next z ≤ x → (16 ≤ x) ⊎ (0 < z % 0x10_0000_0000)
least_from z x h = least_from_by z x (z % 0x10_0000_0000 == 0) refl h

either : (a b : Bool) → (a || b) ≡ true → (a ≡ true) ⊎ (b ≡ true)
either true b e = inl refl
either false b e = inr e

from_narrow : (id m : ℕ) → IsNarrow id → id % 64 ≡ m → AreIdParts id m
from_narrow id m is of =
    let from = is.from in let to = is.to in
    record {
      front = inl (omega (arith, to));
      next = least (id / 0x1_0000) (id / 256 % 256) (λ z. omega (arith, from, to, z));
      of = of;
      to = omega (arith, to);
    }

from_wide : (id m : ℕ) → IsNarrow (id / 0x10_0000_0000_0000) → IsNarrow (id % 0x10_0000_0000_0000) → id % 64 ≡ m → AreIdParts id m
from_wide id m around base of =
    let from = around.from in let to = around.to in let some = base.from in
    record {
      front = inr (omega (arith, from), omega (arith, to));
      next = least (id / 0x1_0000) (id / 256 % 256) (λ z. omega (arith, some, z));
      of = of;
      to = omega (arith, to);
    }

pub id_parts : (id m : ℕ) → is_id_of id m ≡ true → AreIdParts id m
id_parts id m is =
    let parts = and_parts (is_narrow id || is_wide id) (id % 64 == m) is in
    let one = parts.1 in
    let of : id % 64 ≡ m = grind (arith, nat_tests, one) in
    elim (either (is_narrow id) (is_wide id) parts.0) [
      | inl n ↦ from_narrow id m (narrow_facts id n) of
      | inr w ↦ let two = and_parts (is_narrow (id / 2 ^ 52)) (is_narrow (id % 2 ^ 52)) w in
          from_wide id m (narrow_facts (id / 0x10_0000_0000_0000) two.0) (narrow_facts (id % 0x10_0000_0000_0000) two.1) of
    ]

id_by : (id m : ℕ) → (is_narrow id || is_wide id) ≡ true → id % 64 ≡ m → is_id_of id m ≡ true
id_by id m is of = let e : (id % 64 == m) ≡ true = grind (arith, nat_tests, of) in rw (is, e) refl

wide_is : (id : ℕ) → is_narrow (id / 0x10_0000_0000_0000) ≡ true → is_narrow (id % 0x10_0000_0000_0000) ≡ true → (b : Bool) → is_narrow id ≡ b → (is_narrow id || is_wide id) ≡ true
wide_is id l r true e = rw e refl
wide_is id l r false e = rw (e, l, r) refl

narrow_or : (id : ℕ) → is_narrow id ≡ true → (is_narrow id || is_wide id) ≡ true
narrow_or id e = rw e refl

narrow_room : (z x b id : ℕ) → id ≡ (z * 256 + x) * 256 + b → z < 0x10_0000_0000 → x < 256 → b < 256 → (16 ≤ x) ⊎ (0 < z % 0x10_0000_0000) → is_narrow id ≡ true
narrow_room z x b id e few small last (inl some) = narrow_is id (omega (arith, e, some)) (omega (arith, e, few, small, last))
narrow_room z x b id e few small last (inr some) = narrow_is id (omega (arith, e, some)) (omega (arith, e, few, small, last))

base_room : (z x b id : ℕ) → id ≡ (z * 256 + x) * 256 + b → x < 256 → b < 256 → (16 ≤ x) ⊎ (0 < z % 0x10_0000_0000) → is_narrow (id % 0x10_0000_0000_0000) ≡ true
base_room z x b id e small last (inl some) = narrow_is (id % 0x10_0000_0000_0000) (omega (arith, e, some, small, last)) (omega arith)
base_room z x b id e small last (inr some) = narrow_is (id % 0x10_0000_0000_0000) (omega (arith, e, some, small, last)) (omega arith)

pub whole_id : (z x b m : ℕ) → least_next z ≤ x → x < 256 → b < 256 → b % 64 ≡ m → IsFront z → m < 64 → is_id_of ((z * 256 + x) * 256 + b) m ≡ true
whole_id z x b m from small last of (inl few) fits =
    let id = (z * 256 + x) * 256 + b in
    id_by id m (narrow_or id (narrow_room z x b id refl few small last (least_from z x from))) (omega (arith, of))
whole_id z x b m from small last of (inr big) fits =
    let id = (z * 256 + x) * 256 + b in
    let low = big.0 in let high = big.1 in
    id_by id m (wide_is id (narrow_is (id / 0x10_0000_0000_0000) (omega (arith, low)) (omega (arith, high, small, last))) (base_room z x b id refl small last (least_from z x from)) (is_narrow id) refl) (omega (arith, of))
