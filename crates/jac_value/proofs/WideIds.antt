-- Wide ids. A wide id consists of two narrow ids.
use Rattle.std.proofs.Common.{◌≡◌, ◌⊎◌, inl, inr, ℕ, ◌/◌, ◌%◌, ◌^◌, ◌<◌, ◌≤◌, ◌==◌, Bool, ◌&&◌, ◌||◌, true, false, nat_lt, refl, sym, ◌∙◌, ap, arith}
use Rattle.std.proofs.lemmas.Nat.{div-mul-add, mod-mul-add}
use Rattle.std.proofs.lemmas.Bool.Decides.{nat_tests}
use Rattle.jac_value.specs.Ids.{is_narrow, is_wide, loop_id, number_of_id, model_of_id, is_id_of}

pub record IsNarrow (id : ℕ) : Type 0 where
  pub from : 4096 ≤ id
  pub to : id < 0x10_0000_0000_0000

pub narrow_facts : (id : ℕ) → is_narrow id ≡ true → IsNarrow id
narrow_facts id is = record { from = grind (arith, nat_tests, is); to = grind (arith, nat_tests, is) }

pub narrow_is : (id : ℕ) → 4096 ≤ id → id < 0x10_0000_0000_0000 → is_narrow id ≡ true
narrow_is id from to = grind (arith, nat_tests, from, to)

pub number_of_loop_id : (l b : ℕ) → is_narrow b ≡ true → number_of_id (loop_id l b) ≡ b / 4096
number_of_loop_id l b is = ap (λ n. n / 4096) (mod-mul-add l 0x10_0000_0000_0000 b (narrow_facts b is).to)

pub number_of_narrow : (b : ℕ) → is_narrow b ≡ true → number_of_id b ≡ b / 4096
number_of_narrow b is = let to = (narrow_facts b is).to in omega (arith, to)

pub loop_id_parts : (l b k c : ℕ) → is_narrow b ≡ true → is_narrow c ≡ true → loop_id l b ≡ loop_id k c → (l ≡ k) × (b ≡ c)
loop_id_parts l b k c is also e =
    let small = (narrow_facts b is).to in
    let less = (narrow_facts c also).to in (
      sym (div-mul-add l 0x10_0000_0000_0000 b small) ∙ (ap (λ n. n / 0x10_0000_0000_0000) e ∙ div-mul-add k 0x10_0000_0000_0000 c less),
      sym (mod-mul-add l 0x10_0000_0000_0000 b small) ∙ (ap (λ n. n % 0x10_0000_0000_0000) e ∙ mod-mul-add k 0x10_0000_0000_0000 c less),
    )

pub loop_id_is_wide : (l b : ℕ) → is_narrow l ≡ true → is_narrow b ≡ true → is_wide (loop_id l b) ≡ true
loop_id_is_wide l b around is =
    let small = (narrow_facts b is).to in
    rw (div-mul-add l 0x10_0000_0000_0000 b small, mod-mul-add l 0x10_0000_0000_0000 b small, around, is) refl

pub loop_id_not_narrow : (l b : ℕ) → is_narrow l ≡ true → is_narrow (loop_id l b) ≡ false
loop_id_not_narrow l b around =
    let from = (narrow_facts l around).from in
    let wide : nat_lt (loop_id l b) (2 ^ 52) ≡ false = grind (arith, nat_tests, from) in
    rw wide (grind arith)

pub model_of_loop_id : (l b : ℕ) → model_of_id (loop_id l b) ≡ model_of_id b
model_of_loop_id l b = omega arith

both : (a b : Bool) → (a && b) ≡ true → (a ≡ true) × (b ≡ true)
both true true e = (refl, refl)
both true false e = cc
both false b e = cc

either : (a b : Bool) → (a || b) ≡ true → (a ≡ true) ⊎ (b ≡ true)
either true b e = inl refl
either false b e = inr e

-- An id of a model is narrow, or each of its two parts is narrow.
parts : (id m : ℕ) → is_id_of id m ≡ true → IsNarrow id ⊎ (IsNarrow (id / 0x10_0000_0000_0000) × IsNarrow (id % 0x10_0000_0000_0000))
parts id m is =
    elim (either (is_narrow id) (is_wide id) (both (is_narrow id || is_wide id) (id % 64 == m) is).0) [
      | inl n ↦ inl (narrow_facts id n)
      | inr w ↦
          let are = both (is_narrow (id / 2 ^ 52)) (is_narrow (id % 2 ^ 52)) w in
          inr (narrow_facts (id / 0x10_0000_0000_0000) are.0, narrow_facts (id % 0x10_0000_0000_0000) are.1)
    ]

pub number_positive : (id m : ℕ) → is_id_of id m ≡ true → 0 < number_of_id id
number_positive id m is =
    elim (parts id m is) [
      | inl n ↦ let from = n.from in let to = n.to in omega (arith, from, to)
      | inr w ↦ let base = w.1.from in omega (arith, base)
    ]

pub number_small : (id : ℕ) → number_of_id id < 2 ^ 40
number_small id = omega arith

pub id_small : (id m : ℕ) → is_id_of id m ≡ true → id < 2 ^ 104
id_small id m is =
    elim (parts id m is) [
      | inl n ↦ let to = n.to in omega (arith, to)
      | inr w ↦ let to = w.0.to in omega (arith, to)
    ]
