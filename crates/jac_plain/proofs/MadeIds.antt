-- The ids that a request makes.
use Rattle.std.proofs.Common.{◌≡◌, ◌∙◌, sym, refl, ap, arith, ℕ, ◌+◌, ◌/◌, ◌%◌, ◌<◌, ◌^◌, ◌==◌, ◌&&◌, ◌||◌, ◌⊎◌, inl, inr, Bool, true, false, if◌then◌else◌, Option, Some, None}
use Rattle.std.specs.Prelude.{⊤}
use Rattle.std.proofs.lemmas.Bool.Decides.{nat_tests}
use Rattle.std.proofs.lemmas.Bool.{or_left, or_right}
use Rattle.jac_value.specs.Ids.{record_id, loop_id, is_narrow, is_wide, is_id_of, number_of_id}
use Rattle.jac_value.proofs.WideIds.{narrow_facts, narrow_is, number_of_loop_id, number_of_narrow, loop_id_parts, loop_id_is_wide, loop_id_not_narrow}
use Rattle.jac_lang.specs.Loops.{Loops, may_create}
use Rattle.jac_rows.specs.Good.{IsMade}
use Rattle.jac_plain.specs.Models.{is_shaped}
use Rattle.jac_plain.specs.Statements.{around_id}

pub base_narrow : (n s m : ℕ) → 0 < n → n < 2 ^ 40 → s < 64 → m < 64 → is_narrow (record_id n s m) ≡ true
base_narrow n s m some room site model = narrow_is (record_id n s m) (omega (arith, some)) (omega (arith, room, site, model))

-- An id is its base, or the base around a narrow id.
abbrev pub Form : ℕ → ℕ → Type 0
Form base id = (id ≡ base) ⊎ ((l : ℕ) × (is_narrow l ≡ true) × (id ≡ loop_id l base))

form_if : (l base : ℕ) (b : Bool) → is_narrow l ≡ b → Form base (if b then loop_id l base else base)
form_if l base true e = inr (l, e, refl)
form_if l base false e = inl refl

pub form_of : (nested : Bool) (around : Option ℕ) (base : ℕ) → Form base (around_id nested around base)
form_of false around base = inl refl
form_of true None base = inl refl
form_of true (Some l) base = form_if l base (is_narrow l) refl

narrow_or_loop : (x l y : ℕ) → is_narrow x ≡ true → is_narrow l ≡ true → x ≡ loop_id l y → ⊥
narrow_or_loop x l y small around e =
    let wrong : true ≡ false = sym small ∙ (ap is_narrow e ∙ loop_id_not_narrow l y around) in cc

pub forms_apart : (x y i j : ℕ) → is_narrow x ≡ true → is_narrow y ≡ true → ¬ (x ≡ y) → Form x i → Form y j → ¬ (i ≡ j)
forms_apart x y i j small less other (inl e) (inl f) same = other (sym e ∙ (same ∙ f))
forms_apart x y i j small less other (inl e) (inr w) same = narrow_or_loop x w.0 y small w.1 (sym e ∙ (same ∙ w.2))
forms_apart x y i j small less other (inr v) (inl f) same = narrow_or_loop y v.0 x less v.1 (sym f ∙ (sym same ∙ v.2))
forms_apart x y i j small less other (inr v) (inr w) same = other (loop_id_parts v.0 x w.0 y small less (sym v.2 ∙ (same ∙ w.2))).1

pub test_false : (i j : ℕ) (b : Bool) → (i == j) ≡ b → ¬ (i ≡ j) → b ≡ false
test_false i j true e h = absurd (h (grind (arith, nat_tests, e)))
test_false i j false e h = refl

pub bases_apart : (n s o m : ℕ) → (o == s) ≡ false → ¬ (record_id n o m ≡ record_id n s m)
bases_apart n s o m h same =
    let one : o ≡ s = omega (arith, same) in
    let equal : (o == s) ≡ true = grind (arith, nat_tests, one) in cc

pub around_narrow : (l base : ℕ) → is_narrow l ≡ true → around_id true (Some l) base ≡ loop_id l base
around_narrow l base e = rw e refl

pub loops_apart : (l k x y : ℕ) → is_narrow x ≡ true → is_narrow y ≡ true → ¬ (l ≡ k) → ¬ (loop_id l x ≡ loop_id k y)
loops_apart l k x y small less other same = other (loop_id_parts l x k y small less same).0

-- An id that the request makes is that of a record of its model and of the request.
one_by : (id m : ℕ) → (is_narrow id || is_wide id) ≡ true → id % 64 ≡ m → is_id_of id m ≡ true
one_by id m is of = let e : (id % 64 == m) ≡ true = grind (arith, nat_tests, of) in rw (is, e) refl

base_number : (n s m : ℕ) → s < 64 → m < 64 → record_id n s m / 4096 ≡ n
base_number n s m site model = omega (arith, site, model)

pub form_number : (n s m id : ℕ) → 0 < n → n < 2 ^ 40 → s < 64 → m < 64 → Form (record_id n s m) id → number_of_id id ≡ n
form_number n s m id some room site model (inl e) =
    ap number_of_id e ∙ (number_of_narrow (record_id n s m) (base_narrow n s m some room site model) ∙ base_number n s m site model)
form_number n s m id some room site model (inr w) =
    ap number_of_id w.2 ∙ (number_of_loop_id w.0 (record_id n s m) (base_narrow n s m some room site model) ∙ base_number n s m site model)

form_model : (n s m id : ℕ) → m < 64 → Form (record_id n s m) id → id % 64 ≡ m
form_model n s m id model (inl e) = omega (arith, e, model)
form_model n s m id model (inr w) = let e = w.2 in omega (arith, e, model)

form_one : (base id : ℕ) → is_narrow base ≡ true → Form base id → (is_narrow id || is_wide id) ≡ true
form_one base id small (inl e) = or_left (is_narrow id) (is_wide id) (ap is_narrow e ∙ small)
form_one base id small (inr w) = or_right (is_narrow id) (is_wide id) (ap is_wide w.2 ∙ loop_id_is_wide w.0 base w.1 small)

pub form_made : (n s m id : ℕ) → 0 < n → n < 2 ^ 40 → s < 64 → m < 64 → Form (record_id n s m) id → IsMade m (n + 1) id
form_made n s m id some room site model form =
    let number = form_number n s m id some room site model form in
    let of = form_model n s m id model form in
    record {
      of_model = of;
      is_one = one_by id m (form_one (record_id n s m) id (base_narrow n s m some room site model) form) of;
      numbered = rw number some;
      made = rw number (omega arith);
    }

-- The loop's record, if the statement is in exactly one loop over one binder.
abbrev pub IsAround : Option ℕ → Type 0
IsAround None = ⊥
IsAround (Some l) = is_narrow l ≡ true

abbrev pub IsAroundIn : Loops → Option ℕ → Type 0
IsAroundIn Loops.none around = ⊤
IsAroundIn (Loops.one flat) around = flat ≡ true → IsAround around
IsAroundIn Loops.several around = ⊤

pub shaped_by : (nested : Bool) (loops : Loops) (around : Option ℕ) (base : ℕ) → is_narrow base ≡ true → may_create nested loops ≡ true → IsAroundIn loops around
    → is_shaped nested (around_id nested around base) ≡ true
shaped_by false Loops.none around base small may is = small
shaped_by false (Loops.one flat) around base small may is = cc
shaped_by false Loops.several around base small may is = cc
shaped_by true Loops.none around base small may is = cc
shaped_by true (Loops.one flat) None base small may is = absurd (is may)
shaped_by true (Loops.one flat) (Some l) base small may is =
    ap is_wide (around_narrow l base (is may)) ∙ loop_id_is_wide l base (is may) small
shaped_by true Loops.several around base small may is = cc

pub wide_by : (nested : Bool) (id : ℕ) → is_shaped nested id ≡ true → is_wide id ≡ nested
wide_by true id h = h
wide_by false id h = narrow_not_wide (is_wide id) refl
  where
    first_true : (a b : Bool) → (a && b) ≡ true → a ≡ true
    first_true true b e = refl
    first_true false b e = cc

    narrow_not_wide : (b : Bool) → is_wide id ≡ b → is_wide id ≡ false
    narrow_not_wide true e =
        let wide : is_narrow (id / 0x10_0000_0000_0000) ≡ true = first_true (is_narrow (id / 0x10_0000_0000_0000)) (is_narrow (id % 0x10_0000_0000_0000)) e in
        let from = (narrow_facts (id / 0x10_0000_0000_0000) wide).from in
        let to = (narrow_facts id h).to in
        absurd (omega (arith, from, to))
    narrow_not_wide false e = e

pub shaped_from : (nested : Bool) (id m : ℕ) → is_id_of id m ≡ true → is_wide id ≡ nested → is_shaped nested id ≡ true
shaped_from true id m one wide = wide
shaped_from false id m one wide = left (is_narrow id) (is_wide id) (id % 64 == m) one wide
  where
    left : (a b c : Bool) → ((a || b) && c) ≡ true → b ≡ false → a ≡ true
    left true b c h e = refl
    left false true c h e = cc
    left false false c h e = cc
