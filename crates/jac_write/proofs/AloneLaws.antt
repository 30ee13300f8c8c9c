-- A state with one record.
use Rattle.std.proofs.Common.{◌≡◌, ◌∙◌, sym, subst, refl, ap, arith, zero, suc, ℕ, ◌+◌, ◌-◌, ◌<◌, ◌^◌, Bool, true, List, [], ◌∷◌, ◌++◌, map}
use Rattle.std.proofs.lemmas.Bool.Decides.{nat_tests}
use Rattle.std.proofs.lemmas.List.{append_assoc}
use Rattle.jac_value.specs.Ids.{model_of_id, number_of_id, is_id_of}
use Rattle.jac_rows.specs.Good.{IsMade, AreSound, IsSound}
use Rattle.jac_rows.specs.Project.{rows_at}
use Rattle.jac_rows.specs.declared.row.Row.{Row}
use Rattle.jac_plain.specs.Records.{alone, plain_row}
use Rattle.jac_write.specs.Writes.{only}

only_more : (m : ℕ) (row : Row) → 0 < m → only m row ≡ [] ∷ only (m - 1) row
only_more zero row h = absurd (omega (arith, h))
only_more (suc m) row h =
    let less : suc m - 1 ≡ m = omega arith in
    rw less refl

sound_from : (n k i m : ℕ) (row : Row) → m ≡ k + i → IsMade m n row.id → AreSound n k (only i row)
sound_from n k zero m row e made =
    let here : m ≡ k = omega (arith, e) in
    ((tt, tt), (subst (λ j. IsMade j n row.id) here made, tt), tt)
sound_from n k (suc i) m row e made = (tt, tt, sound_from n (k + 1) i m row (omega (arith, e)) made)

-- A state with one record is sound, if the id is one of its model.
pub sound_alone : (m id n : ℕ) (row : Row) → row.id ≡ id → is_id_of id m ≡ true → n ≡ number_of_id id + 1 → IsSound (record { tables = only m row; number = n })
sound_alone m id n row is fits next =
    let model : model_of_id id ≡ m = grind (arith, nat_tests, fits) in
    let some : 0 < number_of_id id = grind (arith, nat_tests, fits) in
    let few : number_of_id id < 2 ^ 40 = omega arith in
    let made : IsMade m n id = record { of_model = model; is_one = fits; numbered = some; made = omega (arith, next) } in
    record {
      next = (omega (arith, next), omega (arith, next, few));
      tables = sound_from n 0 m m row (omega arith) (subst (λ i. IsMade m n i) (sym is) made);
    }

-- What each assignment shows of it.
pub shown_alone : (w : ℕ → Bool) (m : ℕ) (row : Row) → row.guard ≡ [] → map (rows_at w) (only m row) ≡ alone m (plain_row row.id row.cells)
shown_alone w zero row h = rw h refl
shown_alone w (suc m) row h = ap (λ ts. [] ∷ ts) (shown_alone w m row h)

-- One more table without rows.
pub pushed : (items new : List (List Row)) (t : List Row) (m : ℕ) (row : Row) (all : List (List Row)) → new ≡ items ++ t ∷ [] → t ≡ [] → 0 < m → items ++ only m row ≡ all → new ++ only (m - 1) row ≡ all
pushed items new t m row all e none some before =
    ap (λ ts. ts ++ only (m - 1) row) (e ∙ ap (λ x. items ++ x ∷ []) none)
    ∙ append_assoc items ([] ∷ []) (only (m - 1) row)
    ∙ ap (λ ts. items ++ ts) (sym (only_more m row some))
    ∙ before
