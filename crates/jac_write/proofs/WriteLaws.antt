-- A record that is created beside existing alternatives, and a record with changed cells.
use Rattle.std.proofs.Common.{◌≡◌, ◌∙◌, sym, subst, refl, ap, arith, ℕ, ◌<◌, ◌≤◌, ◌==◌, Bool, true, false, if◌then◌else◌, List, [], ◌∷◌, ◌++◌, append-nil, All, map, length, Option, Some}
use Rattle.std.proofs.lemmas.Bool.Decides.{nat_tests}
use Rattle.std.proofs.lemmas.List.{length-map}
use Rattle.std.specs.Prelude.{slice_set}
use Rattle.jac_value.specs.Ids.{model_of_id, number_of_id, is_id_of}
use Rattle.jac_value.specs.declared.value.Value.{Value}
use Rattle.jac_world.specs.World.{holds}
use Rattle.jac_rows.specs.Good.{IsMade, IsSound}
use Rattle.jac_rows.specs.Project.{rows_at, project_at}
use Rattle.jac_rows.specs.Tables.{rows_of}
use Rattle.jac_rows.specs.declared.plain.PlainRow.{PlainRow}
use Rattle.jac_rows.specs.declared.row.Row.{Row}
use Rattle.jac_rows.specs.declared.state.State.{State}
use Rattle.jac_plain.specs.Expressions.{stands}
use Rattle.jac_plain.specs.Records.{plain_row, with_ids, with_row}
use Rattle.jac_plain.specs.World.{record_with}
use Rattle.jac_keep.proofs.AlteringLaws.{are_of}
use Rattle.jac_keep.specs.ChangedState.{state_with}
use Rattle.jac_keep.specs.Records.{alternatives}
use Rattle.jac_write.specs.Writes.{numbered_tables, Written, cells_at}
use Rattle.jac_write.proofs.RecordLaws.{ShowCells, SoundLaw, cells, cells_shown, record_made, shown_rows, shows_put, step_with_row, written}

absent_if : (b : Bool) (r : PlainRow) (found : Option PlainRow) (rows : List PlainRow) → stands (if b then Some r else found) ≡ false → (stands found ≡ false → rows ≡ [])
    → (if b then r ∷ rows else rows) ≡ []
absent_if true r found rows e h = cc
absent_if false r found rows e h = h e

none_with : (id : ℕ) (rows : List PlainRow) → stands (record_with id rows) ≡ false → with_ids (λ i. i == id) rows ≡ []
none_with id [] e = refl
none_with id (r ∷ rows) e = absent_if (r.id == id) r (record_with id rows) (with_ids (λ i. i == id) rows) e (none_with id rows)

-- A record that doesn't exist has no cells.
no_cells : (w : ℕ → Bool) (id m : ℕ) (s : State) → stands (record_with id (rows_of (project_at w s).tables m)) ≡ false → cells_at w (alternatives id (rows_of s.tables m)) ≡ []
no_cells w id m s e =
    let here : stands (record_with id (rows_at w (rows_of s.tables m))) ≡ false = subst (λ rows. stands (record_with id rows) ≡ false) (shown_rows w m s.tables) e in
    cells_shown w id (rows_of s.tables m) ∙ ap (map cells) (none_with id (rows_at w (rows_of s.tables m)) here)

added_if : (b : Bool) (new : List Value) (old : List (List Value)) → (b ≡ true → old ≡ []) → old ++ (if b then new ∷ [] else []) ≡ (if b then new ∷ [] else old)
added_if true new old h = ap (λ cs. cs ++ new ∷ []) (h refl)
added_if false new old h = append-nil old

made_by : (m n id : ℕ) → is_id_of id m ≡ true → number_of_id id < n → IsMade m n id
made_by m n id fits before =
    let model : model_of_id id ≡ m = grind (arith, nat_tests, fits) in
    let some : 0 < number_of_id id = grind (arith, nat_tests, fits) in
    record { of_model = model; is_one = fits; numbered = some; made = before }

-- A new record beside existing alternatives. None of these holds where the new record does.
pub created : SoundLaw → (n id m : ℕ) (old mid new : State) (pc : List (ℕ × Bool)) (rows given all put : List Row) (made : (ℕ → Bool) → List Value)
    → number_of_id id < n → is_id_of id m ≡ true → ((w : ℕ → Bool) → holds w pc ≡ true → stands (record_with id (rows_of (project_at w old).tables m)) ≡ false)
    → IsSound (numbered_tables n old) → rows ≡ alternatives id (rows_of old.tables m) → given ≡ rows
    → All (λ (r : Row). r.id ≡ id) put
    → ((w : ℕ → Bool) → cells_at w all ≡ cells_at w given ++ (if holds w pc then made w ∷ [] else []))
    → ShowCells all put → mid ≡ old → new ≡ state_with id put mid
    → Written n (λ w ts. slice_set ts m (with_row (plain_row id (made w)) (rows_of ts m))) pc old new
created law n id m old mid new pc rows given all put made before fits fresh sound exact read own shows put_shows same done =
    let model : model_of_id id ≡ m = grind (arith, nat_tests, fits) in
    let from : given ≡ alternatives id (rows_of old.tables m) = read ∙ exact in
    let state : new ≡ state_with id put old = done ∙ ap (state_with id put) same in
    let one : (w : ℕ → Bool) (cs : List (List Value)) → length cs ≤ 1 → length (made w ∷ []) ≤ 1 = λ w cs few. omega arith in
    subst (λ s. Written n (λ w ts. slice_set ts m (with_row (plain_row id (made w)) (rows_of ts m))) pc old s) (sym state)
    (written law n id m old pc put (λ w cs. made w ∷ []) (λ w. with_row (plain_row id (made w))) sound model (made_by m n id fits before) (are_of id put own)
    (shows_put n id m old pc all put (λ w cs. made w ∷ []) sound
    (λ w. shows w ∙ ap (λ rs. cells_at w rs ++ (if holds w pc then made w ∷ [] else [])) from
    ∙ added_if (holds w pc) (made w) (cells_at w (alternatives id (rows_of old.tables m))) (λ held. no_cells w id m old (fresh w held))) one put_shows)
    one (λ w. step_with_row id (made w)))

map_both : (put store : List Value → List Value) (cs : List (List Value)) → map store (map put cs) ≡ map (λ c. store (put c)) cs
map_both put store [] = refl
map_both put store (c ∷ cs) = ap (λ l. store (put c) ∷ l) (map_both put store cs)

remade_if : (b : Bool) (put store : List Value → List Value) (cs : List (List Value)) → (if b then [] else cs) ++ map store (map put (if b then cs else [])) ≡ (if b then map (λ c. store (put c)) cs else cs)
remade_if true put store cs = map_both put store cs
remade_if false put store cs = append-nil cs

-- The alternatives where a guard doesn't hold, and those where it holds, as they are stored after
-- the sets.
pub remade : (w : ℕ → Bool) (guard : List (ℕ × Bool)) (put store : List Value → List Value) (old outside within drafts new : List (List Value))
    → outside ≡ (if holds w guard then [] else old) → within ≡ (if holds w guard then old else []) → drafts ≡ map put within → new ≡ outside ++ map store drafts
    → new ≡ (if holds w guard then map (λ c. store (put c)) old else old)
remade w guard put store old outside within drafts new out into is all =
    all
    ∙ ap (λ cs. cs ++ map store drafts) out
    ∙ ap (λ cs. (if holds w guard then [] else old) ++ map store cs) (is ∙ ap (map put) into)
    ∙ remade_if (holds w guard) put store old

not_both : (b : Bool) → b ≡ false → b ≡ true → ⊥
not_both b f t = cc

none_by : (n m id : ℕ) (s : State) (rows : List Row) → rows ≡ alternatives id (rows_of s.tables m) → IsSound (numbered_tables n s) → is_id_of id m ≡ false → rows ≡ []
none_by n m id s [] e sound other = refl
none_by n m id s (r ∷ rows) e sound other = absurd (not_both (is_id_of id m) other (record_made n m id s r rows sound (sym e)).is_one)

-- If a number isn't an id of the model, the model's table has no alternatives of it.
pub no_record : (n m id : ℕ) (s : State) → IsSound (numbered_tables n s) → is_id_of id m ≡ false → alternatives id (rows_of s.tables m) ≡ []
no_record n m id s sound other = none_by n m id s (alternatives id (rows_of s.tables m)) refl sound other

pub few_mapped : (f : List Value → List Value) (cs : List (List Value)) → length cs ≤ 1 → length (map f cs) ≤ 1
few_mapped f cs h = rw (length-map cs f) h
