-- Alternatives that answer alike.
use Rattle.std.proofs.Common.{◌≡◌, refl, ap, sym, ◌∙◌, ℕ, ◌==◌, Bool, true, false, ◌&&◌, if◌then◌else◌, List, [], ◌∷◌, ◌++◌, append_assoc, map, Option, Some, None}
use Rattle.std.specs.Option.{option_map}
use Rattle.jac_value.specs.declared.value.Value.{Value}
use Rattle.jac_world.specs.World.{holds}
use Rattle.jac_rows.specs.declared.row.Row.{Row}
use Rattle.jac_rows.specs.declared.plain.PlainRow.{PlainRow}
use Rattle.jac_rows.specs.Project.{rows_at}
use Rattle.jac_plain.specs.World.{record_with}
use Rattle.jac_shown_rows.specs.Alike.{asked_alternative, asked_at, asked_where}
use Rattle.jac_shown_rows.specs.Seen.{seen_row}
use Rattle.jac_shown_rows.specs.RecordIds.{row_ids}

abbrev ids_of_asked : List (ℕ × Option Value) → List ℕ
ids_of_asked asked = map (λ p. p.0) asked

id_if : (b : Bool) (id : ℕ) (rest : List (ℕ × Option Value)) → ids_of_asked ((if b then (id, None) ∷ [] else []) ++ rest) ≡ (if b then id ∷ [] else []) ++ ids_of_asked rest
id_if true id rest = refl
id_if false id rest = refl

row_ids_if : (b : Bool) (r : PlainRow) (rs : List PlainRow) → row_ids (if b then r ∷ rs else rs) ≡ (if b then r.id ∷ [] else []) ++ row_ids rs
row_ids_if true r rs = refl
row_ids_if false r rs = refl

ids_asked : (w : ℕ → Bool) (rows : List Row) → row_ids (rows_at w rows) ≡ ids_of_asked (asked_at w None rows)
ids_asked w [] = refl
ids_asked w (r ∷ rows) =
    row_ids_if (holds w r.guard) (seen_row r) (rows_at w rows)
    ∙ ap (λ l. (if holds w r.guard then r.id ∷ [] else []) ++ l) (ids_asked w rows)
    ∙ sym (id_if (holds w r.guard) r.id (asked_at w None rows))

-- The ids of the rows, if those at the front count as one.
pub ids_joined : (w : ℕ → Bool) (guard : List (ℕ × Bool)) (r : Row) (more behind : List Row) → asked_at w None (r ∷ more) ≡ asked_where w guard None r ++ asked_at w None behind →
    row_ids (rows_at w (r ∷ more)) ≡ (if holds w guard then r.id ∷ [] else []) ++ row_ids (rows_at w behind)
ids_joined w guard r more behind one =
    ids_asked w (r ∷ more)
    ∙ ap ids_of_asked one
    ∙ id_if (holds w guard) r.id (asked_at w None behind)
    ∙ ap (λ l. (if holds w guard then r.id ∷ [] else []) ++ l) (sym (ids_asked w behind))

-- The first one that is of the record.
abbrev first_of : ℕ → List (ℕ × Option Value) → Option (ℕ × Option Value)
first_of id [] = None
first_of id (p ∷ ps) = if p.0 == id then Some p else first_of id ps

-- The answer of the record with this id.
abbrev pub answer_of : Option ℕ → Option PlainRow → Option (ℕ × Option Value)
answer_of field o = option_map (λ (r : PlainRow). asked_alternative field r.id r.cells) o

asked_id : (field : Option ℕ) (id : ℕ) (cells : List Value) → (asked_alternative field id cells).0 ≡ id
asked_id None id cells = refl
asked_id (Some f) id cells = refl

first_if_asked : (held same : Bool) (id : ℕ) (field : Option ℕ) (r : PlainRow) (rs : List PlainRow) (rest : List (ℕ × Option Value)) → (r.id == id) ≡ same →
    answer_of field (record_with id rs) ≡ first_of id rest →
    answer_of field (record_with id (if held then r ∷ rs else rs)) ≡ first_of id ((if held then asked_alternative field r.id r.cells ∷ [] else []) ++ rest)
first_if_asked false same id field r rs rest e before = before
first_if_asked true true id field r rs rest e before = rw (asked_id field r.id r.cells, e) refl
first_if_asked true false id field r rs rest e before = rw (asked_id field r.id r.cells, e) before

answer_asked : (w : ℕ → Bool) (id : ℕ) (field : Option ℕ) (rows : List Row) → answer_of field (record_with id (rows_at w rows)) ≡ first_of id (asked_at w field rows)
answer_asked w id field [] = refl
answer_asked w id field (r ∷ rows) =
    first_if_asked (holds w r.guard) (r.id == id) id field (seen_row r) (rows_at w rows) (asked_at w field rows) refl (answer_asked w id field rows)

first_where : (held same : Bool) (id : ℕ) (field : Option ℕ) (r : Row) (rest : List (ℕ × Option Value)) → (r.id == id) ≡ same →
    first_of id ((if held then asked_alternative field r.id r.cells ∷ [] else []) ++ rest) ≡ (if same && held then Some (asked_alternative field r.id r.cells) else first_of id rest)
first_where false true id field r rest e = refl
first_where false false id field r rest e = refl
first_where true true id field r rest e = rw (asked_id field r.id r.cells, e) refl
first_where true false id field r rest e = rw (asked_id field r.id r.cells, e) refl

-- The record's answer, if the alternatives at the front count as one.
pub answer_joined : (w : ℕ → Bool) (id : ℕ) (field : Option ℕ) (guard : List (ℕ × Bool)) (r : Row) (more behind : List Row) →
    asked_at w field (r ∷ more) ≡ asked_where w guard field r ++ asked_at w field behind →
    answer_of field (record_with id (rows_at w (r ∷ more))) ≡
    (if (r.id == id) && holds w guard then Some (asked_alternative field r.id r.cells) else answer_of field (record_with id (rows_at w behind)))
answer_joined w id field guard r more behind one =
    answer_asked w id field (r ∷ more)
    ∙ ap (first_of id) one
    ∙ first_where (holds w guard) (r.id == id) id field r (asked_at w field behind) refl
    ∙ ap (λ o. if (r.id == id) && holds w guard then Some (asked_alternative field r.id r.cells) else o) (sym (answer_asked w id field behind))

-- What is passed over moves from what is left to what is done.
pub passed_on : (done new step left rest all : List ℕ) → left ≡ step ++ rest → new ≡ done ++ step → done ++ left ≡ all → new ++ rest ≡ all
passed_on done new step left rest all parted pushed so_far =
    ap (λ l. l ++ rest) pushed ∙ append_assoc done step rest ∙ ap (λ l. done ++ l) (sym parted) ∙ so_far
