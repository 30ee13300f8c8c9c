-- What an assignment shows of the rows of one record.
use Rattle.std.proofs.Common.{◌≡◌, refl, ap, sym, ◌∙◌, ℕ, ◌==◌, Bool, true, false, ◌&&◌, List, [], ◌∷◌, if◌then◌else◌, map, Option, Some, None, slice_get}
use Rattle.std.specs.Option.{option_map}
use Rattle.std.proofs.lemmas.Option.{slice_get-map}
use Rattle.jac_world.specs.World.{holds}
use Rattle.jac_rows.specs.declared.row.Row.{Row}
use Rattle.jac_rows.specs.Project.{rows_at}
use Rattle.jac_rows.specs.Tables.{rows_of, rows_or_none}
use Rattle.jac_keep.specs.Records.{alternatives}
use Rattle.jac_plain.specs.World.{record_with}
use Rattle.jac_shown_rows.specs.Seen.{seen_row}

or_none-map : (w : ℕ → Bool) (o : Option (List Row)) → rows_or_none (option_map (rows_at w) o) ≡ rows_at w (rows_or_none o)
or_none-map w None = refl
or_none-map w (Some t) = refl

-- The table of a model, projected.
pub rows_of-project : (w : ℕ → Bool) (tables : List (List Row)) (m : ℕ) → rows_of (map (rows_at w) tables) m ≡ rows_at w (rows_of tables m)
rows_of-project w tables m = ap rows_or_none (slice_get-map (rows_at w) tables m) ∙ or_none-map w (slice_get tables m)

-- If the first row is of the id and is shown, it is the record. Otherwise the record is among the
-- other rows.
pub first_if : (w : ℕ → Bool) (id : ℕ) (r : Row) (rows : List Row) (same held : Bool) → (r.id == id) ≡ same → holds w r.guard ≡ held →
    record_with id (rows_at w (r ∷ rows)) ≡ (if same && held then Some (seen_row r) else record_with id (rows_at w rows))
first_if w id r rows true true e h = rw (h, e) refl
first_if w id r rows true false e h = rw h refl
first_if w id r rows false true e h = rw (h, e) refl
first_if w id r rows false false e h = rw h refl

alternative_if : (w : ℕ → Bool) (id : ℕ) (r : Row) (alts rows : List Row) (same held : Bool) → (r.id == id) ≡ same → holds w r.guard ≡ held →
    record_with id (rows_at w alts) ≡ record_with id (rows_at w rows) →
    record_with id (rows_at w (if same then r ∷ alts else alts)) ≡ record_with id (rows_at w (r ∷ rows))
alternative_if w id r alts rows true held e h same = first_if w id r alts true held e h ∙ step held ∙ sym (first_if w id r rows true held e h)
  where
    step : (b : Bool) → (if b then Some (seen_row r) else record_with id (rows_at w alts)) ≡ (if b then Some (seen_row r) else record_with id (rows_at w rows))
    step true = refl
    step false = same
alternative_if w id r alts rows false held e h same = same ∙ sym (first_if w id r rows false held e h)

-- A record is read from its alternatives.
pub record-is : (w : ℕ → Bool) (id : ℕ) (rows : List Row) → record_with id (rows_at w (alternatives id rows)) ≡ record_with id (rows_at w rows)
record-is w id [] = refl
record-is w id (r ∷ rows) = alternative_if w id r (alternatives id rows) rows (r.id == id) (holds w r.guard) refl refl (record-is w id rows)

pub record_of_alternatives : (w : ℕ → Bool) (id m : ℕ) (tables : List (List Row)) (rows : List Row) → rows ≡ alternatives id (rows_of tables m) →
    record_with id (rows_at w rows) ≡ record_with id (rows_of (map (rows_at w) tables) m)
record_of_alternatives w id m tables rows e =
    ap (λ rs. record_with id (rows_at w rs)) e
    ∙ record-is w id (rows_of tables m)
    ∙ ap (record_with id) (sym (rows_of-project w tables m))

pub record_of_table : (w : ℕ → Bool) (id m : ℕ) (tables : List (List Row)) (rows : List Row) → rows ≡ rows_of tables m →
    record_with id (rows_at w rows) ≡ record_with id (rows_of (map (rows_at w) tables) m)
record_of_table w id m tables rows e =
    ap (λ rs. record_with id (rows_at w rs)) e ∙ ap (record_with id) (sym (rows_of-project w tables m))
