-- What a work reads and writes, over the keeper's tables and the replaced records.
use Rattle.std.proofs.Common.{◌≡◌, ℕ, ◌+◌, List, [], ◌∷◌, Some, None, length, unwrap_or, refl, sym, ◌∙◌, ap}
use Rattle.jac_value.specs.Ids.{model_of_id}
use Rattle.jac_rows.specs.declared.row.Row.{Row}
use Rattle.jac_keep.specs.declared.alteration.Alteration.{Alteration}
use Rattle.jac_keep.specs.Records.{alternatives, AreOf}
use Rattle.jac_rows.specs.Tables.{rows_of}
use Rattle.jac_keep.specs.Alterations.{AreApart, alternatives_named, with_alteration, altered_rows, overlaid_from, overlaid, ArePlaced}
use Rattle.jac_keep.proofs.AlteringLaws.{rows_of-overlaid, alternatives-altered, overlaid_from-renamed}

-- All rows of a model.
pub rows_read : (model : ℕ) (over : List Alteration) (tables : List (List Row)) (base rows : List Row) → ArePlaced over (length tables)
    → base ≡ rows_of tables model → rows ≡ altered_rows model over base → rows ≡ rows_of (overlaid over tables) model
rows_read model over tables base rows placed is_base is_rows =
    is_rows ∙ ap (altered_rows model over) is_base ∙ sym (rows_of-overlaid model over tables placed)

pub one_read : (id : ℕ) (over : List Alteration) (tables : List (List Row)) → ArePlaced over (length tables) → AreApart over
    → unwrap_or (alternatives_named id over) (alternatives id (rows_of tables (model_of_id id))) ≡ alternatives id (rows_of (overlaid over tables) (model_of_id id))
one_read id over tables placed apart =
    sym (alternatives-altered id over (rows_of tables (model_of_id id)) apart.rising apart.own)
    ∙ ap (alternatives id) (sym (rows_of-overlaid (model_of_id id) over tables placed))

-- The alternatives of a record that was replaced.
pub named_read : (id : ℕ) (over : List Alteration) (tables : List (List Row)) (rows : List Row) → ArePlaced over (length tables) → AreApart over
    → Some rows ≡ alternatives_named id over → rows ≡ alternatives id (rows_of (overlaid over tables) (model_of_id id))
named_read id over tables rows placed apart is =
    ap (λ found. unwrap_or found (alternatives id (rows_of tables (model_of_id id)))) is ∙ one_read id over tables placed apart

-- The alternatives of a record that wasn't replaced.
pub other_read : (id : ℕ) (over : List Alteration) (tables : List (List Row)) (rows : List Row) → ArePlaced over (length tables) → AreApart over
    → None ≡ alternatives_named id over → rows ≡ alternatives id (rows_of tables (model_of_id id)) → rows ≡ alternatives id (rows_of (overlaid over tables) (model_of_id id))
other_read id over tables rows placed apart is is_rows =
    is_rows
    ∙ ap (λ found. unwrap_or found (alternatives id (rows_of tables (model_of_id id)))) is
    ∙ one_read id over tables placed apart

-- The tables after one more record is replaced.
pub replaced : (id : ℕ) (rows : List Row) (over : List Alteration) (tables : List (List Row)) → AreApart over → AreOf id rows
    → overlaid (with_alteration id rows over) tables ≡ overlaid (record { id = id; rows = rows } ∷ []) (overlaid over tables)
replaced id rows over tables apart own = overlaid_from-renamed 0 id rows over tables apart.rising apart.own own

overlaid_from_none : (model : ℕ) (tables : List (List Row)) → overlaid_from model [] tables ≡ tables
overlaid_from_none model [] = refl
overlaid_from_none model (t ∷ tables) = ap (λ ts. t ∷ ts) (overlaid_from_none (model + 1) tables)

-- If no record is replaced, the tables are the keeper's.
pub overlaid_none : (tables : List (List Row)) → overlaid [] tables ≡ tables
overlaid_none tables = overlaid_from_none 0 tables
