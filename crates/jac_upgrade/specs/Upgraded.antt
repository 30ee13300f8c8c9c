-- The records after an upgrade, in one world.
use Rattle.std.specs.Prelude.{ℕ, ◌+◌, ◌-◌, zero, suc, Bool, if◌then◌else◌, List, [], ◌∷◌, ◌++◌, length, drop}
use Rattle.jac_value.specs.declared.value.Value.{Value}
use Rattle.jac_lang.specs.Lookup.{fields_at, groups_at}
use Rattle.jac_lang.specs.Syntax.{Entity}
use Rattle.jac_rows.specs.declared.plain.PlainRow.{PlainRow}
use Rattle.jac_rows.specs.declared.plain.PlainState.{PlainState}
use Rattle.jac_plain.specs.Records.{default_cells, plain_row, shielded_cells}
use Rattle.jac_write.specs.Regrouped.{is_guarded_from, stays}

-- The number of groups of the model. They come before the added ones.
abbrev pub group_count : List Entity → ℕ → ℕ
group_count models m = length (groups_at models m)

-- The cells, followed by the defaults of the fields that were added.
abbrev pub draft_of : List Entity → List Entity → ℕ → List Value → List Value
draft_of olds news m cells = cells ++ default_cells news (drop (length (fields_at olds m))
    (fields_at news m))

-- If the label of an added group isn't shown, the fields that it guards have their public values
-- instead of those of the draft.
abbrev pub upgraded_cells : (ℕ → Bool) → List Entity → List Entity → ℕ → ℕ → List Value → List Value
upgraded_cells w olds news m id cells =
    shielded_cells news w m id (is_guarded_from news m (group_count olds m))
    (draft_of olds news m cells)

abbrev pub upgraded_row : (ℕ → Bool) → List Entity → List Entity → ℕ → PlainRow → PlainRow
upgraded_row w olds news m r = plain_row r.id (upgraded_cells w olds news m r.id r.cells)

-- A record is left out if an added group hides it.
abbrev pub upgraded_rows : (ℕ → Bool) → List Entity → List Entity → ℕ → List PlainRow
    → List PlainRow
upgraded_rows w olds news m [] = []
upgraded_rows w olds news m (r ∷ rows) =
    if stays news w m r.id (group_count olds m)
    then upgraded_row w olds news m r ∷ upgraded_rows w olds news m rows
    else upgraded_rows w olds news m rows

-- The tables of the models from this one on.
abbrev pub upgraded_tables : (ℕ → Bool) → List Entity → List Entity → ℕ → List (List PlainRow)
    → List (List PlainRow)
upgraded_tables w olds news m [] = []
upgraded_tables w olds news m (t ∷ ts) = upgraded_rows w olds news m t ∷ upgraded_tables w olds news
    (m + 1) ts

abbrev pub empty_tables : ℕ → List (List PlainRow)
empty_tables zero = []
empty_tables (suc n) = [] ∷ empty_tables n

-- A model that was added has no records.
abbrev pub upgraded_state : (ℕ → Bool) → List Entity → List Entity → PlainState → PlainState
upgraded_state w olds news t = record {
  tables = upgraded_tables w olds news 0 t.tables ++ empty_tables (length news - length t.tables);
  number = t.number;
}
