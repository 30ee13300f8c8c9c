-- The tables of a sound state can be stored, and ids in cells of known kinds fit into 16 bytes.
use Rattle.std.proofs.Common.{◌≡◌, refl, sym, ap, ℕ, zero, suc, ◌+◌, ◌^◌, ◌<◌, Bool, true, false, ◌&&◌, List, [], ◌∷◌, Some, None, arith}
use Rattle.std.specs.List.{AllByRecursion}
use Rattle.std.proofs.lemmas.Bool.{and_parts}
use Rattle.jac_value.specs.Ids.{is_id_of}
use Rattle.jac_value.specs.Values.{has_kind}
use Rattle.jac_value.specs.declared.value.Kind.{Kind}
use Rattle.jac_value.specs.declared.value.Kind.TheVariants as kinds
use Rattle.jac_value.specs.declared.value.Value.{Value}
use Rattle.jac_value.specs.declared.value.Value.TheVariants as values
use Rattle.jac_rows.specs.declared.row.Row.{Row}
use Rattle.jac_rows.specs.declared.state.State.{State}
use Rattle.jac_rows.specs.Tables.{rows_of}
use Rattle.jac_rows.specs.Good.{have_kinds, IsMade, AreSound, IsSound}
use Rattle.jac_row_codec.proofs.IdParts.{id_parts}
use Rattle.jac_keep.proofs.OrderLaws.{ordered_if_rising}
use Rattle.jac_sql_spec.specs.Facts.{IsPlaced, ArePlacedFrom, AreKept}
use Rattle.jac_sql_spec.specs.Spelled.{IsSpelled}
use Rattle.jac_sql_spec.specs.Told.{AreSpelled}
use Rattle.jac_row_codec.specs.Spelling.{IsNarrow}

-- An id, narrow or wide, fits into 16 bytes.
pub id_room : (id model : ℕ) → is_id_of id model ≡ true → id < 2 ^ 128
id_room id model is = let to = (id_parts id model is).to in omega (arith, to)

made_placed : (model next : ℕ) (r : Row) → IsMade model next r.id → IsPlaced model r
made_placed model next r made = record { of_model = made.of_model; room = id_room r.id model made.is_one }

all_placed : (model next : ℕ) (rows : List Row) → AllByRecursion (λ (r : Row). IsMade model next r.id) rows → AllByRecursion (IsPlaced model) rows
all_placed model next [] all = tt
all_placed model next (r ∷ rs) all = (made_placed model next r all.0, all_placed model next rs all.1)

tables_placed : (first next : ℕ) (tables : List (List Row)) → AreSound next first tables → ArePlacedFrom first tables
tables_placed first next [] sound = tt
tables_placed first next (t ∷ ts) sound = (ordered_if_rising t sound.0, all_placed first next t sound.1, tables_placed (first + 1) next ts sound.2)

pub kept_if_sound : (s : State) → IsSound s → AreKept s.tables
kept_if_sound s sound = tables_placed 0 s.number s.tables sound.tables

pub rows_spelled : (tables : List (List Row)) (k : ℕ) → AreSpelled tables → AllByRecursion IsSpelled (rows_of tables k)
rows_spelled [] zero are = tt
rows_spelled [] (suc k) are = tt
rows_spelled (t ∷ ts) zero are = are.0
rows_spelled (t ∷ ts) (suc k) are = rows_spelled ts k are.1

narrow_cell : (k : Kind) (v : Value) → has_kind k v ≡ true → IsNarrow v
narrow_cell k (values.Int i) e = tt
narrow_cell k (values.Text t) e = tt
narrow_cell k (values.Bool b) e = tt
narrow_cell k (values.Ref None) e = tt
narrow_cell (kinds.Ref m) (values.Ref (Some id)) e = id_room id m e
narrow_cell kinds.Int (values.Ref (Some id)) e = let f : false ≡ true = e in cc
narrow_cell kinds.Text (values.Ref (Some id)) e = let f : false ≡ true = e in cc
narrow_cell kinds.Bool (values.Ref (Some id)) e = let f : false ≡ true = e in cc

pub narrow_cells : (ks : List Kind) (vs : List Value) → have_kinds ks vs ≡ true → AllByRecursion IsNarrow vs
narrow_cells [] [] e = tt
narrow_cells [] (v ∷ vs) e = let f : false ≡ true = e in cc
narrow_cells (k ∷ ks) [] e = tt
narrow_cells (k ∷ ks) (v ∷ vs) e = let parts = and_parts (has_kind k v) (have_kinds ks vs) e in (narrow_cell k v parts.0, narrow_cells ks vs parts.1)
