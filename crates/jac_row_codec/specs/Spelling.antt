-- The bytes of a stored row: those of its guard, and those of its cells.
use Rattle.std.specs.Prelude.{◌≡◌, ℕ, ◌<◌, ◌^◌, Bool, true, false, ⊤, List, [], ◌∷◌, ◌++◌, length, Some, None}
use Rattle.std.specs.Int.{w64, w128, to_be_bytes, cast_unsigned}
use Rattle.std.proofs.Common.{SFits}
use Rattle.std.specs.List.{AllByRecursion}
use Rattle.std.specs.Str.{IsUtf8}
use Rattle.jac_value.specs.declared.value.Kind.{Kind}
use Rattle.jac_value.specs.declared.value.Value.{Value}
use Rattle.jac_value.specs.declared.value.Value.TheVariants.{Int, Text, Bool as Truth, Ref}
use Rattle.jac_world.specs.World.{IsRising}
use Rattle.jac_rows.specs.Good.{have_kinds}

-- The byte of a truth value.
abbrev pub sign_byte : Bool → ℕ
sign_byte false = 0
sign_byte true = 1

-- For each label of the guard its 16 bytes, and whether it is shown.
abbrev pub guard_bytes : List (ℕ × Bool) → List ℕ
guard_bytes [] = []
guard_bytes (p ∷ ps) = to_be_bytes w128 p.0 ++ (sign_byte p.1 ∷ guard_bytes ps)

-- A tag, and then the value. A text comes after its length.
abbrev pub cell_bytes : Value → List ℕ
cell_bytes (Int i) = 1 ∷ to_be_bytes w64 (cast_unsigned w64 i)
cell_bytes (Text t) = 2 ∷ (to_be_bytes w64 (length t) ++ t)
cell_bytes (Truth b) = 3 ∷ (sign_byte b ∷ [])
cell_bytes (Ref None) = 4 ∷ (0 ∷ [])
cell_bytes (Ref (Some id)) = 4 ∷ (1 ∷ to_be_bytes w128 id)

abbrev pub cells_bytes : List Value → List ℕ
cells_bytes [] = []
cells_bytes (v ∷ vs) = cell_bytes v ++ cells_bytes vs

-- A label is a number of 128 bits.
abbrev pub IsLabel : ℕ × Bool → Type 0
IsLabel p = p.0 < 2 ^ 128

-- An integer has 64 bits. A text is UTF-8 (RFC 3629), and its length is a number of 64 bits.
abbrev pub IsCell : Value → Type 0
IsCell (Int i) = SFits w64 i
IsCell (Text t) = IsUtf8 t × (length t < 2 ^ 64)
IsCell (Truth b) = ⊤
IsCell (Ref id) = ⊤

-- The id in a reference is a number of 128 bits.
abbrev pub IsNarrow : Value → Type 0
IsNarrow (Int i) = ⊤
IsNarrow (Text t) = ⊤
IsNarrow (Truth b) = ⊤
IsNarrow (Ref None) = ⊤
IsNarrow (Ref (Some id)) = id < 2 ^ 128

-- The pairs of a guard: their labels have 128 bits and rise.
pub record IsGuard (g : List (ℕ × Bool)) : Type 0 where
  pub rising : IsRising g
  pub labels : AllByRecursion IsLabel g

-- The cells have these kinds, and each reference has an id of its kind's model.
pub record AreCells (kinds : List Kind) (cells : List Value) : Type 0 where
  pub fit : have_kinds kinds cells ≡ true
  pub each : AllByRecursion IsCell cells

-- The right spellings.
abbrev pub SpellsGuard : List ℕ → Type 0
SpellsGuard bytes = (g : List (ℕ × Bool)) × IsGuard g × (bytes ≡ guard_bytes g)

abbrev pub SpellsCells : List Kind → List ℕ → Type 0
SpellsCells kinds bytes = (cells : List Value) × AreCells kinds cells × (bytes ≡ cells_bytes cells)
