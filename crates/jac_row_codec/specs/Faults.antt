-- The place of the first fault in bytes that don't encode a guard or cells.
use Rattle.std.specs.Prelude.{◌≡◌, ℕ, ◌<◌, ◌≤◌, true, List, ◌++◌, length, take}
use Rattle.std.specs.Int.{w128, to_be_bytes}
use Rattle.std.specs.List.{AllByRecursion}
use Rattle.jac_value.specs.Ids.{is_id_of}
use Rattle.jac_value.specs.declared.value.Kind.{Kind}
use Rattle.jac_rows.specs.declared.row.Row.{Row}
use Rattle.jac_row_codec.specs.Spelling.{SpellsGuard, SpellsCells, IsGuard, IsCell, IsNarrow, AreCells, guard_bytes, cells_bytes}

-- The bytes can go on to a right spelling.
abbrev pub GoesOn : (List ℕ → Type 0) → List ℕ → Type 0
GoesOn Spells front = (more : List ℕ) × Spells (front ++ more)

-- The bytes are no right spelling. The longest beginning that can go on to one has the length `at`.
pub record IsFault (Spells : List ℕ → Type 0) (bytes : List ℕ) (at : ℕ) : Type 0 where
  pub wrong : ¬ (Spells bytes)
  pub within : at ≤ length bytes
  pub front : GoesOn Spells (take at bytes)
  pub longest : (n : ℕ) → at < n → n ≤ length bytes → ¬ (GoesOn Spells (take n bytes))

abbrev pub IsGuardFault : List ℕ → ℕ → Type 0
IsGuardFault = IsFault SpellsGuard

abbrev pub IsBodyFault : List Kind → List ℕ → ℕ → Type 0
IsBodyFault kinds = IsFault (SpellsCells kinds)

-- A row that can be spelled, whatever the kinds of its cells.
pub record CanBeSpelled (row : Row) : Type 0 where
  pub guard : IsGuard row.guard
  pub cells : AllByRecursion IsCell row.cells
  pub narrow : AllByRecursion IsNarrow row.cells

-- The row that the bytes spell.
pub record IsRowOf (id : ℕ) (kinds : List Kind) (jvars body : List ℕ) (row : Row) : Type 0 where
  pub same_id : row.id ≡ id
  pub guard : IsGuard row.guard
  pub jvars_spelled : jvars ≡ guard_bytes row.guard
  pub cells : AreCells kinds row.cells
  pub body_spelled : body ≡ cells_bytes row.cells

-- A fault of the cells. It is reported only if the guard is right.
pub record IsFaultBehindGuard (kinds : List Kind) (jvars body : List ℕ) (at : ℕ) : Type 0 where
  pub guard : SpellsGuard jvars
  pub cells : IsBodyFault kinds body at

-- The id of this model that these 16 bytes spell.
pub record IsIdOf (bytes : List ℕ) (model id : ℕ) : Type 0 where
  pub of_model : is_id_of id model ≡ true
  pub spelled : bytes ≡ to_be_bytes w128 id
