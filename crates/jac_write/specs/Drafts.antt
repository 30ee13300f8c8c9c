-- Steps on the way to what a write leaves.
use Rattle.std.specs.Prelude.{◌≡◌, ℕ, ◌&&◌, Bool, false, not, if◌then◌else◌, List, [], ◌∷◌, ◌++◌, slice_set, Option, Some, None}
use Rattle.jac_value.specs.declared.value.Value.{Value}
use Rattle.jac_world.specs.World.{holds}
use Rattle.jac_lang.specs.Syntax.{Entity}
use Rattle.jac_plain.specs.Records.{every_field, is_hidden, public_cell}
use Rattle.jac_write.specs.declared.cells.Spot.{Spot}
use Rattle.jac_write.specs.declared.cells.Spot.TheVariants.{Behind, At}
use Rattle.jac_write.specs.declared.named.Named.{Named}
use Rattle.jac_write.specs.declared.named.Named.TheVariants.{Every, Set, From}
use Rattle.jac_write.specs.Regrouped.{is_guarded_from}
use Rattle.jac_write.specs.Writes.{is_put, sets_at}

-- The cells with the value in its spot.
abbrev pub with_cell : Spot → Value → List Value → List Value
with_cell Behind v cells = cells ++ v ∷ []
with_cell (At f) v cells = slice_set cells f v

-- The cells with the value of each leaf with a guard that holds.
abbrev pub with_each : (ℕ → Bool) → Spot → List Value → List (List (ℕ × Bool) × Value)
    → List (List Value)
with_each w spot cells [] = []
with_each w spot cells (p ∷ leaves) = (if holds w p.0 then with_cell spot p.1 cells ∷ [] else [])
    ++ with_each w spot cells leaves

-- The fields that a write names.
abbrev pub named_by : List Entity → ℕ → (ℕ → Bool) → Named → ℕ → Bool
named_by models m w Every = every_field
named_by models m w (Set sets) = is_put (sets_at w sets.now)
named_by models m w (From first) = is_guarded_from models m first

-- Whether there is a label, and it is hidden.
abbrev pub hides : (ℕ → Bool) → Option ℕ → Bool
hides w None = false
hides w (Some label) = not (w label)

-- The guard holds if the path condition holds and the record is kept. If there is no guard, the two
-- never hold together.
abbrev pub IsKeptUnder : ((ℕ → Bool) → Bool) → List (ℕ × Bool) → Option (List (ℕ × Bool)) → Type 0
IsKeptUnder kept pc None = (w : ℕ → Bool) → (holds w pc && kept w) ≡ false
IsKeptUnder kept pc (Some guard) = (w : ℕ → Bool) → holds w guard ≡ (holds w pc && kept w)

-- The cell that is stored for a cell of a draft.
abbrev pub stored_at : List Entity → (ℕ → Bool) → ℕ → ℕ → (ℕ → Bool) → List Value → ℕ → Value
    → Value
stored_at models w m id named draft f cell = if named f && is_hidden models w m id f
    then public_cell models m id draft f cell else cell
