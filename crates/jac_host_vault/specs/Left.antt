-- What is left of a store's file that wasn't attached.
use Rattle.std.specs.Prelude.{◌≡◌, ◌⊎◌, ℕ, List, Some, None, IsSomeAnd}
use Rattle.sqlite_trees.specs.declared.store.Store.{Ghosts}
use Rattle.sqlite.specs.Held.{Held}
use Rattle.jac_io.specs.Faults.{Rose}
use Rattle.jac_sqlkeep.specs.Based.{Based}
use Rattle.jac_sqlkeep.specs.Kept.{Kept, HasStore, StoodAs}
use Rattle.jac_host_vault.specs.Content.{IsFileOf}

-- An attached file, over the only connection that its opener gave.
abbrev pub IsOnlyFile : List ℕ → Kept → Type 0
IsOnlyFile schema k = (k.given ≡ 1) × IsFileOf schema k

-- A refused file: the only connection that its opener gave is left as it was.
abbrev pub IsOnlyRefused : {S : Type 0} → Ghosts S → (Held S → Type 0) → Kept → Type 0
IsOnlyRefused g Gives k = (k.given ≡ 1) × IsSomeAnd k.refused (StoodAs g Gives)

-- A file that wasn't attached is left as its opener gave it. If another schema is known, it is a
-- store with this schema. If no schema is known and a fault was counted, either the file was opened
-- and refused, or it wasn't opened. If no schema is known and no fault was counted, memory ran out,
-- after the file was opened or before. No file was opened twice.
pub record IsFileLeft {S : Type 0} (g : Ghosts S) (Gives : Held S → Type 0) (k : Kept) : Type 0
  where
    pub other : (stored : List ℕ) → k.store.schema ≡ Some stored → (k.given ≡ 1)
        × IsSomeAnd k.refused (λ (b : Based). StoodAs g Gives b × HasStore stored b)
    pub failed : k.store.schema ≡ None → Rose 0 k.faults
        → ((k.given ≡ 0) × Rose 0 k.unopened) ⊎ IsOnlyRefused g Gives k
    pub stopped : k.store.schema ≡ None → k.faults ≡ 0
        → ((k.given ≡ 0) × (k.refused ≡ None)) ⊎ IsOnlyRefused g Gives k
