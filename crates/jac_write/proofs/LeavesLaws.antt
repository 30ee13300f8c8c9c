-- A write for each leaf of a target.
use Rattle.std.proofs.Common.{◌≡◌, ◌∙◌, refl, ap, ℕ, Bool, true, false, if◌then◌else◌, List, [], ◌∷◌, length}
use Rattle.std.proofs.Common.{IsTrue, ◌<◌}
use Rattle.jac_value.specs.declared.value.Value.{Value}
use Rattle.jac_world.specs.World.{holds}
use Rattle.jac_facet.specs.Leaves.{leaves_seen}
use Rattle.jac_rows.specs.Good.{IsSound}
use Rattle.jac_rows.specs.Project.{project_at}
use Rattle.jac_rows.specs.declared.state.State.{State}
use Rattle.jac_keep.specs.KeeperSeen.{KeeperSeen, IsLeft}
use Rattle.jac_keep.specs.WorkState.{IsTold, state_of}
use Rattle.jac_keep.specs.declared.alteration.Alterations.{Alterations}
use Rattle.jac_keep.specs.declared.work.WorkOver.{WorkOver}
use Rattle.jac_write.specs.Writes.{KeepsOrMerges, PlainTables, numbered_tables, Written, Writes, WritesEach, StaysTold, tables_after_each}

-- What was written, followed by what is left to write, gives the whole result.
pub record WritingEach (n : ℕ) (step : (ℕ → Bool) → Value → PlainTables → PlainTables) (all left : List (List (ℕ × Bool) × Value)) (old now : State) : Type 0 where
  pub here : (w : ℕ → Bool) → tables_after_each (step w) (leaves_seen w left) (project_at w now).tables ≡ tables_after_each (step w) (leaves_seen w all) (project_at w old).tables
  pub sound : IsSound (numbered_tables n now)

abbrev pub IsWriting : ((ℕ → Bool) → Value → PlainTables → PlainTables) → List (List (ℕ × Bool) × Value) → List (List (ℕ × Bool) × Value) → State → State → Type 0
IsWriting step all left old now = (n : ℕ) → IsSound (numbered_tables n old) → WritingEach n step all left old now

-- A loop that writes through a work.
pub record LoopWrites {K : Type 0} (sight : K → KeeperSeen) (old now : WorkOver K Alterations) (model : ℕ) (writing : Type 0) : Type 0 where
  pub attached : IsTrue (sight now.keeper.now).store.attached
  pub a_table : IsTrue (sight now.keeper.now).tells → model < length (sight now.keeper.now).state.tables
  pub told : StaysTold sight old now
  pub keeper : IsLeft (sight old.keeper.now) (sight now.keeper.now)
  pub same_reference : now.keeper.ghost_name ≡ old.keeper.ghost_name
  pub step : IsTold sight now → writing
  pub merged : IsTold sight now → KeepsOrMerges (state_of sight old) (state_of sight now)

one_more : (step : Value → PlainTables → PlainTables) (b : Bool) (v : Value) (vs : List Value) (now next : PlainTables) → next ≡ (if b then step v now else now)
    → tables_after_each step vs next ≡ tables_after_each step (if b then v ∷ vs else vs) now
one_more step true v vs now next e = ap (tables_after_each step vs) e
one_more step false v vs now next e = ap (tables_after_each step vs) e

-- The write for one leaf.
pub write_next : (step : (ℕ → Bool) → Value → PlainTables → PlainTables) (all rest : List (List (ℕ × Bool) × Value)) (guard : List (ℕ × Bool)) (v : Value) (old now next : State)
    → IsWriting step all ((guard, v) ∷ rest) old now → Writes (λ w. step w v) guard now next → IsWriting step all rest old next
write_next step all rest guard v old now next before write n sound =
    let was : WritingEach n step all ((guard, v) ∷ rest) old now = before n sound in
    let is : Written n (λ w. step w v) guard now next = write n was.sound in
    record {
      here = λ w. one_more (step w) (holds w guard) v (leaves_seen w rest) (project_at w now).tables (project_at w next).tables (is.left w) ∙ was.here w;
      sound = is.sound;
    }

pub write_start : (step : (ℕ → Bool) → Value → PlainTables → PlainTables) (all : List (List (ℕ × Bool) × Value)) (old : State) → IsWriting step all all old old
write_start step all old n sound = record { here = λ w. refl; sound = sound }

pub write_end : (step : (ℕ → Bool) → Value → PlainTables → PlainTables) (all : List (List (ℕ × Bool) × Value)) (old new : State) → IsWriting step all [] old new → WritesEach step all old new
write_end step all old new done n sound = record { left = (done n sound).here; sound = (done n sound).sound }

one_if : (step : Value → PlainTables → PlainTables) (b : Bool) (v : Value) (tables : PlainTables) → tables_after_each step (if b then v ∷ [] else []) tables ≡ (if b then step v tables else tables)
one_if step true v tables = refl
one_if step false v tables = refl

-- If the path condition holds, exactly one value is shown.
pub write_seen : (step : (ℕ → Bool) → Value → PlainTables → PlainTables) (leaves : List (List (ℕ × Bool) × Value)) (pc : List (ℕ × Bool)) (value_at : (ℕ → Bool) → Value) (old new : State)
    → ((w : ℕ → Bool) → leaves_seen w leaves ≡ (if holds w pc then value_at w ∷ [] else [])) → WritesEach step leaves old new → Writes (λ w. step w (value_at w)) pc old new
write_seen step leaves pc value_at old new is each n sound = record {
  left = λ w.
      (each n sound).left w
      ∙ ap (λ vs. tables_after_each (step w) vs (project_at w old).tables) (is w)
      ∙ one_if (step w) (holds w pc) (value_at w) (project_at w old).tables;
  sound = (each n sound).sound;
}
