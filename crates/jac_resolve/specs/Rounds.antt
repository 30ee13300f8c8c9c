-- The result of each round of settling labels. The definition of settled labels doesn't use it.
use Rattle.std.specs.Prelude.{◌≡◌, ℕ, ◌+◌, ◌*◌, ◌<◌, ◌≤◌, Bool, true, false, if◌then◌else◌, ◌||◌, List, [], ◌∷◌, Option, length}
use Rattle.jac_world.specs.World.{shown_by, IsAscending}
use Rattle.jac_lang.specs.Syntax.{Application}
use Rattle.jac_rows.specs.Project.{project_at}
use Rattle.jac_plain.specs.Requests.{Worlds}
use Rattle.jac_rows.specs.declared.state.State.{State}
use Rattle.jac_rows.specs.Good.{IsSound}
use Rattle.jac_plain.specs.Policies.{with_label, IsLiveLabel}
use Rattle.jac_plain.specs.Shown.{worlds_of}
use Rattle.jac_shown_rows.specs.Local.{IsLocalCase}

-- The tables are those of a sound state: the state is sound with some number in place of its own.
pub record HasSoundTables (s : State) : Type 0 where
  pub next : ℕ
  pub sound : IsSound (record s { number = next })

-- The labels are the live ones.
pub record AreLive (app : Application) (worlds : Worlds) (labels : List ℕ) : Type 0 where
  pub only : (k : ℕ) → shown_by labels k ≡ true → IsLiveLabel app worlds k
  pub every : (k : ℕ) → IsLiveLabel app worlds k → shown_by labels k ≡ true

-- In a local application, over a local state, policies are evaluated at most 256 times for each
-- live label.
pub record AreFewEvaluations (app : Application) (s : State) (viewer : Option ℕ)
    (before now : ℕ) : Type 0 where
  pub few : IsLocalCase app s viewer → (labels : List ℕ) → IsAscending labels
      → AreLive app (worlds_of s) labels → now ≤ before + 256 * length labels

-- The number of the labels that aren't shown.
abbrev pub hidden_count : (ℕ → Bool) → List ℕ → ℕ
hidden_count w [] = 0
hidden_count w (k ∷ ks) = (if w k then 0 else 1) + hidden_count w ks

-- One more label is shown, or the same labels are.
abbrev pub MayAdd : ℕ → List ℕ → List ℕ → Bool → Type 0
MayAdd k old new true = (shown_by old k ≡ false) × ((j : ℕ) → shown_by new j ≡ with_label k
    (shown_by old) j)
MayAdd k old new false = (j : ℕ) → shown_by new j ≡ shown_by old j

-- Fewer of the labels are hidden, or the same labels are shown.
abbrev pub Advances : List ℕ → List ℕ → List ℕ → Bool → Type 0
Advances labels old new true = hidden_count (shown_by new) labels < hidden_count
    (shown_by old) labels
Advances labels old new false = (j : ℕ) → shown_by new j ≡ shown_by old j

-- Whatever a round adds is among the labels.
abbrev pub Within : List ℕ → List ℕ → List ℕ → Type 0
Within labels old new = (j : ℕ) → shown_by new j ≡ true → (shown_by old j || shown_by labels j)
    ≡ true
