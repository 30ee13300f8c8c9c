-- A record that is created only where it is kept.
use Rattle.std.proofs.Common.{◌≡◌, ◌∙◌, sym, refl, ap, ℕ, ◌&&◌, Bool, true, false, not, if◌then◌else◌, List, [], ◌∷◌, Option, Some, None}
use mathlib.Core.Bool.{beq}
use Rattle.jac_world.specs.World.{holds, IsMeet}
use Rattle.jac_rows.specs.Project.{project_at}
use Rattle.jac_rows.specs.declared.plain.PlainRow.{PlainRow}
use Rattle.jac_rows.specs.declared.state.State.{State}
use Rattle.jac_plain.specs.Records.{tables_with}
use Rattle.jac_plain.specs.Statements.{tables_made as tables_kept}
use Rattle.jac_write.specs.Drafts.{IsKeptUnder, hides}
use Rattle.jac_write.specs.Writes.{Creates, PlainTables}

shown_if : (b : Bool) → (beq true b && true) ≡ b
shown_if true = refl
shown_if false = refl

-- The path condition, together with a label that is shown.
pub met_shown : (pc shown : List (ℕ × Bool)) (label : ℕ) (guard : Option (List (ℕ × Bool))) → shown ≡ (label, true) ∷ [] → IsMeet pc shown guard → IsKeptUnder (λ w. w label) pc guard
met_shown pc shown label None one meet = λ w. ap (λ b. holds w pc && b) (sym (ap (holds w) one ∙ shown_if (w label))) ∙ meet w
met_shown pc shown label (Some guard) one meet = λ w. meet w ∙ ap (λ b. holds w pc && b) (ap (holds w) one ∙ shown_if (w label))

not_not : (b : Bool) → b ≡ not (not b)
not_not true = refl
not_not false = refl

-- If a label hides the record, the record is kept where the label is shown.
pub kept_shown : (label : ℕ) (kept : (ℕ → Bool) → Bool) (pc : List (ℕ × Bool)) (guard : Option (List (ℕ × Bool)))
    → ((w : ℕ → Bool) → not (hides w (Some label)) ≡ kept w) → IsKeptUnder (λ w. w label) pc guard → IsKeptUnder kept pc guard
kept_shown label kept pc None told is = λ w. ap (λ b. holds w pc && b) (sym (not_not (w label) ∙ told w)) ∙ is w
kept_shown label kept pc (Some guard) told is = λ w. is w ∙ ap (λ b. holds w pc && b) (not_not (w label) ∙ told w)

true_both : (b : Bool) → b ≡ (b && true)
true_both true = refl
true_both false = refl

-- If no label hides the record, it is kept wherever the path condition holds.
pub kept_always : (kept : (ℕ → Bool) → Bool) (pc guard : List (ℕ × Bool)) → ((w : ℕ → Bool) → not (hides w None) ≡ kept w) → guard ≡ pc → IsKeptUnder kept pc (Some guard)
kept_always kept pc guard told same w = ap (holds w) same ∙ true_both (holds w pc) ∙ ap (λ b. holds w pc && b) (told w)

held_first : (a b : Bool) → (a && b) ≡ true → a ≡ true
held_first true b e = refl
held_first false b e = cc

made_if : (held kept : Bool) (m : ℕ) (row : PlainRow) (ts : PlainTables)
    → (if held && kept then tables_with m row ts else ts) ≡ (if held then tables_kept kept m row ts else ts)
made_if true true m row ts = refl
made_if true false m row ts = refl
made_if false kept m row ts = refl

unmade_if : (held kept : Bool) (m : ℕ) (row : PlainRow) (ts : PlainTables) → (held && kept) ≡ false → ts ≡ (if held then tables_kept kept m row ts else ts)
unmade_if true true m row ts e = cc
unmade_if true false m row ts e = refl
unmade_if false kept m row ts e = refl

-- A record that is created under the guard is created where it is kept under the path condition.
pub made_where_kept : (id m : ℕ) (kept : (ℕ → Bool) → Bool) (row : (ℕ → Bool) → PlainRow) (pc guard : List (ℕ × Bool)) (old new : State)
    → IsKeptUnder kept pc (Some guard) → Creates id (λ w. tables_with m (row w)) guard old new
    → Creates id (λ w. tables_kept (kept w) m (row w)) pc old new
made_where_kept id m kept row pc guard old new is made n before fresh sound =
    let written = made n before (λ w held. fresh w (held_first (holds w pc) (kept w) (sym (is w) ∙ held))) sound in
    record {
      left = λ w.
          let tables = (project_at w old).tables in
          written.left w
          ∙ ap (λ (b : Bool). if b then tables_with m (row w) tables else tables) (is w)
          ∙ made_if (holds w pc) (kept w) m (row w) tables;
      sound = written.sound;
    }

-- If the record is kept nowhere under the path condition, nothing is created.
pub made_nowhere : (id m : ℕ) (kept : (ℕ → Bool) → Bool) (row : (ℕ → Bool) → PlainRow) (pc : List (ℕ × Bool)) (state : State)
    → IsKeptUnder kept pc None → Creates id (λ w. tables_kept (kept w) m (row w)) pc state state
made_nowhere id m kept row pc state never n before fresh sound = record {
  left = λ w. unmade_if (holds w pc) (kept w) m (row w) (project_at w state).tables (never w);
  sound = sound;
}
