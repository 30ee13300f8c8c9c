-- If no group guards a field, the stored cells are those of the draft, whatever labels are shown.
use Rattle.std.proofs.Common.{◌≡◌, ◌∙◌, refl, ap, zero, suc, ℕ, ◌+◌, ◌&&◌, not, Bool, true, false, if◌then◌else◌, List, [], ◌∷◌, Option, Some, None}
use Rattle.std.specs.Prelude.{slice_get}
use Rattle.std.proofs.lemmas.Bool.{and_parts}
use Rattle.jac_value.specs.declared.value.Value.{Value}
use Rattle.jac_lang.specs.declared.field_kinds.Field.{Field}
use Rattle.jac_lang.specs.Lookup.{fields_at, groups_at, group_for, group_in, hiding_place}
use Rattle.jac_lang.specs.Syntax.{Entity, FieldGroup}
use Rattle.jac_plain.specs.Models.{is_none, are_without_groups}
use Rattle.jac_plain.specs.Statements.{is_kept}
use Rattle.jac_plain.specs.Records.{each_cell, public_cell, is_hidden, is_hidden_by, shielded_cells}

no_groups : (groups : List FieldGroup) → is_none groups ≡ true → groups ≡ []
no_groups [] h = refl
no_groups (g ∷ gs) h = cc

pub groups_none : (models : List Entity) (m : ℕ) → are_without_groups models ≡ true → groups_at models m ≡ []
groups_none [] m h = refl
groups_none (e ∷ models) zero h = no_groups e.groups (and_parts (is_none e.groups) _ h).0
groups_none (e ∷ models) (suc m) h = groups_none models m (and_parts (is_none e.groups) _ h).1

group_none : (f : Option Field) → group_for [] f ≡ None
group_none None = refl
group_none (Some f) = refl

pub not_hidden : (models : List Entity) (shown : ℕ → Bool) (m id f : ℕ) → groups_at models m ≡ [] → is_hidden models shown m id f ≡ false
not_hidden models shown m id f none =
    ap (λ gs. is_hidden_by shown id (group_in gs (fields_at models m) f)) none ∙ ap (is_hidden_by shown id) (group_none (slice_get (fields_at models m) f))

pub kept_groupless : (models : List Entity) (shown : ℕ → Bool) (m id : ℕ) → groups_at models m ≡ [] → is_kept models shown m id ≡ true
kept_groupless models shown m id none = ap (λ gs. not (is_hidden_by shown id (hiding_place gs))) none

each_same : (cell_of : ℕ → Value → Value) (f : ℕ) (cells : List Value) → ((g : ℕ) (v : Value) → cell_of g v ≡ v) → each_cell cell_of f cells ≡ cells
each_same cell_of f [] h = refl
each_same cell_of f (v ∷ cells) h = rw (h f v, each_same cell_of (f + 1) cells h) refl

kept_cell : (named hidden : Bool) (public cell : Value) → hidden ≡ false → (if named && hidden then public else cell) ≡ cell
kept_cell true hidden public cell h = rw h refl
kept_cell false hidden public cell h = refl

pub shielded_groupless : (models : List Entity) (shown : ℕ → Bool) (m id : ℕ) (named : ℕ → Bool) (draft : List Value) → groups_at models m ≡ []
    → shielded_cells models shown m id named draft ≡ draft
shielded_groupless models shown m id named draft none =
    each_same _ 0 draft (λ f cell. kept_cell (named f) (is_hidden models shown m id f) (public_cell models m id draft f cell) cell (not_hidden models shown m id f none))
