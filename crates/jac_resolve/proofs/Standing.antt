-- Groups and records by their places.
use Rattle.std.proofs.Common.{◌≡◌, refl, ap, sym, ◌∙◌, ℕ, ◌==◌, Bool, true, false, List, [], ◌∷◌, if◌then◌else◌, map, Option, Some, None, slice_get, ◌<◌, ◌≤◌, length}
use Rattle.std.specs.List.{list_any}
use Rattle.std.specs.Option.{option_map, MatchOption}
use Rattle.std.specs.List.{HoldsAt}
use denote.Ref.{Bor}
use Rattle.std.proofs.lemmas.Option.{slice_get-map, slice_get_past, slice_get-get_or}
use Rattle.jac_world.specs.World.{holds}
use Rattle.jac_lang.specs.declared.schema.Group.{Group}
use Rattle.jac_lang.specs.declared.schema.ModelDef.{ModelDef}
use Rattle.jac_lang.specs.Mirror.{groups_of, entities_of, field_group_of, entity_of}
use Rattle.jac_lang.specs.Syntax.{FieldGroup, Entity}
use Rattle.jac_rows.specs.declared.row.Row.{Row}
use Rattle.jac_rows.specs.declared.plain.PlainRow.{PlainRow}
use Rattle.jac_rows.specs.Project.{rows_at}
use Rattle.jac_keep.specs.Records.{alternatives}
use Rattle.jac_plain.specs.World.{record_with}
use Rattle.jac_plain.specs.Expressions.{stands}

-- The result of `get`, mapped by a function.
got : {X Y : Type 0} (f : X → Y) (xs : List X) (i : ℕ) (r : Option (Bor X)) → MatchOption r (length xs ≤ i) (λ x. (i < length xs) × HoldsAt (λ y. x.now ≡ y) xs i) → option_map (λ (x : Bor X). f x.now) r ≡ option_map f (slice_get xs i)
got f xs i None h = ap (option_map f) (sym (slice_get_past xs i h))
got f xs i (Some x) h = ap (option_map f) (ap Some (h.1 x.now) ∙ sym (slice_get-get_or xs i x.now h.0))

groups-map : (gs : List Group) → groups_of gs ≡ map field_group_of gs
groups-map [] = refl
groups-map (g ∷ gs) = ap (λ (l : List FieldGroup). field_group_of g ∷ l) (groups-map gs)

entities-map : (ms : List ModelDef) → entities_of ms ≡ map entity_of ms
entities-map [] = refl
entities-map (m ∷ ms) = ap (λ (l : List Entity). entity_of m ∷ l) (entities-map ms)

group_there : (gs : List Group) (i : ℕ) → option_map field_group_of (slice_get gs i) ≡ slice_get (groups_of gs) i
group_there gs i = sym (ap (λ (l : List FieldGroup). slice_get l i) (groups-map gs) ∙ slice_get-map field_group_of gs i)

pub model_there : (ms : List ModelDef) (i : ℕ) → option_map entity_of (slice_get ms i) ≡ slice_get (entities_of ms) i
model_there ms i = sym (ap (λ (l : List Entity). slice_get l i) (entities-map ms) ∙ slice_get-map entity_of ms i)

pub group_got : (gs : List Group) (i : ℕ) (r : Option (Bor Group)) → MatchOption r (length gs ≤ i) (λ x. (i < length gs) × HoldsAt (λ y. x.now ≡ y) gs i) → option_map (λ (g : Bor Group). field_group_of g.now) r ≡ slice_get (groups_of gs) i
group_got gs i r h = got field_group_of gs i r h ∙ group_there gs i

pub model_got : (ms : List ModelDef) (i : ℕ) (r : Option (Bor ModelDef)) → MatchOption r (length ms ≤ i) (λ x. (i < length ms) × HoldsAt (λ y. x.now ≡ y) ms i) → option_map (λ (m : Bor ModelDef). entity_of m.now) r ≡ slice_get (entities_of ms) i
model_got ms i r h = got entity_of ms i r h ∙ model_there ms i

any_if : (w : ℕ → Bool) (id : ℕ) (p : PlainRow) (r : Row) (held same : Bool) (rest : List PlainRow) (alts : List Row) → (p.id == id) ≡ same → holds w r.guard ≡ held →
    list_any (λ (x : Row). holds w x.guard) alts ≡ stands (record_with id rest) →
    list_any (λ (x : Row). holds w x.guard) (if same then r ∷ alts else alts) ≡ stands (record_with id (if held then p ∷ rest else rest))
any_if w id p r true true rest alts e h k = rw (e, h) refl
any_if w id p r true false rest alts e h k = rw e k
any_if w id p r false true rest alts e h k = rw h k
any_if w id p r false false rest alts e h k = k

-- A record exists if and only if one of its rows is shown.
pub any_stands : (w : ℕ → Bool) (id : ℕ) (rows : List Row) → list_any (λ (r : Row). holds w r.guard) (alternatives id rows) ≡ stands (record_with id (rows_at w rows))
any_stands w id [] = refl
any_stands w id (r ∷ rows) =
    any_if w id (record { id = r.id; cells = r.cells }) r (holds w r.guard) (r.id == id) (rows_at w rows) (alternatives id rows) refl refl (any_stands w id rows)
