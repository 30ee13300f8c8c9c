-- Rows with the defaults of added fields.
use Rattle.std.proofs.Common.{◌≡◌, ◌∙◌, refl, ap, sym, subst, ℕ, ◌+◌, ◌<◌, ◌≤◌, suc, Bool, true, false, if◌then◌else◌, List, [], ◌∷◌, ◌++◌, append_assoc, add-one, drop-cons, map, drop, length}
use Rattle.std.proofs.lemmas.List.{length-map}
use Rattle.std.proofs.lemmas.Option.{slice_get-get_or}
use Rattle.jac_value.specs.declared.value.Value.{Value}
use Rattle.jac_value.specs.Values.{default_value}
use Rattle.jac_world.specs.World.{holds}
use Rattle.jac_lang.specs.declared.field_kinds.Field.{Field}
use Rattle.jac_lang.specs.declared.field_kinds.KindName.TheVariants as kinds
use Rattle.jac_lang.specs.Lookup.{kind_at, kind_in}
use Rattle.jac_lang.specs.Syntax.{Entity}
use Rattle.jac_rows.specs.declared.row.Row.{Row}
use Rattle.jac_plain.specs.Records.{default_cells, shielded_cells}
use Rattle.jac_write.specs.Regrouped.{is_guarded_from, regrouped_cells, stays}
use Rattle.jac_write.specs.Writes.{cells_at}
use Rattle.jac_upgrade.specs.Steps.{drafted_row, upgraded_all}
use Rattle.jac_upgrade.specs.Upgraded.{draft_of, group_count, upgraded_cells}

-- A placeholder that isn't a field of any model.
no_field : Field
no_field = record { name = []; kind = kinds.Int }

default_next : (models : List Entity) (fields : List Field) (f : ℕ) → f < length fields
    → default_cells models (drop f fields) ≡ default_value (kind_at models fields f) ∷ default_cells models (drop (suc f) fields)
default_next models fields f below =
    ap (default_cells models) (drop-cons fields f no_field below)
    ∙ ap (λ (v : Value). v ∷ default_cells models (drop (suc f) fields)) (ap default_value (sym (ap (kind_in models) (slice_get-get_or fields f no_field below))))

-- One more default.
pub default_pushed : (models : List Entity) (fields : List Field) (f : ℕ) (made new all : List Value) (v : Value) → f < length fields → new ≡ made ++ v ∷ [] → v ≡ default_value (kind_at models fields f)
    → made ++ default_cells models (drop f fields) ≡ all → new ++ default_cells models (drop (f + 1) fields) ≡ all
default_pushed models fields f made new all v below is value so_far =
    let rest : List Value = default_cells models (drop (suc f) fields) in
    rw add-one
    (ap (λ (cs : List Value). cs ++ rest) is
    ∙ append_assoc made (v ∷ []) rest
    ∙ ap (λ (cs : List Value). made ++ cs) (ap (λ (u : Value). u ∷ rest) value ∙ sym (default_next models fields f below))
    ∙ so_far)

drafted_if : (olds news : List Entity) (m : ℕ) (b : Bool) (c : List Value) (cs ds : List (List Value)) → ds ≡ map (draft_of olds news m) cs
    → (if b then draft_of olds news m c ∷ ds else ds) ≡ map (draft_of olds news m) (if b then c ∷ cs else cs)
drafted_if olds news m true c cs ds e = ap (λ l. draft_of olds news m c ∷ l) e
drafted_if olds news m false c cs ds e = e

-- What drafts show.
cells_drafted : (w : ℕ → Bool) (olds news : List Entity) (m : ℕ) (rows : List Row) → cells_at w (map (drafted_row olds news m) rows) ≡ map (draft_of olds news m) (cells_at w rows)
cells_drafted w olds news m [] = refl
cells_drafted w olds news m (r ∷ rows) =
    drafted_if olds news m (holds w r.guard) r.cells (cells_at w rows) (cells_at w (map (drafted_row olds news m) rows)) (cells_drafted w olds news m rows)

stored_each : (w : ℕ → Bool) (olds news : List Entity) (m id : ℕ) (cs : List (List Value))
    → map (shielded_cells news w m id (is_guarded_from news m (group_count olds m))) (map (draft_of olds news m) cs) ≡ map (upgraded_cells w olds news m id) cs
stored_each w olds news m id [] = refl
stored_each w olds news m id (c ∷ cs) = ap (λ l. upgraded_cells w olds news m id c ∷ l) (stored_each w olds news m id cs)

-- What is stored of the drafts is the result of the upgrade.
pub upgraded_drafts : (w : ℕ → Bool) (olds news : List Entity) (m id first : ℕ) (rows drafts : List Row) (new : List (List Value))
    → drafts ≡ map (drafted_row olds news m) rows → first ≡ group_count olds m
    → (length (cells_at w drafts) ≤ 1 → new ≡ regrouped_cells news w m id first (cells_at w drafts))
    → length (cells_at w rows) ≤ 1 → new ≡ upgraded_all w olds news m id (cells_at w rows)
upgraded_drafts w olds news m id first rows drafts new are count stored few =
    let shows : cells_at w drafts ≡ map (draft_of olds news m) (cells_at w rows) = ap (cells_at w) are ∙ cells_drafted w olds news m rows in
    let long : length (cells_at w rows) ≡ length (cells_at w drafts) = sym (ap length shows ∙ length-map (cells_at w rows) (draft_of olds news m)) in
    stored (subst (λ n. n ≤ 1) long few)
    ∙ ap (regrouped_cells news w m id first) shows
    ∙ ap (λ n. regrouped_cells news w m id n (map (draft_of olds news m) (cells_at w rows))) count
    ∙ ap (λ cs. if stays news w m id (group_count olds m) then cs else []) (stored_each w olds news m id (cells_at w rows))
