-- Drafts of records: cells after values are put in, and what is stored for them.
use Rattle.std.proofs.lemmas.List.{drop_all}
use Rattle.std.proofs.Common.{◌≡◌, ◌∙◌, sym, refl, ap, ℕ, ◌+◌, ◌<◌, ◌≤◌, not, Bool, true, false, if◌then◌else◌, List, [], ◌∷◌, ◌++◌, append_assoc, append-nil, map, length, drop, suc, drop-cons, add-one, get_or}
use Rattle.jac_value.specs.declared.value.Value.{Value}
use Rattle.jac_world.specs.World.{holds}
use Rattle.jac_facet.specs.Leaves.{leaves_seen}
use Rattle.jac_facet.specs.Shape.{Shape, at}
use Rattle.jac_lang.specs.declared.field_kinds.Field.{Field}
use Rattle.jac_lang.specs.Lookup.{kind_at}
use Rattle.jac_lang.specs.Syntax.{Entity}
use Rattle.jac_expr.specs.Tupled.{all_at}
use Rattle.jac_rows.specs.declared.row.Row.{Row}
use Rattle.jac_plain.specs.Records.{each_cell, fitting, shielded_cells}
use Rattle.jac_write.specs.declared.cells.Spot.{Spot}
use Rattle.jac_write.specs.declared.cells.Spot.TheVariants.{Behind, At}
use Rattle.jac_write.specs.Drafts.{with_cell, with_each, stored_at}
use Rattle.jac_write.specs.Writes.{cells_at, fitted_from, put_in, sets_at}

-- The results of a step for the cells of each row, one row after another.
abbrev pub each_row : (ℕ → Bool) → (List Value → List Value) → List Row → List (List Value)
each_row w step [] = []
each_row w step (r ∷ rows) = map step (cells_at w (r ∷ [])) ++ each_row w step rows

mapped_if : (b : Bool) (step : List Value → List Value) (c : List Value) (cs : List (List Value)) → map step (if b then c ∷ [] else []) ++ map step cs ≡ map step (if b then c ∷ cs else cs)
mapped_if true step c cs = refl
mapped_if false step c cs = refl

pub each_row_mapped : (w : ℕ → Bool) (step : List Value → List Value) (rows : List Row) → each_row w step rows ≡ map step (cells_at w rows)
each_row_mapped w step [] = refl
each_row_mapped w step (r ∷ rows) =
    ap (λ cs. map step (cells_at w (r ∷ [])) ++ cs) (each_row_mapped w step rows) ∙ mapped_if (holds w r.guard) step r.cells (cells_at w rows)

leaf_if : (b : Bool) (spot : Spot) (cells : List Value) (v : Value) (vs : List Value) → (if b then with_cell spot v cells ∷ [] else []) ++ map (λ x. with_cell spot x cells) vs
    ≡ map (λ x. with_cell spot x cells) (if b then v ∷ vs else vs)
leaf_if true spot cells v vs = refl
leaf_if false spot cells v vs = refl

with_each_is : (w : ℕ → Bool) (spot : Spot) (cells : List Value) (leaves : List (List (ℕ × Bool) × Value)) → with_each w spot cells leaves ≡ map (λ x. with_cell spot x cells) (leaves_seen w leaves)
with_each_is w spot cells [] = refl
with_each_is w spot cells (p ∷ leaves) =
    ap (λ cs. (if holds w p.0 then with_cell spot p.1 cells ∷ [] else []) ++ cs) (with_each_is w spot cells leaves) ∙ leaf_if (holds w p.0) spot cells p.1 (leaves_seen w leaves)

seen_if : (b : Bool) (spot : Spot) (cells : List Value) (v : Value) → map (λ x. with_cell spot x cells) (if b then v ∷ [] else []) ≡ map (with_cell spot v) (if b then cells ∷ [] else [])
seen_if true spot cells v = refl
seen_if false spot cells v = refl

-- If the guard holds, exactly one value is shown.
pub each_seen : (w : ℕ → Bool) (spot : Spot) (cells : List Value) (guard : List (ℕ × Bool)) (v : Value) (leaves : List (List (ℕ × Bool) × Value))
    → leaves_seen w leaves ≡ (if holds w guard then v ∷ [] else [])
    → with_each w spot cells leaves ≡ map (with_cell spot v) (if holds w guard then cells ∷ [] else [])
each_seen w spot cells guard v leaves e =
    with_each_is w spot cells leaves ∙ ap (map (λ x. with_cell spot x cells)) e ∙ seen_if (holds w guard) spot cells v

-- The cells of each list, followed by these.
abbrev pub finished : List Value → List (List Value) → List (List Value)
finished rest [] = []
finished rest (c ∷ cs) = (c ++ rest) ∷ finished rest cs

pushed_all : (more : List Value) (v : Value) (cs : List (List Value)) → finished more (map (with_cell Behind v) cs) ≡ finished (v ∷ more) cs
pushed_all more v [] = refl
pushed_all more v (c ∷ cs) = rw (append_assoc c (v ∷ []) more, pushed_all more v cs) refl

finished_push : (rest more : List Value) (v : Value) (old new : List (List Value)) → rest ≡ v ∷ more → new ≡ map (with_cell Behind v) old → finished more new ≡ finished rest old
finished_push rest more v old new r n = ap (finished more) n ∙ pushed_all more v old ∙ ap (λ xs. finished xs old) (sym r)

pub finished_none : (cs : List (List Value)) → finished [] cs ≡ cs
finished_none [] = refl
finished_none (c ∷ cs) = rw (append-nil c, finished_none cs) refl

start_if : (b : Bool) (all : List Value) → finished all (if b then [] ∷ [] else []) ≡ (if b then all ∷ [] else [])
start_if true all = refl
start_if false all = refl

-- There are no cells yet.
pub finished_start : (w : ℕ → Bool) (guard : List (ℕ × Bool)) (all : List Value) (cs : List (List Value)) → cs ≡ (if holds w guard then [] ∷ [] else []) → finished all cs ≡ (if holds w guard then all ∷ [] else [])
finished_start w guard all cs e = ap (finished all) e ∙ start_if (holds w guard) all

-- The next item of a list.
next : {T : Type 0} (xs : List T) (x : T) (i : ℕ) → x ≡ get_or xs i x → i < length xs → drop i xs ≡ x ∷ drop (i + 1) xs
next xs x i item below = rw add-one (drop-cons xs i x below ∙ ap (λ z. z ∷ drop (suc i) xs) (sym item))

-- The next cell of a new record.
pub draft_pushed : (models : List Entity) (fields : List Field) (w : ℕ → Bool) (cells : List (Shape Value)) (facet : Shape Value) (f : ℕ) (rows given new : List Row)
    → facet ≡ get_or cells f facet → f < length cells → given ≡ rows
    → cells_at w new ≡ map (with_cell Behind (fitting (kind_at models fields f) (at w facet))) (cells_at w given)
    → finished (fitted_from models fields (f + 1) (all_at w (drop (f + 1) cells))) (cells_at w new) ≡ finished (fitted_from models fields f (all_at w (drop f cells))) (cells_at w rows)
draft_pushed models fields w cells facet f rows given new item below same is =
    let more = fitted_from models fields (f + 1) (all_at w (drop (f + 1) cells)) in
    let v = fitting (kind_at models fields f) (at w facet) in
    finished_push (fitted_from models fields f (all_at w (drop f cells))) more v (cells_at w rows) (cells_at w new)
    (ap (λ xs. fitted_from models fields f (all_at w xs)) (next cells facet f item below))
    (is ∙ ap (λ rs. map (with_cell Behind v) (cells_at w rs)) same)

pub draft_done : (models : List Entity) (fields : List Field) (w : ℕ → Bool) (cells : List (Shape Value)) (f : ℕ) (cs : List (List Value)) → length cells ≤ f
    → finished (fitted_from models fields f (all_at w (drop f cells))) cs ≡ cs
draft_done models fields w cells f cs h = ap (λ xs. finished (fitted_from models fields f (all_at w xs)) cs) (drop_all f cells h) ∙ finished_none cs

put_all : (models : List Entity) (fields : List Field) (s : ℕ × Value) (rest : List (ℕ × Value)) (cs : List (List Value))
    → map (put_in models fields rest) (map (with_cell (At s.0) (fitting (kind_at models fields s.0) s.1)) cs) ≡ map (put_in models fields (s ∷ rest)) cs
put_all models fields s rest [] = refl
put_all models fields s rest (c ∷ cs) = ap (λ l. put_in models fields (s ∷ rest) c ∷ l) (put_all models fields s rest cs)

-- One more set is put in.
pub set_put : (models : List Entity) (fields : List Field) (w : ℕ → Bool) (sets : List (ℕ × Shape Value)) (s : ℕ × Shape Value) (i : ℕ) (rows given new : List Row)
    → s ≡ get_or sets i s → i < length sets → given ≡ rows
    → cells_at w new ≡ map (with_cell (At s.0) (fitting (kind_at models fields s.0) (at w s.1))) (cells_at w given)
    → map (put_in models fields (sets_at w (drop (i + 1) sets))) (cells_at w new) ≡ map (put_in models fields (sets_at w (drop i sets))) (cells_at w rows)
set_put models fields w sets s i rows given new item below same is =
    let rest = sets_at w (drop (i + 1) sets) in
    ap (map (put_in models fields rest)) (is ∙ ap (λ rs. map (with_cell (At s.0) (fitting (kind_at models fields s.0) (at w s.1))) (cells_at w rs)) same)
    ∙ put_all models fields (s.0, at w s.1) rest (cells_at w rows)
    ∙ ap (λ xs. map (put_in models fields (sets_at w xs)) (cells_at w rows)) (sym (next sets s i item below))

put_none : (models : List Entity) (fields : List Field) (cs : List (List Value)) → map (put_in models fields []) cs ≡ cs
put_none models fields [] = refl
put_none models fields (c ∷ cs) = ap (λ l. c ∷ l) (put_none models fields cs)

pub sets_done : (models : List Entity) (fields : List Field) (w : ℕ → Bool) (sets : List (ℕ × Shape Value)) (i : ℕ) (cs : List (List Value)) → length sets ≤ i
    → map (put_in models fields (sets_at w (drop i sets))) cs ≡ cs
sets_done models fields w sets i cs h = ap (λ xs. map (put_in models fields (sets_at w xs)) cs) (drop_all i sets h) ∙ put_none models fields cs

-- The next cell of a draft is stored.
pub cell_stored : (models : List Entity) (w : ℕ → Bool) (m id : ℕ) (named : ℕ → Bool) (draft : List Value) (cell : Value) (facet : Shape Value) (f : ℕ) (rows given new : List Row)
    → cell ≡ get_or draft f cell → f < length draft → given ≡ rows
    → at w facet ≡ stored_at models w m id named draft f cell
    → cells_at w new ≡ map (with_cell Behind (at w facet)) (cells_at w given)
    → finished (each_cell (stored_at models w m id named draft) (f + 1) (drop (f + 1) draft)) (cells_at w new) ≡ finished (each_cell (stored_at models w m id named draft) f (drop f draft)) (cells_at w rows)
cell_stored models w m id named draft cell facet f rows given new item below same shows is =
    let more = each_cell (stored_at models w m id named draft) (f + 1) (drop (f + 1) draft) in
    finished_push (each_cell (stored_at models w m id named draft) f (drop f draft)) more (at w facet) (cells_at w rows) (cells_at w new)
    (ap (each_cell (stored_at models w m id named draft) f) (next draft cell f item below) ∙ ap (λ v. v ∷ more) (sym shows))
    (is ∙ ap (λ rs. map (with_cell Behind (at w facet)) (cells_at w rs)) same)

pub stored_done : (models : List Entity) (w : ℕ → Bool) (m id : ℕ) (named : ℕ → Bool) (draft : List Value) (f : ℕ) (cs : List (List Value)) → length draft ≤ f
    → finished (each_cell (stored_at models w m id named draft) f (drop f draft)) cs ≡ cs
stored_done models w m id named draft f cs h = ap (λ xs. finished (each_cell (stored_at models w m id named draft) f xs) cs) (drop_all f draft h) ∙ finished_none cs

begun_if : (b : Bool) (step : List Value → List Value) (c : List Value) → finished (step c) (if b then [] ∷ [] else []) ≡ map step (if b then c ∷ [] else [])
begun_if true step c = refl
begun_if false step c = refl

pub stored_begun : (models : List Entity) (w : ℕ → Bool) (m id : ℕ) (named : ℕ → Bool) (draft : Row) (cs : List (List Value)) → cs ≡ (if holds w draft.guard then [] ∷ [] else [])
    → finished (each_cell (stored_at models w m id named draft.cells) 0 draft.cells) cs ≡ map (shielded_cells models w m id named) (cells_at w (draft ∷ []))
stored_begun models w m id named draft cs e =
    ap (finished (shielded_cells models w m id named draft.cells)) e ∙ begun_if (holds w draft.guard) (shielded_cells models w m id named) draft.cells

parted_if : (shown hidden : Bool) (p c : Value) → not shown ≡ hidden → (if shown then c else p) ≡ (if hidden then p else c)
parted_if true true p c e = cc
parted_if true false p c e = refl
parted_if false true p c e = refl
parted_if false false p c e = cc

-- A label hides if it isn't shown.
pub parted_at : (w : ℕ → Bool) (label : ℕ) (hidden : Bool) (p c : Value) → not (w label) ≡ hidden → (if w label then c else p) ≡ (if hidden then p else c)
parted_at w label hidden p c e = parted_if (w label) hidden p c e
