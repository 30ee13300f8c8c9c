-- The cells that are set, and the cells of a new record.
use Rattle.std.proofs.Common.{◌≡◌, ◌∙◌, refl, sym, ap, arith, ℕ, zero, suc, ◌+◌, ◌<◌, ◌==◌, Bool, true, if◌then◌else◌, List, [], ◌∷◌, ◌++◌, length, drop, append_assoc, append-nil, slice_set, Option, Some, None}
use Rattle.std.proofs.lemmas.List.{length-append}
use Rattle.jac_value.specs.declared.value.Kind.{Kind}
use Rattle.jac_value.specs.declared.value.Kind.TheVariants as kind
use Rattle.jac_value.specs.declared.value.Value.{Value}
use Rattle.jac_value.specs.Values.{default_value}
use Rattle.jac_facet.specs.Shape.{Shape, at}
use Rattle.jac_lang.specs.declared.field_kinds.Field.{Field}
use Rattle.jac_lang.specs.Lookup.{field_place, kind_named, kind_at}
use Rattle.jac_lang.specs.Syntax.{Entity, Expression, Assigned}
use Rattle.jac_plain.specs.Records.{fitting, cell_set, drafted_cells, default_cells, is_field_place, is_set}
use Rattle.jac_expr.specs.Tupled.{all_at}
use Rattle.jac_write.specs.Writes.{fitted_from, sets_at, put_in, is_put}
use Rattle.jac_stmt.specs.Drafts.{placed_at, placed_sets, put_raw}

-- The sets by name and by place.

pub drafted-placed : (models : List Entity) (fields : List Field) (value_of : Expression → Value) (sets : List Assigned) (cells : List Value)
    → drafted_cells models fields value_of sets cells ≡ put_in models fields (placed_sets fields value_of sets) cells
drafted-placed models fields value_of [] cells = refl
drafted-placed models fields value_of (a ∷ rest) cells =
    drafted-placed models fields value_of rest (cell_set models fields (field_place fields a.field) (value_of a.value) cells)
    ∙ first (field_place fields a.field)
  where
    first : (place : Option ℕ) → put_in models fields (placed_sets fields value_of rest) (cell_set models fields place (value_of a.value) cells)
        ≡ put_in models fields (placed_at place (value_of a.value) (placed_sets fields value_of rest)) cells
    first None = refl
    first (Some f) = refl

pub is_set-placed : (fields : List Field) (value_of : Expression → Value) (sets : List Assigned) (f : ℕ) → is_set fields sets f ≡ is_put (placed_sets fields value_of sets) f
is_set-placed fields value_of [] f = refl
is_set-placed fields value_of (a ∷ rest) f = first (field_place fields a.field) (is_set-placed fields value_of rest f)
  where
    first : (place : Option ℕ) → is_set fields rest f ≡ is_put (placed_sets fields value_of rest) f
        → (if is_field_place f place then true else is_set fields rest f) ≡ is_put (placed_at place (value_of a.value) (placed_sets fields value_of rest)) f
    first None h = h
    first (Some g) h = ap (λ b. if g == f then true else b) h

-- Cells of a new record.

fitting-default : (k : Kind) → fitting k (default_value k) ≡ default_value k
fitting-default kind.Int = refl
fitting-default kind.Text = refl
fitting-default kind.Bool = refl
fitting-default (kind.Ref m) = refl

kind_beyond : (models : List Entity) (before : List Field) (f : Field) (rest : List Field) → kind_at models (before ++ f ∷ rest) (length before) ≡ kind_named models f.kind
kind_beyond models [] f rest = refl
kind_beyond models (b ∷ before) f rest = kind_beyond models before f rest

defaults_from : (models : List Entity) (before rest : List Field) → fitted_from models (before ++ rest) (length before) (default_cells models rest) ≡ default_cells models rest
defaults_from models before [] = refl
defaults_from models before (f ∷ rest) =
    let kind_is : kind_at models (before ++ f ∷ rest) (length before) ≡ kind_named models f.kind = kind_beyond models before f rest in
    let same : before ++ f ∷ rest ≡ (before ++ f ∷ []) ++ rest = sym (append_assoc before (f ∷ []) rest) in
    let long : length before + 1 ≡ length (before ++ f ∷ []) = sym (length-append before (f ∷ [])) in
    ap (λ k. fitting k (default_value (kind_named models f.kind)) ∷ fitted_from models (before ++ f ∷ rest) (length before + 1) (default_cells models rest)) kind_is
    ∙ ap (λ v. v ∷ fitted_from models (before ++ f ∷ rest) (length before + 1) (default_cells models rest)) (fitting-default (kind_named models f.kind))
    ∙ ap (λ fs. default_value (kind_named models f.kind) ∷ fitted_from models fs (length before + 1) (default_cells models rest)) same
    ∙ ap (λ n. default_value (kind_named models f.kind) ∷ fitted_from models ((before ++ f ∷ []) ++ rest) n (default_cells models rest)) long
    ∙ ap (λ vs. default_value (kind_named models f.kind) ∷ vs) (defaults_from models (before ++ f ∷ []) rest)

-- A cell that is put in its place.
fitted-set : (models : List Entity) (fields : List Field) (from f i : ℕ) (v : Value) (cells : List Value) → i ≡ from + f
    → fitted_from models fields from (slice_set cells f v) ≡ slice_set (fitted_from models fields from cells) f (fitting (kind_at models fields i) v)
fitted-set models fields from f i v [] e = refl
fitted-set models fields from zero i v (c ∷ cells) e =
    let same : from ≡ i = omega (arith, e) in
    ap (λ n. fitting (kind_at models fields n) v ∷ fitted_from models fields (from + 1) cells) same
fitted-set models fields from (suc f) i v (c ∷ cells) e =
    ap (λ cs. fitting (kind_at models fields from) c ∷ cs) (fitted-set models fields (from + 1) f i v cells (omega (arith, e)))

fitted-put : (models : List Entity) (fields : List Field) (sets : List (ℕ × Value)) (cells : List Value)
    → fitted_from models fields 0 (put_raw sets cells) ≡ put_in models fields sets (fitted_from models fields 0 cells)
fitted-put models fields [] cells = refl
fitted-put models fields (s ∷ sets) cells =
    fitted-put models fields sets (slice_set cells s.0 s.1)
    ∙ ap (put_in models fields sets) (fitted-set models fields 0 s.0 s.0 s.1 cells (omega arith))

-- The cells of a new record: the values that are set, and defaults.
pub new-cells : (models : List Entity) (fields : List Field) (value_of : Expression → Value) (sets : List Assigned) (start made : List Value) (put : List (ℕ × Value))
    → start ≡ default_cells models fields → made ≡ put_raw put start → put ≡ placed_sets fields value_of sets
    → fitted_from models fields 0 made ≡ drafted_cells models fields value_of sets (default_cells models fields)
new-cells models fields value_of sets start made put defaults made_is placed =
    ap (fitted_from models fields 0) made_is
    ∙ fitted-put models fields put start
    ∙ ap (λ s. put_in models fields put (fitted_from models fields 0 s)) defaults
    ∙ ap (put_in models fields put) (defaults_from models [] fields)
    ∙ ap (λ p. put_in models fields p (default_cells models fields)) placed
    ∙ sym (drafted-placed models fields value_of sets (default_cells models fields))

-- Loops.

pub all_at-append : {T : Type 0} (w : ℕ → Bool) (xs ys : List (Shape T)) → all_at w (xs ++ ys) ≡ all_at w xs ++ all_at w ys
all_at-append w [] ys = refl
all_at-append w (x ∷ xs) ys = ap (λ l. at w x ∷ l) (all_at-append w xs ys)

-- One more default.
pub default-next : (models : List Entity) (fields : List Field) (i : ℕ) (made : List (Shape Value)) (w : ℕ → Bool) (new : List (Shape Value)) (v : Shape Value)
    → i < length fields → new ≡ made ++ v ∷ [] → at w v ≡ default_value (kind_at models fields i)
    → all_at w made ++ default_cells models (drop i fields) ≡ default_cells models fields
    → all_at w new ++ default_cells models (drop (i + 1) fields) ≡ default_cells models fields
default-next models fields i made w new v below pushed value so_far =
    let next : i + 1 ≡ suc i = omega arith in
    ap (λ l. all_at w l ++ default_cells models (drop (i + 1) fields)) pushed
    ∙ ap (λ l. l ++ default_cells models (drop (i + 1) fields)) (all_at-append w made (v ∷ []))
    ∙ append_assoc (all_at w made) (at w v ∷ []) (default_cells models (drop (i + 1) fields))
    ∙ ap (λ n. all_at w made ++ at w v ∷ default_cells models (drop n fields)) next
    ∙ ap (λ l. all_at w made ++ l) (ap (λ x. x ∷ default_cells models (drop (suc i) fields)) value ∙ sym (one_more fields i below))
    ∙ so_far
  where
    one_more : (fs : List Field) (j : ℕ) → j < length fs → default_cells models (drop j fs) ≡ default_value (kind_at models fs j) ∷ default_cells models (drop (suc j) fs)
    one_more [] j below = absurd (omega (arith, below))
    one_more (f ∷ fs) zero below = refl
    one_more (f ∷ fs) (suc j) below = one_more fs j (omega (arith, below))

pub all_at_set : (w : ℕ → Bool) (xs : List (Shape Value)) (i : ℕ) (x : Shape Value) → all_at w (slice_set xs i x) ≡ slice_set (all_at w xs) i (at w x)
all_at_set w [] i x = refl
all_at_set w (y ∷ xs) zero x = refl
all_at_set w (y ∷ xs) (suc i) x = ap (λ l. at w y ∷ l) (all_at_set w xs i x)

pub all_at-length : {T : Type 0} (w : ℕ → Bool) (xs : List (Shape T)) → length (all_at w xs) ≡ length xs
all_at-length w [] = refl
all_at-length w (x ∷ xs) = ap suc (all_at-length w xs)

-- One more value that is set.
pub sets_at-append : (w : ℕ → Bool) (xs ys : List (ℕ × Shape Value)) → sets_at w (xs ++ ys) ≡ sets_at w xs ++ sets_at w ys
sets_at-append w [] ys = refl
sets_at-append w (x ∷ xs) ys = ap (λ l. (x.0, at w x.1) ∷ l) (sets_at-append w xs ys)

pub placed-first : (fields : List Field) (value_of : Expression → Value) (a : Assigned) (rest : List Assigned)
    → placed_sets fields value_of (a ∷ []) ++ placed_sets fields value_of rest ≡ placed_sets fields value_of (a ∷ rest)
placed-first fields value_of a rest = first (field_place fields a.field)
  where
    first : (place : Option ℕ) → placed_at place (value_of a.value) [] ++ placed_sets fields value_of rest ≡ placed_at place (value_of a.value) (placed_sets fields value_of rest)
    first None = refl
    first (Some f) = refl

-- The values that were set and those to come, after one more.
pub sets-next : (fields : List Field) (value_of : Expression → Value) (a : Assigned) (rest all : List Assigned) (made new : List (ℕ × Value))
    → new ≡ made ++ placed_sets fields value_of (a ∷ []) → made ++ placed_sets fields value_of (a ∷ rest) ≡ placed_sets fields value_of all
    → new ++ placed_sets fields value_of rest ≡ placed_sets fields value_of all
sets-next fields value_of a rest all made new added so_far =
    ap (λ l. l ++ placed_sets fields value_of rest) added
    ∙ append_assoc made (placed_sets fields value_of (a ∷ [])) (placed_sets fields value_of rest)
    ∙ ap (λ l. made ++ l) (placed-first fields value_of a rest)
    ∙ so_far

-- One more value that is set, if the model has its field.
pub sets-pushed : (w : ℕ → Bool) (fields : List Field) (value_of : Expression → Value) (a : Assigned) (f : ℕ) (v : Shape Value) (made new : List (ℕ × Shape Value))
    → field_place fields a.field ≡ Some f → at w v ≡ value_of a.value → new ≡ made ++ (f, v) ∷ []
    → sets_at w new ≡ sets_at w made ++ placed_sets fields value_of (a ∷ [])
sets-pushed w fields value_of a f v made new place value pushed =
    ap (sets_at w) pushed
    ∙ sets_at-append w made ((f, v) ∷ [])
    ∙ ap (λ x. sets_at w made ++ (f, x) ∷ []) value
    ∙ ap (λ p. sets_at w made ++ placed_at p (value_of a.value) []) (sym place)

pub sets-passed : (w : ℕ → Bool) (fields : List Field) (value_of : Expression → Value) (a : Assigned) (made : List (ℕ × Shape Value))
    → field_place fields a.field ≡ None → sets_at w made ≡ sets_at w made ++ placed_sets fields value_of (a ∷ [])
sets-passed w fields value_of a made place = sym (ap (λ p. sets_at w made ++ placed_at p (value_of a.value) []) place ∙ append-nil (sets_at w made))
