-- Whatever reads no guarded field has the same result if the guarded cells are masked.
use Rattle.std.proofs.Common.{◌≡◌, ◌∙◌, sym, refl, ap, arith, ℕ, zero, suc, ◌+◌, ◌==◌, ◌&&◌, not, Bool, true, false, if◌then◌else◌, List, [], ◌∷◌, ◌++◌, Option, Some, None, slice_get, unwrap_or}
use Rattle.std.proofs.lemmas.Bool.{and_parts}
use Rattle.jac_value.specs.Ids.{model_of_id, record_of_label, group_of_label}
use Rattle.jac_value.specs.Values.{default_value, value_text}
use Rattle.jac_value.specs.declared.value.Value.{Value}
use Rattle.jac_value.specs.declared.value.Value.TheVariants as value
use Rattle.jac_lang.specs.declared.bindings.Binding.{Binding}
use Rattle.jac_lang.specs.declared.queries.Binder.{Binder}
use Rattle.jac_lang.specs.declared.queries.Order.{Order}
use Rattle.jac_lang.specs.declared.queries.Order.TheVariants as orders
use Rattle.jac_lang.specs.Lookup.{model_place, fields_at, groups_at, field_place, kind_at}
use Rattle.jac_lang.specs.Syntax.{Entity, Expression, Expressions, FieldGroup, Application}
use Rattle.jac_rows.specs.Tables.{rows_of}
use Rattle.jac_rows.specs.declared.plain.PlainRow.{PlainRow}
use Rattle.jac_rows.specs.declared.plain.PlainState.{PlainState}
use Rattle.jac_plain.specs.World.{World, rows_at_place, records, record_with, referred_record, cell_of, cell_named, got_of, got}
use Rattle.jac_plain.specs.Expressions.{is_true, is_less, two, pick, bytes_of, stands, is_live, look, bound, extended_tuples, crossed_tuples, tuples_from, kept_by, model_of_binder, key_of, sorted_tuples, ordered_tuples, answers_by, count_of, sum_of, some_of, first_of, mean, texts}
use Rattle.jac_plain.specs.Policies.{has_record, labelled_group, policy_world, policy_is_true, is_allowed}
use Rattle.jac_plain.specs.Records.{each_cell, plain_row}
use Rattle.jac_open_app_laws.specs.Open.{is_guarded_at, is_open_place, is_open_in, is_open_field, is_open_order, is_open, are_open, are_open_groups, are_open_models, is_open_app, masked_cells, masked_records, masked_tables, AreAlike, is_policy_true}

abbrev masked_row : List Entity → ℕ → PlainRow → PlainRow
masked_row models m r = plain_row r.id (masked_cells models m r.cells)

abbrev masked_record : List Entity → ℕ → Option PlainRow → Option PlainRow
masked_record models m None = None
masked_record models m (Some r) = Some (masked_row models m r)

abbrev pub masked_world : World → World
masked_world w = record w { tables = masked_tables w.models 0 w.tables }

-- The cell at a place at which the function changes nothing.
each_get : (cell_of : ℕ → Value → Value) (i from : ℕ) (cells : List Value)
    → ((g : ℕ) → g ≡ from + i → (v : Value) → cell_of g v ≡ v)
    → slice_get (each_cell cell_of from cells) i ≡ slice_get cells i
each_get cell_of zero from [] h = refl
each_get cell_of (suc i) from [] h = refl
each_get cell_of zero from (v ∷ cells) h = ap Some (h from (omega arith) v)
each_get cell_of (suc i) from (v ∷ cells) h = each_get cell_of i (from + 1) cells (λ g e v. h g (omega (arith, e)) v)

unguarded : (b : Bool) (v : Value) → not b ≡ true → (if b then value.Bool false else v) ≡ v
unguarded true v h = cc
unguarded false v h = refl

cell_masked : (models : List Entity) (m f : ℕ) (cells : List Value) → not (is_guarded_at models m f) ≡ true
    → slice_get (masked_cells models m cells) f ≡ slice_get cells f
cell_masked models m f cells h =
    each_get (λ f cell. if is_guarded_at models m f then value.Bool false else cell) f 0 cells
    (λ g e v. unguarded (is_guarded_at models m g) v (let at : g ≡ f = omega (arith, e) in ap (λ i. not (is_guarded_at models m i)) at ∙ h))

record_masked : (models : List Entity) (m id : ℕ) (rows : List PlainRow)
    → record_with id (masked_records models m rows) ≡ masked_record models m (record_with id rows)
record_masked models m id [] = refl
record_masked models m id (r ∷ rows) =
    elim (r.id == id) as (λ b. (if b then Some (masked_row models m r) else record_with id (masked_records models m rows)) ≡ masked_record models m (if b then Some r else record_with id rows)) [
      | true ↦ refl
      | false ↦ record_masked models m id rows
    ]

rows_masked : (models : List Entity) (from i m : ℕ) (tables : List (List PlainRow)) → m ≡ from + i
    → rows_of (masked_tables models from tables) i ≡ masked_records models m (rows_of tables i)
rows_masked models from zero m [] e = refl
rows_masked models from (suc i) m [] e = refl
rows_masked models from zero m (rows ∷ tables) e = let here : from ≡ m = omega (arith, e) in ap (λ k. masked_records models k rows) here
rows_masked models from (suc i) m (rows ∷ tables) e = rows_masked models (from + 1) i m tables (omega (arith, e))

stands_masked : (models : List Entity) (m : ℕ) (r : Option PlainRow)
    → stands (masked_record models m r) ≡ stands r
stands_masked models m None = refl
stands_masked models m (Some r) = refl

referred_masked : (models : List Entity) (m : ℕ) (v : Value) (rows : List PlainRow)
    → referred_record v (masked_records models m rows) ≡ masked_record models m (referred_record v rows)
referred_masked models m (value.Ref (Some id)) rows = record_masked models m id rows
referred_masked models m (value.Ref None) rows = refl
referred_masked models m (value.Int i) rows = refl
referred_masked models m (value.Text t) rows = refl
referred_masked models m (value.Bool b) rows = refl

named_masked : (w : World) (m : ℕ) (f : Option ℕ) (r : Option PlainRow) → is_open_place w.models m f ≡ true
    → cell_named (masked_world w) m f (masked_record w.models m r) ≡ cell_named w m f r
named_masked w m None r h = refl
named_masked w m (Some f) None h = refl
named_masked w m (Some f) (Some r) h = ap (λ c. unwrap_or c (default_value (kind_at w.models (fields_at w.models m) f))) (cell_masked w.models m f r.cells h)

in_masked : (w : World) (m : Option ℕ) (field : List ℕ) (v : Value) → is_open_in w.models m field ≡ true
    → got_of (masked_world w) m field v ≡ got_of w m field v
in_masked w None field v h = refl
in_masked w (Some m) field v h =
    let f = field_place (fields_at w.models m) field in
    ap (λ rows. cell_named (masked_world w) m f (referred_record v rows)) (rows_masked w.models 0 m m w.tables (omega arith))
    ∙ ap (cell_named (masked_world w) m f) (referred_masked w.models m v (rows_of w.tables m))
    ∙ named_masked w m f (referred_record v (rows_of w.tables m)) h

got_masked : (w : World) (model field : List ℕ) (v : Value) → is_open_field w.models model field ≡ true
    → got (masked_world w) model field v ≡ got w model field v
got_masked w model field v h = in_masked w (model_place w.models model) field v h

has_masked : (models : List Entity) (tables : List (List PlainRow)) (id : ℕ)
    → stands (record_with id (rows_of (masked_tables models 0 tables) (model_of_id id))) ≡ stands (record_with id (rows_of tables (model_of_id id)))
has_masked models tables id =
    let m = model_of_id id in
    ap (λ rows. stands (record_with id rows)) (rows_masked models 0 m m tables (omega arith))
    ∙ ap stands (record_masked models m id (rows_of tables m))
    ∙ stands_masked models m (record_with id (rows_of tables m))

live_masked : (w : World) (v : Value) → is_live (masked_world w) v ≡ is_live w v
live_masked w (value.Ref (Some id)) = has_masked w.models w.tables id
live_masked w (value.Ref None) = refl
live_masked w (value.Int i) = refl
live_masked w (value.Text t) = refl
live_masked w (value.Bool b) = refl

-- The answers of a query are tuples of ids.

extended_masked : (models : List Entity) (m : ℕ) (ids : List ℕ) (rows : List PlainRow)
    → extended_tuples ids (masked_records models m rows) ≡ extended_tuples ids rows
extended_masked models m ids [] = refl
extended_masked models m ids (r ∷ rows) = ap (λ tuples. (ids ++ r.id ∷ []) ∷ tuples) (extended_masked models m ids rows)

crossed_rows : (models : List Entity) (m : ℕ) (tuples : List (List ℕ)) (rows : List PlainRow)
    → crossed_tuples tuples (masked_records models m rows) ≡ crossed_tuples tuples rows
crossed_rows models m [] rows = refl
crossed_rows models m (ids ∷ tuples) rows =
    ap (λ first. first ++ crossed_tuples tuples (masked_records models m rows)) (extended_masked models m ids rows)
    ∙ ap (λ rest. extended_tuples ids rows ++ rest) (crossed_rows models m tuples rows)

crossed_at : (w : World) (m : Option ℕ) (tuples : List (List ℕ))
    → crossed_tuples tuples (rows_at_place (masked_tables w.models 0 w.tables) m) ≡ crossed_tuples tuples (rows_at_place w.tables m)
crossed_at w None tuples = refl
crossed_at w (Some m) tuples = ap (crossed_tuples tuples) (rows_masked w.models 0 m m w.tables (omega arith)) ∙ crossed_rows w.models m tuples (rows_of w.tables m)

tuples_masked : (w : World) (bs : List Binder) (tuples : List (List ℕ))
    → tuples_from (masked_world w) bs tuples ≡ tuples_from w bs tuples
tuples_masked w [] tuples = refl
tuples_masked w (b ∷ bs) tuples =
    ap (tuples_from (masked_world w) bs) (crossed_at w (model_place w.models b.model) tuples) ∙ tuples_masked w bs (crossed_tuples tuples (records w b.model))

key_masked : (w : World) (bs : List Binder) (name field : List ℕ)
    → is_open_field w.models (model_of_binder bs name) field ≡ true
    → key_of (masked_world w) bs name field ≡ key_of w bs name field
key_masked w bs name field h i ids = got_masked w (model_of_binder bs name) field (look (bound bs ids []) name) h i

ordered_masked : (w : World) (bs : List Binder) (o : Order) (tuples : List (List ℕ))
    → is_open_order w.models bs o ≡ true → ordered_tuples (masked_world w) bs o tuples ≡ ordered_tuples w bs o tuples
ordered_masked w bs orders.Key tuples h = refl
ordered_masked w bs (orders.Up name field) tuples h = ap (λ key. sorted_tuples is_less key tuples) (key_masked w bs name field h)
ordered_masked w bs (orders.Down name field) tuples h = ap (λ key. sorted_tuples (λ a b. is_less b a) key tuples) (key_masked w bs name field h)

-- Two functions that are equal at each argument are equal.
pub answers_masked : (w : World) (bs : List Binder) (o : Order) (cond other : List Binding → Value) (env : List Binding)
    → is_open_order w.models bs o ≡ true → cond ≡ other
    → answers_by (masked_world w) bs o cond env ≡ answers_by w bs o other env
answers_masked w bs o cond other env h same =
    ap (λ c. ordered_tuples (masked_world w) bs o (kept_by bs c env (tuples_from (masked_world w) bs ([] ∷ [])))) same
    ∙ ap (λ tuples. ordered_tuples (masked_world w) bs o (kept_by bs other env tuples)) (tuples_masked w bs ([] ∷ []))
    ∙ ordered_masked w bs o (kept_by bs other env (tuples_from w bs ([] ∷ []))) h

mutual
  pub mean_masked : (w : World) (e : Expression) (env : List Binding) → is_open w.models e ≡ true
      → mean (masked_world w) e env ≡ mean w e env
  mean_masked w (Expression.int i) env h = refl
  mean_masked w (Expression.text t) env h = refl
  mean_masked w (Expression.bool b) env h = refl
  mean_masked w (Expression.none_of m) env h = refl
  mean_masked w (Expression.name x) env h = refl
  mean_masked w Expression.this env h = refl
  mean_masked w Expression.viewer env h = refl
  mean_masked w (Expression.get m f e) env h =
      let parts = and_parts (is_open_field w.models m f) (is_open w.models e) h in
      ap (got (masked_world w) m f) (mean_masked w e env parts.1) ∙ got_masked w m f (mean w e env) parts.0
  mean_masked w (Expression.live e) env h =
      ap (λ v. value.Bool (is_live (masked_world w) v)) (mean_masked w e env h) ∙ ap value.Bool (live_masked w (mean w e env))
  mean_masked w (Expression.two o a b) env h =
      let parts = and_parts (is_open w.models a) (is_open w.models b) h in
      ap (λ v. two o v (mean (masked_world w) b env)) (mean_masked w a env parts.0) ∙ ap (two o (mean w a env)) (mean_masked w b env parts.1)
  mean_masked w (Expression.negated e) env h = ap (λ v. value.Bool (not (is_true v))) (mean_masked w e env h)
  mean_masked w (Expression.cat es) env h = ap value.Text (texts_masked w es env h)
  mean_masked w (Expression.str e) env h = ap (λ v. value.Text (value_text v)) (mean_masked w e env h)
  mean_masked w (Expression.pick c a b) env h =
      let parts = and_parts (is_open w.models c) (is_open w.models a && is_open w.models b) h in
      let rest = and_parts (is_open w.models a) (is_open w.models b) parts.1 in
      ap (λ v. pick (is_true v) (mean (masked_world w) a env) (mean (masked_world w) b env)) (mean_masked w c env parts.0)
      ∙ ap (λ v. pick (is_true (mean w c env)) v (mean (masked_world w) b env)) (mean_masked w a env rest.0)
      ∙ ap (pick (is_true (mean w c env)) (mean w a env)) (mean_masked w b env rest.1)
  mean_masked w (Expression.count bs c o) env h =
      let parts = and_parts (is_open w.models c) (is_open_order w.models bs o) h in
      ap (count_of bs) (answers_masked w bs o (mean (masked_world w) c) (mean w c) env parts.1 (λ i en. mean_masked w c en parts.0 i))
  mean_masked w (Expression.sum bs c o e) env h =
      let parts = and_parts (is_open w.models c) (is_open_order w.models bs o && is_open w.models e) h in
      let rest = and_parts (is_open_order w.models bs o) (is_open w.models e) parts.1 in
      let term : mean (masked_world w) e ≡ mean w e = λ i en. mean_masked w e en rest.1 i in
      ap (λ t. sum_of bs t env (answers_by (masked_world w) bs o (mean (masked_world w) c) env)) term
      ∙ ap (sum_of bs (mean w e) env) (answers_masked w bs o (mean (masked_world w) c) (mean w c) env rest.0 (λ i en. mean_masked w c en parts.0 i))
  mean_masked w (Expression.any_of bs c o) env h =
      let parts = and_parts (is_open w.models c) (is_open_order w.models bs o) h in
      ap some_of (answers_masked w bs o (mean (masked_world w) c) (mean w c) env parts.1 (λ i en. mean_masked w c en parts.0 i))
  mean_masked w (Expression.first bs c o) env h =
      let parts = and_parts (is_open w.models c) (is_open_order w.models bs o) h in
      ap first_of (answers_masked w bs o (mean (masked_world w) c) (mean w c) env parts.1 (λ i en. mean_masked w c en parts.0 i))

  texts_masked : (w : World) (es : Expressions) (env : List Binding) → are_open w.models es ≡ true
      → texts (masked_world w) es env ≡ texts w es env
  texts_masked w Expressions.none env h = refl
  texts_masked w (Expressions.more e es) env h =
      let parts = and_parts (is_open w.models e) (are_open w.models es) h in
      ap (λ v. bytes_of v ++ texts (masked_world w) es env) (mean_masked w e env parts.0)
      ∙ ap (λ rest. bytes_of (mean w e env) ++ rest) (texts_masked w es env parts.1)

abbrev world_over : Application → Option ℕ → Option ℕ → List (List PlainRow) → World
world_over app this viewer tables = record { models = app.models; this = this; viewer = viewer; tables = tables }

pub same_meaning : (app : Application) (t u : PlainState) (this viewer : Option ℕ) (e : Expression) (env : List Binding)
    → is_open app.models e ≡ true → AreAlike app t u
    → mean (world_over app this viewer t.tables) e env ≡ mean (world_over app this viewer u.tables) e env
same_meaning app t u this viewer e env h alike =
    sym (mean_masked (world_over app this viewer t.tables) e env h)
    ∙ ap (λ s. mean (world_over app this viewer s.tables) e env) alike
    ∙ mean_masked (world_over app this viewer u.tables) e env h

-- Each policy of an open application is open.

both_open : (models : List Entity) (g : FieldGroup) (gs : List FieldGroup) → are_open_groups models (g ∷ gs) ≡ true
    → (is_open models g.policy ≡ true) × (are_open_groups models gs ≡ true)
both_open models g gs h =
    and_parts (is_open models g.policy) (are_open_groups models gs)
    (and_parts (not g.hides) (is_open models g.policy && are_open_groups models gs) h).1

policy_in : (models : List Entity) (gs : List FieldGroup) (i : ℕ) (g : FieldGroup)
    → are_open_groups models gs ≡ true → slice_get gs i ≡ Some g → is_open models g.policy ≡ true
policy_in models [] zero g h e = cc
policy_in models [] (suc i) g h e = cc
policy_in models (x ∷ gs) zero g h e =
    let same : x ≡ g = cc in
    ap (λ (y : FieldGroup). is_open models y.policy) (sym same) ∙ (both_open models x gs h).0
policy_in models (x ∷ gs) (suc i) g h e = policy_in models gs i g (both_open models x gs h).1 e

policies_at : (models rest : List Entity) (m : ℕ) → are_open_models models rest ≡ true
    → are_open_groups models (groups_at rest m) ≡ true
policies_at models [] zero h = refl
policies_at models [] (suc m) h = refl
policies_at models (x ∷ rest) zero h = (and_parts (are_open_groups models x.groups) (are_open_models models rest) h).0
policies_at models (x ∷ rest) (suc m) h = policies_at models rest m (and_parts (are_open_groups models x.groups) (are_open_models models rest) h).1

pub same_record : (app : Application) (t u : PlainState) (k : ℕ) → AreAlike app t u
    → has_record t k ≡ has_record u k
same_record app t u k alike =
    sym (has_masked app.models t.tables (record_of_label k))
    ∙ ap (λ s. has_record s k) alike
    ∙ has_masked app.models u.tables (record_of_label k)

-- The theorem for any group that may have been found.
same_of : (app : Application) (t u : PlainState) (viewer : Option ℕ) (id : ℕ) (found : Option FieldGroup)
    → ((g : FieldGroup) → found ≡ Some g → is_open app.models g.policy ≡ true) → AreAlike app t u
    → policy_is_true found (policy_world app t viewer id) ≡ policy_is_true found (policy_world app u viewer id)
same_of app t u viewer id None h alike = refl
same_of app t u viewer id (Some g) h alike = ap is_true (same_meaning app t u (Some id) viewer g.policy [] (h g refl) alike)

pub same_policy : (app : Application) (t u : PlainState) (viewer : Option ℕ) (k : ℕ) → is_open_app app ≡ true
    → AreAlike app t u → is_policy_true app t viewer k ≡ is_policy_true app u viewer k
same_policy app t u viewer k h alike =
    let groups = groups_at app.models (model_of_id (record_of_label k)) in
    same_of app t u viewer (record_of_label k) (labelled_group app k)
    (λ g e. policy_in app.models groups (group_of_label k) g (policies_at app.models app.models (model_of_id (record_of_label k)) h) e) alike

pub same_allowed : (app : Application) (t u : PlainState) (viewer : Option ℕ) (k : ℕ) → is_open_app app ≡ true
    → AreAlike app t u → is_allowed app t viewer k ≡ is_allowed app u viewer k
same_allowed app t u viewer k h alike =
    ap (λ b. b && is_policy_true app t viewer k) (same_record app t u k alike) ∙ ap (λ b. has_record u k && b) (same_policy app t u viewer k h alike)
