-- What a local policy reads of a local state: rows whose guards name only labels of its own record.
use Rattle.std.proofs.Common.{◌≡◌, refl, ap, sym, subst, ◌∙◌, ℕ, zero, suc, ◌+◌, ◌<◌, ◌==◌, Bool, true, false, not, ◌&&◌, ◌||◌, if◌then◌else◌, List, [], ◌∷◌, ◌++◌, length, get_or, Option, None, Some, slice_get, unwrap_or, Result, Ok, Err, ℤ, pos, arith}
use Rattle.std.specs.Prelude.{⊤, IsSomeAnd, IfOk}
use Rattle.std.specs.List.{list_all, AllByRecursion}
use Rattle.std.proofs.lemmas.Bool.{and_parts, and_from, or_right, or_left}
use Rattle.std.proofs.lemmas.Bool.Decides.{nat_tests, Decides-eqb}
use Rattle.std.proofs.lemmas.List.Folds.{list_all-append}
use Rattle.jac_value.specs.declared.value.Kind.{Kind}
use Rattle.jac_value.specs.declared.value.Kind.TheVariants as kind
use Rattle.jac_value.specs.declared.value.Value.{Value}
use Rattle.jac_value.specs.declared.value.Value.TheVariants as value
use Rattle.jac_value.specs.Ids.{model_of_id, record_of_label, group_of_label}
use Rattle.jac_value.specs.Values.{has_kind, default_value}
use Rattle.jac_world.specs.World.{shown_by, holds, names}
use Rattle.jac_lang.specs.declared.bindings.Binding.{Binding}
use Rattle.jac_lang.specs.declared.expressions.Op.{Op}
use Rattle.jac_lang.specs.declared.expressions.Op.TheVariants as op
use Rattle.jac_lang.specs.declared.field_kinds.Field.{Field}
use Rattle.jac_lang.specs.declared.field_kinds.KindName.TheVariants as named
use Rattle.jac_lang.specs.declared.queries.Binder.{Binder}
use Rattle.jac_lang.specs.declared.queries.Order.{Order}
use Rattle.jac_lang.specs.declared.queries.Order.TheVariants as orders
use Rattle.jac_lang.specs.Lookup.{same_text, model_place, fields_at, groups_at, field_place, kind_named, kind_at}
use Rattle.jac_lang.specs.Syntax.{Expression, FieldGroup, Entity, Application, is_this}
use Rattle.jac_rows.specs.declared.row.Row.{Row}
use Rattle.jac_rows.specs.declared.plain.PlainRow.{PlainRow}
use Rattle.jac_rows.specs.declared.state.State.{State}
use Rattle.jac_rows.specs.Good.{IsRecord, IsShaped, AreTablesOf, have_kinds}
use Rattle.jac_rows.specs.Project.{rows_at, project_at}
use Rattle.jac_rows.specs.Tables.{rows_of}
use Rattle.jac_keep.specs.Records.{alternatives, with_id}
use Rattle.jac_keep.specs.MatchingRecords.{holders, holds_cell}
use Rattle.jac_value.specs.contracts.value.ValuePartialEq.TheImpl as equality
use Rattle.jac_index_choice.specs.Fixed.{behind_first}
use Rattle.jac_pruned.specs.Wanted.{Wanted, first_shown, firsts_wanted, rows_with_value, rows_wanted, shown_wanted, tuples_wanted}
use Rattle.jac_plain.specs.Expressions.{mean, is_true, two, nearest, look_from, bound, binding, extended_tuples, crossed_tuples, tuples_from, kept_by, with_sorted, sorted_tuples, ordered_tuples, answers_by, is_less, key_of, summed_terms, some_of, first_of, pick, is_single, model_of_binder}
use Rattle.jac_shown_rows.specs.Local.{is_free, is_free_place, is_free_model, is_free_kind, is_free_field_at, is_free_field_in, is_free_viewer_of, is_free_viewer, are_free, is_free_order, refers_free, IsOwnLabel, IsOfViewers, IsLocalCase}
use Rattle.jac_shown_rows.proofs.OwnRows.{all_less, all_if, all_append, all_with_id, any_read, rows_of_table}
use Rattle.jac_plain.specs.Models.{is_none, shapes_of, kinds_of_fields, shapes_of_models}
use Rattle.jac_plain.specs.Policies.{is_some_group}
use Rattle.jac_plain.specs.World.{World, records, rows_at_place, record_with, referred_record, cell_of, cell_named, got_of}
use Rattle.jac_shown_rows.specs.RecordIds.{first_bound, lengthened_tuples, row_ids}
use Rattle.jac_pruned.specs.Tupled.{but_last, left_behind, lengthened_all}
use Rattle.jac_pruned.specs.Begun.{IsBegun}
use Rattle.jac_pruned.proofs.Bound.{bound-longer}
use Rattle.jac_shown_rows.proofs.Rows.{rows_of-project}
use Rattle.jac_shown_rows.specs.Own.{is_of, IsOwn, is_own_pair, names_own, has_own_guard, is_own_row, are_own_rows, is_own_table, reads_own, stands_own, table_at, table_named}
use Rattle.jac_pruned.specs.Locally.{are_own_tables, is_own_order, is_free_value, is_free_env, begins_free, IsLocally}

-- Tests of all elements.

itself : (x : ℕ) → (x == x) ≡ true
itself x = grind (arith, nat_tests)

if_test : (a b : Bool) → (a ≡ true → b ≡ true) → (not a || b) ≡ true
if_test true b h = h refl
if_test false b h = refl

all_found : (p : Row → Bool) (b : Bool) (f : ℕ) (v : Value) (rows : List Row) → list_all p rows ≡ true → list_all p (if b then rows else holders f v rows) ≡ true
all_found p true f v rows h = h
all_found p false f v rows h = all_with_id p (holds_cell f v rows) rows h

-- What is true of all rows is true of the rows of the records that have the value.
pub all_valued : (p : Row → Bool) (models : List Entity) (m : ℕ) (f : Option ℕ) (v : Value) (rows : List Row) → list_all p rows ≡ true → list_all p (rows_with_value models m f v rows) ≡ true
all_valued p models m None v rows h = h
all_valued p models m (Some f) v rows h = all_found p (equality.ghosts.eq (default_value (kind_at models (fields_at models m) f)) v) f v rows h

module _ (P : Row → Type 0) where
  each_if : (b : Bool) (r : Row) (rows : List Row) → P r → AllByRecursion P rows → AllByRecursion P (if b then r ∷ rows else rows)
  each_if true r rows h a = (h, a)
  each_if false r rows h a = a

  each_with_id : (test : ℕ → Bool) (rows : List Row) → AllByRecursion P rows → AllByRecursion P (with_id test rows)
  each_with_id test [] a = tt
  each_with_id test (r ∷ rows) a = each_if (test r.id) r (with_id test rows) a.0 (each_with_id test rows a.1)

  each_found : (b : Bool) (f : ℕ) (v : Value) (rows : List Row) → AllByRecursion P rows → AllByRecursion P (if b then rows else holders f v rows)
  each_found true f v rows a = a
  each_found false f v rows a = each_with_id (holds_cell f v rows) rows a

  each_valued : (models : List Entity) (m : ℕ) (f : Option ℕ) (v : Value) (rows : List Row) → AllByRecursion P rows → AllByRecursion P (rows_with_value models m f v rows)
  each_valued models m None v rows a = a
  each_valued models m (Some f) v rows a = each_found (equality.ghosts.eq (default_value (kind_at models (fields_at models m) f)) v) f v rows a

  each_wanted : (models : List Entity) (m : ℕ) (o : Option Wanted) (rows : List Row) → AllByRecursion P rows → AllByRecursion P (rows_wanted models m o rows)
  each_wanted models m None rows a = a
  each_wanted models m (Some s) rows a = each_valued models m (field_place (fields_at models m) s.field) s.value rows a

-- Guards.

guard_own : (this : Option ℕ) (g : List (ℕ × Bool)) → ((k : ℕ) → names g k ≡ true → is_of this (record_of_label k) ≡ true) → names_own this g ≡ true
guard_own this [] h = refl
guard_own this (p ∷ ps) h =
    and_from (is_own_pair this p) (names_own this ps) (h p.0 (or_left (p.0 == p.0) (names ps p.0) (itself p.0)))
    (guard_own this ps (λ k n. h k (or_right (p.0 == k) (names ps k) n)))

no_group : (gs : List FieldGroup) (g : ℕ) → is_none gs ≡ true → is_some_group (slice_get gs g) ≡ true → ⊥
no_group [] zero none some = absurd cc
no_group [] (suc g) none some = absurd cc
no_group (x ∷ gs) g none some = absurd cc

-- The rows of a table in which each row is one of its model.
rows_made : (P : List Row → Type 0) (Q : ℕ → Row → Type 0) (from i : ℕ) (tables : List (List Row)) → AreTablesOf P Q from tables → AllByRecursion (Q (from + i)) (rows_of tables i)
rows_made P Q from i [] a = tt
rows_made P Q from zero (t ∷ ts) a = let here : from ≡ from + 0 = omega arith in subst (λ (m : ℕ). AllByRecursion (Q m) t) here a.1
rows_made P Q from (suc i) (t ∷ ts) a = let on : from + 1 + i ≡ from + suc i = omega arith in subst (λ (m : ℕ). AllByRecursion (Q m) (rows_of ts i)) on (rows_made P Q (from + 1) i ts a.2)

module _ (app : Application) (s : State) (viewer : Option ℕ) (case : IsLocalCase app s viewer) where
  abbrev Labels : Row → Type 0
  Labels r = (k : ℕ) → names r.guard k ≡ true → IsOwnLabel app r.id k

  row_own : (id : ℕ) (r : Row) → Labels r → is_own_row (Some id) id r ≡ true
  row_own id r own = if_test (r.id == id) (names_own (Some id) r.guard) (λ e. guard_own (Some id) r.guard (λ k n. is_it k e (own k n)))
    where
      is_it : (k : ℕ) → (r.id == id) ≡ true → IsOwnLabel app r.id k → (id == record_of_label k) ≡ true
      is_it k e o = let at : r.id ≡ id = (Decides-eqb r.id id).0 e in let of : record_of_label k ≡ r.id = o.own in grind (arith, nat_tests)

  rows_own : (id : ℕ) (rows : List Row) → AllByRecursion Labels rows → are_own_rows (Some id) id rows ≡ true
  rows_own id [] a = refl
  rows_own id (r ∷ rows) a = and_from (is_own_row (Some id) id r) (are_own_rows (Some id) id rows) (row_own id r a.0) (rows_own id rows a.1)

  -- The guards of a record's rows name only its own labels.
  pub table_own : (id m : ℕ) → are_own_rows (Some id) id (rows_of s.tables m) ≡ true
  table_own id m = rows_own id (rows_of s.tables m) (case.state m)

  row_free : (this : Option ℕ) (m : ℕ) (r : Row) → is_free app.models m ≡ true → model_of_id r.id ≡ m → Labels r → has_own_guard this r ≡ true
  row_free this m r free of own = guard_own this r.guard (λ k n. absurd (no_group (groups_at app.models m) (group_of_label k) free (group_in k (own k n))))
    where
      group_in : (k : ℕ) → IsOwnLabel app r.id k → is_some_group (slice_get (groups_at app.models m) (group_of_label k)) ≡ true
      group_in k o =
          let at : model_of_id (record_of_label k) ≡ m = ap model_of_id o.own ∙ of in
          ap (λ (i : ℕ). is_some_group (slice_get (groups_at app.models i) (group_of_label k))) (sym at) ∙ o.group

  abbrev Records : ℕ → Row → Type 0
  Records m r = IsRecord (shapes_of app) m case.next r.id r.cells

  rows_free : (this : Option ℕ) (m : ℕ) (rows : List Row) → is_free app.models m ≡ true → AllByRecursion (Records m) rows → AllByRecursion Labels rows → is_own_table this rows ≡ true
  rows_free this m [] free made own = refl
  rows_free this m (r ∷ rows) free made own =
      and_from (has_own_guard this r) (is_own_table this rows) (row_free this m r free made.0.made.of_model own.0) (rows_free this m rows free made.1 own.1)

  pub records_of : (m : ℕ) → AllByRecursion (Records m) (rows_of s.tables m)
  records_of m =
      let start : 0 + m ≡ m = omega arith in
      subst (λ (n : ℕ). AllByRecursion (Records n) (rows_of s.tables m)) start (rows_made _ Records 0 m s.tables case.good.1)

  -- A model without groups has no guarded rows.
  pub place_free : (this : Option ℕ) (place : Option ℕ) → is_free_place app.models place ≡ true → is_own_table this (table_at s.tables place) ≡ true
  place_free this None free = refl
  place_free this (Some m) free = rows_free this m (rows_of s.tables m) free (records_of m) (case.state m)

  pub model_free : (this : Option ℕ) (name : List ℕ) → is_free_model app.models name ≡ true → is_own_table this (table_named app s name) ≡ true
  model_free this name free = place_free this (model_place app.models name) free

  pub tables_free : (this : Option ℕ) (bs : List Binder) → are_free app.models bs ≡ true → are_own_tables this app s bs ≡ true
  tables_free this [] free = refl
  tables_free this (b ∷ bs) free =
      let a = and_parts (is_free_model app.models b.model) (are_free app.models bs) free in
      and_from (is_own_table this (table_named app s b.model)) (are_own_tables this app s bs) (model_free this b.model a.0) (tables_free this bs a.1)

  pub order_free : (this : Option ℕ) (bs : List Binder) (o : Order) → is_free_order app.models bs o ≡ true → is_own_order this app s bs o ≡ true
  order_free this bs orders.Key free = refl
  order_free this bs (orders.Up name field) free = model_free this (model_of_binder bs name) free
  order_free this bs (orders.Down name field) free = model_free this (model_of_binder bs name) free

  -- What the record itself refers to.
  pub this_read : (this : Option ℕ) (v : Value) (place : Option ℕ) → v ≡ value.Ref this → reads_own this v (table_at s.tables place) ≡ true
  this_read None v place is = ap (λ u. reads_own None u (table_at s.tables place)) is
  this_read (Some id) v None is = ap (λ u. reads_own (Some id) u []) is
  this_read (Some id) v (Some m) is = ap (λ u. reads_own (Some id) u (rows_of s.tables m)) is ∙ table_own id m

  pub this_stands : (this : Option ℕ) (v : Value) → v ≡ value.Ref this → stands_own this v s.tables ≡ true
  this_stands None v is = ap (λ u. stands_own None u s.tables) is
  this_stands (Some id) v is = ap (λ u. stands_own (Some id) u s.tables) is ∙ table_own id (model_of_id id)

-- What refers only to records of models without groups.

module _ (app : Application) where
  abbrev is_free_id : ℕ → Bool
  is_free_id id = is_free app.models (model_of_id id)

  abbrev are_free_ids : List ℕ → Bool
  are_free_ids ids = list_all is_free_id ids

  value_free : (k : Kind) (v : Value) → has_kind k v ≡ true → is_free_kind app.models k ≡ true → is_free_value app v ≡ true
  value_free k (value.Int i) h free = refl
  value_free k (value.Text t) h free = refl
  value_free k (value.Bool b) h free = refl
  value_free k (value.Ref None) h free = refl
  value_free kind.Int (value.Ref (Some id)) h free = absurd cc
  value_free kind.Text (value.Ref (Some id)) h free = absurd cc
  value_free kind.Bool (value.Ref (Some id)) h free = absurd cc
  value_free (kind.Ref m) (value.Ref (Some id)) h free =
      let of : model_of_id id ≡ m = (Decides-eqb (model_of_id id) m).0 (and_parts _ _ h).1 in
      ap (is_free app.models) of ∙ free

  viewer_free : (name : Option (List ℕ)) (viewer : Option ℕ) → IsOfViewers app.models name viewer → is_free_viewer_of app.models name ≡ true → is_free_value app (value.Ref viewer) ≡ true
  viewer_free None viewer of free = absurd cc
  viewer_free (Some name) viewer of free = value_free (kind_named app.models (named.Ref name)) (value.Ref viewer) of free

  env_with : (env : List Binding) (name : List ℕ) (id : ℕ) → is_free_env app env ≡ true → is_free_id id ≡ true → is_free_env app (env ++ binding name (value.Ref (Some id)) ∷ []) ≡ true
  env_with env name id h free = all_append (λ (b : Binding). is_free_value app b.bound_to) env (binding name (value.Ref (Some id)) ∷ []) h (and_from (is_free_id id) true free refl)

  -- Records of models without groups are bound.
  pub bound_free : (bs : List Binder) (ids : List ℕ) (env : List Binding) → is_free_env app env ≡ true → are_free_ids ids ≡ true → is_free_env app (bound bs ids env) ≡ true
  bound_free [] ids env h free = h
  bound_free (b ∷ bs) [] env h free = h
  bound_free (b ∷ bs) (id ∷ ids) env h free =
      let a = and_parts (is_free_id id) (are_free_ids ids) free in
      bound_free bs ids (env ++ binding b.name (value.Ref (Some id)) ∷ []) (env_with env b.name id h a.0) a.1

  either_value : (b : Bool) (u v : Value) → is_free_value app u ≡ true → is_free_value app v ≡ true → is_free_value app (if b then u else v) ≡ true
  either_value true u v h g = h
  either_value false u v h g = g

  look_free : (v : Value) (env : List Binding) (name : List ℕ) → is_free_value app v ≡ true → is_free_env app env ≡ true → is_free_value app (look_from v env name) ≡ true
  look_free v [] name h free = h
  look_free v (b ∷ bs) name h free =
      let a = and_parts (is_free_value app b.bound_to) (is_free_env app bs) free in
      look_free (if same_text b.name name then b.bound_to else v) bs name (either_value (same_text b.name name) b.bound_to v a.0 h) a.1

  -- Tuples of such records.
  extended_free : (ids : List ℕ) (rows : List PlainRow) → are_free_ids ids ≡ true → AllByRecursion (λ (r : PlainRow). is_free_id r.id ≡ true) rows → list_all are_free_ids (extended_tuples ids rows) ≡ true
  extended_free ids [] h a = refl
  extended_free ids (r ∷ rows) h a =
      and_from (are_free_ids (ids ++ r.id ∷ [])) (list_all are_free_ids (extended_tuples ids rows))
      (all_append is_free_id ids (r.id ∷ []) h (and_from (is_free_id r.id) true a.0 refl))
      (extended_free ids rows h a.1)

  crossed_free : (tuples : List (List ℕ)) (rows : List PlainRow) → list_all are_free_ids tuples ≡ true → AllByRecursion (λ (r : PlainRow). is_free_id r.id ≡ true) rows → list_all are_free_ids (crossed_tuples tuples rows) ≡ true
  crossed_free [] rows h a = refl
  crossed_free (ids ∷ tuples) rows h a =
      let p = and_parts (are_free_ids ids) (list_all are_free_ids tuples) h in
      all_append are_free_ids (extended_tuples ids rows) (crossed_tuples tuples rows) (extended_free ids rows p.0 a) (crossed_free tuples rows p.1 a)

  kept_free : (q : List ℕ → Bool) (bs : List Binder) (cond : List Binding → Value) (env : List Binding) (tuples : List (List ℕ)) → list_all q tuples ≡ true → list_all q (kept_by bs cond env tuples) ≡ true
  kept_free q bs cond env [] h = refl
  kept_free q bs cond env (ids ∷ tuples) h =
      let a = and_parts (q ids) (list_all q tuples) h in
      all_if q (is_true (cond (bound bs ids env))) ids (kept_by bs cond env tuples) a.0 (kept_free q bs cond env tuples a.1)

  inserted_free : (q : List ℕ → Bool) (less : Value → Value → Bool) (key : List ℕ → Value) (x : List ℕ) (ys : List (List ℕ)) → q x ≡ true → list_all q ys ≡ true → list_all q (with_sorted less key x ys) ≡ true
  inserted_free q less key x [] h a = and_from (q x) true h refl
  inserted_free q less key x (y ∷ ys) h a =
      let p = and_parts (q y) (list_all q ys) a in
      put_if (less (key y) (key x)) (and_from (q y) (list_all q (with_sorted less key x ys)) p.0 (inserted_free q less key x ys h p.1)) (and_from (q x) (q y && list_all q ys) h a)
    where
      put_if : (b : Bool) → list_all q (y ∷ with_sorted less key x ys) ≡ true → list_all q (x ∷ (y ∷ ys)) ≡ true → list_all q (if b then y ∷ with_sorted less key x ys else x ∷ (y ∷ ys)) ≡ true
      put_if true u v = u
      put_if false u v = v

  sorted_free : (q : List ℕ → Bool) (less : Value → Value → Bool) (key : List ℕ → Value) (xs : List (List ℕ)) → list_all q xs ≡ true → list_all q (sorted_tuples less key xs) ≡ true
  sorted_free q less key [] h = refl
  sorted_free q less key (x ∷ xs) h =
      let a = and_parts (q x) (list_all q xs) h in
      inserted_free q less key x (sorted_tuples less key xs) a.0 (sorted_free q less key xs a.1)

  ordered_free : (q : List ℕ → Bool) (w : World) (bs : List Binder) (o : Order) (xs : List (List ℕ)) → list_all q xs ≡ true → list_all q (ordered_tuples w bs o xs) ≡ true
  ordered_free q w bs orders.Key xs h = h
  ordered_free q w bs (orders.Up x f) xs h = sorted_free q is_less (key_of w bs x f) xs h
  ordered_free q w bs (orders.Down x f) xs h = sorted_free q (λ a b. is_less b a) (key_of w bs x f) xs h

  first_free : (tuples : List (List ℕ)) → list_all are_free_ids tuples ≡ true → is_free_value app (first_of tuples) ≡ true
  first_free [] h = refl
  first_free ([] ∷ tuples) h = refl
  first_free ((id ∷ ids) ∷ tuples) h = (and_parts (is_free_id id) (are_free_ids ids) (and_parts (are_free_ids (id ∷ ids)) (list_all are_free_ids tuples) h).0).0

-- Fewer binders.

behind_first_free : (models : List Entity) (bs : List Binder) → are_free models bs ≡ true → are_free models (behind_first bs) ≡ true
behind_first_free models [] free = refl
behind_first_free models (b ∷ bs) free = (and_parts (is_free_model models b.model) (are_free models bs) free).1

but_last_free : (models : List Entity) (bs : List Binder) → are_free models bs ≡ true → are_free models (but_last bs) ≡ true
but_last_free models [] free = refl
but_last_free models (b ∷ []) free = refl
but_last_free models (b ∷ (c ∷ bs)) free =
    let a = and_parts (is_free_model models b.model) (are_free models (c ∷ bs)) free in
    and_from (is_free_model models b.model) (are_free models (but_last (c ∷ bs))) a.0 (but_last_free models (c ∷ bs) a.1)

pub left_free : (models : List Entity) (bs : List Binder) (ids : List ℕ) → are_free models bs ≡ true → are_free models (left_behind bs ids) ≡ true
left_free models [] ids free = refl
left_free models (b ∷ bs) [] free = free
left_free models (b ∷ bs) (i ∷ ids) free = left_free models bs ids (and_parts (is_free_model models b.model) (are_free models bs) free).1

-- What an assignment shows of a local state.
module _ (app : Application) (s : State) (viewer : Option ℕ) (case : IsLocalCase app s viewer) (u : ℕ → Bool) (this : Option ℕ) where
  abbrev seen : World
  seen = record { models = app.models; this = this; viewer = viewer; tables = (project_at u s).tables }

  abbrev SeenRecord : ℕ → PlainRow → Type 0
  SeenRecord m r = IsRecord (shapes_of app) m case.next r.id r.cells

  seen_if : (m : ℕ) (r : Row) (rows : List PlainRow) (b : Bool) → IsRecord (shapes_of app) m case.next r.id r.cells → AllByRecursion (SeenRecord m) rows →
      AllByRecursion (SeenRecord m) (if b then (record { id = r.id; cells = r.cells }) ∷ rows else rows)
  seen_if m r rows true h a = (h, a)
  seen_if m r rows false h a = a

  seen_rows : (m : ℕ) (rows : List Row) → AllByRecursion (λ (r : Row). IsRecord (shapes_of app) m case.next r.id r.cells) rows → AllByRecursion (SeenRecord m) (rows_at u rows)
  seen_rows m [] a = tt
  seen_rows m (r ∷ rows) a = seen_if m r (rows_at u rows) (holds u r.guard) a.0 (seen_rows m rows a.1)

  seen_table : (m : ℕ) → AllByRecursion (SeenRecord m) (rows_of seen.tables m)
  seen_table m = subst (AllByRecursion (SeenRecord m)) (sym (rows_of-project u s.tables m)) (seen_rows m (rows_of s.tables m) (records_of app s viewer case m))

  ids_free : (m : ℕ) (rows : List PlainRow) → is_free app.models m ≡ true → AllByRecursion (SeenRecord m) rows → AllByRecursion (λ (r : PlainRow). is_free_id app r.id ≡ true) rows
  ids_free m [] free a = tt
  ids_free m (r ∷ rows) free a = (ap (is_free app.models) a.0.made.of_model ∙ free, ids_free m rows free a.1)

  place_ids : (place : Option ℕ) → is_free_place app.models place ≡ true → AllByRecursion (λ (r : PlainRow). is_free_id app r.id ≡ true) (rows_at_place seen.tables place)
  place_ids None free = tt
  place_ids (Some m) free = ids_free m (rows_of seen.tables m) free (seen_table m)

  tuples_free_from : (bs : List Binder) (tuples : List (List ℕ)) → are_free app.models bs ≡ true → list_all (are_free_ids app) tuples ≡ true → list_all (are_free_ids app) (tuples_from seen bs tuples) ≡ true
  tuples_free_from [] tuples free h = h
  tuples_free_from (b ∷ bs) tuples free h =
      let a = and_parts (is_free_model app.models b.model) (are_free app.models bs) free in
      tuples_free_from bs (crossed_tuples tuples (records seen b.model)) a.1 (crossed_free app tuples (records seen b.model) h (place_ids (model_place app.models b.model) a.0))

  pub tuples_free : (bs : List Binder) → are_free app.models bs ≡ true → list_all (are_free_ids app) (tuples_from seen bs ([] ∷ [])) ≡ true
  tuples_free bs free = tuples_free_from bs ([] ∷ []) free refl

  wanted_ids : (place : Option ℕ) (o : Option Wanted) → is_free_place app.models place ≡ true → AllByRecursion (λ (r : PlainRow). is_free_id app r.id ≡ true) (shown_wanted app.models u s.tables place o)
  wanted_ids None o free = tt
  wanted_ids (Some m) o free =
      ids_free m (rows_at u (rows_wanted app.models m o (rows_of s.tables m))) free
      (seen_rows m (rows_wanted app.models m o (rows_of s.tables m))
      (each_wanted (λ (r : Row). IsRecord (shapes_of app) m case.next r.id r.cells) app.models m o (rows_of s.tables m) (records_of app s viewer case m)))

  wanted_firsts : (bs : List Binder) (o : Option Wanted) → are_free app.models bs ≡ true → list_all (are_free_ids app) (firsts_wanted app.models u s.tables bs o) ≡ true
  wanted_firsts [] o free = refl
  wanted_firsts (b ∷ bs) o free =
      crossed_free app ([] ∷ []) (shown_wanted app.models u s.tables (model_place app.models b.model) o) refl
      (wanted_ids (model_place app.models b.model) o (and_parts (is_free_model app.models b.model) (are_free app.models bs) free).0)

  pub wanted_free : (bs : List Binder) (o : Option Wanted) → are_free app.models bs ≡ true → list_all (are_free_ids app) (tuples_wanted seen u s.tables bs o) ≡ true
  wanted_free bs o free =
      tuples_free_from (behind_first bs) (firsts_wanted app.models u s.tables bs o) (behind_first_free app.models bs free) (wanted_firsts bs o free)

  most_free : (bs : List Binder) (o : Option Wanted) → are_free app.models bs ≡ true →
      list_all (are_free_ids app) (tuples_from seen (but_last (behind_first bs)) (firsts_wanted app.models u s.tables bs o)) ≡ true
  most_free bs o free =
      tuples_free_from (but_last (behind_first bs)) (firsts_wanted app.models u s.tables bs o)
      (but_last_free app.models (behind_first bs) (behind_first_free app.models bs free)) (wanted_firsts bs o free)

  each_bound : (env : List Binding) (name : List ℕ) (rows : List PlainRow) → is_free_env app env ≡ true → AllByRecursion (λ (r : PlainRow). is_free_id app r.id ≡ true) rows →
      list_all (λ j. is_free_env app (env ++ binding name (value.Ref (Some j)) ∷ [])) (row_ids rows) ≡ true
  each_bound env name [] h a = refl
  each_bound env name (r ∷ rows) h a =
      and_from (is_free_env app (env ++ binding name (value.Ref (Some r.id)) ∷ [])) (list_all (λ j. is_free_env app (env ++ binding name (value.Ref (Some j)) ∷ [])) (row_ids rows))
      (env_with app env name r.id h a.0) (each_bound env name rows h a.1)

  -- The wanted records of the first binder that is left are bound to its name.
  pub shown_free : (left : List Binder) (o : Option Wanted) (env : List Binding) → is_free_env app env ≡ true → are_free app.models left ≡ true →
      list_all (λ j. is_free_env app (env ++ first_bound left (value.Ref (Some j)))) (row_ids (first_shown app.models u s.tables left o)) ≡ true
  shown_free [] o env h free = refl
  shown_free (b ∷ bs) o env h free =
      each_bound env b.name (shown_wanted app.models u s.tables (model_place app.models b.model) o) h
      (wanted_ids (model_place app.models b.model) o (and_parts (is_free_model app.models b.model) (are_free app.models bs) free).0)

  pub answers_free : (bs : List Binder) (o : Order) (cond : List Binding → Value) (env : List Binding) → are_free app.models bs ≡ true → list_all (are_free_ids app) (answers_by seen bs o cond env) ≡ true
  answers_free bs o cond env free =
      ordered_free app (are_free_ids app) seen bs o _ (kept_free app (are_free_ids app) bs cond env _ (tuples_free bs free))

  -- A cell has its field's kind.
  cell_kind : (ms : List Entity) (fs : List Field) (vs : List Value) (f : ℕ) (d : Value) → have_kinds (kinds_of_fields ms fs) vs ≡ true → has_kind (kind_at ms fs f) d ≡ true → has_kind (kind_at ms fs f) (unwrap_or (slice_get vs f) d) ≡ true
  cell_kind ms [] [] f d h k = k
  cell_kind ms [] (v ∷ vs) f d h k = cc
  cell_kind ms (g ∷ fs) [] f d h k = k
  cell_kind ms (g ∷ fs) (v ∷ vs) zero d h k = (and_parts _ _ h).0
  cell_kind ms (g ∷ fs) (v ∷ vs) (suc f) d h k = cell_kind ms fs vs f d (and_parts (has_kind (kind_named ms g.kind) v) _ h).1 k

  default_kind : (k : Kind) → has_kind k (default_value k) ≡ true
  default_kind kind.Int = refl
  default_kind kind.Text = refl
  default_kind kind.Bool = refl
  default_kind (kind.Ref m) = refl

  fit_at : (all ms : List Entity) (m id : ℕ) (cells : List Value) → IsSomeAnd (slice_get (shapes_of_models all ms) m) (λ shape. IsShaped shape id cells) → have_kinds (kinds_of_fields all (fields_at ms m)) cells ≡ true
  fit_at all [] m id cells h = absurd h
  fit_at all (e ∷ ms) zero id cells h = h.fit
  fit_at all (e ∷ ms) (suc m) id cells h = fit_at all ms m id cells h

  abbrev SomeRecord : ℕ → Option PlainRow → Type 0
  SomeRecord m None = ⊤
  SomeRecord m (Some r) = SeenRecord m r

  found_if : (m : ℕ) (b : Bool) (r : PlainRow) (o : Option PlainRow) → SeenRecord m r → SomeRecord m o → SomeRecord m (if b then Some r else o)
  found_if m true r o h k = h
  found_if m false r o h k = k

  found : (m id : ℕ) (rows : List PlainRow) → AllByRecursion (SeenRecord m) rows → SomeRecord m (record_with id rows)
  found m id [] a = tt
  found m id (r ∷ rows) a = found_if m (r.id == id) r (record_with id rows) a.0 (found m id rows a.1)

  referred_to : (m : ℕ) (v : Value) (rows : List PlainRow) → AllByRecursion (SeenRecord m) rows → SomeRecord m (referred_record v rows)
  referred_to m (value.Int i) rows a = tt
  referred_to m (value.Text t) rows a = tt
  referred_to m (value.Bool b) rows a = tt
  referred_to m (value.Ref None) rows a = tt
  referred_to m (value.Ref (Some id)) rows a = found m id rows a

  cell_there : (m f : ℕ) (r : Option PlainRow) → SomeRecord m r → has_kind (kind_at app.models (fields_at app.models m) f) (cell_of r f (default_value (kind_at app.models (fields_at app.models m) f))) ≡ true
  cell_there m f None g = default_kind _
  cell_there m f (Some r) g =
      cell_kind app.models (fields_at app.models m) r.cells f _ (fit_at app.models app.models m r.id r.cells g.fit) (default_kind _)

  named_free : (m : ℕ) (place : Option ℕ) (r : Option PlainRow) → SomeRecord m r → is_free_field_at app.models m place ≡ true → is_free_value app (cell_named seen m place r) ≡ true
  named_free m None r g free = refl
  named_free m (Some f) r g free = value_free app (kind_at app.models (fields_at app.models m) f) _ (cell_there m f r g) free

  got_free : (place : Option ℕ) (field : List ℕ) (v : Value) → is_free_field_in app.models place field ≡ true → is_free_value app (got_of seen place field v) ≡ true
  got_free None field v free = refl
  got_free (Some m) field v free = named_free m (field_place (fields_at app.models m) field) _ (referred_to m v (rows_of seen.tables m) (seen_table m)) free

  two_free : (o : Op) (a b : Value) → is_free_value app (two o a b) ≡ true
  two_free op.Add a b = refl
  two_free op.Sub a b = refl
  two_free op.Mul a b = refl
  two_free op.Eq a b = refl
  two_free op.Lt a b = refl
  two_free op.And a b = refl
  two_free op.Or a b = refl

  count_free : (b : Bool) (i j : ℤ) → is_free_value app (if b then nearest i else value.Int j) ≡ true
  count_free true i j = refl
  count_free false i j = refl

  summed_free : (bs : List Binder) (term : List Binding → Value) (env : List Binding) (v : Value) (tuples : List (List ℕ)) → is_free_value app v ≡ true → is_free_value app (summed_terms bs term env v tuples) ≡ true
  summed_free bs term env v [] h = h
  summed_free bs term env v (ids ∷ tuples) h = summed_free bs term env (two op.Add v (term (bound bs ids env))) tuples (two_free op.Add v (term (bound bs ids env)))

  some_free : (tuples : List (List ℕ)) → is_free_value app (some_of tuples) ≡ true
  some_free [] = refl
  some_free (ids ∷ tuples) = refl

  pick_free : (b : Bool) (x y : Value) → is_free_value app x ≡ true → is_free_value app y ≡ true → is_free_value app (pick b x y) ≡ true
  pick_free true x y h g = h
  pick_free false x y h g = g

  -- The value of an expression that refers only to models without groups.
  pub refers_to_free : (e : Expression) (env : List Binding) → is_free_env app env ≡ true → refers_free app.models (is_free_viewer app) e ≡ true → is_free_value app (mean seen e env) ≡ true
  refers_to_free (Expression.int i) env h free = refl
  refers_to_free (Expression.text t) env h free = refl
  refers_to_free (Expression.bool b) env h free = refl
  refers_to_free (Expression.none_of m) env h free = refl
  refers_to_free (Expression.name x) env h free = look_free app (value.Int (pos 0)) env x refl h
  refers_to_free Expression.this env h free = absurd cc
  refers_to_free Expression.viewer env h free = viewer_free app app.viewer viewer case.asker free
  refers_to_free (Expression.get m f e) env h free = got_free (model_place app.models m) f (mean seen e env) free
  refers_to_free (Expression.live e) env h free = refl
  refers_to_free (Expression.two o a b) env h free = two_free o (mean seen a env) (mean seen b env)
  refers_to_free (Expression.negated e) env h free = refl
  refers_to_free (Expression.cat es) env h free = refl
  refers_to_free (Expression.str e) env h free = refl
  refers_to_free (Expression.pick c a b) env h free =
      let p = and_parts (refers_free app.models (is_free_viewer app) a) (refers_free app.models (is_free_viewer app) b) free in
      pick_free (is_true (mean seen c env)) (mean seen a env) (mean seen b env) (refers_to_free a env h p.0) (refers_to_free b env h p.1)
  refers_to_free (Expression.count bs c o) env h free = count_free (is_single bs) (pos (length (answers_by seen bs o (mean seen c) env))) (pos 0)
  refers_to_free (Expression.sum bs c o e) env h free =
      either_value app (is_single bs) (summed_terms bs (mean seen e) env (value.Int (pos 0)) (answers_by seen bs o (mean seen c) env)) (value.Int (pos 0))
      (summed_free bs (mean seen e) env (value.Int (pos 0)) (answers_by seen bs o (mean seen c) env) refl) refl
  refers_to_free (Expression.any_of bs c o) env h free = some_free (answers_by seen bs o (mean seen c) env)
  refers_to_free (Expression.first bs c o) env h free = first_free app (answers_by seen bs o (mean seen c) env) (answers_free bs o (mean seen c) env free)

  -- The rows to which the value of such an expression refers have no guards.
  free_stands : (v : Value) → is_free_value app v ≡ true → stands_own this v s.tables ≡ true
  free_stands (value.Int i) free = refl
  free_stands (value.Text t) free = refl
  free_stands (value.Bool b) free = refl
  free_stands (value.Ref None) free = refl
  free_stands (value.Ref (Some id)) free = rows_of_table this id (rows_of s.tables (model_of_id id)) (place_free app s viewer case this (Some (model_of_id id)) free)

  this_means : (e : Expression) (env : List Binding) → is_this e ≡ true → mean seen e env ≡ value.Ref this
  this_means (Expression.int i) env h = absurd cc
  this_means (Expression.text t) env h = absurd cc
  this_means (Expression.bool b) env h = absurd cc
  this_means (Expression.none_of m) env h = absurd cc
  this_means (Expression.name x) env h = absurd cc
  this_means Expression.this env h = refl
  this_means Expression.viewer env h = absurd cc
  this_means (Expression.get m f e) env h = absurd cc
  this_means (Expression.live e) env h = absurd cc
  this_means (Expression.two o a b) env h = absurd cc
  this_means (Expression.negated e) env h = absurd cc
  this_means (Expression.cat es) env h = absurd cc
  this_means (Expression.str e) env h = absurd cc
  this_means (Expression.pick c a b) env h = absurd cc
  this_means (Expression.count bs c o) env h = absurd cc
  this_means (Expression.sum bs c o e) env h = absurd cc
  this_means (Expression.any_of bs c o) env h = absurd cc
  this_means (Expression.first bs c o) env h = absurd cc

  -- What a local `get` reads.
  pub got_own : (m : List ℕ) (e : Expression) (env : List Binding) (v : Value) → v ≡ mean seen e env → (is_this e || is_free_model app.models m) ≡ true → reads_own this v (table_named app s m) ≡ true
  got_own m e env v is local = got_if (is_this e) refl local
    where
      got_if : (b : Bool) → is_this e ≡ b → (b || is_free_model app.models m) ≡ true → reads_own this v (table_named app s m) ≡ true
      got_if true own h = this_read app s viewer case this v (model_place app.models m) (is ∙ this_means e env own)
      got_if false other h = any_read this v (table_named app s m) (model_free app s viewer case this m h)

  -- What a local `live` reads.
  pub live_own : (e : Expression) (env : List Binding) (v : Value) → v ≡ mean seen e env → is_free_env app env ≡ true → (is_this e || refers_free app.models (is_free_viewer app) e) ≡ true → stands_own this v s.tables ≡ true
  live_own e env v is free local = live_if (is_this e) refl local
    where
      live_if : (b : Bool) → is_this e ≡ b → (b || refers_free app.models (is_free_viewer app) e) ≡ true → stands_own this v s.tables ≡ true
      live_if true own h = this_stands app s viewer case this v (is ∙ this_means e env own)
      live_if false other h = free_stands v (ap (is_free_value app) is ∙ refers_to_free e env free h)

-- The same state and another test.
pub locally : (app : Application) (s t : State) (viewer : Option ℕ) (test other : Bool) → t ≡ s → (test ≡ true → other ≡ true) → IsLocally app s viewer test → IsLocally app t viewer other
locally app s t viewer test other same passes h =
    record {
      case = subst (λ (x : State). IsLocalCase app x viewer) (sym same) h.case;
      passed = passes h.passed;
    }

-- The parts of a test.

pub keep_first : (f a b : Bool) → (f && (a && b)) ≡ true → (f && a) ≡ true
keep_first true true b h = refl
keep_first true false b h = h
keep_first false a b h = h

pub keep_last : (f a b : Bool) → (f && (a && b)) ≡ true → (f && b) ≡ true
keep_last true true b h = h
keep_last true false b h = absurd cc
keep_last false a b h = h

pub other_first : (f g a : Bool) → (f ≡ true → g ≡ true) → (f && a) ≡ true → (g && a) ≡ true
other_first f g a h t = let p = and_parts f a t in and_from g a (h p.0) p.1

-- A query whose binders range over models without groups.
pub ranges_free : (f a b l : Bool) → (f && ((a && b) && l)) ≡ true → ((f && a) && l) ≡ true
ranges_free true true true l h = h
ranges_free true true false l h = absurd cc
ranges_free true false b l h = h
ranges_free false a b l h = h

-- Tuples of records of models without groups bind names only to such records.
pub bound_all : (app : Application) (bs : List Binder) (env : List Binding) (tuples : List (List ℕ)) → is_free_env app env ≡ true → list_all (are_free_ids app) tuples ≡ true →
    list_all (λ ids. is_free_env app (bound bs ids env)) tuples ≡ true
bound_all app bs env tuples h free = all_less (are_free_ids app) (λ ids. is_free_env app (bound bs ids env)) (λ ids f. bound_free app bs ids env h f) tuples free

each_lengthened : (q : List ℕ → Bool) (js : List ℕ) (ts : List (List ℕ)) → list_all q (lengthened_all ts js) ≡ true → list_all (λ ids. list_all q (lengthened_tuples ids js)) ts ≡ true
each_lengthened q js [] h = refl
each_lengthened q js (t ∷ ts) h =
    let a = and_parts (list_all q (lengthened_tuples t js)) (list_all q (lengthened_all ts js)) (sym (list_all-append q (lengthened_tuples t js) (lengthened_all ts js)) ∙ h) in
    and_from (list_all q (lengthened_tuples t js)) (list_all (λ ids. list_all q (lengthened_tuples ids js)) ts) a.0 (each_lengthened q js ts a.1)

-- The tuples of a product begin tuples of records of models without groups.
pub begun_free : (app : Application) (s : State) (viewer : Option ℕ) (case : IsLocalCase app s viewer) (u : ℕ → Bool) (this : Option ℕ) (bs : List Binder) (o : Option Wanted) (env : List Binding)
    (last : Option (List ℕ)) (tuples : List (List ℕ)) → is_free_env app env ≡ true → are_free app.models bs ≡ true →
    IsBegun (seen app s viewer case u this) (behind_first bs) (firsts_wanted app.models u s.tables bs o) last tuples → list_all (begins_free app bs env last) tuples ≡ true
begun_free app s viewer case u this bs o env (Some js) tuples h free begun =
    let q : List ℕ → Bool = λ ids. is_free_env app (bound bs ids env) in
    each_lengthened q js tuples
    (ap (list_all q) begun
    ∙ bound_all app bs env (tuples_wanted (seen app s viewer case u this) u s.tables bs o) h (wanted_free app s viewer case u this bs o free))
begun_free app s viewer case u this bs o env None tuples h free begun =
    let q : List ℕ → Bool = λ ids. is_free_env app (bound bs ids env) in
    let most = tuples_from (seen app s viewer case u this) (but_last (behind_first bs)) (firsts_wanted app.models u s.tables bs o) in
    ap (list_all (begins_free app bs env None)) begun
    ∙ all_less q (begins_free app bs env None) (λ ids f. and_from (q ids) (are_free app.models bs) f free) most
    (bound_all app bs env most h (most_free app s viewer case u this bs o free))

-- The tuple is bound first, and then each last id.
pub last_free : (app : Application) (bs left : List Binder) (env inner : List Binding) (ids js : List ℕ) → inner ≡ bound bs ids env → left ≡ left_behind bs ids →
    list_all (λ ids. is_free_env app (bound bs ids env)) (lengthened_tuples ids js) ≡ true → list_all (λ j. is_free_env app (inner ++ first_bound left (value.Ref (Some j)))) js ≡ true
last_free app bs left env inner ids [] inside behind h = refl
last_free app bs left env inner ids (j ∷ js) inside behind h =
    let longer = ids ++ j ∷ [] in
    let v = value.Ref (Some j) in
    let a = and_parts (is_free_env app (bound bs longer env)) (list_all (λ ids. is_free_env app (bound bs ids env)) (lengthened_tuples ids js)) h in
    and_from (is_free_env app (inner ++ first_bound left v)) (list_all (λ j. is_free_env app (inner ++ first_bound left (value.Ref (Some j)))) js)
    (ap (is_free_env app) (ap (λ es. es ++ first_bound left v) inside ∙ ap (λ l. bound bs ids env ++ first_bound l v) behind ∙ bound-longer bs ids j env) ∙ a.0)
    (last_free app bs left env inner ids js inside behind a.1)
