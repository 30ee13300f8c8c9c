-- An expression has the same value in a world without some records if it depends on none of them.
use Rattle.std.proofs.Common.{◌≡◌, ◌∙◌, refl, sym, ap, subst, arith, pos, ℕ, zero, suc, inl, inr, ◌==◌, ◌&&◌, not, Bool, true, false, if◌then◌else◌, List, [], ◌∷◌, ◌++◌, length}
use Rattle.std.specs.Prelude.{Option, Some, None, map, unwrap_or}
use Rattle.std.specs.Option.{option_to_list}
use Rattle.std.specs.List.{AllByRecursion, list_all}
use Rattle.std.proofs.lemmas.Bool.{and_parts, eqb-true}
use Rattle.jac_value.specs.Ids.{model_of_id}
use Rattle.jac_value.specs.Values.{value_text}
use Rattle.jac_value.specs.declared.value.Value.{Value}
use Rattle.jac_value.specs.declared.value.Value.TheVariants as value
use Rattle.jac_value.specs.contracts.value.ValuePartialEq.TheImpl as equality
use Rattle.jac_lang.specs.declared.bindings.Binding.{Binding}
use Rattle.jac_lang.specs.declared.expressions.Op.TheVariants as op
use Rattle.jac_lang.specs.declared.queries.Binder.{Binder}
use Rattle.jac_lang.specs.declared.queries.Order.{Order}
use Rattle.jac_lang.specs.declared.queries.Order.TheVariants as orders
use Rattle.jac_lang.specs.Lookup.{same_text, model_place, fields_at, field_place, kind_at}
use Rattle.jac_lang.specs.Syntax.{Entity, Expression, Expressions}
use Rattle.jac_rows.specs.Tables.{rows_of}
use Rattle.jac_rows.specs.declared.plain.PlainRow.{PlainRow}
use Rattle.jac_plain.specs.World.{World, rows_at_place, records, record_with, referred_record, cell_named, got_of, got}
use Rattle.jac_plain.specs.Expressions.{is_true, is_less, two, pick, bytes_of, stands, is_live, look_from, look, binding, bound, extended_tuples, crossed_tuples, tuples_from, kept_by, model_of_binder, key_of, with_sorted, sorted_tuples, ordered_tuples, answers_by, is_single, count_of, summed_terms, sum_of, some_of, first_of, mean, texts}
use Rattle.jac_plain.specs.Records.{with_ids}
use Rattle.jac_index_choice.specs.Cut.{crossed_where, tuples_where, Covers}
use Rattle.jac_index_choice.specs.Fixed.{has_binder, is_fixed, field_asked, AsksFor, has_value}
use Rattle.jac_index_choice.proofs.Narrowing.{narrower}
use Rattle.jac_index_choice.proofs.Choosing.{has_asked}
use Rattle.jac_policy_deps.specs.declared.dependency.Dependency.{Dependency}
use Rattle.jac_policy_deps.specs.declared.dependency.Dependency.TheVariants as dependency
use Rattle.jac_policy_deps.specs.declared.dependency.Referent.{Referent}
use Rattle.jac_policy_deps.specs.declared.dependency.Referent.TheVariants as referent
use Rattle.jac_policy_deps.specs.Dependencies.{may_refer, field_if, field_referent, model_referent, own_referent, named_referent, is_same_referent, is_referent_in, is_referent, one_or_other, asked_field, found_field, found_link, dependency_found_at, dependency_found_in, dependency_found_by, dependency_linked_by, found_dependency, table_dependency, one_dependency, records_dependency, binder_dependency, binder_dependencies, read_dependency, live_dependency, dependencies, dependencies_each}
use Rattle.jac_policy_deps.specs.Cleared.{cleared_world, is_clear, referent_in, field_in, IsTest}

-- A test of all elements of two lists.
and_split : (a b c : Bool) → (a ≡ true → b ≡ true → c ≡ true) → (a && b) ≡ true → c ≡ true
and_split a b c f h = let parts = and_parts a b h in f parts.0 parts.1

pub all_parts : (t : Dependency → Bool) (xs ys : List Dependency) → list_all t (xs ++ ys) ≡ true → (list_all t xs ≡ true) × (list_all t ys ≡ true)
all_parts t [] ys h = (refl, h)
all_parts t (x ∷ xs) ys h =
    let parts = and_parts (t x) (list_all t (xs ++ ys)) h in
    let rest = all_parts t xs ys parts.1 in
    (rw (parts.0, rest.0) refl, rest.1)

all_one : (t : Dependency → Bool) (x : Dependency) → list_all t (x ∷ []) ≡ true → t x ≡ true
all_one t x h = (and_parts (t x) true h).0

-- Rows without some records.
abbrev AllStay : (ℕ → Bool) → List ℕ → Type 0
AllStay stays ids = AllByRecursion (λ (id : ℕ). stays id ≡ true) ids

abbrev AllClear : (ℕ → Bool) → List Binding → Type 0
AllClear stays env = AllByRecursion (λ (b : Binding). is_clear stays b.bound_to ≡ true) env

abbrev AllTuples : (ℕ → Bool) → List (List ℕ) → Type 0
AllTuples stays ts = AllByRecursion (λ (t : List ℕ). AllStay stays t) ts

pub rows_cleared : (stays : ℕ → Bool) (tables : List (List PlainRow)) (m : ℕ) → rows_of (map (with_ids stays) tables) m ≡ with_ids stays (rows_of tables m)
rows_cleared stays [] zero = refl
rows_cleared stays [] (suc m) = refl
rows_cleared stays (t ∷ tables) zero = refl
rows_cleared stays (t ∷ tables) (suc m) = rows_cleared stays tables m

not_both : (a : Bool) → a ≡ true → a ≡ false → false ≡ true
not_both a t f = sym f ∙ t

record_if : (stays : ℕ → Bool) (b c : Bool) (r : PlainRow) (id : ℕ) (rows : List PlainRow) → stays r.id ≡ b → (r.id == id) ≡ c → stays id ≡ true
    → record_with id (with_ids stays rows) ≡ record_with id rows
    → record_with id (if b then r ∷ with_ids stays rows else with_ids stays rows) ≡ (if c then Some r else record_with id rows)
record_if stays true true r id rows e f s h = rw f refl
record_if stays true false r id rows e f s h = rw f h
record_if stays false true r id rows e f s h =
    let same : r.id ≡ id = grind (arith, f) in
    let wrong : false ≡ true = not_both (stays id) s (ap stays (sym same) ∙ e) in
    absurd cc
record_if stays false false r id rows e f s h = h

pub record_stays : (stays : ℕ → Bool) (id : ℕ) (rows : List PlainRow) → stays id ≡ true → record_with id (with_ids stays rows) ≡ record_with id rows
record_stays stays id [] s = refl
record_stays stays id (r ∷ rows) s = record_if stays (stays r.id) (r.id == id) r id rows refl refl s (record_stays stays id rows s)

stands_if : (stays : ℕ → Bool) (b c : Bool) (r : PlainRow) (id : ℕ) (rows : List PlainRow) → stays r.id ≡ b → (r.id == id) ≡ c
    → (stands (record_with id (with_ids stays rows)) ≡ true → stays id ≡ true)
    → stands (record_with id (if b then r ∷ with_ids stays rows else with_ids stays rows)) ≡ true → stays id ≡ true
stands_if stays true true r id rows e f h k =
    let same : r.id ≡ id = grind (arith, f) in
    ap stays (sym same) ∙ e
stands_if stays true false r id rows e f h k =
    let there : stands (record_with id (with_ids stays rows)) ≡ true = rw f at k in h there
stands_if stays false c r id rows e f h k = h k

-- A record that exists among those that stay is one that stays.
pub stands_stays : (stays : ℕ → Bool) (id : ℕ) (rows : List PlainRow) → stands (record_with id (with_ids stays rows)) ≡ true → stays id ≡ true
stands_stays stays id [] h = absurd cc
stands_stays stays id (r ∷ rows) h = stands_if stays (stays r.id) (r.id == id) r id rows refl refl (stands_stays stays id rows) h

-- Tuples of records that stay.
stay_append : (stays : ℕ → Bool) (xs : List ℕ) (id : ℕ) → AllStay stays xs → stays id ≡ true → AllStay stays (xs ++ id ∷ [])
stay_append stays [] id all s = (s, tt)
stay_append stays (x ∷ xs) id all s = (all.0, stay_append stays xs id all.1 s)

clear_append : (stays : ℕ → Bool) (env : List Binding) (b : Binding) → AllClear stays env → is_clear stays b.bound_to ≡ true → AllClear stays (env ++ b ∷ [])
clear_append stays [] b all s = (s, tt)
clear_append stays (x ∷ env) b all s = (all.0, clear_append stays env b all.1 s)

tuples_append : (stays : ℕ → Bool) (xs ys : List (List ℕ)) → AllTuples stays xs → AllTuples stays ys → AllTuples stays (xs ++ ys)
tuples_append stays [] ys a b = b
tuples_append stays (x ∷ xs) ys a b = (a.0, tuples_append stays xs ys a.1 b)

rows_if : (stays : ℕ → Bool) (b : Bool) (r : PlainRow) (rows : List PlainRow) → stays r.id ≡ b
    → AllByRecursion (λ (x : PlainRow). stays x.id ≡ true) rows → AllByRecursion (λ (x : PlainRow). stays x.id ≡ true) (if b then r ∷ rows else rows)
rows_if stays true r rows e all = (e, all)
rows_if stays false r rows e all = all

rows_stay : (stays : ℕ → Bool) (rows : List PlainRow) → AllByRecursion (λ (x : PlainRow). stays x.id ≡ true) (with_ids stays rows)
rows_stay stays [] = tt
rows_stay stays (r ∷ rows) = rows_if stays (stays r.id) r (with_ids stays rows) refl (rows_stay stays rows)

extended_stay : (stays : ℕ → Bool) (t : List ℕ) (rows : List PlainRow) → AllStay stays t → AllByRecursion (λ (x : PlainRow). stays x.id ≡ true) rows → AllTuples stays (extended_tuples t rows)
extended_stay stays t [] a all = tt
extended_stay stays t (r ∷ rows) a all = (stay_append stays t r.id a all.0, extended_stay stays t rows a all.1)

crossed_stay : (stays : ℕ → Bool) (ts : List (List ℕ)) (rows : List PlainRow) → AllTuples stays ts → AllByRecursion (λ (x : PlainRow). stays x.id ≡ true) rows → AllTuples stays (crossed_tuples ts rows)
crossed_stay stays [] rows a all = tt
crossed_stay stays (t ∷ ts) rows a all =
    tuples_append stays (extended_tuples t rows) (crossed_tuples ts rows) (extended_stay stays t rows a.0 all) (crossed_stay stays ts rows a.1 all)

crossed_cut : (stays : ℕ → Bool) (ts : List (List ℕ)) (rows : List PlainRow) → crossed_tuples ts (with_ids stays rows) ≡ crossed_where (λ front id. stays id) ts rows
crossed_cut stays [] rows = refl
crossed_cut stays (t ∷ ts) rows = ap (λ l. extended_tuples t (with_ids stays rows) ++ l) (crossed_cut stays ts rows)

-- Environments.
clear_look : (stays : ℕ → Bool) (v : Value) (env : List Binding) (x : List ℕ) → is_clear stays v ≡ true → AllClear stays env → is_clear stays (look_from v env x) ≡ true
clear_look stays v [] x h all = h
clear_look stays v (b ∷ env) x h all = clear_look stays (if same_text b.name x then b.bound_to else v) env x (clear_if (same_text b.name x) b.bound_to v all.0 h) all.1
  where
    clear_if : (c : Bool) (a d : Value) → is_clear stays a ≡ true → is_clear stays d ≡ true → is_clear stays (if c then a else d) ≡ true
    clear_if true a d p q = p
    clear_if false a d p q = q

clear_bound : (stays : ℕ → Bool) (bs : List Binder) (ids : List ℕ) (env : List Binding) → AllStay stays ids → AllClear stays env → AllClear stays (bound bs ids env)
clear_bound stays [] ids env s all = all
clear_bound stays (b ∷ bs) [] env s all = all
clear_bound stays (b ∷ bs) (id ∷ ids) env s all =
    clear_bound stays bs ids (env ++ binding b.name (value.Ref (Some id)) ∷ []) s.1 (clear_append stays env (binding b.name (value.Ref (Some id))) all s.0)

-- A condition with the same value in clear environments keeps the same tuples, and their records
-- stay.
kept_same : (stays : ℕ → Bool) (bs : List Binder) (cond other : List Binding → Value) (env : List Binding) (ts : List (List ℕ))
    → ((en : List Binding) → AllClear stays en → cond en ≡ other en) → AllClear stays env → AllTuples stays ts
    → kept_by bs cond env ts ≡ kept_by bs other env ts
kept_same stays bs cond other env [] f clear all = refl
kept_same stays bs cond other env (t ∷ ts) f clear all =
    let here : cond (bound bs t env) ≡ other (bound bs t env) = f (bound bs t env) (clear_bound stays bs t env all.0 clear) in
    let rest : kept_by bs cond env ts ≡ kept_by bs other env ts = kept_same stays bs cond other env ts f clear all.1 in
    rw (here, rest) refl

tuple_if : (stays : ℕ → Bool) (b : Bool) (t : List ℕ) (ts : List (List ℕ)) → AllStay stays t → AllTuples stays ts → AllTuples stays (if b then t ∷ ts else ts)
tuple_if stays true t ts a all = (a, all)
tuple_if stays false t ts a all = all

kept_stay : (stays : ℕ → Bool) (bs : List Binder) (cond : List Binding → Value) (env : List Binding) (ts : List (List ℕ)) → AllTuples stays ts → AllTuples stays (kept_by bs cond env ts)
kept_stay stays bs cond env [] all = tt
kept_stay stays bs cond env (t ∷ ts) all = tuple_if stays (is_true (cond (bound bs t env))) t (kept_by bs cond env ts) all.0 (kept_stay stays bs cond env ts all.1)

-- A sort by keys that are the same for these tuples.
inserted_if : (stays : ℕ → Bool) (b : Bool) (x y : List ℕ) (ys zs : List (List ℕ)) → AllStay stays x → AllStay stays y → AllTuples stays ys → AllTuples stays zs → AllTuples stays (if b then y ∷ zs else x ∷ (y ∷ ys))
inserted_if stays true x y ys zs a b c d = (b, d)
inserted_if stays false x y ys zs a b c d = (a, (b, c))

inserted_stay : (stays : ℕ → Bool) (less : Value → Value → Bool) (key : List ℕ → Value) (x : List ℕ) (ts : List (List ℕ)) → AllStay stays x → AllTuples stays ts → AllTuples stays (with_sorted less key x ts)
inserted_stay stays less key x [] a all = (a, tt)
inserted_stay stays less key x (y ∷ ys) a all = inserted_if stays (less (key y) (key x)) x y ys (with_sorted less key x ys) a all.0 all.1 (inserted_stay stays less key x ys a all.1)

sorted_stay : (stays : ℕ → Bool) (less : Value → Value → Bool) (key : List ℕ → Value) (ts : List (List ℕ)) → AllTuples stays ts → AllTuples stays (sorted_tuples less key ts)
sorted_stay stays less key [] all = tt
sorted_stay stays less key (t ∷ ts) all = inserted_stay stays less key t (sorted_tuples less key ts) all.0 (sorted_stay stays less key ts all.1)

inserted_same : (stays : ℕ → Bool) (less : Value → Value → Bool) (key other : List ℕ → Value) (x : List ℕ) (ts : List (List ℕ))
    → ((t : List ℕ) → AllStay stays t → key t ≡ other t) → AllStay stays x → AllTuples stays ts → with_sorted less key x ts ≡ with_sorted less other x ts
inserted_same stays less key other x [] f a all = refl
inserted_same stays less key other x (y ∷ ys) f a all =
    rw (f y all.0, f x a, inserted_same stays less key other x ys f a all.1) refl

sorted_same : (stays : ℕ → Bool) (less : Value → Value → Bool) (key other : List ℕ → Value) (ts : List (List ℕ))
    → ((t : List ℕ) → AllStay stays t → key t ≡ other t) → AllTuples stays ts → sorted_tuples less key ts ≡ sorted_tuples less other ts
sorted_same stays less key other [] f all = refl
sorted_same stays less key other (t ∷ ts) f all =
    ap (with_sorted less key t) (sorted_same stays less key other ts f all.1)
    ∙ inserted_same stays less key other t (sorted_tuples less other ts) f all.0 (sorted_stay stays less other ts all.1)

ordered_stay : (stays : ℕ → Bool) (w : World) (bs : List Binder) (o : Order) (ts : List (List ℕ)) → AllTuples stays ts → AllTuples stays (ordered_tuples w bs o ts)
ordered_stay stays w bs orders.Key ts all = all
ordered_stay stays w bs (orders.Up x f) ts all = sorted_stay stays is_less (key_of w bs x f) ts all
ordered_stay stays w bs (orders.Down x f) ts all = sorted_stay stays (λ a b. is_less b a) (key_of w bs x f) ts all

summed_same : (stays : ℕ → Bool) (bs : List Binder) (term other : List Binding → Value) (env : List Binding) (v : Value) (ts : List (List ℕ))
    → ((en : List Binding) → AllClear stays en → term en ≡ other en) → AllClear stays env → AllTuples stays ts
    → summed_terms bs term env v ts ≡ summed_terms bs other env v ts
summed_same stays bs term other env v [] f clear all = refl
summed_same stays bs term other env v (t ∷ ts) f clear all =
    ap (λ x. summed_terms bs term env (two op.Add v x) ts) (f (bound bs t env) (clear_bound stays bs t env all.0 clear))
    ∙ summed_same stays bs term other env (two op.Add v (other (bound bs t env))) ts f clear all.1

sum_if : (b : Bool) (x y : Value) → x ≡ y → (if b then x else value.Int (pos 0)) ≡ (if b then y else value.Int (pos 0))
sum_if b x y e = ap (λ v. if b then v else value.Int (pos 0)) e

-- What a condition finds records by.
pub same_referent : (s t : Referent) → is_same_referent s t ≡ true → s ≡ t
same_referent referent.This referent.This e = refl
same_referent (referent.Field m f) (referent.Field n g) e =
    let parts = and_parts (m == n) (f == g) e in
    rw (eqb-true m n parts.0, eqb-true f g parts.1) refl
same_referent referent.Viewer referent.Viewer e = refl
same_referent s t e = absurd cc

referent_named : (s : Referent) (found : Option Referent) → is_referent_in s found ≡ true → found ≡ Some s
referent_named s None e = absurd cc
referent_named s (Some t) e = ap Some (sym (same_referent s t e))

if_mean : (w : World) (s : Referent) (m f : ℕ) (b : Bool) → field_if b m f ≡ Some s → cell_named w m (Some f) (referred_record (value.Ref w.this) (rows_of w.tables m)) ≡ referent_in w s
if_mean w s m f true h = let same : referent.Field m f ≡ s = cc in ap (referent_in w) same
if_mean w s m f false h = absurd cc

field_mean : (w : World) (s : Referent) (m : ℕ) (f : Option ℕ) → field_referent w.models m f ≡ Some s → cell_named w m f (referred_record (value.Ref w.this) (rows_of w.tables m)) ≡ referent_in w s
field_mean w s m None h = absurd cc
field_mean w s m (Some f) h = if_mean w s m f (may_refer (kind_at w.models (fields_at w.models m) f)) h

model_mean : (w : World) (s : Referent) (m : Option ℕ) (f : List ℕ) → model_referent w.models m f ≡ Some s → got_of w m f (value.Ref w.this) ≡ referent_in w s
model_mean w s None f h = absurd cc
model_mean w s (Some m) f h = field_mean w s m (field_place (fields_at w.models m) f) h

own_mean : (w : World) (s : Referent) (m f : List ℕ) (e : Expression) (env : List Binding) → own_referent w.models m f e ≡ Some s → got w m f (mean w e env) ≡ referent_in w s
own_mean w s m f Expression.this env h = model_mean w s (model_place w.models m) f h
own_mean w s m f e env h = absurd cc

-- An expression that names a record has the value of that record's referent.
named_mean : (w : World) (s : Referent) (e : Expression) (env : List Binding) → named_referent w.models e ≡ Some s → mean w e env ≡ referent_in w s
named_mean w s Expression.this env h = let same : referent.This ≡ s = cc in ap (referent_in w) same
named_mean w s Expression.viewer env h = let same : referent.Viewer ≡ s = cc in ap (referent_in w) same
named_mean w s (Expression.get m f e) env h = own_mean w s m f e env h
named_mean w s e env h = absurd cc

own_fixed : (models : List Entity) (s : Referent) (m f : List ℕ) (e : Expression) (bs : List Binder) → own_referent models m f e ≡ Some s → is_fixed bs e ≡ true
own_fixed models s m f Expression.this bs h = refl
own_fixed models s m f e bs h = absurd cc

named_fixed : (models : List Entity) (s : Referent) (e : Expression) (bs : List Binder) → named_referent models e ≡ Some s → is_fixed bs e ≡ true
named_fixed models s Expression.this bs h = refl
named_fixed models s Expression.viewer bs h = refl
named_fixed models s (Expression.get m f e) bs h = own_fixed models s m f e bs h
named_fixed models s e bs h = absurd cc

asked_parts : (c : Bool) (found : Option (List ℕ)) (f : List ℕ) → asked_field c found ≡ Some f → (c ≡ true) × (found ≡ Some f)
asked_parts true found f h = (refl, h)
asked_parts false found f h = absurd cc

else_parts : (P : List ℕ → Type 0) (a b : Option (List ℕ)) (f : List ℕ) → (a ≡ Some f → P f) → (b ≡ Some f → P f) → one_or_other a b ≡ Some f → P f
else_parts P None b f p q h = q h
else_parts P (Some x) b f p q h = p h

-- The condition equates a field with an expression that names the record.
record AsksBy (models : List Entity) (s : Referent) (m x : List ℕ) (bs : List Binder) (c : Expression) (f : List ℕ) : Type 0 where
  by : Expression
  named : named_referent models by ≡ Some s
  asks : AsksFor m x bs (record { field = f; value = by }) c

found_asks : (models : List Entity) (s : Referent) (m x : List ℕ) (bs : List Binder) (c : Expression) (f : List ℕ) → found_field models s m x c ≡ Some f → AsksBy models s m x bs c f
found_asks models s m x bs (Expression.two op.And a b) f h =
    else_parts (λ g. AsksBy models s m x bs (Expression.two op.And a b) g) (found_field models s m x a) (found_field models s m x b) f
    (λ e. let one : AsksBy models s m x bs a f = found_asks models s m x bs a f e in record { by = one.by; named = one.named; asks = inl one.asks })
    (λ e. let one : AsksBy models s m x bs b f = found_asks models s m x bs b f e in record { by = one.by; named = one.named; asks = inr one.asks }) h
found_asks models s m x bs (Expression.two op.Eq a b) f h =
    let parts = asked_parts (is_referent models s b) (field_asked m x a) f h in
    let is : named_referent models b ≡ Some s = referent_named s (named_referent models b) parts.0 in
    record { by = b; named = is; asks = (parts.1, named_fixed models s b bs is, refl) }
found_asks models s m x bs e f h = absurd cc

-- Reading a record that stays.
module _ (stays : ℕ → Bool) (test : Dependency → Bool) (w : World) (fits : IsTest stays test w) where
  abbrev cleared : World
  cleared = cleared_world stays w

  named_same : (m : ℕ) (f : Option ℕ) (r : Option PlainRow) → cell_named cleared m f r ≡ cell_named w m f r
  named_same m None r = refl
  named_same m (Some f) r = refl

  referred_same : (v : Value) (rows : List PlainRow) → is_clear stays v ≡ true → referred_record v (with_ids stays rows) ≡ referred_record v rows
  referred_same (value.Ref (Some id)) rows h = record_stays stays id rows h
  referred_same (value.Ref None) rows h = refl
  referred_same (value.Int i) rows h = refl
  referred_same (value.Text t) rows h = refl
  referred_same (value.Bool b) rows h = refl

  got_in : (m : Option ℕ) (field : List ℕ) (v : Value) → is_clear stays v ≡ true → got_of cleared m field v ≡ got_of w m field v
  got_in None field v h = refl
  got_in (Some m) field v h =
      let f = field_place (fields_at w.models m) field in
      ap (λ rows. cell_named cleared m f (referred_record v rows)) (rows_cleared stays w.tables m)
      ∙ ap (cell_named cleared m f) (referred_same v (rows_of w.tables m) h)
      ∙ named_same m f (referred_record v (rows_of w.tables m))

  got_clear : (model field : List ℕ) (v : Value) → is_clear stays v ≡ true → got cleared model field v ≡ got w model field v
  got_clear model field v h = got_in (model_place w.models model) field v h

  table_in : (m : Option ℕ) (field : List ℕ) (v : Value) → list_all test (option_to_list (table_dependency m)) ≡ true → got_of cleared m field v ≡ got_of w m field v
  table_in None field v h = refl
  table_in (Some m) field v h =
      let f = field_place (fields_at w.models m) field in
      ap (λ rows. cell_named cleared m f (referred_record v rows)) (rows_cleared stays w.tables m ∙ fits.table m (all_one test (dependency.Table m) h))
      ∙ named_same m f (referred_record v (rows_of w.tables m))

  got_table : (model field : List ℕ) (v : Value) → list_all test (option_to_list (table_dependency (model_place w.models model))) ≡ true → got cleared model field v ≡ got w model field v
  got_table model field v h = table_in (model_place w.models model) field v h

  read_one : (m f : List ℕ) (v : Value) (named : Option Referent) → ((s : Referent) → named ≡ Some s → v ≡ referent_in w s)
      → list_all test (option_to_list (one_or_other (one_dependency named) (table_dependency (model_place w.models m)))) ≡ true → got cleared m f v ≡ got w m f v
  read_one m f v None is h = got_table m f v h
  read_one m f v (Some s) is h =
      got_clear m f v (subst (λ x. is_clear stays x ≡ true) (sym (is s refl)) (fits.one s (all_one test (dependency.One s) h)))

  read_same : (m f : List ℕ) (e : Expression) (env : List Binding) → AllClear stays env → list_all test (option_to_list (read_dependency w.models m e)) ≡ true
      → got cleared m f (mean w e env) ≡ got w m f (mean w e env)
  read_same m f Expression.this env clear h = got_clear m f (value.Ref w.this) fits.own
  read_same m f (Expression.name x) env clear h = got_clear m f (look env x) (clear_look stays (value.Int (pos 0)) env x refl clear)
  read_same m f (Expression.int i) env clear h = got_clear m f (value.Int i) refl
  read_same m f (Expression.text t) env clear h = got_clear m f (value.Text t) refl
  read_same m f (Expression.bool b) env clear h = got_clear m f (value.Bool b) refl
  read_same m f (Expression.none_of n) env clear h = got_clear m f (value.Ref None) refl
  read_same m f e env clear h = read_one m f (mean w e env) (named_referent w.models e) (λ s is. named_mean w s e env is) h

  live_clear : (v : Value) → is_clear stays v ≡ true → is_live cleared v ≡ is_live w v
  live_clear (value.Ref (Some id)) h =
      ap (λ rows. stands (record_with id rows)) (rows_cleared stays w.tables (model_of_id id))
      ∙ ap stands (record_stays stays id (rows_of w.tables (model_of_id id)) h)
  live_clear (value.Ref None) h = refl
  live_clear (value.Int i) h = refl
  live_clear (value.Text t) h = refl
  live_clear (value.Bool b) h = refl

  any_clear : (v : Value) → list_all test (dependency.Any ∷ []) ≡ true → is_clear stays v ≡ true
  any_clear (value.Ref (Some id)) h = fits.any (all_one test dependency.Any h) id
  any_clear (value.Ref None) h = refl
  any_clear (value.Int i) h = refl
  any_clear (value.Text t) h = refl
  any_clear (value.Bool b) h = refl

  live_one : (v : Value) (named : Option Referent) → ((s : Referent) → named ≡ Some s → v ≡ referent_in w s)
      → list_all test (unwrap_or (one_dependency named) dependency.Any ∷ []) ≡ true → is_live cleared v ≡ is_live w v
  live_one v None is h = live_clear v (any_clear v h)
  live_one v (Some s) is h =
      live_clear v (subst (λ x. is_clear stays x ≡ true) (sym (is s refl)) (fits.one s (all_one test (dependency.One s) h)))

  live_same : (e : Expression) (env : List Binding) → AllClear stays env → list_all test (option_to_list (live_dependency w.models e)) ≡ true → is_live cleared (mean w e env) ≡ is_live w (mean w e env)
  live_same Expression.this env clear h = live_clear (value.Ref w.this) fits.own
  live_same (Expression.name x) env clear h = live_clear (look env x) (clear_look stays (value.Int (pos 0)) env x refl clear)
  live_same (Expression.int i) env clear h = refl
  live_same (Expression.text t) env clear h = refl
  live_same (Expression.bool b) env clear h = refl
  live_same (Expression.none_of n) env clear h = refl
  live_same e env clear h = live_one (mean w e env) (named_referent w.models e) (λ s is. named_mean w s e env is) h

  -- The tuples of records that stay.
  records_cleared : (m : Option ℕ) → rows_at_place (map (with_ids stays) w.tables) m ≡ with_ids stays (rows_at_place w.tables m)
  records_cleared None = refl
  records_cleared (Some m) = rows_cleared stays w.tables m

  tuples_cut : (bs : List Binder) (ts : List (List ℕ)) → tuples_from cleared bs ts ≡ tuples_where w (λ front id. stays id) bs ts
  tuples_cut [] ts = refl
  tuples_cut (b ∷ bs) ts =
      ap (λ rs. tuples_from cleared bs (crossed_tuples ts rs)) (records_cleared (model_place w.models b.model))
      ∙ ap (tuples_from cleared bs) (crossed_cut stays ts (records w b.model))
      ∙ tuples_cut bs (crossed_where (λ front id. stays id) ts (records w b.model))

  tuples_stay : (bs : List Binder) (ts : List (List ℕ)) → AllTuples stays ts → AllTuples stays (tuples_from cleared bs ts)
  tuples_stay [] ts all = all
  tuples_stay (b ∷ bs) ts all =
      tuples_stay bs (crossed_tuples ts (records cleared b.model))
      (subst (λ rs. AllTuples stays (crossed_tuples ts rs)) (sym (records_cleared (model_place w.models b.model)))
      (crossed_stay stays ts (with_ids stays (records w b.model)) all (rows_stay stays (records w b.model))))

  later_dependencies : (done : List Binder) (b : Binder) (later : List Binder) (c : Expression) → list_all test (binder_dependencies w.models (done ++ (b ∷ later)) c) ≡ true
      → list_all test (option_to_list (binder_dependency w.models b later c)) ≡ true
  later_dependencies [] b later c h = (all_parts test (option_to_list (binder_dependency w.models b later c)) (binder_dependencies w.models later c) h).0
  later_dependencies (d ∷ done) b later c h =
      later_dependencies done b later c
      (all_parts test (option_to_list (binder_dependency w.models d (done ++ (b ∷ later)) c)) (binder_dependencies w.models (done ++ (b ∷ later)) c) h).1

  -- If the test is passed, a record for which the condition is true stays.
  covered_table : (m id : ℕ) → test (dependency.Table m) ≡ true → stands (record_with id (rows_of w.tables m)) ≡ true → stays id ≡ true
  covered_table m id t s = stands_stays stays id (rows_of w.tables m) (ap (λ rows. stands (record_with id rows)) (fits.table m t) ∙ s)

  abbrev Leads : ℕ → Option Dependency → Type 0
  Leads id o = (x : Dependency) → o ≡ Some x → test x ≡ true → stays id ≡ true

  leads_else : (id : ℕ) (a b : Option Dependency) → Leads id a → Leads id b → Leads id (one_or_other a b)
  leads_else id None b p q x h t = q x h t
  leads_else id (Some y) b p q x h t = p x h t

  leads_if : (id : ℕ) (c : Bool) (o : Option Dependency) → (not c ≡ true → Leads id o) → Leads id (if c then None else o)
  leads_if id true o p x h t = absurd cc
  leads_if id false o p x h t = p refl x h t

  leads_or : (id : ℕ) (o : Option Dependency) (d : Dependency) → Leads id o → (test d ≡ true → stays id ≡ true) → test (unwrap_or o d) ≡ true → stays id ≡ true
  leads_or id None d p q h = q h
  leads_or id (Some x) d p q h = p x refl h

  leads_at : (s : Referent) (m id : ℕ) (place : Option ℕ) → ((f : ℕ) → place ≡ Some f → equality.ghosts.eq (field_in w m f id) (referent_in w s) ≡ true)
      → stands (record_with id (rows_of w.tables m)) ≡ true → Leads id (dependency_found_at s m place)
  leads_at s m id None equal stood x h t = absurd cc
  leads_at s m id (Some f) equal stood x h t =
      let same : x ≡ dependency.Found s m f = cc in
      fits.found s m f id (ap test (sym same) ∙ t) stood (equal f refl)

  read_is : (model name : List ℕ) (m f id : ℕ) → model_place w.models model ≡ Some m → field_place (fields_at w.models m) name ≡ Some f
      → got w model name (value.Ref (Some id)) ≡ field_in w m f id
  read_is model name m f id at place = rw (at, place) refl

  leads_in : (s : Referent) (m id : ℕ) (model : List ℕ) (name : Option (List ℕ)) → model_place w.models model ≡ Some m
      → ((g : List ℕ) → name ≡ Some g → has_value w model g (referent_in w s) id ≡ true)
      → stands (record_with id (rows_of w.tables m)) ≡ true → Leads id (dependency_found_in w.models s m name)
  leads_in s m id model None at has stood x h t = absurd cc
  leads_in s m id model (Some g) at has stood x h t =
      leads_at s m id (field_place (fields_at w.models m) g)
      (λ f place. ap (λ v. equality.ghosts.eq v (referent_in w s)) (sym (read_is model g m f id at place)) ∙ has g refl) stood x h t

  leads_by : (s : Referent) (m : ℕ) (done : List Binder) (b : Binder) (later : List Binder) (c : Expression) (env : List Binding) (front : List ℕ) (id : ℕ) (rest : List ℕ)
      → model_place w.models b.model ≡ Some m → length front ≡ length done → stands (record_with id (rows_of w.tables m)) ≡ true
      → is_true (mean w c (bound (done ++ (b ∷ later)) (front ++ (id ∷ rest)) env)) ≡ true
      → not (has_binder later b.name) ≡ true → Leads id (dependency_found_by w.models s m b c)
  leads_by s m done b later c env front id rest at long stood t single =
      leads_in s m id b.model (found_field w.models s b.model b.name c) at
      (λ g e. let one : AsksBy w.models s b.model b.name (b ∷ later) c g = found_asks w.models s b.model b.name (b ∷ later) c g e in
      subst (λ v. has_value w b.model g v id ≡ true) (named_mean w s one.by (bound done front env) one.named)
      (has_asked w done b later c (record { field = g; value = one.by }) env front id rest single one.asks long t)) stood

  leads_linked : (link : Option Referent) (m : ℕ) (done : List Binder) (b : Binder) (later : List Binder) (c : Expression) (env : List Binding) (front : List ℕ) (id : ℕ) (rest : List ℕ)
      → model_place w.models b.model ≡ Some m → length front ≡ length done → stands (record_with id (rows_of w.tables m)) ≡ true
      → is_true (mean w c (bound (done ++ (b ∷ later)) (front ++ (id ∷ rest)) env)) ≡ true
      → not (has_binder later b.name) ≡ true → Leads id (dependency_linked_by w.models link m b c)
  leads_linked None m done b later c env front id rest at long stood t single x h k = absurd cc
  leads_linked (Some s) m done b later c env front id rest at long stood t single x h k =
      leads_by s m done b later c env front id rest at long stood t single x h k

  covers_place : (place : Option ℕ) (done : List Binder) (b : Binder) (later : List Binder) (c : Expression) (env : List Binding) (front : List ℕ) (id : ℕ) (tail : List ℕ)
      → model_place w.models b.model ≡ place → length front ≡ length done → list_all test (option_to_list (records_dependency w.models place b later c)) ≡ true
      → stands (record_with id (rows_at_place w.tables place)) ≡ true
      → is_true (mean w c (bound (done ++ (b ∷ later)) (front ++ (id ∷ tail)) env)) ≡ true → stays id ≡ true
  covers_place None done b later c env front id tail at long all stood t = absurd cc
  covers_place (Some m) done b later c env front id tail at long all stood t =
      let this : Option Dependency = dependency_found_by w.models referent.This m b c in
      let link : Option Referent = found_link w.models b.model b.name c in
      let linked : Option Dependency = dependency_linked_by w.models link m b c in
      let viewer : Option Dependency = dependency_found_by w.models referent.Viewer m b c in
      leads_or id (found_dependency w.models m b later c) (dependency.Table m)
      (leads_if id (has_binder later b.name) (one_or_other this (one_or_other linked viewer))
      (λ single. leads_else id this (one_or_other linked viewer)
      (leads_by referent.This m done b later c env front id tail at long stood t single)
      (leads_else id linked viewer
      (leads_linked link m done b later c env front id tail at long stood t single)
      (leads_by referent.Viewer m done b later c env front id tail at long stood t single))))
      (λ k. covered_table m id k stood)
      (all_one test (unwrap_or (found_dependency w.models m b later c) (dependency.Table m)) all)

  covers_all : (bs : List Binder) (c : Expression) (env : List Binding) → list_all test (binder_dependencies w.models bs c) ≡ true → Covers w bs (mean w c) env (λ front id. stays id)
  covers_all bs c env all done b later front id rest split long stood t =
      covers_place (model_place w.models b.model) done b later c env front id rest refl long
      (later_dependencies done b later c (subst (λ l. list_all test (binder_dependencies w.models l c) ≡ true) (sym split) all)) stood
      (subst (λ l. is_true (mean w c (bound l (front ++ (id ∷ rest)) env)) ≡ true) (sym split) t)

  kept_cut : (bs : List Binder) (c : Expression) (env : List Binding) → list_all test (binder_dependencies w.models bs c) ≡ true
      → kept_by bs (mean w c) env (tuples_from cleared bs ([] ∷ [])) ≡ kept_by bs (mean w c) env (tuples_from w bs ([] ∷ []))
  kept_cut bs c env all =
      ap (kept_by bs (mean w c) env) (tuples_cut bs ([] ∷ [])) ∙ narrower w bs (mean w c) env (λ front id. stays id) (covers_all bs c env all)

  key_same : (bs : List Binder) (name field : List ℕ) (t : List ℕ) → AllStay stays t → key_of cleared bs name field t ≡ key_of w bs name field t
  key_same bs name field t all =
      got_clear (model_of_binder bs name) field (look (bound bs t []) name)
      (clear_look stays (value.Int (pos 0)) (bound bs t []) name refl (clear_bound stays bs t [] all tt))

  ordered_same : (bs : List Binder) (o : Order) (ts : List (List ℕ)) → AllTuples stays ts → ordered_tuples cleared bs o ts ≡ ordered_tuples w bs o ts
  ordered_same bs orders.Key ts all = refl
  ordered_same bs (orders.Up x f) ts all =
      sorted_same stays is_less (key_of cleared bs x f) (key_of w bs x f) ts (λ t a. key_same bs x f t a) all
  ordered_same bs (orders.Down x f) ts all =
      sorted_same stays (λ a b. is_less b a) (key_of cleared bs x f) (key_of w bs x f) ts (λ t a. key_same bs x f t a) all

  abbrev Same : Expression → Type 0
  Same c = (en : List Binding) → AllClear stays en → mean cleared c en ≡ mean w c en

  answers_same : (bs : List Binder) (o : Order) (c : Expression) (env : List Binding) → AllClear stays env → list_all test (binder_dependencies w.models bs c) ≡ true → Same c
      → answers_by cleared bs o (mean cleared c) env ≡ answers_by w bs o (mean w c) env
  answers_same bs o c env clear all f =
      let ts : List (List ℕ) = tuples_from cleared bs ([] ∷ []) in
      let stay : AllTuples stays ts = tuples_stay bs ([] ∷ []) (tt, tt) in
      ap (ordered_tuples cleared bs o) (kept_same stays bs (mean cleared c) (mean w c) env ts f clear stay)
      ∙ ordered_same bs o (kept_by bs (mean w c) env ts) (kept_stay stays bs (mean w c) env ts stay)
      ∙ ap (ordered_tuples w bs o) (kept_cut bs c env all)

  answers_stay : (bs : List Binder) (o : Order) (c : Expression) (env : List Binding) → AllTuples stays (answers_by cleared bs o (mean cleared c) env)
  answers_stay bs o c env =
      let ts : List (List ℕ) = tuples_from cleared bs ([] ∷ []) in
      ordered_stay stays cleared bs o (kept_by bs (mean cleared c) env ts)
      (kept_stay stays bs (mean cleared c) env ts (tuples_stay bs ([] ∷ []) (tt, tt)))

  sum_same : (bs : List Binder) (o : Order) (c e : Expression) (env : List Binding) → AllClear stays env → list_all test (binder_dependencies w.models bs c) ≡ true → Same c → Same e
      → sum_of bs (mean cleared e) env (answers_by cleared bs o (mean cleared c) env) ≡ sum_of bs (mean w e) env (answers_by w bs o (mean w c) env)
  sum_same bs o c e env clear all f g =
      let answered : List (List ℕ) = answers_by cleared bs o (mean cleared c) env in
      sum_if (is_single bs) (summed_terms bs (mean cleared e) env (value.Int (pos 0)) answered) (summed_terms bs (mean w e) env (value.Int (pos 0)) answered)
      (summed_same stays bs (mean cleared e) (mean w e) env (value.Int (pos 0)) answered g clear (answers_stay bs o c env))
      ∙ ap (sum_of bs (mean w e) env) (answers_same bs o c env clear all f)

  mutual
    mean_same : (e : Expression) (env : List Binding) → list_all test (dependencies w.models e) ≡ true → AllClear stays env → mean cleared e env ≡ mean w e env
    mean_same (Expression.int i) env h clear = refl
    mean_same (Expression.text t) env h clear = refl
    mean_same (Expression.bool b) env h clear = refl
    mean_same (Expression.none_of m) env h clear = refl
    mean_same (Expression.name x) env h clear = refl
    mean_same Expression.this env h clear = refl
    mean_same Expression.viewer env h clear = refl
    mean_same (Expression.get m f e) env h clear =
        let parts = all_parts test (option_to_list (read_dependency w.models m e)) (dependencies w.models e) h in
        ap (got cleared m f) (mean_same e env parts.1 clear) ∙ read_same m f e env clear parts.0
    mean_same (Expression.live e) env h clear =
        let parts = all_parts test (option_to_list (live_dependency w.models e)) (dependencies w.models e) h in
        ap (λ v. value.Bool (is_live cleared v)) (mean_same e env parts.1 clear) ∙ ap value.Bool (live_same e env clear parts.0)
    mean_same (Expression.two o a b) env h clear =
        let parts = all_parts test (dependencies w.models a) (dependencies w.models b) h in
        ap (λ v. two o v (mean cleared b env)) (mean_same a env parts.0 clear) ∙ ap (two o (mean w a env)) (mean_same b env parts.1 clear)
    mean_same (Expression.negated e) env h clear = ap (λ v. value.Bool (not (is_true v))) (mean_same e env h clear)
    mean_same (Expression.cat es) env h clear = ap value.Text (texts_same es env h clear)
    mean_same (Expression.str e) env h clear = ap (λ v. value.Text (value_text v)) (mean_same e env h clear)
    mean_same (Expression.pick c a b) env h clear =
        let parts = all_parts test (dependencies w.models c) (dependencies w.models a ++ dependencies w.models b) h in
        let rest = all_parts test (dependencies w.models a) (dependencies w.models b) parts.1 in
        ap (λ v. pick (is_true v) (mean cleared a env) (mean cleared b env)) (mean_same c env parts.0 clear)
        ∙ ap (λ v. pick (is_true (mean w c env)) v (mean cleared b env)) (mean_same a env rest.0 clear)
        ∙ ap (pick (is_true (mean w c env)) (mean w a env)) (mean_same b env rest.1 clear)
    mean_same (Expression.count bs c o) env h clear =
        let parts = all_parts test (binder_dependencies w.models bs c) (dependencies w.models c) h in
        ap (count_of bs) (answers_same bs o c env clear parts.0 (λ en k. mean_same c en parts.1 k))
    mean_same (Expression.sum bs c o e) env h clear =
        let parts = all_parts test (binder_dependencies w.models bs c) (dependencies w.models c ++ dependencies w.models e) h in
        let rest = all_parts test (dependencies w.models c) (dependencies w.models e) parts.1 in
        sum_same bs o c e env clear parts.0 (λ en k. mean_same c en rest.0 k) (λ en k. mean_same e en rest.1 k)
    mean_same (Expression.any_of bs c o) env h clear =
        let parts = all_parts test (binder_dependencies w.models bs c) (dependencies w.models c) h in
        ap some_of (answers_same bs o c env clear parts.0 (λ en k. mean_same c en parts.1 k))
    mean_same (Expression.first bs c o) env h clear =
        let parts = all_parts test (binder_dependencies w.models bs c) (dependencies w.models c) h in
        ap first_of (answers_same bs o c env clear parts.0 (λ en k. mean_same c en parts.1 k))

    texts_same : (es : Expressions) (env : List Binding) → list_all test (dependencies_each w.models es) ≡ true → AllClear stays env → texts cleared es env ≡ texts w es env
    texts_same Expressions.none env h clear = refl
    texts_same (Expressions.more e es) env h clear =
        let parts = all_parts test (dependencies w.models e) (dependencies_each w.models es) h in
        ap (λ v. bytes_of v ++ texts cleared es env) (mean_same e env parts.0 clear)
        ∙ ap (λ l. bytes_of (mean w e env) ++ l) (texts_same es env parts.1 clear)

pub same_answers : (stays : ℕ → Bool) (test : Dependency → Bool) (w : World) (e : Expression) → IsTest stays test w
    → list_all test (dependencies w.models e) ≡ true → mean (cleared_world stays w) e [] ≡ mean w e []
same_answers stays test w e fits h = mean_same stays test w fits e [] h tt
