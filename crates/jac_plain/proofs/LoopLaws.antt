-- The answers of a query over one binder of a model that isn't nested. Each is one record, and they
-- are pairwise different.
use Rattle.std.proofs.Common.{◌≡◌, sym, refl, subst, arith, ℕ, ◌<◌, not, Bool, true, false, if◌then◌else◌, List, [], ◌∷◌, append-nil, Option, Some, None}
use Rattle.std.specs.Prelude.{⊤}
use Rattle.std.specs.List.{AllByRecursion}
use Rattle.jac_value.specs.Ids.{is_narrow}
use Rattle.jac_value.specs.declared.value.Value.{Value}
use Rattle.jac_world.specs.World.{StartsAboveBy}
use Rattle.jac_lang.specs.declared.bindings.Binding.{Binding}
use Rattle.jac_lang.specs.declared.queries.Binder.{Binder}
use Rattle.jac_lang.specs.declared.queries.Order.{Order}
use Rattle.jac_lang.specs.declared.queries.Order.TheVariants as orders
use Rattle.jac_lang.specs.Lookup.{model_place, nested_at_place}
use Rattle.jac_lang.specs.Loops.{is_flat}
use Rattle.jac_lang.specs.Syntax.{Entity, Question}
use Rattle.jac_rows.specs.declared.plain.PlainRow.{PlainRow}
use Rattle.jac_rows.specs.Good.{ArePlainRows}
use Rattle.jac_rows.specs.Tables.{rows_of}
use Rattle.jac_plain.specs.Expressions.{mean, is_true, is_less, bound, extended_tuples, crossed_tuples, tuples_from, kept_by, key_of, with_sorted, sorted_tuples, ordered_tuples, answers}
use Rattle.jac_plain.specs.Models.{is_shaped, AreFlat, HaveRisingIds}
use Rattle.jac_plain.specs.World.{World, rows_at_place}

-- The answer is one record that was made outside of loops.
pub record IsLoop (ids : List ℕ) : Type 0 where
  pub id : ℕ
  pub is : ids ≡ id ∷ []
  pub narrow : is_narrow id ≡ true

abbrev pub IsOther : List ℕ → List ℕ → Type 0
IsOther t u = ¬ (t ≡ u)

-- Answers of this form that are pairwise different.
abbrev pub AreLoops : List (List ℕ) → Type 0
AreLoops [] = ⊤
AreLoops (t ∷ ts) = IsLoop t × AllByRecursion (IsOther t) ts × AreLoops ts

abbrev id_of : PlainRow → ℕ
id_of r = r.id

above_too : (j k : ℕ) (rows : List PlainRow) → j < k → StartsAboveBy id_of k rows → StartsAboveBy id_of j rows
above_too j k [] h a = tt
above_too j k (r ∷ rows) h a = omega (arith, h, a)

one_differs : (j k : ℕ) → j < k → IsOther (j ∷ []) (k ∷ [])
one_differs j k less e = let same : j ≡ k = cc in absurd (omega (arith, less, same))

others_above : (k : ℕ) (rows : List PlainRow) → StartsAboveBy id_of k rows → ArePlainRows rows → AllByRecursion (IsOther (k ∷ [])) (extended_tuples [] rows)
others_above k [] a h = tt
others_above k (r ∷ rows) a h = (one_differs k r.id a, others_above k rows (above_too k r.id rows a h.0) h.1)

loops_extended : (rows : List PlainRow) → ArePlainRows rows → AllByRecursion (λ (r : PlainRow). is_narrow r.id ≡ true) rows → AreLoops (extended_tuples [] rows)
loops_extended [] h a = tt
loops_extended (r ∷ rows) h a = (record { id = r.id; is = refl; narrow = a.0 }, others_above r.id rows h.0 h.1, loops_extended rows h.1 a.1)

-- Tuples that pass a condition, and sorted ones.
module _ (P : List ℕ → Type 0) where
  all_if : (b : Bool) (t : List ℕ) (ts : List (List ℕ)) → P t → AllByRecursion P ts → AllByRecursion P (if b then t ∷ ts else ts)
  all_if true t ts p a = (p, a)
  all_if false t ts p a = a

  all_kept : (bs : List Binder) (cond : List Binding → Value) (env : List Binding) (ts : List (List ℕ)) → AllByRecursion P ts → AllByRecursion P (kept_by bs cond env ts)
  all_kept bs cond env [] a = tt
  all_kept bs cond env (t ∷ ts) a = all_if (is_true (cond (bound bs t env))) t (kept_by bs cond env ts) a.0 (all_kept bs cond env ts a.1)

  all_put : (b : Bool) (x y : List ℕ) (xs ys : List (List ℕ)) → P x → P y → AllByRecursion P xs → AllByRecursion P ys → AllByRecursion P (if b then y ∷ xs else x ∷ (y ∷ ys))
  all_put true x y xs ys p q a b = (q, a)
  all_put false x y xs ys p q a b = (p, (q, b))

  all_inserted : (less : Value → Value → Bool) (key : List ℕ → Value) (x : List ℕ) (ys : List (List ℕ)) → P x → AllByRecursion P ys → AllByRecursion P (with_sorted less key x ys)
  all_inserted less key x [] p a = (p, tt)
  all_inserted less key x (y ∷ ys) p a = all_put (less (key y) (key x)) x y (with_sorted less key x ys) ys p a.0 (all_inserted less key x ys p a.1) a.1

  all_sorted : (less : Value → Value → Bool) (key : List ℕ → Value) (xs : List (List ℕ)) → AllByRecursion P xs → AllByRecursion P (sorted_tuples less key xs)
  all_sorted less key [] a = tt
  all_sorted less key (x ∷ xs) a = all_inserted less key x (sorted_tuples less key xs) a.0 (all_sorted less key xs a.1)

loops_if : (b : Bool) (t : List ℕ) (ts : List (List ℕ)) → IsLoop t → AllByRecursion (IsOther t) ts → AreLoops ts → AreLoops (if b then t ∷ ts else ts)
loops_if true t ts p o a = (p, o, a)
loops_if false t ts p o a = a

loops_kept : (bs : List Binder) (cond : List Binding → Value) (env : List Binding) (ts : List (List ℕ)) → AreLoops ts → AreLoops (kept_by bs cond env ts)
loops_kept bs cond env [] a = tt
loops_kept bs cond env (t ∷ ts) a =
    loops_if (is_true (cond (bound bs t env))) t (kept_by bs cond env ts) a.0 (all_kept (IsOther t) bs cond env ts a.1) (loops_kept bs cond env ts a.2)

loops_put : (b : Bool) (x y : List ℕ) (xs ys : List (List ℕ)) → AreLoops (y ∷ xs) → AreLoops (x ∷ (y ∷ ys)) → AreLoops (if b then y ∷ xs else x ∷ (y ∷ ys))
loops_put true x y xs ys p q = p
loops_put false x y xs ys p q = q

loops_inserted : (less : Value → Value → Bool) (key : List ℕ → Value) (x : List ℕ) (ys : List (List ℕ)) → IsLoop x → AllByRecursion (IsOther x) ys → AreLoops ys
    → AreLoops (with_sorted less key x ys)
loops_inserted less key x [] p o a = (p, tt, tt)
loops_inserted less key x (y ∷ ys) p o a =
    loops_put (less (key y) (key x)) x y (with_sorted less key x ys) ys
    (a.0, all_inserted (IsOther y) less key x ys (λ e. o.0 (sym e)) a.1, loops_inserted less key x ys p o.1 a.2)
    (p, o, a)

loops_sorted : (less : Value → Value → Bool) (key : List ℕ → Value) (xs : List (List ℕ)) → AreLoops xs → AreLoops (sorted_tuples less key xs)
loops_sorted less key [] a = tt
loops_sorted less key (x ∷ xs) a = loops_inserted less key x (sorted_tuples less key xs) a.0 (all_sorted (IsOther x) less key xs a.1) (loops_sorted less key xs a.2)

loops_ordered : (w : World) (bs : List Binder) (o : Order) (ts : List (List ℕ)) → AreLoops ts → AreLoops (ordered_tuples w bs o ts)
loops_ordered w bs orders.Key ts a = a
loops_ordered w bs (orders.Up name field) ts a = loops_sorted is_less (key_of w bs name field) ts a
loops_ordered w bs (orders.Down name field) ts a = loops_sorted (λ a b. is_less b a) (key_of w bs name field) ts a

loops_at : (models : List Entity) (tables : List (List PlainRow)) (place : Option ℕ) → HaveRisingIds tables → AreFlat models tables → nested_at_place models place ≡ false
    → AreLoops (crossed_tuples ([] ∷ []) (rows_at_place tables place))
loops_at models tables None ordered flat h = tt
loops_at models tables (Some m) ordered flat h =
    subst AreLoops (sym (append-nil (extended_tuples [] (rows_of tables m))))
    (loops_extended (rows_of tables m) (ordered m) (subst (λ b. AllByRecursion (λ (r : PlainRow). is_shaped b r.id ≡ true) (rows_of tables m)) h (flat m)))

not_so : (b : Bool) → not b ≡ true → b ≡ false
not_so true h = cc
not_so false h = refl

loops_tuples : (w : World) (bs : List Binder) → HaveRisingIds w.tables → AreFlat w.models w.tables → is_flat w.models bs ≡ true → AreLoops (tuples_from w bs ([] ∷ []))
loops_tuples w [] ordered flat h = cc
loops_tuples w (b ∷ []) ordered flat h = loops_at w.models w.tables (model_place w.models b.model) ordered flat (not_so (nested_at_place w.models (model_place w.models b.model)) h)
loops_tuples w (b ∷ (c ∷ bs)) ordered flat h = cc

pub loops_answers : (w : World) (q : Question) (env : List Binding) → HaveRisingIds w.tables → AreFlat w.models w.tables → is_flat w.models q.binders ≡ true → AreLoops (answers w q env)
loops_answers w q env ordered flat h =
    loops_ordered w q.binders q.order (kept_by q.binders (mean w q.cond) env (tuples_from w q.binders ([] ∷ [])))
    (loops_kept q.binders (mean w q.cond) env (tuples_from w q.binders ([] ∷ [])) (loops_tuples w q.binders ordered flat h))
