-- The answers of a query refer to the models of its binders.
use Rattle.std.specs.Prelude.{⊤}
use Rattle.std.proofs.Common.{◌≡◌, refl, sym, subst, ℕ, Bool, true, false, List, [], ◌∷◌, ◌++◌, Some, if◌then◌else◌, append_assoc, append-nil}
use Rattle.std.specs.List.{AllByRecursion}
use Rattle.jac_value.specs.declared.value.Value.{Value}
use Rattle.jac_value.specs.declared.value.Value.TheVariants as value
use Rattle.jac_lang.specs.declared.bindings.Binding.{Binding}
use Rattle.jac_lang.specs.declared.queries.Binder.{Binder}
use Rattle.jac_lang.specs.declared.queries.Order.{Order}
use Rattle.jac_lang.specs.declared.queries.Order.TheVariants as orders
use Rattle.jac_lang.specs.Syntax.{Entity}
use Rattle.jac_lang.specs.Lookup.{model_place}
use Rattle.jac_rows.specs.declared.plain.PlainRow.{PlainRow}
use Rattle.jac_plain.specs.World.{World, records}
use Rattle.jac_plain.specs.Expressions.{is_true, is_less, key_of, binding, bound, extended_tuples, crossed_tuples, tuples_from, kept_by, with_sorted, sorted_tuples, ordered_tuples, answers_by}
use Rattle.jac_check.specs.Scope.{Named, Scope, scope_name, named_binders, within, reference_to}
use Rattle.jac_kind_laws.specs.Fits.{Has, AreBound, Refers, IsViewer}
use Rattle.jac_kind_laws.proofs.Tables.{AreFit, records_refer}

-- Each id of the tuple refers to its binder's model.
abbrev pub Refer : List Entity → List Binder → List ℕ → Type 0
Refer ms [] [] = ⊤
Refer ms (b ∷ bs) (id ∷ ids) = Has (reference_to ms b.model) (value.Ref (Some id)) × Refer ms bs ids
Refer ms [] (id ∷ ids) = ⊥
Refer ms (b ∷ bs) [] = ⊥

refer_more : (ms : List Entity) (bs : List Binder) (ids : List ℕ) (b : Binder) (id : ℕ) → Refer ms bs ids → Has (reference_to ms b.model) (value.Ref (Some id)) → Refer ms (bs ++ b ∷ []) (ids ++ id ∷ [])
refer_more ms [] [] b id g h = (h, tt)
refer_more ms (c ∷ bs) (i ∷ ids) b id g h = (g.0, refer_more ms bs ids b id g.1 h)
refer_more ms [] (i ∷ ids) b id g h = absurd g
refer_more ms (c ∷ bs) [] b id g h = absurd g

pub all_append : {X : Type 0} (P : X → Type 0) (xs ys : List X) → AllByRecursion P xs → AllByRecursion P ys → AllByRecursion P (xs ++ ys)
all_append P [] ys a b = b
all_append P (x ∷ xs) ys a b = (a.0, all_append P xs ys a.1 b)

extended_refer : (ms : List Entity) (bs : List Binder) (b : Binder) (ids : List ℕ) (rows : List PlainRow) → Refer ms bs ids →
    AllByRecursion (λ (r : PlainRow). Has (reference_to ms b.model) (value.Ref (Some r.id))) rows → AllByRecursion (Refer ms (bs ++ b ∷ [])) (extended_tuples ids rows)
extended_refer ms bs b ids [] g a = tt
extended_refer ms bs b ids (r ∷ rows) g a = (refer_more ms bs ids b r.id g a.0, extended_refer ms bs b ids rows g a.1)

crossed_refer : (ms : List Entity) (bs : List Binder) (b : Binder) (tuples : List (List ℕ)) (rows : List PlainRow) → AllByRecursion (Refer ms bs) tuples →
    AllByRecursion (λ (r : PlainRow). Has (reference_to ms b.model) (value.Ref (Some r.id))) rows → AllByRecursion (Refer ms (bs ++ b ∷ [])) (crossed_tuples tuples rows)
crossed_refer ms bs b [] rows g a = tt
crossed_refer ms bs b (ids ∷ tuples) rows g a =
    all_append (Refer ms (bs ++ b ∷ [])) (extended_tuples ids rows) (crossed_tuples tuples rows) (extended_refer ms bs b ids rows g.0 a) (crossed_refer ms bs b tuples rows g.1 a)

tuples_refer_from : (w : World) (done bs : List Binder) (tuples : List (List ℕ)) → AreFit w.models w.tables → AllByRecursion (Refer w.models done) tuples
    → AllByRecursion (Refer w.models (done ++ bs)) (tuples_from w bs tuples)
tuples_refer_from w done [] tuples g a = subst (λ (all : List Binder). AllByRecursion (Refer w.models all) tuples) (sym (append-nil done)) a
tuples_refer_from w done (b ∷ bs) tuples g a =
    subst (λ (all : List Binder). AllByRecursion (Refer w.models all) (tuples_from w (b ∷ bs) tuples)) (append_assoc done (b ∷ []) bs)
    (tuples_refer_from w (done ++ b ∷ []) bs (crossed_tuples tuples (records w b.model)) g
    (crossed_refer w.models done b tuples (records w b.model) a (records_refer w (model_place w.models b.model) _ g)))

pub tuples_refer : (w : World) (bs : List Binder) → AreFit w.models w.tables → AllByRecursion (Refer w.models bs) (tuples_from w bs ([] ∷ []))
tuples_refer w bs g = tuples_refer_from w [] bs ([] ∷ []) g (tt, tt)

module _ (P : List ℕ → Type 0) where
  kept_if : (b : Bool) (ids : List ℕ) (tuples : List (List ℕ)) → P ids → AllByRecursion P tuples → AllByRecursion P (if b then ids ∷ tuples else tuples)
  kept_if true ids tuples p a = (p, a)
  kept_if false ids tuples p a = a

  kept_all : (bs : List Binder) (cond : List Binding → Value) (env : List Binding) (tuples : List (List ℕ)) → AllByRecursion P tuples → AllByRecursion P (kept_by bs cond env tuples)
  kept_all bs cond env [] a = tt
  kept_all bs cond env (ids ∷ tuples) a = kept_if (is_true (cond (bound bs ids env))) ids (kept_by bs cond env tuples) a.0 (kept_all bs cond env tuples a.1)

  either_if : (b : Bool) (xs ys : List (List ℕ)) → AllByRecursion P xs → AllByRecursion P ys → AllByRecursion P (if b then xs else ys)
  either_if true xs ys p q = p
  either_if false xs ys p q = q

  inserted_all : (less : Value → Value → Bool) (key : List ℕ → Value) (x : List ℕ) (ys : List (List ℕ)) → P x → AllByRecursion P ys → AllByRecursion P (with_sorted less key x ys)
  inserted_all less key x [] p a = (p, tt)
  inserted_all less key x (y ∷ ys) p a = either_if (less (key y) (key x)) (y ∷ with_sorted less key x ys) (x ∷ (y ∷ ys)) (a.0, inserted_all less key x ys p a.1) (p, a)

  sorted_all : (less : Value → Value → Bool) (key : List ℕ → Value) (xs : List (List ℕ)) → AllByRecursion P xs → AllByRecursion P (sorted_tuples less key xs)
  sorted_all less key [] a = tt
  sorted_all less key (x ∷ xs) a = inserted_all less key x (sorted_tuples less key xs) a.0 (sorted_all less key xs a.1)

  ordered_all : (w : World) (bs : List Binder) (o : Order) (xs : List (List ℕ)) → AllByRecursion P xs → AllByRecursion P (ordered_tuples w bs o xs)
  ordered_all w bs orders.Key xs a = a
  ordered_all w bs (orders.Up x f) xs a = sorted_all is_less (key_of w bs x f) xs a
  ordered_all w bs (orders.Down x f) xs a = sorted_all (λ a b. is_less b a) (key_of w bs x f) xs a

  pub answers_all : (w : World) (bs : List Binder) (o : Order) (cond : List Binding → Value) (env : List Binding) → AllByRecursion P (tuples_from w bs ([] ∷ [])) → AllByRecursion P (answers_by w bs o cond env)
  answers_all w bs o cond env a = ordered_all w bs o (kept_by bs cond env (tuples_from w bs ([] ∷ []))) (kept_all bs cond env (tuples_from w bs ([] ∷ [])) a)

pub bound_more : (ns : List Named) (env : List Binding) (n : Named) (b : Binding) → AreBound ns env → n.name ≡ b.name → Has n.meaning.kind b.bound_to → AreBound (ns ++ n ∷ []) (env ++ b ∷ [])
bound_more [] [] n b g e h = (e, h, tt)
bound_more (m ∷ ns) (c ∷ env) n b g e h = (g.0, g.1, bound_more ns env n b g.2 e h)
bound_more [] (c ∷ env) n b g e h = absurd g
bound_more (m ∷ ns) [] n b g e h = absurd g

pub bound_fits : (ms : List Entity) (bs : List Binder) (ids : List ℕ) (ns : List Named) (env : List Binding) → AreBound ns env → Refer ms bs ids → AreBound (ns ++ named_binders ms bs) (bound bs ids env)
bound_fits ms [] [] ns env g a = subst (λ (all : List Named). AreBound all env) (sym (append-nil ns)) g
bound_fits ms (b ∷ bs) (id ∷ ids) ns env g a =
    let n = scope_name b.name (reference_to ms b.model) false in
    let inner = bound_fits ms bs ids (ns ++ n ∷ []) (env ++ binding b.name (value.Ref (Some id)) ∷ []) (bound_more ns env n (binding b.name (value.Ref (Some id))) g refl a.0) a.1 in
    subst (λ (all : List Named). AreBound all (bound (b ∷ bs) (id ∷ ids) env)) (append_assoc ns (n ∷ []) (named_binders ms bs)) inner
bound_fits ms [] (id ∷ ids) ns env g a = absurd a
bound_fits ms (b ∷ bs) [] ns env g a = absurd a

-- The scope with the models of the world.
abbrev pub in_world : World → Scope → Scope
in_world w s = record s { models = w.models }

-- The world and the bindings are as the scope says, and the tables fit.
pub record Suits (s : Scope) (w : World) (env : List Binding) : Type 0 where
  pub bindings : AreBound s.names env
  pub this : Refers s.this w.this
  pub viewer : IsViewer w.models s.viewers w.viewer
  pub tables : AreFit w.models w.tables

-- With the binders of a query bound, the inner scope fits.
pub suits_within : (w : World) (s : Scope) (env : List Binding) (bs : List Binder) (ids : List ℕ) → Suits s w env → Refer w.models bs ids → Suits (within bs (in_world w s)) w (bound bs ids env)
suits_within w s env bs ids g a = record {
  bindings = bound_fits w.models bs ids s.names env g.bindings a;
  this = g.this;
  viewer = g.viewer;
  tables = g.tables;
}
