-- The value of an expression has its kind, and each operand has a kind that its operator accepts.
use Rattle.std.proofs.Common.{◌≡◌, refl, subst, ℕ, true, not, ◌&&◌, ◌||◌, List, [], ◌∷◌, Option, Some, None, is_some, option_map}
use Rattle.std.specs.List.{AllByRecursion}
use Rattle.std.proofs.lemmas.Bool.{and_parts}
use Rattle.jac_value.specs.declared.value.Kind.{Kind}
use Rattle.jac_value.specs.declared.value.Value.TheVariants as value
use Rattle.jac_lang.specs.declared.bindings.Binding.{Binding}
use Rattle.jac_lang.specs.declared.queries.Binder.{Binder}
use Rattle.jac_lang.specs.declared.queries.Order.{Order}
use Rattle.jac_lang.specs.Syntax.{Entity, Expression, Expressions, is_this}
use Rattle.jac_lang.specs.Lookup.{model_place}
use Rattle.jac_plain.specs.World.{World}
use Rattle.jac_plain.specs.Expressions.{mean, texts, is_true, bound, tuples_from, answers_by}
use Rattle.jac_check.specs.Scope.{Scope, within, reference_to, fields_of, field_kind, meaning_of, first_kind}
use Rattle.jac_check.specs.Kinds.{kind_if, has, are_alike, refers, is_model, is_field, is_place, is_query, kind_of, are_texts}
use Rattle.jac_kind_laws.specs.Fits.{IsIn, Has}
use Rattle.jac_kind_laws.specs.Operands.{AtEach, AskedFits, OperandsFit, TextsFit, IsOfKind}
use Rattle.jac_kind_laws.proofs.Tests.{given_parts, has_is, some_is, reference_is, at_kind}
use Rattle.jac_kind_laws.proofs.Tables.{all_with, good_fit, got_kind}
use Rattle.jac_kind_laws.proofs.Tuples.{Refer, tuples_refer, answers_all, in_world, Suits, suits_within}
use Rattle.jac_kind_laws.proofs.Names.{name_fits}
use Rattle.jac_kind_laws.proofs.SortKeys.{sort_fits}
use Rattle.jac_kind_laws.proofs.Operands.{two_fits, pick_fits, word_fits, condition_of, order_of, count_fits, sum_fits, some_fits, first_fits}

-- What the induction claims of a part.
abbrev pub Claim : World → Expression → Type 0
Claim w e = (s : Scope) (env : List Binding) (k : Kind) → Suits s w env → kind_of (in_world w s) e ≡ Some k → IsOfKind w env k e

get_fits : (w : World) (s : Scope) (env : List Binding) (m f : List ℕ) (e : Expression) (k : Kind) → Suits s w env → Claim w e
    → kind_if ((not s.is_public || is_this e) && (is_place w.models m f && has (reference_to w.models m) (kind_of (in_world w s) e))) (Some (field_kind w.models (fields_of w.models m) f)) ≡ Some k →
    IsOfKind w env k (Expression.get m f e)
get_fits w s env m f e k g claim h =
    let o = kind_of (in_world w s) e in
    let p = given_parts ((not s.is_public || is_this e) && (is_place w.models m f && has (reference_to w.models m) o)) (Some (field_kind w.models (fields_of w.models m) f)) k h in
    let q = and_parts (is_place w.models m f) (has (reference_to w.models m) o) (and_parts (not s.is_public || is_this e) _ p.0).1 in
    let r = and_parts (is_model w.models m) (is_field (fields_of w.models m) f) q.0 in
    let E = claim s env (reference_to w.models m) g (has_is o (reference_to w.models m) q.1) in
    (got_kind w (model_place w.models m) f k (mean w e env) g.tables r.0 r.1 p.1, (E.0, E.1))

live_fits : (w : World) (s : Scope) (env : List Binding) (e : Expression) (k : Kind) → Suits s w env → Claim w e
    → kind_if (not s.is_public && refers (kind_of (in_world w s) e)) (Some Kind.Bool) ≡ Some k → IsOfKind w env k (Expression.live e)
live_fits w s env e k g claim h =
    let p = given_parts (not s.is_public && refers (kind_of (in_world w s) e)) (Some Kind.Bool) k h in
    let r = reference_is (kind_of (in_world w s) e) (and_parts (not s.is_public) _ p.0).1 in
    let E = claim s env (Kind.Ref r.0) g r.1 in
    (at_kind Kind.Bool k (mean w (Expression.live e) env) p.1 refl, ((r.0, E.0), E.1))

not_fits : (w : World) (s : Scope) (env : List Binding) (e : Expression) (k : Kind) → Suits s w env → Claim w e
    → kind_if (has Kind.Bool (kind_of (in_world w s) e)) (Some Kind.Bool) ≡ Some k → IsOfKind w env k (Expression.negated e)
not_fits w s env e k g claim h =
    let p = given_parts (has Kind.Bool (kind_of (in_world w s) e)) (Some Kind.Bool) k h in
    (at_kind Kind.Bool k (mean w (Expression.negated e) env) p.1 refl, claim s env Kind.Bool g (has_is (kind_of (in_world w s) e) Kind.Bool p.0))

str_fits : (w : World) (s : Scope) (env : List Binding) (e : Expression) (k : Kind) → Suits s w env → Claim w e
    → kind_if (is_some (kind_of (in_world w s) e)) (Some Kind.Text) ≡ Some k → IsOfKind w env k (Expression.str e)
str_fits w s env e k g claim h =
    let p = given_parts (is_some (kind_of (in_world w s) e)) (Some Kind.Text) k h in
    let r = some_is (kind_of (in_world w s) e) p.0 in
    (at_kind Kind.Text k (mean w (Expression.str e) env) p.1 refl, (claim s env r.0 g r.1).1)

pick_of_fits : (w : World) (s : Scope) (env : List Binding) (c a b : Expression) (k : Kind) → Suits s w env → Claim w c → Claim w a → Claim w b
    → kind_if (has Kind.Bool (kind_of (in_world w s) c) && are_alike (kind_of (in_world w s) a) (kind_of (in_world w s) b)) (kind_of (in_world w s) a) ≡ Some k → IsOfKind w env k (Expression.pick c a b)
pick_of_fits w s env c a b k g claim one other h =
    let p = given_parts (has Kind.Bool (kind_of (in_world w s) c) && are_alike (kind_of (in_world w s) a) (kind_of (in_world w s) b)) (kind_of (in_world w s) a) k h in
    let q = and_parts (has Kind.Bool (kind_of (in_world w s) c)) (are_alike (kind_of (in_world w s) a) (kind_of (in_world w s) b)) p.0 in
    let C = claim s env Kind.Bool g (has_is (kind_of (in_world w s) c) Kind.Bool q.0) in
    let r = pick_fits (is_true (mean w c env)) k (kind_of (in_world w s) a) (kind_of (in_world w s) b) (mean w a env) (mean w b env) (OperandsFit w a env) (OperandsFit w b env)
    (λ j. one s env j g) (λ j. other s env j g) q.1 p.1 in
    (r.0, (C.0, r.1.0, C.1, r.1.1, r.1.2))

-- The expression has the kind at each tuple.
each_fits : (w : World) (s : Scope) (env : List Binding) (bs : List Binder) (e : Expression) (k : Kind) (tuples : List (List ℕ)) → Suits s w env → Claim w e →
    has k (kind_of (within bs (in_world w s)) e) ≡ true → AllByRecursion (Refer w.models bs) tuples →
    AtEach bs env (λ inner. Has k (mean w e inner) × OperandsFit w e inner) tuples
each_fits w s env bs e k tuples g claim h a =
    all_with (Refer w.models bs) (λ ids. Has k (mean w e (bound bs ids env)) × OperandsFit w e (bound bs ids env))
    (λ ids r. claim (within bs (in_world w s)) (bound bs ids env) k (suits_within w s env bs ids g r) (has_is (kind_of (within bs (in_world w s)) e) k h)) tuples a

tuples_in : (w : World) (s : Scope) (env : List Binding) (bs : List Binder) → Suits s w env → AllByRecursion (Refer w.models bs) (tuples_from w bs ([] ∷ []))
tuples_in w s env bs g = tuples_refer w bs g.tables

pub answers_in : (w : World) (s : Scope) (env : List Binding) (bs : List Binder) (c : Expression) (o : Order) → Suits s w env → AllByRecursion (Refer w.models bs) (answers_by w bs o (mean w c) env)
answers_in w s env bs c o g = answers_all (Refer w.models bs) w bs o (mean w c) env (tuples_in w s env bs g)

-- A query's condition is a truth value at each tuple, and the tuples can be sorted.
pub asked_fits : (w : World) (s : Scope) (env : List Binding) (bs : List Binder) (c : Expression) (o : Order) → Suits s w env → Claim w c
    → is_query (in_world w s) bs o (kind_of (within bs (in_world w s)) c) ≡ true → AskedFits w bs o (mean w c) (OperandsFit w c) env
asked_fits w s env bs c o g claim h =
    let asked = kind_of (within bs (in_world w s)) c in
    let p = order_of (in_world w s) bs o asked h in (
      each_fits w s env bs c Kind.Bool (tuples_from w bs ([] ∷ [])) g claim (condition_of (in_world w s) bs o asked h) (tuples_in w s env bs g),
      sort_fits w bs o (tuples_from w bs ([] ∷ [])) p.0 p.1 (tuples_in w s env bs g),
    )

query_fits : (w : World) (s : Scope) (env : List Binding) (bs : List Binder) (c : Expression) (o : Order) (r : Option Kind) (k : Kind) → Suits s w env → Claim w c
    → kind_if (is_query (in_world w s) bs o (kind_of (within bs (in_world w s)) c)) r ≡ Some k → (r ≡ Some k) × AskedFits w bs o (mean w c) (OperandsFit w c) env
query_fits w s env bs c o r k g claim h =
    let p = given_parts (is_query (in_world w s) bs o (kind_of (within bs (in_world w s)) c)) r k h in
    (p.1, asked_fits w s env bs c o g claim p.0)

sum_of_fits : (w : World) (s : Scope) (env : List Binding) (bs : List Binder) (c : Expression) (o : Order) (e : Expression) (k : Kind) → Suits s w env → Claim w c → Claim w e
    → kind_if (is_query (in_world w s) bs o (kind_of (within bs (in_world w s)) c) && has Kind.Int (kind_of (within bs (in_world w s)) e)) (Some Kind.Int) ≡ Some k
    → IsOfKind w env k (Expression.sum bs c o e)
sum_of_fits w s env bs c o e k g claim term h =
    let p = given_parts (is_query (in_world w s) bs o (kind_of (within bs (in_world w s)) c) && has Kind.Int (kind_of (within bs (in_world w s)) e)) (Some Kind.Int) k h in
    let q = and_parts (is_query (in_world w s) bs o (kind_of (within bs (in_world w s)) c)) (has Kind.Int (kind_of (within bs (in_world w s)) e)) p.0 in (
      at_kind Kind.Int k (mean w (Expression.sum bs c o e) env) p.1 (sum_fits bs (mean w e) env (answers_by w bs o (mean w c) env)),
      (asked_fits w s env bs c o g claim q.0, each_fits w s env bs e Kind.Int (answers_by w bs o (mean w c) env) g term q.1 (answers_in w s env bs c o g)),
    )

mutual
  pub means : (w : World) (e : Expression) → Claim w e
  means w (Expression.int i) s env k g h = (at_kind Kind.Int k (value.Int i) h refl, tt)
  means w (Expression.text t) s env k g h = (at_kind Kind.Text k (value.Text t) h refl, tt)
  means w (Expression.bool b) s env k g h = (at_kind Kind.Bool k (value.Bool b) h refl, tt)
  means w (Expression.none_of m) s env k g h =
      let p = given_parts (is_model w.models m) (Some (reference_to w.models m)) k h in
      (at_kind (reference_to w.models m) k (value.Ref None) p.1 refl, tt)
  means w (Expression.name x) s env k g h = (name_fits s.names env x _ k g.bindings (given_parts (not s.is_public) (option_map (λ m. m.kind) (meaning_of s.names x)) k h).1, tt)
  means w Expression.this s env k g h = (word_fits s.this w.this k g.this h, tt)
  means w Expression.viewer s env k g h =
      let viewers = option_map (reference_to w.models) s.viewers in
      (word_fits viewers w.viewer k g.viewer (given_parts (not s.is_public) viewers k h).1, tt)
  means w (Expression.get m f e) s env k g h = get_fits w s env m f e k g (means w e) h
  means w (Expression.live e) s env k g h = live_fits w s env e k g (means w e) h
  means w (Expression.two o a b) s env k g h =
      two_fits o k (kind_of (in_world w s) a) (kind_of (in_world w s) b) (mean w a env) (mean w b env) (OperandsFit w a env) (OperandsFit w b env)
      (λ j. means w a s env j g) (λ j. means w b s env j g) h
  means w (Expression.negated e) s env k g h = not_fits w s env e k g (means w e) h
  means w (Expression.cat es) s env k g h =
      let p = given_parts (are_texts (in_world w s) es) (Some Kind.Text) k h in
      (at_kind Kind.Text k (value.Text (texts w es env)) p.1 refl, texts_fit w es s env g p.0)
  means w (Expression.str e) s env k g h = str_fits w s env e k g (means w e) h
  means w (Expression.pick c a b) s env k g h = pick_of_fits w s env c a b k g (means w c) (means w a) (means w b) h
  means w (Expression.count bs c o) s env k g h =
      let p = query_fits w s env bs c o (Some Kind.Int) k g (means w c) h in
      (at_kind Kind.Int k (mean w (Expression.count bs c o) env) p.0 (count_fits bs (answers_by w bs o (mean w c) env)), p.1)
  means w (Expression.sum bs c o e) s env k g h = sum_of_fits w s env bs c o e k g (means w c) (means w e) h
  means w (Expression.any_of bs c o) s env k g h =
      let p = query_fits w s env bs c o (Some Kind.Bool) k g (means w c) h in
      (at_kind Kind.Bool k (mean w (Expression.any_of bs c o) env) p.0 (some_fits (answers_by w bs o (mean w c) env)), p.1)
  means w (Expression.first bs c o) s env k g h =
      let p = query_fits w s env bs c o (Some (first_kind (in_world w s) bs)) k g (means w c) h in
      (first_fits (in_world w s) bs (answers_by w bs o (mean w c) env) k (answers_in w s env bs c o g) p.0, p.1)

  texts_fit : (w : World) (es : Expressions) (s : Scope) (env : List Binding) → Suits s w env → are_texts (in_world w s) es ≡ true → TextsFit w es env
  texts_fit w Expressions.none s env g h = tt
  texts_fit w (Expressions.more e es) s env g h =
      let p = and_parts (has Kind.Text (kind_of (in_world w s) e)) (are_texts (in_world w s) es) h in
      let E = means w e s env Kind.Text g (has_is (kind_of (in_world w s) e) Kind.Text p.0) in
      (E.0, E.1, texts_fit w es s env g p.1)

-- The theorem for scopes with the models of the world.
pub kinds_hold : (s : Scope) (w : World) (env : List Binding) (e : Expression) (k : Kind) → IsIn s w env → kind_of s e ≡ Some k → IsOfKind w env k e
kinds_hold s w env e k g h =
    means w e s env k (record { bindings = g.bindings; this = g.this; viewer = g.viewer; tables = good_fit w.models w.tables g.tables })
    (subst (λ (ms : List Entity). kind_of (record s { models = ms }) e ≡ Some k) g.models h)
