-- If the values of the operands have their kinds, so does the value of the expression, and its
-- operator accepts the operands.
use Rattle.std.specs.Prelude.{pos}
use Rattle.std.proofs.Common.{◌≡◌, refl, sym, ◌∙◌, subst, ℕ, Bool, true, false, not, ◌&&◌, List, [], ◌∷◌, Option, Some, None, unwrap_or, length}
use Rattle.std.specs.List.{AllByRecursion}
use Rattle.std.proofs.lemmas.Bool.{and_parts}
use Rattle.jac_value.specs.declared.value.Kind.{Kind}
use Rattle.jac_value.specs.declared.value.Value.{Value}
use Rattle.jac_value.specs.declared.value.Value.TheVariants as value
use Rattle.jac_lang.specs.declared.bindings.Binding.{Binding}
use Rattle.jac_lang.specs.declared.expressions.Op.{Op}
use Rattle.jac_lang.specs.declared.expressions.Op.TheVariants as op
use Rattle.jac_lang.specs.declared.queries.Binder.{Binder}
use Rattle.jac_lang.specs.declared.queries.Order.{Order}
use Rattle.jac_lang.specs.Syntax.{Entity}
use Rattle.jac_lang.specs.Lookup.{model_place}
use Rattle.jac_plain.specs.Expressions.{two, pick, count_of, summed_terms, sum_of, some_of, first_of, bound}
use Rattle.jac_check.specs.Scope.{Scope, first_kind}
use Rattle.jac_check.specs.Kinds.{kind_if, has, are_alike, are_both, is_sorted, kind_of_two, is_query, are_binders, is_order}
use Rattle.jac_kind_laws.specs.Fits.{Has, Refers}
use Rattle.jac_kind_laws.specs.Operands.{AreBoth, AreOneKind, AreComparable, TwoFit}
use Rattle.jac_kind_laws.proofs.Tests.{given_parts, has_is, alike_are, at_kind}
use Rattle.jac_kind_laws.proofs.Tuples.{Refer}

-- If the kind is known, the value has it, and `P` holds.
abbrev pub Known : Option Kind → Value → Type 0 → Type 0
Known o v P = (k : Kind) → o ≡ Some k → Has k v × P

pub of_kind : (o : Option Kind) (k : Kind) (v : Value) (P : Type 0) → Known o v P → has k o ≡ true → Has k v × P
of_kind o k v P known h = known k (has_is o k h)

both_of : (j r k : Kind) (x y : Option Kind) (a b v : Value) (P Q : Type 0) → Known x a P → Known y b Q → kind_if (are_both j x y) (Some r) ≡ Some k → Has r v →
    Has k v × (AreBoth j a b × P × Q)
both_of j r k x y a b v P Q one other h good =
    let p = given_parts (are_both j x y) (Some r) k h in
    let q = and_parts (has j x) (has j y) p.0 in
    let A = of_kind x j a P one q.0 in
    let B = of_kind y j b Q other q.1 in
    (at_kind r k v p.1 good, ((A.0, B.0), A.1, B.1))

pub alike : (x y : Option Kind) (a b : Value) (P Q : Type 0) → Known x a P → Known y b Q → are_alike x y ≡ true → AreOneKind a b × P × Q
alike x y a b P Q one other h =
    let s = alike_are x y h in
    let A = one s.0 s.1 in
    let B = other s.0 s.2 in
    ((s.0, (A.0, B.0)), A.1, B.1)

eq_of : (k : Kind) (x y : Option Kind) (a b v : Value) (P Q : Type 0) → Known x a P → Known y b Q → kind_if (are_alike x y) (Some Kind.Bool) ≡ Some k → Has Kind.Bool v →
    Has k v × (AreOneKind a b × P × Q)
eq_of k x y a b v P Q one other h good =
    let p = given_parts (are_alike x y) (Some Kind.Bool) k h in
    (at_kind Kind.Bool k v p.1 good, alike x y a b P Q one other p.0)

lt_of : (k : Kind) (x y : Option Kind) (a b v : Value) (P Q : Type 0) → Known x a P → Known y b Q → kind_if (is_sorted x && are_alike x y) (Some Kind.Bool) ≡ Some k → Has Kind.Bool v →
    Has k v × (AreComparable a b × P × Q)
lt_of k x y a b v P Q one other h good =
    let p = given_parts (is_sorted x && are_alike x y) (Some Kind.Bool) k h in
    let q = and_parts (is_sorted x) (are_alike x y) p.0 in
    let s = alike_are x y q.1 in
    let A = one s.0 s.1 in
    let B = other s.0 s.2 in
    (at_kind Kind.Bool k v p.1 good, ((s.0, subst (λ (o : Option Kind). is_sorted o ≡ true) s.1 q.0, (A.0, B.0)), A.1, B.1))

pub two_fits : (o : Op) (k : Kind) (x y : Option Kind) (a b : Value) (P Q : Type 0) → Known x a P → Known y b Q → kind_of_two o x y ≡ Some k →
    Has k (two o a b) × (TwoFit o a b × P × Q)
two_fits op.Add k x y a b P Q one other h = both_of Kind.Int Kind.Int k x y a b (two op.Add a b) P Q one other h refl
two_fits op.Sub k x y a b P Q one other h = both_of Kind.Int Kind.Int k x y a b (two op.Sub a b) P Q one other h refl
two_fits op.Mul k x y a b P Q one other h = both_of Kind.Int Kind.Int k x y a b (two op.Mul a b) P Q one other h refl
two_fits op.Eq k x y a b P Q one other h = eq_of k x y a b (two op.Eq a b) P Q one other h refl
two_fits op.Lt k x y a b P Q one other h = lt_of k x y a b (two op.Lt a b) P Q one other h refl
two_fits op.And k x y a b P Q one other h = both_of Kind.Bool Kind.Bool k x y a b (two op.And a b) P Q one other h refl
two_fits op.Or k x y a b P Q one other h = both_of Kind.Bool Kind.Bool k x y a b (two op.Or a b) P Q one other h refl

picked : (c : Bool) (k : Kind) (a b : Value) → Has k a → Has k b → Has k (pick c a b)
picked true k a b p q = p
picked false k a b p q = q

pub pick_fits : (c : Bool) (k : Kind) (x y : Option Kind) (a b : Value) (P Q : Type 0) → Known x a P → Known y b Q → are_alike x y ≡ true → x ≡ Some k →
    Has k (pick c a b) × (AreOneKind a b × P × Q)
pick_fits c k x y a b P Q one other h e =
    let s = alike_are x y h in
    let same : s.0 ≡ k = cc in
    let A = one k e in
    let B = other k (s.2 ∙ sym s.1 ∙ e) in
    (picked c k a b A.0 B.0, ((k, (A.0, B.0)), A.1, B.1))

-- `this` or `viewer`.
pub word_fits : (o : Option Kind) (id : Option ℕ) (k : Kind) → Refers o id → o ≡ Some k → Has k (value.Ref id)
word_fits None id k g e = cc
word_fits (Some j) id k g e = at_kind j k (value.Ref id) e g

-- Queries.
pub condition_of : (s : Scope) (bs : List Binder) (o : Order) (x : Option Kind) → is_query s bs o x ≡ true → has Kind.Bool x ≡ true
condition_of s bs o x h = (and_parts (has Kind.Bool x) (is_order s.models bs o) (and_parts (are_binders s.models [] bs) _ (and_parts (not s.is_public) _ h).1).1).0

pub order_of : (s : Scope) (bs : List Binder) (o : Order) (x : Option Kind) → is_query s bs o x ≡ true
    → (are_binders s.models [] bs ≡ true) × (is_order s.models bs o ≡ true)
order_of s bs o x h =
    let p = and_parts (are_binders s.models [] bs) _ (and_parts (not s.is_public) _ h).1 in
    (p.0, (and_parts (has Kind.Bool x) (is_order s.models bs o) p.1).1)

pub count_fits : (bs : List Binder) (tuples : List (List ℕ)) → Has Kind.Int (count_of bs tuples)
count_fits [] tuples = refl
count_fits (b ∷ []) tuples = refl
count_fits (b ∷ (c ∷ bs)) tuples = refl

summed_fits : (bs : List Binder) (term : List Binding → Value) (env : List Binding) (so_far : Value) (tuples : List (List ℕ)) → Has Kind.Int so_far → Has Kind.Int (summed_terms bs term env so_far tuples)
summed_fits bs term env so_far [] g = g
summed_fits bs term env so_far (ids ∷ tuples) g = summed_fits bs term env (two op.Add so_far (term (bound bs ids env))) tuples refl

pub sum_fits : (bs : List Binder) (term : List Binding → Value) (env : List Binding) (tuples : List (List ℕ)) → Has Kind.Int (sum_of bs term env tuples)
sum_fits [] term env tuples = refl
sum_fits (b ∷ []) term env tuples = summed_fits (b ∷ []) term env (value.Int (pos 0)) tuples refl
sum_fits (b ∷ (c ∷ bs)) term env tuples = refl

pub some_fits : (tuples : List (List ℕ)) → Has Kind.Bool (some_of tuples)
some_fits [] = refl
some_fits (ids ∷ tuples) = refl

first_at : (ms : List Entity) (b : Binder) (bs : List Binder) (tuples : List (List ℕ)) → AllByRecursion (Refer ms (b ∷ bs)) tuples → Has (Kind.Ref (unwrap_or (model_place ms b.model) (length ms))) (first_of tuples)
first_at ms b bs [] g = refl
first_at ms b bs ([] ∷ tuples) g = refl
first_at ms b bs ((id ∷ ids) ∷ tuples) g = g.0.0

first_there : (s : Scope) (bs : List Binder) (tuples : List (List ℕ)) → AllByRecursion (Refer s.models bs) tuples → Has (first_kind s bs) (first_of tuples)
first_there s [] [] g = refl
first_there s [] ([] ∷ tuples) g = refl
first_there s [] ((id ∷ ids) ∷ tuples) g = absurd g.0
first_there s (b ∷ bs) tuples g = first_at s.models b bs tuples g

pub first_fits : (s : Scope) (bs : List Binder) (tuples : List (List ℕ)) (k : Kind) → AllByRecursion (Refer s.models bs) tuples → Some (first_kind s bs) ≡ Some k → Has k (first_of tuples)
first_fits s bs tuples k g h = at_kind (first_kind s bs) k (first_of tuples) h (first_there s bs tuples g)
