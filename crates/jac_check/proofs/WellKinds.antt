-- An expression has the kind of `Kinds` exactly if it has no fault.
use Rattle.std.proofs.Common.{◌≡◌, ◌∙◌, refl, ap, ℕ, Bool, true, false, not, ◌&&◌, ◌||◌, if◌then◌else◌, List, [], ◌∷◌, Option, Some, None, is_some, is_none, option_map}
use Rattle.jac_value.specs.declared.value.Kind.{Kind}
use Rattle.jac_value.specs.contracts.value.KindPartialEq.TheImpl.{ghosts}
use Rattle.jac_lang.specs.declared.expressions.Op.{Op}
use Rattle.jac_lang.specs.declared.expressions.Op.TheVariants as op
use Rattle.jac_lang.specs.declared.field_kinds.Field.{Field}
use Rattle.jac_lang.specs.declared.queries.Binder.{Binder}
use Rattle.jac_lang.specs.declared.queries.Order.{Order}
use Rattle.jac_lang.specs.declared.queries.Order.TheVariants as orders
use Rattle.jac_lang.specs.Lookup.{same_text, model_place, field_place}
use Rattle.jac_lang.specs.Syntax.{Entity, Expression, Expressions, is_this}
use Rattle.jac_check.specs.declared.names.Meaning.{Meaning}
use Rattle.jac_check.specs.Scope.{Scope, within, fields_of, field_kind, is_one_of, reference_to}
use Rattle.jac_check.specs.Kinds.{kind_if, has, are_alike, are_both, refers, kind_of_two, is_model, is_field, is_place, are_binders, is_sort_key, is_order, is_query, kind_of, are_texts}
use Rattle.jac_check.specs.Verdict.{Reason, Verdict, ◌before◌, fault_if, fault_unless, fault_in, verdict_by, not_a, not_reference, is_ordered, is_reference}
use Rattle.jac_check.specs.NameFaults.{fault_unplaced, unknown_model, unknown_field, unknown_place, binder_fault, sorted_fault, order_fault, named_kind, viewer_kind, this_kind}
use Rattle.jac_check.specs.Expressions.{both_are, two_verdict, pick_verdict, verdict, parts_inside, parts_kinds}

abbrev pub kind_judged : Verdict → Option Kind
kind_judged (Verdict.kind k) = Some k
kind_judged (Verdict.fault cause) = None

pub and_false : (b : Bool) → (b && false) ≡ false
and_false true = refl
and_false false = refl

given_none : (b : Bool) → kind_if b None ≡ None
given_none true = refl
given_none false = refl

given_and : (b : Bool) (k : Option Kind) → kind_if (b && false) k ≡ None
given_and true k = refl
given_and false k = refl

given_if : (o : Option Reason) (k : Kind) → kind_if (is_none o) (Some k) ≡ kind_judged (verdict_by o k)
given_if None k = refl
given_if (Some cause) k = refl

given_unless : (b : Bool) (cause : Reason) (k : Kind) → kind_if b (Some k) ≡ kind_judged (verdict_by (fault_unless b cause) k)
given_unless true cause k = refl
given_unless false cause k = refl

given_two : (b c : Bool) (first second : Reason) (k : Kind) → kind_if (b && c) (Some k) ≡ kind_judged (verdict_by (fault_unless b first before fault_unless c second) k)
given_two false c first second k = refl
given_two true c first second k = given_unless c second k

and_unless : (b : Bool) (cause : Reason) → (b && true) ≡ is_none (fault_unless b cause)
and_unless true cause = refl
and_unless false cause = refl

and_true : (b : Bool) → (b && true) ≡ b
and_true true = refl
and_true false = refl

none_unless : (b : Bool) (cause : Reason) → b ≡ is_none (fault_unless b cause)
none_unless true cause = refl
none_unless false cause = refl

pub none_before : {A : Type 0} (o p : Option A) → (is_none o && is_none p) ≡ is_none (o before p)
none_before None p = refl
none_before (Some a) p = refl

unplaced : (o : Option ℕ) (x : List ℕ) → is_some o ≡ is_none (fault_unplaced o x)
unplaced None x = refl
unplaced (Some place) x = refl

pub model-known : (ms : List Entity) (m : List ℕ) → is_model ms m ≡ is_none (unknown_model ms m)
model-known ms m = unplaced (model_place ms m) m

pub field-known : (fs : List Field) (f : List ℕ) → is_field fs f ≡ is_none (unknown_field fs f)
field-known fs f = unplaced (field_place fs f) f

place-known : (ms : List Entity) (m f : List ℕ) → is_place ms m f ≡ is_none (unknown_place ms m f)
place-known ms m f =
    ap (λ (b : Bool). b && is_field (fields_of ms m) f) (model-known ms m) ∙ ap (λ (b : Bool). is_none (unknown_model ms m) && b) (field-known (fields_of ms m) f)
    ∙ none_before (unknown_model ms m) (unknown_field (fields_of ms m) f)

binder-step : (b : Bool) (cause : Reason) (o p : Option Reason) → (not b && (is_none o && is_none p)) ≡ is_none (fault_if b cause before o before p)
binder-step true cause o p = refl
binder-step false cause o p = none_before o p

binders-well : (ms : List Entity) (seen : List (List ℕ)) (bs : List Binder) → are_binders ms seen bs ≡ is_none (binder_fault ms seen bs)
binders-well ms seen [] = refl
binders-well ms seen (b ∷ bs) =
    ap (λ (known : Bool). not (is_one_of b.name seen) && (known && are_binders ms (b.name ∷ seen) bs)) (model-known ms b.model)
    ∙ ap (λ (rest : Bool). not (is_one_of b.name seen) && (is_none (unknown_model ms b.model) && rest)) (binders-well ms (b.name ∷ seen) bs)
    ∙ binder-step (is_one_of b.name seen) (Reason.twice b.name) (unknown_model ms b.model) (binder_fault ms (b.name ∷ seen) bs)

sort-step : (b p q : Bool) (o r : Option Reason) → p ≡ is_none o → q ≡ is_none r → (if b then p else q) ≡ is_none (if b then o else r)
sort-step true p q o r h k = h
sort-step false p q o r h k = k

sort-key : (ms : List Entity) (bs : List Binder) (x f : List ℕ) → is_sort_key ms bs x f ≡ is_none (sorted_fault ms bs x f)
sort-key ms [] x f = refl
sort-key ms (b ∷ bs) x f =
    sort-step (same_text b.name x) (is_place ms b.model f) (is_sort_key ms bs x f) (unknown_place ms b.model f) (sorted_fault ms bs x f) (place-known ms b.model f) (sort-key ms bs x f)

order-well : (ms : List Entity) (bs : List Binder) (o : Order) → is_order ms bs o ≡ is_none (order_fault ms bs o)
order-well ms bs orders.Key = refl
order-well ms bs (orders.Up x f) = sort-key ms bs x f
order-well ms bs (orders.Down x f) = sort-key ms bs x f

pub has-kind : (want : Kind) (v : Verdict) → has want (kind_judged v) ≡ (is_none (fault_in v) && is_none (not_a want v))
has-kind want (Verdict.fault cause) = refl
has-kind want (Verdict.kind k) = none_unless (ghosts.eq k want) _

both-kinds : (want k : Kind) (a b : Verdict) → kind_if (are_both want (kind_judged a) (kind_judged b)) (Some k) ≡ kind_judged (both_are want k a b)
both-kinds want k (Verdict.fault cause) b = refl
both-kinds want k (Verdict.kind i) (Verdict.fault cause) = given_and (ghosts.eq i want) (Some k)
both-kinds want k (Verdict.kind i) (Verdict.kind j) = given_two (ghosts.eq i want) (ghosts.eq j want) _ _ k

two-kinds : (o : Op) (a b : Verdict) → kind_of_two o (kind_judged a) (kind_judged b) ≡ kind_judged (two_verdict o a b)
two-kinds op.Add a b = both-kinds Kind.Int Kind.Int a b
two-kinds op.Sub a b = both-kinds Kind.Int Kind.Int a b
two-kinds op.Mul a b = both-kinds Kind.Int Kind.Int a b
two-kinds op.And a b = both-kinds Kind.Bool Kind.Bool a b
two-kinds op.Or a b = both-kinds Kind.Bool Kind.Bool a b
two-kinds op.Eq (Verdict.fault cause) b = refl
two-kinds op.Eq (Verdict.kind i) (Verdict.fault cause) = refl
two-kinds op.Eq (Verdict.kind i) (Verdict.kind j) = given_unless (ghosts.eq j i) _ Kind.Bool
two-kinds op.Lt (Verdict.fault cause) b = refl
two-kinds op.Lt (Verdict.kind i) (Verdict.fault cause) = given_and (is_ordered i) (Some Kind.Bool)
two-kinds op.Lt (Verdict.kind i) (Verdict.kind j) = given_two (is_ordered i) (ghosts.eq j i) _ _ Kind.Bool

not-kind : (v : Verdict) → kind_if (has Kind.Bool (kind_judged v)) (Some Kind.Bool) ≡ kind_judged (verdict_by (fault_in v before not_a Kind.Bool v) Kind.Bool)
not-kind (Verdict.fault cause) = refl
not-kind (Verdict.kind k) = given_unless (ghosts.eq k Kind.Bool) _ Kind.Bool

str-kind : (v : Verdict) → kind_if (is_some (kind_judged v)) (Some Kind.Text) ≡ kind_judged (verdict_by (fault_in v) Kind.Text)
str-kind (Verdict.fault cause) = refl
str-kind (Verdict.kind k) = refl

live-kind : (public : Bool) (cause : Reason) (v : Verdict) → kind_if (not public && refers (kind_judged v)) (Some Kind.Bool) ≡ kind_judged (verdict_by (fault_if public cause before fault_in v before not_reference v) Kind.Bool)
live-kind true cause v = refl
live-kind false cause (Verdict.fault d) = refl
live-kind false cause (Verdict.kind k) = given_unless (is_reference k) _ Kind.Bool

get-kind : (public this : Bool) (cause : Reason) (o : Option Reason) (want k : Kind) (v : Verdict)
    → kind_if ((not public || this) && (is_none o && has want (kind_judged v))) (Some k) ≡ kind_judged (verdict_by (fault_if (public && not this) cause before o before fault_in v before not_a want v) k)
get-kind true false cause o want k v = refl
get-kind true true cause (Some d) want k v = refl
get-kind true true cause None want k (Verdict.fault d) = refl
get-kind true true cause None want k (Verdict.kind j) = given_unless (ghosts.eq j want) _ k
get-kind false this cause (Some d) want k v = refl
get-kind false this cause None want k (Verdict.fault d) = refl
get-kind false this cause None want k (Verdict.kind j) = given_unless (ghosts.eq j want) _ k

pick-kind : (c a b : Verdict) → kind_if (has Kind.Bool (kind_judged c) && are_alike (kind_judged a) (kind_judged b)) (kind_judged a) ≡ kind_judged (pick_verdict c a b)
pick-kind (Verdict.fault cause) a b = refl
pick-kind (Verdict.kind h) (Verdict.fault cause) b = given_none _
pick-kind (Verdict.kind h) (Verdict.kind i) (Verdict.fault cause) = given_and (ghosts.eq h Kind.Bool) (Some i)
pick-kind (Verdict.kind h) (Verdict.kind i) (Verdict.kind j) = given_two (ghosts.eq h Kind.Bool) (ghosts.eq j i) _ _ i

name-kind : (public : Bool) (o : Option Meaning) (x : List ℕ) → kind_if (not public) (option_map (λ (m : Meaning). m.kind) o) ≡ kind_judged (if public then Verdict.fault (Reason.not_here x) else named_kind o x)
name-kind true o x = refl
name-kind false None x = refl
name-kind false (Some m) x = refl

viewer-kind : (public : Bool) (ms : List Entity) (o : Option (List ℕ)) (cause : Reason)
    → kind_if (not public) (option_map (reference_to ms) o) ≡ kind_judged (if public then Verdict.fault cause else viewer_kind ms o)
viewer-kind true ms o cause = refl
viewer-kind false ms None cause = refl
viewer-kind false ms (Some m) cause = refl

this-known : (o : Option Kind) → o ≡ kind_judged (this_kind o)
this-known None = refl
this-known (Some k) = refl

pub query-step : (public : Bool) (cause : Reason) (names order : Option Reason) (v : Verdict)
    → (not public && (is_none names && (has Kind.Bool (kind_judged v) && is_none order)))
    ≡ is_none (((fault_if public cause before names) before fault_in v before order) before not_a Kind.Bool v)
query-step true cause names order v = refl
query-step false cause (Some d) order v = refl
query-step false cause None order (Verdict.fault d) = refl
query-step false cause None (Some d) (Verdict.kind k) = and_false (ghosts.eq k Kind.Bool)
query-step false cause None None (Verdict.kind k) = and_unless (ghosts.eq k Kind.Bool) _

sum-step : (public : Bool) (cause : Reason) (names order : Option Reason) (v e : Verdict)
    → kind_if ((not public && (is_none names && (has Kind.Bool (kind_judged v) && is_none order))) && has Kind.Int (kind_judged e)) (Some Kind.Int)
    ≡ kind_judged (verdict_by (((fault_if public cause before names) before fault_in v before order) before fault_in e before not_a Kind.Bool v before not_a Kind.Int e) Kind.Int)
sum-step true cause names order v e = refl
sum-step false cause (Some d) order v e = refl
sum-step false cause None order (Verdict.fault d) e = refl
sum-step false cause None (Some d) (Verdict.kind k) e = ap (λ (b : Bool). kind_if (b && has Kind.Int (kind_judged e)) (Some Kind.Int)) (and_false (ghosts.eq k Kind.Bool))
sum-step false cause None None (Verdict.kind k) (Verdict.fault d) = given_and (ghosts.eq k Kind.Bool && true) (Some Kind.Int)
sum-step false cause None None (Verdict.kind k) (Verdict.kind j) =
    ap (λ (b : Bool). kind_if (b && ghosts.eq j Kind.Int) (Some Kind.Int)) (and_true (ghosts.eq k Kind.Bool)) ∙ given_two (ghosts.eq k Kind.Bool) (ghosts.eq j Kind.Int) _ _ Kind.Int

-- A query, with the verdict on its condition.
pub query-well : (s : Scope) (bs : List Binder) (o : Order) (v : Verdict)
    → is_query s bs o (kind_judged v) ≡ (not s.is_public && (is_none (binder_fault s.models [] bs) && (has Kind.Bool (kind_judged v) && is_none (order_fault s.models bs o))))
query-well s bs o v =
    ap (λ (b : Bool). not s.is_public && (b && (has Kind.Bool (kind_judged v) && is_order s.models bs o))) (binders-well s.models [] bs)
    ∙ ap (λ (b : Bool). not s.is_public && (is_none (binder_fault s.models [] bs) && (has Kind.Bool (kind_judged v) && b))) (order-well s.models bs o)

query-kind : (s : Scope) (word : Reason) (bs : List Binder) (o : Order) (v : Verdict) (k : Kind)
    → kind_if (is_query s bs o (kind_judged v)) (Some k)
    ≡ kind_judged (verdict_by (((fault_if s.is_public word before binder_fault s.models [] bs) before fault_in v before order_fault s.models bs o) before not_a Kind.Bool v) k)
query-kind s word bs o v k =
    ap (λ (b : Bool). kind_if b (Some k)) (query-well s bs o v ∙ query-step s.is_public word (binder_fault s.models [] bs) (order_fault s.models bs o) v)
    ∙ given_if (((fault_if s.is_public word before binder_fault s.models [] bs) before fault_in v before order_fault s.models bs o) before not_a Kind.Bool v) k

pub parts-step : (p q x y : Bool) → ((p && x) && (q && y)) ≡ ((p && q) && (x && y))
parts-step false q x y = refl
parts-step true true x y = refl
parts-step true false true y = refl
parts-step true false false y = refl

mutual
  pub kinds-law : (s : Scope) (e : Expression) → kind_of s e ≡ kind_judged (verdict s e)
  kinds-law s (Expression.int i) = refl
  kinds-law s (Expression.text t) = refl
  kinds-law s (Expression.bool b) = refl
  kinds-law s (Expression.none_of m) = ap (λ (b : Bool). kind_if b (Some (reference_to s.models m))) (model-known s.models m) ∙ given_if (unknown_model s.models m) (reference_to s.models m)
  kinds-law s (Expression.name x) = name-kind s.is_public _ x
  kinds-law s Expression.this = this-known s.this
  kinds-law s Expression.viewer = viewer-kind s.is_public s.models s.viewers _
  kinds-law s (Expression.get m f e) =
      let want = reference_to s.models m in
      let k = field_kind s.models (fields_of s.models m) f in
      ap (λ (o : Option Kind). kind_if ((not s.is_public || is_this e) && (is_place s.models m f && has want o)) (Some k)) (kinds-law s e)
      ∙ ap (λ (b : Bool). kind_if ((not s.is_public || is_this e) && (b && has want (kind_judged (verdict s e)))) (Some k)) (place-known s.models m f)
      ∙ get-kind s.is_public (is_this e) _ (unknown_place s.models m f) want k (verdict s e)
  kinds-law s (Expression.live e) = rw (kinds-law s e) (live-kind s.is_public _ (verdict s e))
  kinds-law s (Expression.two o a b) = rw (kinds-law s a, kinds-law s b) (two-kinds o (verdict s a) (verdict s b))
  kinds-law s (Expression.negated e) = rw (kinds-law s e) (not-kind (verdict s e))
  kinds-law s (Expression.cat es) = rw (parts-law s es) (given_if (parts_inside s es before parts_kinds s es) Kind.Text)
  kinds-law s (Expression.str e) = rw (kinds-law s e) (str-kind (verdict s e))
  kinds-law s (Expression.pick c a b) = rw (kinds-law s c, kinds-law s a, kinds-law s b) (pick-kind (verdict s c) (verdict s a) (verdict s b))
  kinds-law s (Expression.count bs c o) = rw (kinds-law (within bs s) c) (query-kind s _ bs o (verdict (within bs s) c) Kind.Int)
  kinds-law s (Expression.sum bs c o e) =
      let inner = within bs s in
      ap (λ (k : Option Kind). kind_if (is_query s bs o k && has Kind.Int (kind_of inner e)) (Some Kind.Int)) (kinds-law inner c)
      ∙ ap (λ (k : Option Kind). kind_if (is_query s bs o (kind_judged (verdict inner c)) && has Kind.Int k) (Some Kind.Int)) (kinds-law inner e)
      ∙ ap (λ (b : Bool). kind_if (b && has Kind.Int (kind_judged (verdict inner e))) (Some Kind.Int)) (query-well s bs o (verdict inner c))
      ∙ sum-step s.is_public _ (binder_fault s.models [] bs) (order_fault s.models bs o) (verdict inner c) (verdict inner e)
  kinds-law s (Expression.any_of bs c o) = rw (kinds-law (within bs s) c) (query-kind s _ bs o (verdict (within bs s) c) Kind.Bool)
  kinds-law s (Expression.first bs c o) = rw (kinds-law (within bs s) c) (query-kind s _ bs o (verdict (within bs s) c) _)

  pub parts-law : (s : Scope) (es : Expressions) → are_texts s es ≡ is_none (parts_inside s es before parts_kinds s es)
  parts-law s Expressions.none = refl
  parts-law s (Expressions.more e es) =
      rw (kinds-law s e, has-kind Kind.Text (verdict s e), parts-law s es, ← none_before (parts_inside s es) (parts_kinds s es)) (
      parts-step (is_none (fault_in (verdict s e))) (is_none (parts_inside s es)) (is_none (not_a Kind.Text (verdict s e))) (is_none (parts_kinds s es))
      ∙ ap (λ (b : Bool). b && (is_none (not_a Kind.Text (verdict s e)) && is_none (parts_kinds s es))) (none_before (fault_in (verdict s e)) (parts_inside s es))
      ∙ ap (λ (b : Bool). is_none (fault_in (verdict s e) before parts_inside s es) && b) (none_before (not_a Kind.Text (verdict s e)) (parts_kinds s es))
      ∙ none_before (fault_in (verdict s e) before parts_inside s es) (not_a Kind.Text (verdict s e) before parts_kinds s es))
