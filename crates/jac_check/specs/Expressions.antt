-- The kind of an expression, or its first fault. Names are checked first, then operands from left
-- to right, then their kinds.
use Rattle.std.specs.Prelude.{ℕ, Bool, not, ◌&&◌, List, Option, None, codes}
use Rattle.jac_value.specs.declared.value.Kind.{Kind}
use Rattle.jac_lang.specs.declared.expressions.Op.{Op}
use Rattle.jac_lang.specs.declared.expressions.Op.TheVariants as op
use Rattle.jac_lang.specs.declared.queries.Binder.{Binder}
use Rattle.jac_lang.specs.declared.queries.Order.{Order}
use Rattle.jac_lang.specs.Syntax.{Expression, Expressions, Question, is_this}
use Rattle.jac_check.specs.Scope.{Scope, within, reference_to, fields_of, field_kind, first_kind}
use Rattle.jac_check.specs.Verdict.{Reason, Verdict, ◌before◌, fault_if, fault_in, verdict_by, not_a, not_alike, not_ordered, not_reference}
use Rattle.jac_check.specs.NameFaults.{unknown_model, unknown_place, query_names, order_fault, in_public, name_verdict, this_kind, viewer_verdict}

abbrev pub both_are : Kind → Kind → Verdict → Verdict → Verdict
both_are want result a b = verdict_by (fault_in a before fault_in b before not_a want a before not_a
    want b) result

abbrev pub two_verdict : Op → Verdict → Verdict → Verdict
two_verdict op.Add a b = both_are Kind.Int Kind.Int a b
two_verdict op.Sub a b = both_are Kind.Int Kind.Int a b
two_verdict op.Mul a b = both_are Kind.Int Kind.Int a b
two_verdict op.Eq a b = verdict_by (fault_in a before fault_in b before not_alike a b) Kind.Bool
two_verdict op.Lt a b = verdict_by (fault_in a before fault_in b before not_ordered a before
    not_alike a
    b) Kind.Bool
two_verdict op.And a b = both_are Kind.Bool Kind.Bool a b
two_verdict op.Or a b = both_are Kind.Bool Kind.Bool a b

abbrev pub kind_or : Kind → Verdict → Kind
kind_or d (Verdict.kind k) = k
kind_or d (Verdict.fault cause) = d

abbrev pub none_verdict : Scope → List ℕ → Verdict
none_verdict s m = verdict_by (unknown_model s.models m) (reference_to s.models m)

-- The verdict on a field of the record that an expression refers to. In a public expression, only
-- `this` may be read.
abbrev pub get_verdict : Scope → List ℕ → List ℕ → Bool → Verdict → Verdict
get_verdict s m f of_this e =
    verdict_by (fault_if (s.is_public && not of_this) (Reason.not_here (codes "get")) before
    unknown_place s.models m f before fault_in e before not_a (reference_to s.models m) e)
    (field_kind s.models (fields_of s.models m) f)

abbrev pub live_verdict : Scope → Verdict → Verdict
live_verdict s e = verdict_by (in_public s (codes "live") before fault_in e before not_reference e)
    Kind.Bool

abbrev pub not_verdict : Verdict → Verdict
not_verdict e = verdict_by (fault_in e before not_a Kind.Bool e) Kind.Bool

abbrev pub str_verdict : Verdict → Verdict
str_verdict e = verdict_by (fault_in e) Kind.Text

abbrev pub pick_verdict : Verdict → Verdict → Verdict → Verdict
pick_verdict c a b = verdict_by (fault_in c before fault_in a before fault_in b before not_a
    Kind.Bool c
    before not_alike a b) (kind_or Kind.Int a)

-- The first fault inside a query, by the verdict on its condition. The condition's kind is tested
-- later.
abbrev pub asked_inside : Scope → List ℕ → List Binder → Order → Verdict → Option Reason
asked_inside s word bs o c = query_names s word bs before fault_in c before order_fault s.models bs
    o

abbrev pub asked_fault : Scope → List ℕ → List Binder → Order → Verdict → Option Reason
asked_fault s word bs o c = asked_inside s word bs o c before not_a Kind.Bool c

abbrev pub sum_verdict : Scope → List Binder → Order → Verdict → Verdict → Verdict
sum_verdict s bs o c e = verdict_by (asked_inside s (codes "sum") bs o c before fault_in e before
    not_a
    Kind.Bool c before not_a Kind.Int e) Kind.Int

abbrev mutual
  pub verdict : Scope → Expression → Verdict
  verdict s (Expression.int i) = Verdict.kind Kind.Int
  verdict s (Expression.text t) = Verdict.kind Kind.Text
  verdict s (Expression.bool b) = Verdict.kind Kind.Bool
  verdict s (Expression.none_of m) = none_verdict s m
  verdict s (Expression.name x) = name_verdict s x
  verdict s Expression.this = this_kind s.this
  verdict s Expression.viewer = viewer_verdict s
  verdict s (Expression.get m f e) = get_verdict s m f (is_this e) (verdict s e)
  verdict s (Expression.live e) = live_verdict s (verdict s e)
  verdict s (Expression.two o a b) = two_verdict o (verdict s a) (verdict s b)
  verdict s (Expression.negated e) = not_verdict (verdict s e)
  verdict s (Expression.cat es) = verdict_by (parts_inside s es before parts_kinds s es) Kind.Text
  verdict s (Expression.str e) = str_verdict (verdict s e)
  verdict s (Expression.pick c a b) = pick_verdict (verdict s c) (verdict s a) (verdict s b)
  verdict s (Expression.count bs c o) =
      verdict_by (asked_fault s (codes "count") bs o (verdict (within bs s) c)) Kind.Int
  verdict s (Expression.sum bs c o e) = sum_verdict s bs o (verdict (within bs s) c)
      (verdict (within bs s) e)
  verdict s (Expression.any_of bs c o) =
      verdict_by (asked_fault s (codes "some") bs o (verdict (within bs s) c)) Kind.Bool
  verdict s (Expression.first bs c o) =
      verdict_by (asked_fault s (codes "first") bs o (verdict (within bs s) c)) (first_kind s bs)

  -- The first fault inside of a part.
  pub parts_inside : Scope → Expressions → Option Reason
  parts_inside s Expressions.none = None
  parts_inside s (Expressions.more e es) = fault_in (verdict s e) before parts_inside s es

  -- The fault of the first part that is no text.
  pub parts_kinds : Scope → Expressions → Option Reason
  parts_kinds s Expressions.none = None
  parts_kinds s (Expressions.more e es) = not_a Kind.Text (verdict s e) before parts_kinds s es

-- The verdict on a query's condition.
abbrev pub cond_verdict : Scope → Question → Verdict
cond_verdict s q = verdict (within q.binders s) q.cond
