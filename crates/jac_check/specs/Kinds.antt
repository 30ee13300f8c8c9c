-- The kind of an expression. It has one if its names are known, its form is allowed in its scope,
-- and its operands have the required kinds.
use Rattle.std.specs.Prelude.{ℕ, Bool, true, false, not, ◌&&◌, ◌||◌, List, [], ◌∷◌, Option, Some, None, is_some, option_map, if◌then◌else◌}
use Rattle.jac_value.specs.declared.value.Kind.{Kind}
use Rattle.jac_value.specs.contracts.value.KindPartialEq.TheImpl.{ghosts}
use Rattle.jac_lang.specs.declared.expressions.Op.{Op}
use Rattle.jac_lang.specs.declared.expressions.Op.TheVariants as op
use Rattle.jac_lang.specs.declared.field_kinds.Field.{Field}
use Rattle.jac_lang.specs.declared.queries.Binder.{Binder}
use Rattle.jac_lang.specs.declared.queries.Order.{Order}
use Rattle.jac_lang.specs.declared.queries.Order.TheVariants as orders
use Rattle.jac_lang.specs.Lookup.{same_text, model_place, field_place}
use Rattle.jac_lang.specs.Syntax.{Entity, Expression, Expressions, is_this}
use Rattle.jac_check.specs.declared.names.Meaning.{Meaning}
use Rattle.jac_check.specs.Verdict.{is_ordered, is_reference}
use Rattle.jac_check.specs.Scope.{Scope, meaning_of, within, reference_to, fields_of, field_kind, first_kind, is_one_of}

-- The kind, if the test is passed.
abbrev pub kind_if : Bool → Option Kind → Option Kind
kind_if true k = k
kind_if false k = None

abbrev pub has : Kind → Option Kind → Bool
has want None = false
has want (Some k) = ghosts.eq k want

abbrev pub are_alike : Option Kind → Option Kind → Bool
are_alike None b = false
are_alike (Some k) b = has k b

abbrev pub are_both : Kind → Option Kind → Option Kind → Bool
are_both k a b = has k a && has k b

abbrev pub refers : Option Kind → Bool
refers None = false
refers (Some k) = is_reference k

abbrev pub is_sorted : Option Kind → Bool
is_sorted None = false
is_sorted (Some k) = is_ordered k

abbrev pub kind_of_two : Op → Option Kind → Option Kind → Option Kind
kind_of_two op.Add a b = kind_if (are_both Kind.Int a b) (Some Kind.Int)
kind_of_two op.Sub a b = kind_if (are_both Kind.Int a b) (Some Kind.Int)
kind_of_two op.Mul a b = kind_if (are_both Kind.Int a b) (Some Kind.Int)
kind_of_two op.Eq a b = kind_if (are_alike a b) (Some Kind.Bool)
kind_of_two op.Lt a b = kind_if (is_sorted a && are_alike a b) (Some Kind.Bool)
kind_of_two op.And a b = kind_if (are_both Kind.Bool a b) (Some Kind.Bool)
kind_of_two op.Or a b = kind_if (are_both Kind.Bool a b) (Some Kind.Bool)

abbrev pub is_model : List Entity → List ℕ → Bool
is_model ms m = is_some (model_place ms m)

abbrev pub is_field : List Field → List ℕ → Bool
is_field fs f = is_some (field_place fs f)

abbrev pub is_place : List Entity → List ℕ → List ℕ → Bool
is_place ms m f = is_model ms m && is_field (fields_of ms m) f

-- Each binder's model is known, and no two binders have the same name.
abbrev pub are_binders : List Entity → List (List ℕ) → List Binder → Bool
are_binders ms seen [] = true
are_binders ms seen (b ∷ bs) = not (is_one_of b.name seen) && (is_model ms b.model && are_binders ms
    (b.name ∷ seen) bs)

-- A binder has this name, and its model has this field.
abbrev pub is_sort_key : List Entity → List Binder → List ℕ → List ℕ → Bool
is_sort_key ms [] x f = false
is_sort_key ms (b ∷ bs) x f = if same_text b.name x then is_place ms b.model f
    else is_sort_key ms bs x f

abbrev pub is_order : List Entity → List Binder → Order → Bool
is_order ms bs orders.Key = true
is_order ms bs (orders.Up x f) = is_sort_key ms bs x f
is_order ms bs (orders.Down x f) = is_sort_key ms bs x f

-- Whether a query is well if its condition has this kind. No query may be in a public expression.
abbrev pub is_query : Scope → List Binder → Order → Option Kind → Bool
is_query s bs o c = not s.is_public && (are_binders s.models [] bs && (has Kind.Bool c && is_order
    s.models bs o))

abbrev mutual
  -- The kind of an expression, or none if it isn't well.
  pub kind_of : Scope → Expression → Option Kind
  kind_of s (Expression.int i) = Some Kind.Int
  kind_of s (Expression.text t) = Some Kind.Text
  kind_of s (Expression.bool b) = Some Kind.Bool
  kind_of s (Expression.none_of m) = kind_if (is_model s.models m) (Some (reference_to s.models m))
  kind_of s (Expression.name x) = kind_if (not s.is_public) (option_map (λ (m : Meaning). m.kind)
      (meaning_of s.names x))
  kind_of s Expression.this = s.this
  kind_of s Expression.viewer = kind_if (not s.is_public) (option_map (reference_to s.models)
      s.viewers)
  kind_of s (Expression.get m f e) =
      kind_if ((not s.is_public || is_this e) && (is_place s.models m f && has
      (reference_to s.models m) (kind_of s e)))
      (Some (field_kind s.models (fields_of s.models m) f))
  kind_of s (Expression.live e) = kind_if (not s.is_public && refers (kind_of s e)) (Some Kind.Bool)
  kind_of s (Expression.two o a b) = kind_of_two o (kind_of s a) (kind_of s b)
  kind_of s (Expression.negated e) = kind_if (has Kind.Bool (kind_of s e)) (Some Kind.Bool)
  kind_of s (Expression.cat es) = kind_if (are_texts s es) (Some Kind.Text)
  kind_of s (Expression.str e) = kind_if (is_some (kind_of s e)) (Some Kind.Text)
  kind_of s (Expression.pick c a b) = kind_if (has Kind.Bool (kind_of s c) && are_alike
      (kind_of s a)
      (kind_of s b)) (kind_of s a)
  kind_of s (Expression.count bs c o) = kind_if (is_query s bs o (kind_of (within bs s) c))
      (Some Kind.Int)
  kind_of s (Expression.sum bs c o e) = kind_if (is_query s bs o (kind_of (within bs s) c) && has
      Kind.Int (kind_of (within bs s) e)) (Some Kind.Int)
  kind_of s (Expression.any_of bs c o) = kind_if (is_query s bs o (kind_of (within bs s) c))
      (Some Kind.Bool)
  kind_of s (Expression.first bs c o) = kind_if (is_query s bs o (kind_of (within bs s) c))
      (Some (first_kind s bs))

  -- Each part of a `cat` is a text.
  pub are_texts : Scope → Expressions → Bool
  are_texts s Expressions.none = true
  are_texts s (Expressions.more e es) = has Kind.Text (kind_of s e) && are_texts s es
