-- Operands that fit: each has the kind that its form requires, wherever it is evaluated.
use Rattle.std.specs.Prelude.{◌≡◌, ℕ, true, List, [], ◌∷◌, ⊤}
use Rattle.std.specs.List.{AllByRecursion}
use Rattle.jac_value.specs.declared.value.Kind.{Kind}
use Rattle.jac_value.specs.declared.value.Value.{Value}
use Rattle.jac_lang.specs.declared.bindings.Binding.{Binding}
use Rattle.jac_lang.specs.declared.expressions.Op.{Op}
use Rattle.jac_lang.specs.declared.expressions.Op.TheVariants as op
use Rattle.jac_lang.specs.declared.queries.Binder.{Binder}
use Rattle.jac_lang.specs.declared.queries.Order.{Order}
use Rattle.jac_lang.specs.declared.queries.Order.TheVariants as orders
use Rattle.jac_lang.specs.Syntax.{Expression, Expressions}
use Rattle.jac_plain.specs.World.{World}
use Rattle.jac_plain.specs.Expressions.{mean, look, bound, model_of_binder, tuples_from, answers_by}
use Rattle.jac_check.specs.Scope.{reference_to}
use Rattle.jac_check.specs.Verdict.{is_ordered}
use Rattle.jac_kind_laws.specs.Fits.{Has}

abbrev pub AreBoth : Kind → Value → Value → Type 0
AreBoth k a b = Has k a × Has k b

-- Both values have the same kind.
abbrev pub AreOneKind : Value → Value → Type 0
AreOneKind a b = (k : Kind) × AreBoth k a b

-- Two numbers or two texts.
abbrev pub AreComparable : Value → Value → Type 0
AreComparable a b = (k : Kind) × (is_ordered k ≡ true) × AreBoth k a b

abbrev pub IsReference : Value → Type 0
IsReference v = (m : ℕ) × Has (Kind.Ref m) v

abbrev pub TwoFit : Op → Value → Value → Type 0
TwoFit op.Add a b = AreBoth Kind.Int a b
TwoFit op.Sub a b = AreBoth Kind.Int a b
TwoFit op.Mul a b = AreBoth Kind.Int a b
TwoFit op.Eq a b = AreOneKind a b
TwoFit op.Lt a b = AreComparable a b
TwoFit op.And a b = AreBoth Kind.Bool a b
TwoFit op.Or a b = AreBoth Kind.Bool a b

-- `P` holds at each tuple, with the binders bound to its records.
abbrev pub AtEach : List Binder → List Binding → (List Binding → Type 0) → List (List ℕ) → Type 0
AtEach bs env P tuples = AllByRecursion (λ ids. P (bound bs ids env)) tuples

-- The sort key is read from a record of the binder's model.
abbrev pub SortFits : World → List Binder → Order → List ℕ → Type 0
SortFits w bs orders.Key ids = ⊤
SortFits w bs (orders.Up x f) ids = Has (reference_to w.models (model_of_binder bs x))
    (look (bound bs ids []) x)
SortFits w bs (orders.Down x f) ids = Has (reference_to w.models (model_of_binder bs x))
    (look (bound bs ids []) x)

-- At each tuple of records, the query's condition is a truth value and its operands fit, and the
-- sort key can be read.
abbrev pub AskedFits : World → List Binder → Order → (List Binding → Value)
    → (List Binding → Type 0) → List Binding → Type 0
AskedFits w bs o cond Fit env =
    AtEach bs env (λ inner. Has Kind.Bool (cond inner) × Fit inner) (tuples_from w bs ([] ∷ []))
    × AllByRecursion (SortFits w bs o) (tuples_from w bs ([] ∷ []))

abbrev mutual
  -- Each operand, at each depth and at each tuple, has a kind that its operator accepts.
  pub OperandsFit : World → Expression → List Binding → Type 0
  OperandsFit w (Expression.int i) env = ⊤
  OperandsFit w (Expression.text t) env = ⊤
  OperandsFit w (Expression.bool b) env = ⊤
  OperandsFit w (Expression.none_of m) env = ⊤
  OperandsFit w (Expression.name x) env = ⊤
  OperandsFit w Expression.this env = ⊤
  OperandsFit w Expression.viewer env = ⊤
  OperandsFit w (Expression.get m f e) env = Has (reference_to w.models m) (mean w e env)
      × OperandsFit w e env
  OperandsFit w (Expression.live e) env = IsReference (mean w e env) × OperandsFit w e env
  OperandsFit w (Expression.two o a b) env = TwoFit o (mean w a env) (mean w b env)
      × OperandsFit w a env × OperandsFit w b env
  OperandsFit w (Expression.negated e) env = Has Kind.Bool (mean w e env) × OperandsFit w e env
  OperandsFit w (Expression.cat es) env = TextsFit w es env
  OperandsFit w (Expression.str e) env = OperandsFit w e env
  OperandsFit w (Expression.pick c a b) env =
      Has Kind.Bool (mean w c env) × AreOneKind (mean w a env) (mean w b env) × OperandsFit w c env
      × OperandsFit w a env × OperandsFit w b env
  OperandsFit w (Expression.count bs c o) env = AskedFits w bs o (mean w c) (OperandsFit w c) env
  OperandsFit w (Expression.sum bs c o e) env =
      AskedFits w bs o (mean w c) (OperandsFit w c) env
      × AtEach bs env (λ inner. Has Kind.Int (mean w e inner) × OperandsFit w e inner)
      (answers_by w bs o (mean w c) env)
  OperandsFit w (Expression.any_of bs c o) env = AskedFits w bs o (mean w c) (OperandsFit w c) env
  OperandsFit w (Expression.first bs c o) env = AskedFits w bs o (mean w c) (OperandsFit w c) env

  -- Each part of a `cat` is a text.
  pub TextsFit : World → Expressions → List Binding → Type 0
  TextsFit w Expressions.none env = ⊤
  TextsFit w (Expressions.more e es) env = Has Kind.Text (mean w e env) × OperandsFit w e env
      × TextsFit w es env

-- The value of the expression has the kind, and each operand has a kind that its operator accepts.
abbrev pub IsOfKind : World → List Binding → Kind → Expression → Type 0
IsOfKind w env k e = Has k (mean w e env) × OperandsFit w e env
