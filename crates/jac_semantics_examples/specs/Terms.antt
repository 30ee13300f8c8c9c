-- Short names for the parts of an application, in the order of docs/LANGUAGE.md.
use Rattle.std.specs.Prelude.{ℕ, pos, neg_ℤ, Bool, List, [], ◌∷◌}
use Rattle.jac_lang.specs.declared.expressions.Op.TheVariants as op
use Rattle.jac_lang.specs.declared.field_kinds.Field.{Field}
use Rattle.jac_lang.specs.declared.field_kinds.KindName.{KindName}
use Rattle.jac_lang.specs.declared.queries.Binder.{Binder}
use Rattle.jac_lang.specs.declared.queries.Order.{Order}
use Rattle.jac_lang.specs.Syntax.{Expression, Expressions, Question, Assigned, Statement, Statements}

abbrev pub num : ℕ → Expression
num n = Expression.int (pos n)

abbrev pub minus : ℕ → Expression
minus n = Expression.int (neg_ℤ (pos n))

abbrev pub word : List ℕ → Expression
word t = Expression.text t

abbrev pub truth : Bool → Expression
truth b = Expression.bool b

abbrev pub the : List ℕ → Expression
the x = Expression.name x

abbrev pub add : Expression → Expression → Expression
add a b = Expression.two op.Add a b

abbrev pub sub : Expression → Expression → Expression
sub a b = Expression.two op.Sub a b

abbrev pub mul : Expression → Expression → Expression
mul a b = Expression.two op.Mul a b

abbrev pub eq : Expression → Expression → Expression
eq a b = Expression.two op.Eq a b

abbrev pub lt : Expression → Expression → Expression
lt a b = Expression.two op.Lt a b

abbrev pub and_also : Expression → Expression → Expression
and_also a b = Expression.two op.And a b

abbrev pub or_also : Expression → Expression → Expression
or_also a b = Expression.two op.Or a b

abbrev pub parts : List Expression → Expressions
parts [] = Expressions.none
parts (e ∷ es) = Expressions.more e (parts es)

abbrev pub cat_of : List Expression → Expression
cat_of es = Expression.cat (parts es)

-- A binder, and a list of one binder.
abbrev pub a_binder : List ℕ → List ℕ → Binder
a_binder x m = record { name = x; model = m }

abbrev pub sole : List ℕ → List ℕ → List Binder
sole x m = a_binder x m ∷ []

abbrev pub asks : List Binder → Expression → Order → Question
asks bs c o = record { binders = bs; cond = c; order = o }

abbrev pub sets : List ℕ → Expression → Assigned
sets f e = record { field = f; value = e }

abbrev pub steps : List Statement → Statements
steps [] = Statements.none
steps (s ∷ ss) = Statements.more s (steps ss)

abbrev pub a_field : List ℕ → KindName → Field
a_field x k = record { name = x; kind = k }
