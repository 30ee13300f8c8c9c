-- How trees represent expressions and queries.
use Rattle.std.specs.Prelude.{ℕ, ◌+◌, ℤ, Bool, true, false, nat_le, if◌then◌else◌, Option, Some, None, List, [], ◌∷◌, codes}
use Rattle.std.specs.Str.{bytes_eq}
use Rattle.jac_lang.specs.Syntax.{Expression, Expressions, Question}
use Rattle.jac_lang.specs.declared.expressions.Op.{Op}
use Rattle.jac_lang.specs.declared.expressions.Op.TheVariants as ops
use Rattle.jac_lang.specs.declared.queries.Binder.{Binder}
use Rattle.jac_lang.specs.declared.queries.Order.{Order}
use Rattle.jac_lang.specs.declared.queries.Order.TheVariants as orders
use Rattle.jac_tree.specs.Plain.{PlainTree, PlainTrees, count, is_word}
use Rattle.jac_value.specs.Values.{integer_of}
use Rattle.jac_forms.specs.Places.{child}
use Rattle.jac_forms.specs.Reads.{Read, got, wrong, read_map, read_and_then, up_to, value_of}
use Rattle.jac_forms.specs.Names.{name_in_tree, name_read}
use Rattle.jac_forms.specs.declared.fault.Want.{Want}
use Rattle.jac_forms.specs.declared.fault.Want.TheVariants as wants
use Rattle.jac_forms.specs.declared.fault.What.TheVariants as whats
use Rattle.jac_forms.specs.declared.queries.Most.{Most}
use Rattle.jac_forms.specs.declared.queries.Most.TheVariants as mosts
use Rattle.jac_forms.specs.declared.words.Form.{Form}
use Rattle.jac_forms.specs.declared.words.Form.TheVariants as forms

-- The operation of a form with two operands, by its word.
abbrev pub op_of : List ℕ → Option Op
op_of a =
    if bytes_eq a (codes "add") then Some ops.Add else
    if bytes_eq a (codes "sub") then Some ops.Sub else
    if bytes_eq a (codes "mul") then Some ops.Mul else
    if bytes_eq a (codes "eq") then Some ops.Eq else
    if bytes_eq a (codes "lt") then Some ops.Lt else
    if bytes_eq a (codes "and") then Some ops.And else
    if bytes_eq a (codes "or") then Some ops.Or else None

-- The form with a query that begins with this word.
abbrev pub asking_of : List ℕ → Option Form
asking_of a =
    if bytes_eq a (codes "count") then Some forms.Count else
    if bytes_eq a (codes "sum") then Some forms.Sum else
    if bytes_eq a (codes "some") then Some forms.AnyOf else
    if bytes_eq a (codes "first") then Some forms.First else None

-- Any other form that begins with this word.
abbrev pub plain_form_of : List ℕ → Option Form
plain_form_of a =
    if bytes_eq a (codes "none") then Some forms.NoneOf else
    if bytes_eq a (codes "get") then Some forms.Get else
    if bytes_eq a (codes "live") then Some forms.Live else
    if bytes_eq a (codes "not") then Some forms.Not else
    if bytes_eq a (codes "cat") then Some forms.Cat else
    if bytes_eq a (codes "str") then Some forms.Str else
    if bytes_eq a (codes "pick") then Some forms.Pick else asking_of a

-- The form that begins with this word.
abbrev pub form_of_op : List ℕ → Option Op → Option Form
form_of_op a (Some op) = Some (forms.Two op)
form_of_op a None = plain_form_of a

abbrev pub form_of_word : List ℕ → Option Form
form_of_word a = form_of_op a (op_of a)

-- The form of a list with this head.
abbrev pub form_of : PlainTree → Option Form
form_of (PlainTree.atom a) = form_of_word a
form_of t = None

-- An atom as an expression: a reserved word, an integer or a name.
abbrev pub number_or_name : List ℕ → List ℕ → Option ℤ → Read Expression
number_or_name at a (Some i) = got (Expression.int i)
number_or_name at a None = read_map Expression.name (name_read wants.Expression at a)

abbrev pub atom_expression : List ℕ → List ℕ → Read Expression
atom_expression at a =
    if bytes_eq a (codes "true") then got (Expression.bool true) else
    if bytes_eq a (codes "false") then got (Expression.bool false) else
    if bytes_eq a (codes "this") then got Expression.this else
    if bytes_eq a (codes "viewer") then got Expression.viewer
    else number_or_name at a (integer_of a)

abbrev pub binder : List ℕ → List ℕ → Binder
binder name model = record { name = name; model = model }

-- `(NAME NAME)`.
abbrev pub binder_in_tree : List ℕ → PlainTree → Read Binder
binder_in_tree at (PlainTree.list (PlainTrees.more x (PlainTrees.more m PlainTrees.none))) =
    read_and_then (λ name. read_map (binder name) (name_in_tree (child at 1) m))
    (name_in_tree (child at 0) x)
binder_in_tree at t = wrong wants.Binder at

abbrev pub binders_in_trees : List ℕ → ℕ → PlainTrees → Read (List Binder)
binders_in_trees at k PlainTrees.none = got []
binders_in_trees at k (PlainTrees.more t ts) =
    read_and_then (λ b. read_map (λ bs. b ∷ bs) (binders_in_trees at (k + 1) ts))
    (binder_in_tree (child at k) t)

-- The largest number of binders that a query may have.
abbrev pub most_binders : Most → ℕ
most_binders mosts.One = 1
most_binders mosts.Three = 3

-- One or more binders, up to `most`.
abbrev pub some_binders : ℕ → List ℕ → PlainTrees → Read (List Binder)
some_binders most at ts =
    if nat_le (count ts) 0 then wrong wants.Binder at else up_to whats.Binders at most (count ts)
    (binders_in_trees at 0 ts)

abbrev pub binders_in_tree : ℕ → List ℕ → PlainTree → Read (List Binder)
binders_in_tree most at (PlainTree.list ts) = some_binders most at ts
binders_in_tree most at t = wrong wants.Binder at

-- If at most one binder is allowed, a longer list of binders makes the tree no query.
abbrev pub has_few : ℕ → PlainTree → Bool
has_few most (PlainTree.list ts) = if nat_le most 1 then nat_le (count ts) most else true
has_few most t = true

-- A binder, and the field by which results are sorted.
pub record SortKey : Type 0 where
  pub binder : List ℕ
  pub field : List ℕ

abbrev pub sort_key : List ℕ → List ℕ → SortKey
sort_key x f = record { binder = x; field = f }

abbrev pub key_of_sort : List ℕ → PlainTree → PlainTree → Read SortKey
key_of_sort at x f = read_and_then (λ name. read_map (sort_key name) (name_in_tree (child at 2) f))
    (name_in_tree (child at 1) x)

abbrev pub rising : SortKey → Order
rising key = orders.Up key.binder key.field

abbrev pub falling : SortKey → Order
falling key = orders.Down key.binder key.field

-- `(up NAME NAME)` or `(down NAME NAME)`.
abbrev pub sorting_in_trees : List ℕ → PlainTrees → Read Order
sorting_in_trees at (PlainTrees.more w (PlainTrees.more x (PlainTrees.more f PlainTrees.none))) =
    if is_word (codes "up") w then read_map rising (key_of_sort at x f) else if is_word
    (codes "down") w
    then read_map falling (key_of_sort at x f) else wrong wants.Order at
sorting_in_trees at ts = wrong wants.Order at

-- `key`, or a field of a binder, rising or falling.
abbrev pub order_in_tree : List ℕ → PlainTree → Read Order
order_in_tree at (PlainTree.atom a) = if bytes_eq a (codes "key") then got orders.Key
    else wrong wants.Order at
order_in_tree at (PlainTree.text x) = wrong wants.Order at
order_in_tree at (PlainTree.list ts) = sorting_in_trees at ts

abbrev pub question : List Binder → Expression → Order → Question
question bs c o = record { binders = bs; cond = c; order = o }

-- The query of the three parts, or the first fault in them, from the left.
abbrev pub question_if : Read (List Binder) → Read Expression → Read Order → Read Question
question_if bs c o =
    read_and_then (λ binders. read_and_then (λ cond. read_map (question binders cond) o) c) bs

-- The expressions of the forms with a query.
abbrev pub count_expression : Question → Expression
count_expression q = Expression.count q.binders q.cond q.order

abbrev pub sum_expression : Question → Expression → Expression
sum_expression q e = Expression.sum q.binders q.cond q.order e

abbrev pub any_expression : Question → Expression
any_expression q = Expression.any_of q.binders q.cond q.order

abbrev pub first_expression : Question → Expression
first_expression q = Expression.first q.binders q.cond q.order

-- `(none NAME)`.
abbrev pub none_in_trees : List ℕ → PlainTrees → Read Expression
none_in_trees at (PlainTrees.more m PlainTrees.none) = read_map Expression.none_of
    (name_in_tree (child at 1) m)
none_in_trees at ts = wrong wants.Expression at

-- The operands of a form, read in each way in which some form takes them.
pub record Operands : Type 0 where
  pub none_of : Read Expression
  pub one : Read Expression
  pub two : Op → Read Expression
  pub get : Read Expression
  pub pick : Read Expression
  pub parts : Read Expressions
  pub asked : ℕ → Read Question
  pub sum : Read Expression

-- The expression of a form with its operands.
abbrev pub expression_of_form : List ℕ → Option Form → Operands → Read Expression
expression_of_form at None operands = wrong wants.Expression at
expression_of_form at (Some forms.NoneOf) operands = operands.none_of
expression_of_form at (Some forms.Get) operands = operands.get
expression_of_form at (Some forms.Live) operands = read_map Expression.live operands.one
expression_of_form at (Some (forms.Two op)) operands = operands.two op
expression_of_form at (Some forms.Not) operands = read_map Expression.negated operands.one
expression_of_form at (Some forms.Cat) operands = read_map Expression.cat operands.parts
expression_of_form at (Some forms.Str) operands = read_map Expression.str operands.one
expression_of_form at (Some forms.Pick) operands = operands.pick
expression_of_form at (Some forms.Count) operands = read_map count_expression (operands.asked 1)
expression_of_form at (Some forms.Sum) operands = operands.sum
expression_of_form at (Some forms.AnyOf) operands = read_map any_expression (operands.asked 3)
expression_of_form at (Some forms.First) operands = read_map first_expression (operands.asked 3)

-- Each definition takes the path of its tree. A definition for operands takes the path of the list
-- that contains them. They are its children from 1 on.
abbrev mutual
  -- An expression.
  pub expression_in_tree : List ℕ → PlainTree → Read Expression
  expression_in_tree at (PlainTree.atom a) = atom_expression at a
  expression_in_tree at (PlainTree.text x) = got (Expression.text x)
  expression_in_tree at (PlainTree.list ts) = expression_in_list at ts

  -- A list, which begins with the word of its form.
  pub expression_in_list : List ℕ → PlainTrees → Read Expression
  expression_in_list at PlainTrees.none = wrong wants.Expression at
  expression_in_list at (PlainTrees.more head ts) =
      expression_of_form at (form_of head) (record {
        none_of = none_in_trees at ts;
        one = one_in_trees wants.Expression at ts;
        two = two_in_trees at ts;
        get = get_in_trees at ts;
        pick = pick_in_trees at ts;
        parts = expressions_in_trees at 1 ts;
        asked = query_in_trees at ts;
        sum = sum_in_trees at ts;
      })

  -- One expression.
  pub one_in_trees : Want → List ℕ → PlainTrees → Read Expression
  one_in_trees want at (PlainTrees.more a PlainTrees.none) = expression_in_tree (child at 1) a
  one_in_trees want at ts = wrong want at

  -- Two expressions.
  pub two_in_trees : List ℕ → PlainTrees → Op → Read Expression
  two_in_trees at (PlainTrees.more a (PlainTrees.more b PlainTrees.none)) op =
      read_and_then (λ x. read_map (Expression.two op x) (expression_in_tree (child at 2) b))
      (expression_in_tree (child at 1) a)
  two_in_trees at ts op = wrong wants.Expression at

  -- A condition and two choices.
  pub pick_in_trees : List ℕ → PlainTrees → Read Expression
  pick_in_trees at (PlainTrees.more c (PlainTrees.more a (PlainTrees.more b PlainTrees.none))) =
      read_and_then (λ x. read_and_then (λ y. read_map (Expression.pick x y)
      (expression_in_tree (child at 3) b)) (expression_in_tree (child at 2) a))
      (expression_in_tree (child at 1) c)
  pick_in_trees at ts = wrong wants.Expression at

  -- A model, a field and the reference.
  pub get_in_trees : List ℕ → PlainTrees → Read Expression
  get_in_trees at (PlainTrees.more m (PlainTrees.more f (PlainTrees.more e PlainTrees.none))) =
      read_and_then (λ model. read_and_then (λ field. read_map (Expression.get model field)
      (expression_in_tree (child at 3) e)) (name_in_tree (child at 2) f))
      (name_in_tree (child at 1) m)
  get_in_trees at ts = wrong wants.Expression at

  -- Any number of expressions. The first is child `k`.
  pub expressions_in_trees : List ℕ → ℕ → PlainTrees → Read Expressions
  expressions_in_trees at k PlainTrees.none = got Expressions.none
  expressions_in_trees at k (PlainTrees.more t ts) =
      read_and_then (λ e. read_map (Expressions.more e) (expressions_in_trees at (k + 1) ts))
      (expression_in_tree (child at k) t)

  -- One query with up to `most` binders.
  pub query_in_trees : List ℕ → PlainTrees → ℕ → Read Question
  query_in_trees at (PlainTrees.more q PlainTrees.none) most = question_in_tree most (child at 1) q
  query_in_trees at ts most = wrong wants.Expression at

  -- A query of one binder and an expression.
  pub sum_in_trees : List ℕ → PlainTrees → Read Expression
  sum_in_trees at (PlainTrees.more q (PlainTrees.more e PlainTrees.none)) =
      read_and_then (λ any_expression. read_map (sum_expression any_expression) (expression_in_tree
      (child at 2) e))
      (question_in_tree 1 (child at 1) q)
  sum_in_trees at ts = wrong wants.Expression at

  -- `(from ((NAME NAME)+) expression order)` with up to `most` binders.
  pub question_in_tree : ℕ → List ℕ → PlainTree → Read Question
  question_in_tree most at
      (PlainTree.list
      (PlainTrees.more w
      (PlainTrees.more bs (PlainTrees.more c (PlainTrees.more o PlainTrees.none))))) =
      if is_word (codes "from") w
      then if has_few most bs
      then question_if (binders_in_tree most (child at 1) bs) (expression_in_tree (child at 2) c)
      (order_in_tree (child at 3) o)
      else wrong wants.Query at
      else wrong wants.Query at
  question_in_tree most at t = wrong wants.Query at

abbrev pub operands_of : List ℕ → PlainTrees → Operands
operands_of at ts = record {
  none_of = none_in_trees at ts;
  one = one_in_trees wants.Expression at ts;
  two = two_in_trees at ts;
  get = get_in_trees at ts;
  pick = pick_in_trees at ts;
  parts = expressions_in_trees at 1 ts;
  asked = query_in_trees at ts;
  sum = sum_in_trees at ts;
}

-- The expression that a tree represents. Below: the query with up to `most` binders.
abbrev pub expression_of_tree : PlainTree → Option Expression
expression_of_tree t = value_of (expression_in_tree [] t)

abbrev pub question_of_tree : ℕ → PlainTree → Option Question
question_of_tree most t = value_of (question_in_tree most [] t)
