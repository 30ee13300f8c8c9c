-- Each expression or query that is read is a written one.
use Rattle.std.proofs.Common.{◌≡◌, ℕ, ℤ, ◌+◌, true, false, nat_le, refl, arith, Option, Some, None, List, ◌∷◌, length}
use Rattle.std.specs.Prelude.{codes}
use Rattle.std.specs.List.{All}
use Rattle.std.specs.Str.{bytes_eq}
use Rattle.std.proofs.lemmas.Bool.Decides.{nat_tests}
use Rattle.std.proofs.lemmas.List.Elements.{All-nil, All-cons}
use Rattle.jac_value.specs.Names.{is_name}
use Rattle.jac_value.specs.Values.{integer_of}
use Rattle.jac_lang.specs.declared.expressions.Op.{Op}
use Rattle.jac_lang.specs.declared.queries.Binder.{Binder}
use Rattle.jac_lang.specs.declared.queries.Order.{Order}
use Rattle.jac_lang.specs.declared.queries.Order.TheVariants as orders
use Rattle.jac_lang.specs.Syntax.{Expression, Expressions}
use Rattle.jac_lang.specs.Written.{IsName, IsWrittenBinder, AreBinders, IsWrittenOrder, IsWrittenExpression, AreWrittenExpressions, IsWrittenQuestion}
use Rattle.jac_tree.specs.Plain.{PlainTree, PlainTrees, count, is_word}
use Rattle.jac_forms.specs.Places.{child}
use Rattle.jac_forms.specs.Reads.{Read, got, read_map, read_and_then, up_to}
use Rattle.jac_forms.specs.declared.fault.FormFault.TheVariants as faults
use Rattle.jac_forms.specs.declared.fault.Want.{Want}
use Rattle.jac_forms.specs.declared.fault.Want.TheVariants as wants
use Rattle.jac_forms.specs.declared.fault.What.TheVariants as whats
use Rattle.jac_forms.specs.Names.{name_in_tree, name_read}
use Rattle.jac_forms.specs.Expressions.{number_or_name, atom_expression, binder, binder_in_tree, binders_in_trees, some_binders, binders_in_tree, has_few, SortKey, sort_key, key_of_sort, rising, falling, sorting_in_trees, order_in_tree, question, question_if, count_expression, sum_expression, any_expression, first_expression, none_in_trees, Operands, form_of, expression_of_form, expression_in_tree, expression_in_list, one_in_trees, two_in_trees, pick_in_trees, get_in_trees, expressions_in_trees, query_in_trees, sum_in_trees, question_in_tree, operands_of}
use Rattle.jac_forms.specs.declared.words.Form.{Form}
use Rattle.jac_forms.specs.declared.words.Form.TheVariants as forms
use Rattle.jac_forms.proofs.Chains.{IfGot, chained, mapped, weaker, where_true, where_false, either, within}

pub named-written : (want : Want) (at : List ℕ) (a : List ℕ) → IfGot (name_read want at a) IsName
named-written want at a = where_true IsName (is_name a) (got a) (faults.Form at want) (λ e. e)

pub name-written : (at : List ℕ) (t : PlainTree) → IfGot (name_in_tree at t) IsName
name-written at (PlainTree.atom a) = named-written wants.Name at a
name-written at (PlainTree.text x) = tt
name-written at (PlainTree.list ts) = tt

binder-written : (at : List ℕ) (t : PlainTree) → IfGot (binder_in_tree at t) IsWrittenBinder
binder-written at (PlainTree.list (PlainTrees.more x (PlainTrees.more m PlainTrees.none))) =
    chained IsName IsWrittenBinder (λ name. read_map (binder name) (name_in_tree (child at 1) m)) (name_in_tree (child at 0) x) (name-written (child at 0) x) (λ name h.
    mapped IsName IsWrittenBinder (binder name) (name_in_tree (child at 1) m) (name-written (child at 1) m) (λ model k. (h, k)))
binder-written at t = tt

abbrev AreBound : PlainTrees → List Binder → Type 0
AreBound ts bs = All IsWrittenBinder bs × (length bs ≡ count ts)

binders-written : (at : List ℕ) (k : ℕ) (ts : PlainTrees) → IfGot (binders_in_trees at k ts) (AreBound ts)
binders-written at k PlainTrees.none = (All-nil IsWrittenBinder, refl)
binders-written at k (PlainTrees.more t ts) =
    chained IsWrittenBinder (AreBound (PlainTrees.more t ts)) (λ b. read_map (λ bs. b ∷ bs) (binders_in_trees at (k + 1) ts)) (binder_in_tree (child at k) t) (binder-written (child at k) t) (λ b h.
    mapped (AreBound ts) (AreBound (PlainTrees.more t ts)) (λ bs. b ∷ bs) (binders_in_trees at (k + 1) ts) (binders-written at (k + 1) ts) (λ bs l.
    (All-cons IsWrittenBinder b bs h l.0, omega (arith, l.1))))

some-written : (most : ℕ) (at : List ℕ) (ts : PlainTrees) → IfGot (some_binders most at ts) (AreBinders most)
some-written most at ts =
    where_false (AreBinders most) (nat_le (count ts) 0) (up_to whats.Binders at most (count ts) (binders_in_trees at 0 ts)) (faults.Form at wants.Binder) (λ some.
    within (AreBinders most) whats.Binders at most (count ts) (binders_in_trees at 0 ts) (λ few.
    weaker (AreBound ts) (AreBinders most) (binders_in_trees at 0 ts) (binders-written at 0 ts) (λ bs h.
    let n = h.1 in
    (grind (arith, nat_tests), grind (arith, nat_tests), h.0))))

query_binders-written : (most : ℕ) (at : List ℕ) (t : PlainTree) → IfGot (binders_in_tree most at t) (AreBinders most)
query_binders-written most at (PlainTree.atom a) = tt
query_binders-written most at (PlainTree.text x) = tt
query_binders-written most at (PlainTree.list ts) = some-written most at ts

abbrev IsKey : SortKey → Type 0
IsKey key = IsName key.binder × IsName key.field

key-written : (at : List ℕ) (x f : PlainTree) → IfGot (key_of_sort at x f) IsKey
key-written at x f =
    chained IsName IsKey (λ name. read_map (sort_key name) (name_in_tree (child at 2) f)) (name_in_tree (child at 1) x) (name-written (child at 1) x) (λ name h.
    mapped IsName IsKey (sort_key name) (name_in_tree (child at 2) f) (name-written (child at 2) f) (λ field k. (h, k)))

sorting-written : (at : List ℕ) (ts : PlainTrees) → IfGot (sorting_in_trees at ts) IsWrittenOrder
sorting-written at (PlainTrees.more w (PlainTrees.more x (PlainTrees.more f PlainTrees.none))) =
    either IsWrittenOrder (is_word (codes "up") w) (read_map rising (key_of_sort at x f)) _
    (mapped IsKey IsWrittenOrder rising (key_of_sort at x f) (key-written at x f) (λ key h. h))
    (where_true IsWrittenOrder (is_word (codes "down") w) (read_map falling (key_of_sort at x f)) (faults.Form at wants.Order) (λ _. mapped IsKey IsWrittenOrder falling (key_of_sort at x f) (key-written at x f) (λ key h. h)))
sorting-written at ts = tt

order-written : (at : List ℕ) (t : PlainTree) → IfGot (order_in_tree at t) IsWrittenOrder
order-written at (PlainTree.atom a) = where_true IsWrittenOrder (bytes_eq a (codes "key")) (got orders.Key) (faults.Form at wants.Order) (λ _. tt)
order-written at (PlainTree.text x) = tt
order-written at (PlainTree.list ts) = sorting-written at ts

number_or_name-written : (at : List ℕ) (a : List ℕ) (o : Option ℤ) → IfGot (number_or_name at a o) IsWrittenExpression
number_or_name-written at a (Some i) = tt
number_or_name-written at a None = mapped IsName IsWrittenExpression Expression.name (name_read wants.Expression at a) (named-written wants.Expression at a) (λ x h. h)

atom-written : (at : List ℕ) (a : List ℕ) → IfGot (atom_expression at a) IsWrittenExpression
atom-written at a =
    either IsWrittenExpression (bytes_eq a (codes "true")) (got (Expression.bool true)) _ tt
    (either IsWrittenExpression (bytes_eq a (codes "false")) (got (Expression.bool false)) _ tt
    (either IsWrittenExpression (bytes_eq a (codes "this")) (got Expression.this) _ tt
    (either IsWrittenExpression (bytes_eq a (codes "viewer")) (got Expression.viewer) _ tt (number_or_name-written at a (integer_of a)))))

none-written : (at : List ℕ) (ts : PlainTrees) → IfGot (none_in_trees at ts) IsWrittenExpression
none-written at (PlainTrees.more m PlainTrees.none) = mapped IsName IsWrittenExpression Expression.none_of (name_in_tree (child at 1) m) (name-written (child at 1) m) (λ x h. h)
none-written at ts = tt

question-written : (most : ℕ) (bs : Read (List Binder)) (c : Read Expression) (o : Read Order) → IfGot bs (AreBinders most) → IfGot c IsWrittenExpression → IfGot o IsWrittenOrder
    → IfGot (question_if bs c o) (IsWrittenQuestion most)
question-written most bs c o h k l =
    chained (AreBinders most) (IsWrittenQuestion most) (λ binders. read_and_then (λ cond. read_map (question binders cond) o) c) bs h (λ binders p.
    chained IsWrittenExpression (IsWrittenQuestion most) (λ cond. read_map (question binders cond) o) c k (λ cond q.
    mapped IsWrittenOrder (IsWrittenQuestion most) (question binders cond) o l (λ order r. (p, q, r))))

-- The operands of a form, read in each way in which some form takes them.
record AreOperands (operands : Operands) : Type 0 where
  none_of : IfGot operands.none_of IsWrittenExpression
  one : IfGot operands.one IsWrittenExpression
  two : (op : Op) → IfGot (operands.two op) IsWrittenExpression
  get : IfGot operands.get IsWrittenExpression
  pick : IfGot operands.pick IsWrittenExpression
  parts : IfGot operands.parts AreWrittenExpressions
  asked : (most : ℕ) → IfGot (operands.asked most) (IsWrittenQuestion most)
  sum : IfGot operands.sum IsWrittenExpression

form-written : (at : List ℕ) (form : Option Form) (operands : Operands) → AreOperands operands → IfGot (expression_of_form at form operands) IsWrittenExpression
form-written at None operands h = tt
form-written at (Some forms.NoneOf) operands h = h.none_of
form-written at (Some forms.Get) operands h = h.get
form-written at (Some forms.Live) operands h = mapped IsWrittenExpression IsWrittenExpression Expression.live operands.one h.one (λ x k. k)
form-written at (Some (forms.Two op)) operands h = h.two op
form-written at (Some forms.Not) operands h = mapped IsWrittenExpression IsWrittenExpression Expression.negated operands.one h.one (λ x k. k)
form-written at (Some forms.Cat) operands h = mapped AreWrittenExpressions IsWrittenExpression Expression.cat operands.parts h.parts (λ x k. k)
form-written at (Some forms.Str) operands h = mapped IsWrittenExpression IsWrittenExpression Expression.str operands.one h.one (λ x k. k)
form-written at (Some forms.Pick) operands h = h.pick
form-written at (Some forms.Count) operands h = mapped (IsWrittenQuestion 1) IsWrittenExpression count_expression (operands.asked 1) (h.asked 1) (λ x k. k)
form-written at (Some forms.Sum) operands h = h.sum
form-written at (Some forms.AnyOf) operands h = mapped (IsWrittenQuestion 3) IsWrittenExpression any_expression (operands.asked 3) (h.asked 3) (λ x k. k)
form-written at (Some forms.First) operands h = mapped (IsWrittenQuestion 3) IsWrittenExpression first_expression (operands.asked 3) (h.asked 3) (λ x k. k)

mutual
  pub expression-written : (at : List ℕ) (t : PlainTree) → IfGot (expression_in_tree at t) IsWrittenExpression
  expression-written at (PlainTree.atom a) = atom-written at a
  expression-written at (PlainTree.text x) = tt
  expression-written at (PlainTree.list ts) = list-written at ts

  list-written : (at : List ℕ) (ts : PlainTrees) → IfGot (expression_in_list at ts) IsWrittenExpression
  list-written at PlainTrees.none = tt
  list-written at (PlainTrees.more head ts) =
      form-written at (form_of head) (operands_of at ts) (record {
        none_of = none-written at ts;
        one = one-written wants.Expression at ts;
        two = two-written at ts;
        get = get-written at ts;
        pick = pick-written at ts;
        parts = parts-written at 1 ts;
        asked = query-written at ts;
        sum = sum-written at ts;
      })

  pub one-written : (want : Want) (at : List ℕ) (ts : PlainTrees) → IfGot (one_in_trees want at ts) IsWrittenExpression
  one-written want at (PlainTrees.more a PlainTrees.none) = expression-written (child at 1) a
  one-written want at PlainTrees.none = tt
  one-written want at (PlainTrees.more a (PlainTrees.more b ts)) = tt

  two-written : (at : List ℕ) (ts : PlainTrees) (op : Op) → IfGot (two_in_trees at ts op) IsWrittenExpression
  two-written at (PlainTrees.more a (PlainTrees.more b PlainTrees.none)) op =
      chained IsWrittenExpression IsWrittenExpression (λ x. read_map (Expression.two op x) (expression_in_tree (child at 2) b)) (expression_in_tree (child at 1) a) (expression-written (child at 1) a) (λ x h.
      mapped IsWrittenExpression IsWrittenExpression (Expression.two op x) (expression_in_tree (child at 2) b) (expression-written (child at 2) b) (λ y k. (h, k)))
  two-written at PlainTrees.none op = tt
  two-written at (PlainTrees.more a PlainTrees.none) op = tt
  two-written at (PlainTrees.more a (PlainTrees.more b (PlainTrees.more c ts))) op = tt

  pick-written : (at : List ℕ) (ts : PlainTrees) → IfGot (pick_in_trees at ts) IsWrittenExpression
  pick-written at (PlainTrees.more c (PlainTrees.more a (PlainTrees.more b PlainTrees.none))) =
      chained IsWrittenExpression IsWrittenExpression (λ x. read_and_then (λ y. read_map (Expression.pick x y) (expression_in_tree (child at 3) b)) (expression_in_tree (child at 2) a)) (expression_in_tree (child at 1) c) (expression-written (child at 1) c) (λ x h.
      chained IsWrittenExpression IsWrittenExpression (λ y. read_map (Expression.pick x y) (expression_in_tree (child at 3) b)) (expression_in_tree (child at 2) a) (expression-written (child at 2) a) (λ y k.
      mapped IsWrittenExpression IsWrittenExpression (Expression.pick x y) (expression_in_tree (child at 3) b) (expression-written (child at 3) b) (λ z l. (h, k, l))))
  pick-written at PlainTrees.none = tt
  pick-written at (PlainTrees.more c PlainTrees.none) = tt
  pick-written at (PlainTrees.more c (PlainTrees.more a PlainTrees.none)) = tt
  pick-written at (PlainTrees.more c (PlainTrees.more a (PlainTrees.more b (PlainTrees.more d ts)))) = tt

  get-written : (at : List ℕ) (ts : PlainTrees) → IfGot (get_in_trees at ts) IsWrittenExpression
  get-written at (PlainTrees.more m (PlainTrees.more f (PlainTrees.more e PlainTrees.none))) =
      chained IsName IsWrittenExpression (λ model. read_and_then (λ field. read_map (Expression.get model field) (expression_in_tree (child at 3) e)) (name_in_tree (child at 2) f)) (name_in_tree (child at 1) m) (name-written (child at 1) m) (λ x h.
      chained IsName IsWrittenExpression (λ field. read_map (Expression.get x field) (expression_in_tree (child at 3) e)) (name_in_tree (child at 2) f) (name-written (child at 2) f) (λ y k.
      mapped IsWrittenExpression IsWrittenExpression (Expression.get x y) (expression_in_tree (child at 3) e) (expression-written (child at 3) e) (λ z l. (h, k, l))))
  get-written at PlainTrees.none = tt
  get-written at (PlainTrees.more m PlainTrees.none) = tt
  get-written at (PlainTrees.more m (PlainTrees.more f PlainTrees.none)) = tt
  get-written at (PlainTrees.more m (PlainTrees.more f (PlainTrees.more e (PlainTrees.more d ts)))) = tt

  parts-written : (at : List ℕ) (k : ℕ) (ts : PlainTrees) → IfGot (expressions_in_trees at k ts) AreWrittenExpressions
  parts-written at k PlainTrees.none = tt
  parts-written at k (PlainTrees.more t ts) =
      chained IsWrittenExpression AreWrittenExpressions (λ e. read_map (Expressions.more e) (expressions_in_trees at (k + 1) ts)) (expression_in_tree (child at k) t) (expression-written (child at k) t) (λ x h.
      mapped AreWrittenExpressions AreWrittenExpressions (Expressions.more x) (expressions_in_trees at (k + 1) ts) (parts-written at (k + 1) ts) (λ y l. (h, l)))

  query-written : (at : List ℕ) (ts : PlainTrees) (most : ℕ) → IfGot (query_in_trees at ts most) (IsWrittenQuestion most)
  query-written at (PlainTrees.more q PlainTrees.none) most = from-written most (child at 1) q
  query-written at PlainTrees.none most = tt
  query-written at (PlainTrees.more q (PlainTrees.more e ts)) most = tt

  sum-written : (at : List ℕ) (ts : PlainTrees) → IfGot (sum_in_trees at ts) IsWrittenExpression
  sum-written at (PlainTrees.more q (PlainTrees.more e PlainTrees.none)) =
      chained (IsWrittenQuestion 1) IsWrittenExpression (λ any_expression. read_map (sum_expression any_expression) (expression_in_tree (child at 2) e)) (question_in_tree 1 (child at 1) q) (from-written 1 (child at 1) q) (λ x h.
      mapped IsWrittenExpression IsWrittenExpression (sum_expression x) (expression_in_tree (child at 2) e) (expression-written (child at 2) e) (λ y k. (h.0, h.1, h.2, k)))
  sum-written at PlainTrees.none = tt
  sum-written at (PlainTrees.more q PlainTrees.none) = tt
  sum-written at (PlainTrees.more q (PlainTrees.more e (PlainTrees.more d ts))) = tt

  pub from-written : (most : ℕ) (at : List ℕ) (t : PlainTree) → IfGot (question_in_tree most at t) (IsWrittenQuestion most)
  from-written most at (PlainTree.list (PlainTrees.more w (PlainTrees.more bs (PlainTrees.more c (PlainTrees.more o PlainTrees.none))))) =
      where_true (IsWrittenQuestion most) (is_word (codes "from") w) _ (faults.Form at wants.Query) (λ _.
      where_true (IsWrittenQuestion most) (has_few most bs) (question_if (binders_in_tree most (child at 1) bs) (expression_in_tree (child at 2) c) (order_in_tree (child at 3) o)) (faults.Form at wants.Query) (λ _.
      question-written most (binders_in_tree most (child at 1) bs) (expression_in_tree (child at 2) c) (order_in_tree (child at 3) o) (query_binders-written most (child at 1) bs) (expression-written (child at 2) c) (order-written (child at 3) o)))
  from-written most at t = tt
