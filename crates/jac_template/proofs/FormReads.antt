-- Reading a tree as an expression or a query never gives out of memory as its fault.
use Rattle.std.proofs.Common.{◌≡◌, ℕ, ℤ, ◌+◌, Bool, true, false, nat_le, List, ◌∷◌, Option, Some, None, if◌then◌else◌, codes, refl}
use Rattle.std.specs.Str.{bytes_eq}
use Rattle.jac_forms.specs.Expressions.{number_or_name, atom_expression, binder, binder_in_tree, binders_in_trees, binders_in_tree, has_few, sort_key, key_of_sort, rising, falling, sorting_in_trees, order_in_tree, question, question_if, count_expression, sum_expression, any_expression, first_expression, none_in_trees, Operands, expression_of_form, form_of, operands_of, expression_in_tree, expression_in_list, one_in_trees, two_in_trees, pick_in_trees, get_in_trees, expressions_in_trees, query_in_trees, sum_in_trees, question_in_tree}
use Rattle.jac_forms.specs.Names.{name_read, name_in_tree}
use Rattle.jac_forms.specs.Places.{child}
use Rattle.jac_forms.specs.Reads.{Read, got, refused, wrong, many, read_map, read_and_then, up_to}
use Rattle.jac_forms.specs.Refusal.{refuses}
use Rattle.jac_forms.specs.declared.fault.Want.{Want}
use Rattle.jac_forms.specs.declared.fault.Want.TheVariants as wants
use Rattle.jac_forms.specs.declared.fault.What.{What}
use Rattle.jac_forms.specs.declared.fault.What.TheVariants as whats
use Rattle.jac_forms.specs.declared.words.Form.{Form}
use Rattle.jac_forms.specs.declared.words.Form.TheVariants as forms
use Rattle.jac_lang.specs.Syntax.{Expression, Expressions}
use Rattle.jac_lang.specs.declared.expressions.Op.{Op}
use Rattle.jac_lang.specs.declared.queries.Binder.{Binder}
use Rattle.jac_lang.specs.declared.queries.Order.{Order}
use Rattle.jac_lang.specs.declared.queries.Order.TheVariants as orders
use Rattle.jac_tree.specs.Plain.{PlainTree, PlainTrees, count, is_word}
use Rattle.jac_value.specs.Names.{is_name}
use Rattle.jac_value.specs.Values.{integer_of}

-- A value, or a fault other than out of memory.
abbrev pub is_answer : {A : Type 0} → Read A → Bool
is_answer (got x) = true
is_answer (refused f) = refuses f

pub map_answers : {A B : Type 0} (f : A → B) (r : Read A) → is_answer r ≡ true → is_answer (read_map f r) ≡ true
map_answers f (got x) h = refl
map_answers f (refused g) h = h

then_answers : {A B : Type 0} (f : A → Read B) (r : Read A) → is_answer r ≡ true → ((x : A) → is_answer (f x) ≡ true) → is_answer (read_and_then f r) ≡ true
then_answers f (got x) h each = each x
then_answers f (refused g) h each = h

either_answers : {A : Type 0} (b : Bool) (x y : Read A) → is_answer x ≡ true → is_answer y ≡ true → is_answer (if b then x else y) ≡ true
either_answers true x y h k = h
either_answers false x y h k = k

-- Names.
read_answers : (want : Want) (at a : List ℕ) → is_answer (name_read want at a) ≡ true
read_answers want at a = either_answers (is_name a) (got a) (wrong want at) refl refl

name_answers : (at : List ℕ) (t : PlainTree) → is_answer (name_in_tree at t) ≡ true
name_answers at (PlainTree.atom a) = read_answers wants.Name at a
name_answers at (PlainTree.text x) = refl
name_answers at (PlainTree.list ts) = refl

-- Atoms.
number_answers : (at a : List ℕ) (i : Option ℤ) → is_answer (number_or_name at a i) ≡ true
number_answers at a (Some i) = refl
number_answers at a None = map_answers Expression.name (name_read wants.Expression at a) (read_answers wants.Expression at a)

atom_answers : (at a : List ℕ) → is_answer (atom_expression at a) ≡ true
atom_answers at a =
    word (bytes_eq a (codes "true")) (bytes_eq a (codes "false")) (bytes_eq a (codes "this")) (bytes_eq a (codes "viewer"))
  where
    word : (p q r s : Bool)
        → is_answer (if p then got (Expression.bool true) else if q then got (Expression.bool false) else if r then got Expression.this else
        if s then got Expression.viewer else number_or_name at a (integer_of a)) ≡ true
    word true q r s = refl
    word false true r s = refl
    word false false true s = refl
    word false false false true = refl
    word false false false false = number_answers at a (integer_of a)

-- Binders.
binder_answers : (at : List ℕ) (t : PlainTree) → is_answer (binder_in_tree at t) ≡ true
binder_answers at (PlainTree.atom a) = refl
binder_answers at (PlainTree.text x) = refl
binder_answers at (PlainTree.list PlainTrees.none) = refl
binder_answers at (PlainTree.list (PlainTrees.more x PlainTrees.none)) = refl
binder_answers at (PlainTree.list (PlainTrees.more x (PlainTrees.more m PlainTrees.none))) =
    then_answers (λ name. read_map (binder name) (name_in_tree (child at 1) m)) (name_in_tree (child at 0) x) (name_answers (child at 0) x)
    (λ name. map_answers (binder name) (name_in_tree (child at 1) m) (name_answers (child at 1) m))
binder_answers at (PlainTree.list (PlainTrees.more x (PlainTrees.more m (PlainTrees.more t ts)))) = refl

each_binder_answers : (at : List ℕ) (k : ℕ) (ts : PlainTrees) → is_answer (binders_in_trees at k ts) ≡ true
each_binder_answers at k PlainTrees.none = refl
each_binder_answers at k (PlainTrees.more t ts) =
    then_answers (λ b. read_map (λ (bs : List Binder). b ∷ bs) (binders_in_trees at (k + 1) ts)) (binder_in_tree (child at k) t) (binder_answers (child at k) t)
    (λ b. map_answers (λ (bs : List Binder). b ∷ bs) (binders_in_trees at (k + 1) ts) (each_binder_answers at (k + 1) ts))

up_to_answers : {A : Type 0} (what : What) (at : List ℕ) (most n : ℕ) (r : Read A) → is_answer r ≡ true → is_answer (up_to what at most n r) ≡ true
up_to_answers what at most n r h = either_answers (nat_le n most) r (many what at n) h refl

binders_answer : (most : ℕ) (at : List ℕ) (t : PlainTree) → is_answer (binders_in_tree most at t) ≡ true
binders_answer most at (PlainTree.atom a) = refl
binders_answer most at (PlainTree.text x) = refl
binders_answer most at (PlainTree.list ts) =
    either_answers (nat_le (count ts) 0) (wrong wants.Binder at) (up_to whats.Binders at most (count ts) (binders_in_trees at 0 ts)) refl
    (up_to_answers whats.Binders at most (count ts) (binders_in_trees at 0 ts) (each_binder_answers at 0 ts))

-- Orders.
key_answers : (at : List ℕ) (x f : PlainTree) → is_answer (key_of_sort at x f) ≡ true
key_answers at x f =
    then_answers (λ name. read_map (sort_key name) (name_in_tree (child at 2) f)) (name_in_tree (child at 1) x) (name_answers (child at 1) x)
    (λ name. map_answers (sort_key name) (name_in_tree (child at 2) f) (name_answers (child at 2) f))

sorting_answers : (at : List ℕ) (ts : PlainTrees) → is_answer (sorting_in_trees at ts) ≡ true
sorting_answers at PlainTrees.none = refl
sorting_answers at (PlainTrees.more w PlainTrees.none) = refl
sorting_answers at (PlainTrees.more w (PlainTrees.more x PlainTrees.none)) = refl
sorting_answers at (PlainTrees.more w (PlainTrees.more x (PlainTrees.more f PlainTrees.none))) =
    either_answers (is_word (codes "up") w) (read_map rising (key_of_sort at x f))
    (if is_word (codes "down") w then read_map falling (key_of_sort at x f) else wrong wants.Order at)
    (map_answers rising (key_of_sort at x f) (key_answers at x f))
    (either_answers (is_word (codes "down") w) (read_map falling (key_of_sort at x f)) (wrong wants.Order at)
    (map_answers falling (key_of_sort at x f) (key_answers at x f)) refl)
sorting_answers at (PlainTrees.more w (PlainTrees.more x (PlainTrees.more f (PlainTrees.more t ts)))) = refl

order_answers : (at : List ℕ) (t : PlainTree) → is_answer (order_in_tree at t) ≡ true
order_answers at (PlainTree.atom a) = either_answers (bytes_eq a (codes "key")) (got orders.Key) (wrong wants.Order at) refl refl
order_answers at (PlainTree.text x) = refl
order_answers at (PlainTree.list ts) = sorting_answers at ts

question_answers : (bs : Read (List Binder)) (c : Read Expression) (o : Read Order) → is_answer bs ≡ true → is_answer c ≡ true → is_answer o ≡ true
    → is_answer (question_if bs c o) ≡ true
question_answers bs c o h k l =
    then_answers (λ binders. read_and_then (λ cond. read_map (question binders cond) o) c) bs h
    (λ binders. then_answers (λ cond. read_map (question binders cond) o) c k (λ cond. map_answers (question binders cond) o l))

-- The operands of a form.
none_answers : (at : List ℕ) (ts : PlainTrees) → is_answer (none_in_trees at ts) ≡ true
none_answers at PlainTrees.none = refl
none_answers at (PlainTrees.more m PlainTrees.none) = map_answers Expression.none_of (name_in_tree (child at 1) m) (name_answers (child at 1) m)
none_answers at (PlainTrees.more m (PlainTrees.more t ts)) = refl

record AreAnswers (operands : Operands) : Type 0 where
  of_none : is_answer operands.none_of ≡ true
  of_one : is_answer operands.one ≡ true
  of_two : (op : Op) → is_answer (operands.two op) ≡ true
  of_get : is_answer operands.get ≡ true
  of_pick : is_answer operands.pick ≡ true
  of_parts : is_answer operands.parts ≡ true
  of_asked : (most : ℕ) → is_answer (operands.asked most) ≡ true
  of_sum : is_answer operands.sum ≡ true

form_answers : (at : List ℕ) (form : Option Form) (operands : Operands) → AreAnswers operands → is_answer (expression_of_form at form operands) ≡ true
form_answers at None operands h = refl
form_answers at (Some forms.NoneOf) operands h = h.of_none
form_answers at (Some forms.Get) operands h = h.of_get
form_answers at (Some forms.Live) operands h = map_answers Expression.live operands.one h.of_one
form_answers at (Some (forms.Two op)) operands h = h.of_two op
form_answers at (Some forms.Not) operands h = map_answers Expression.negated operands.one h.of_one
form_answers at (Some forms.Cat) operands h = map_answers Expression.cat operands.parts h.of_parts
form_answers at (Some forms.Str) operands h = map_answers Expression.str operands.one h.of_one
form_answers at (Some forms.Pick) operands h = h.of_pick
form_answers at (Some forms.Count) operands h = map_answers count_expression (operands.asked 1) (h.of_asked 1)
form_answers at (Some forms.Sum) operands h = h.of_sum
form_answers at (Some forms.AnyOf) operands h = map_answers any_expression (operands.asked 3) (h.of_asked 3)
form_answers at (Some forms.First) operands h = map_answers first_expression (operands.asked 3) (h.of_asked 3)

mutual
  pub expression_answers : (at : List ℕ) (t : PlainTree) → is_answer (expression_in_tree at t) ≡ true
  expression_answers at (PlainTree.atom a) = atom_answers at a
  expression_answers at (PlainTree.text x) = refl
  expression_answers at (PlainTree.list ts) = list_answers at ts

  list_answers : (at : List ℕ) (ts : PlainTrees) → is_answer (expression_in_list at ts) ≡ true
  list_answers at PlainTrees.none = refl
  list_answers at (PlainTrees.more head ts) =
      form_answers at (form_of head) (operands_of at ts) (record {
        of_none = none_answers at ts;
        of_one = one_answers wants.Expression at ts;
        of_two = two_answers at ts;
        of_get = get_answers at ts;
        of_pick = pick_answers at ts;
        of_parts = parts_answer at 1 ts;
        of_asked = query_answers at ts;
        of_sum = sum_answers at ts;
      })

  one_answers : (want : Want) (at : List ℕ) (ts : PlainTrees) → is_answer (one_in_trees want at ts) ≡ true
  one_answers want at PlainTrees.none = refl
  one_answers want at (PlainTrees.more a PlainTrees.none) = expression_answers (child at 1) a
  one_answers want at (PlainTrees.more a (PlainTrees.more t ts)) = refl

  two_answers : (at : List ℕ) (ts : PlainTrees) (op : Op) → is_answer (two_in_trees at ts op) ≡ true
  two_answers at PlainTrees.none op = refl
  two_answers at (PlainTrees.more a PlainTrees.none) op = refl
  two_answers at (PlainTrees.more a (PlainTrees.more b PlainTrees.none)) op =
      then_answers (λ x. read_map (Expression.two op x) (expression_in_tree (child at 2) b)) (expression_in_tree (child at 1) a) (expression_answers (child at 1) a)
      (λ x. map_answers (Expression.two op x) (expression_in_tree (child at 2) b) (expression_answers (child at 2) b))
  two_answers at (PlainTrees.more a (PlainTrees.more b (PlainTrees.more t ts))) op = refl

  pick_answers : (at : List ℕ) (ts : PlainTrees) → is_answer (pick_in_trees at ts) ≡ true
  pick_answers at PlainTrees.none = refl
  pick_answers at (PlainTrees.more c PlainTrees.none) = refl
  pick_answers at (PlainTrees.more c (PlainTrees.more a PlainTrees.none)) = refl
  pick_answers at (PlainTrees.more c (PlainTrees.more a (PlainTrees.more b PlainTrees.none))) =
      then_answers (λ x. read_and_then (λ y. read_map (Expression.pick x y) (expression_in_tree (child at 3) b)) (expression_in_tree (child at 2) a))
      (expression_in_tree (child at 1) c) (expression_answers (child at 1) c)
      (λ x. then_answers (λ y. read_map (Expression.pick x y) (expression_in_tree (child at 3) b)) (expression_in_tree (child at 2) a) (expression_answers (child at 2) a)
      (λ y. map_answers (Expression.pick x y) (expression_in_tree (child at 3) b) (expression_answers (child at 3) b)))
  pick_answers at (PlainTrees.more c (PlainTrees.more a (PlainTrees.more b (PlainTrees.more t ts)))) = refl

  get_answers : (at : List ℕ) (ts : PlainTrees) → is_answer (get_in_trees at ts) ≡ true
  get_answers at PlainTrees.none = refl
  get_answers at (PlainTrees.more m PlainTrees.none) = refl
  get_answers at (PlainTrees.more m (PlainTrees.more f PlainTrees.none)) = refl
  get_answers at (PlainTrees.more m (PlainTrees.more f (PlainTrees.more e PlainTrees.none))) =
      then_answers (λ model. read_and_then (λ field. read_map (Expression.get model field) (expression_in_tree (child at 3) e)) (name_in_tree (child at 2) f))
      (name_in_tree (child at 1) m) (name_answers (child at 1) m)
      (λ model. then_answers (λ field. read_map (Expression.get model field) (expression_in_tree (child at 3) e)) (name_in_tree (child at 2) f) (name_answers (child at 2) f)
      (λ field. map_answers (Expression.get model field) (expression_in_tree (child at 3) e) (expression_answers (child at 3) e)))
  get_answers at (PlainTrees.more m (PlainTrees.more f (PlainTrees.more e (PlainTrees.more t ts)))) = refl

  parts_answer : (at : List ℕ) (k : ℕ) (ts : PlainTrees) → is_answer (expressions_in_trees at k ts) ≡ true
  parts_answer at k PlainTrees.none = refl
  parts_answer at k (PlainTrees.more t ts) =
      then_answers (λ e. read_map (Expressions.more e) (expressions_in_trees at (k + 1) ts)) (expression_in_tree (child at k) t) (expression_answers (child at k) t)
      (λ e. map_answers (Expressions.more e) (expressions_in_trees at (k + 1) ts) (parts_answer at (k + 1) ts))

  query_answers : (at : List ℕ) (ts : PlainTrees) (most : ℕ) → is_answer (query_in_trees at ts most) ≡ true
  query_answers at PlainTrees.none most = refl
  query_answers at (PlainTrees.more q PlainTrees.none) most = query_answer most (child at 1) q
  query_answers at (PlainTrees.more q (PlainTrees.more t ts)) most = refl

  sum_answers : (at : List ℕ) (ts : PlainTrees) → is_answer (sum_in_trees at ts) ≡ true
  sum_answers at PlainTrees.none = refl
  sum_answers at (PlainTrees.more q PlainTrees.none) = refl
  sum_answers at (PlainTrees.more q (PlainTrees.more e PlainTrees.none)) =
      then_answers (λ asked. read_map (sum_expression asked) (expression_in_tree (child at 2) e)) (question_in_tree 1 (child at 1) q) (query_answer 1 (child at 1) q)
      (λ asked. map_answers (sum_expression asked) (expression_in_tree (child at 2) e) (expression_answers (child at 2) e))
  sum_answers at (PlainTrees.more q (PlainTrees.more e (PlainTrees.more t ts))) = refl

  pub query_answer : (most : ℕ) (at : List ℕ) (t : PlainTree) → is_answer (question_in_tree most at t) ≡ true
  query_answer most at (PlainTree.atom a) = refl
  query_answer most at (PlainTree.text x) = refl
  query_answer most at (PlainTree.list PlainTrees.none) = refl
  query_answer most at (PlainTree.list (PlainTrees.more w PlainTrees.none)) = refl
  query_answer most at (PlainTree.list (PlainTrees.more w (PlainTrees.more bs PlainTrees.none))) = refl
  query_answer most at (PlainTree.list (PlainTrees.more w (PlainTrees.more bs (PlainTrees.more c PlainTrees.none)))) = refl
  query_answer most at (PlainTree.list (PlainTrees.more w (PlainTrees.more bs (PlainTrees.more c (PlainTrees.more o PlainTrees.none))))) =
      let asked = question_if (binders_in_tree most (child at 1) bs) (expression_in_tree (child at 2) c) (order_in_tree (child at 3) o) in
      either_answers (is_word (codes "from") w) (if has_few most bs then asked else wrong wants.Query at) (wrong wants.Query at)
      (either_answers (has_few most bs) asked (wrong wants.Query at)
      (question_answers (binders_in_tree most (child at 1) bs) (expression_in_tree (child at 2) c) (order_in_tree (child at 3) o)
      (binders_answer most (child at 1) bs) (expression_answers (child at 2) c) (order_answers (child at 3) o)) refl) refl
  query_answer most at (PlainTree.list (PlainTrees.more w (PlainTrees.more bs (PlainTrees.more c (PlainTrees.more o (PlainTrees.more t ts)))))) = refl
