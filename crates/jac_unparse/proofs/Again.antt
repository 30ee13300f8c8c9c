-- The tree of an expression or a query that was read is read as the same.
use Rattle.std.proofs.Common.{◌≡◌, inl, inr, ℕ, ◌+◌, ◌≤◌, ℤ, pos, neg_ℤ, Bool, true, false, ◌&&◌, ◌==◌, nat_le, refl, sym, ◌∙◌, ap, subst, arith, Option, Some, None, List, [], ◌∷◌, drop}
use Rattle.std.specs.Prelude.{codes, if◌then◌else◌, slice_index, zero, suc}
use Rattle.std.specs.Fmt.{decimal, signed_decimal}
use Rattle.std.specs.Str.{bytes_eq}
use Rattle.std.specs.Str.Parse.{digits_value}
use Rattle.std.proofs.lemmas.Bool.{cases_eq, cases_Bool}
use Rattle.std.proofs.lemmas.Bool.Decides.{nat_tests}
use Rattle.std.proofs.lemmas.Fmt.{decimal_is_IsNumeral}
use Rattle.std.proofs.lemmas.Slice.Eq.{bytes_eq-Decides}
use Rattle.jac_value.specs.Names.{is_name}
use Rattle.jac_value.specs.Values.{is_numeral, is_number_to, integer_of}
use Rattle.jac_value.proofs.Parsed.{numeral-test}
use Rattle.jac_lang.specs.declared.expressions.Op.{Op}
use Rattle.jac_lang.specs.declared.expressions.Op.TheVariants as ops
use Rattle.jac_lang.specs.declared.queries.Binder.{Binder}
use Rattle.jac_lang.specs.declared.queries.Order.{Order}
use Rattle.jac_lang.specs.declared.queries.Order.TheVariants as orders
use Rattle.jac_lang.specs.Syntax.{Expression, Expressions, Question}
use Rattle.jac_lang.specs.Written.{IsName}
use Rattle.jac_tree.specs.Plain.{PlainTree, PlainTrees, count, is_word}
use Rattle.jac_forms.specs.Places.{child}
use Rattle.jac_forms.specs.Reads.{Read, got, wrong, many, read_map, read_and_then, up_to}
use Rattle.jac_forms.specs.declared.fault.FormFault.TheVariants as faults
use Rattle.jac_forms.specs.declared.fault.Want.{Want}
use Rattle.jac_forms.specs.declared.fault.Want.TheVariants as wants
use Rattle.jac_forms.specs.declared.fault.What.{What}
use Rattle.jac_forms.specs.declared.fault.What.TheVariants as whats
use Rattle.jac_forms.specs.Names.{name_in_tree, name_read}
use Rattle.jac_forms.specs.Expressions.{number_or_name, atom_expression, binder, binder_in_tree, binders_in_trees, some_binders, binders_in_tree, has_few, SortKey, sort_key, key_of_sort, rising, falling, sorting_in_trees, order_in_tree, question, question_if, count_expression, sum_expression, any_expression, first_expression, none_in_trees, Operands, form_of, expression_of_form, expression_in_tree, expression_in_list, one_in_trees, two_in_trees, pick_in_trees, get_in_trees, expressions_in_trees, query_in_trees, sum_in_trees, question_in_tree, operands_of}
use Rattle.jac_unparse.specs.TreeOf.{one, two_trees, pair, op_word, trees_of_binders, tree_of_order, tree_of_expression, trees_of_expressions, tree_of_question}
use Rattle.jac_forms.specs.declared.words.Form.{Form}
use Rattle.jac_forms.specs.declared.words.Form.TheVariants as forms
use Rattle.jac_forms.proofs.Chains.{IfGot, chained, mapped, weaker, where_true, where_false, either, within}
use Rattle.jac_forms.proofs.WrittenExpressions.{name-written}

-- A step of a chain of reads, if its value is known.
pub step : {A B : Type 0} (f : A → Read B) (o : Read A) (x : A) → o ≡ got x → read_and_then f o ≡ f x
step f o x e = ap (read_and_then f) e

pub mapping : {A B : Type 0} (f : A → B) (o : Read A) (x : A) → o ≡ got x → read_map f o ≡ got (f x)
mapping f o x e = ap (read_map f) e

-- A test with a known result.
pub passed : {A : Type 0} (b : Bool) (x y : Read A) → b ≡ true → (if b then x else y) ≡ x
passed b x y e = ap (λ z. if z then x else y) e

pub missed : {A : Type 0} (b : Bool) (x y : Read A) → b ≡ false → (if b then x else y) ≡ y
missed b x y e = ap (λ z. if z then x else y) e

pub few_enough : {A : Type 0} (what : What) (at : List ℕ) (most n : ℕ) (o : Read A) → n ≤ most → up_to what at most n o ≡ o
few_enough what at most n o h = let e : nat_le n most ≡ true = grind (arith, nat_tests) in passed (nat_le n most) o (many what at n) e

pub decided : {A : Type 0} (P : A → Type 0) (b : Bool) (o p : Read A) → (b ≡ true → IfGot o P) → (b ≡ false → IfGot p P) → IfGot (if b then o else p) P
decided P true o p h k = h refl
decided P false o p h k = k refl

pub named_again : (want : Want) (at : List ℕ) (a : List ℕ) → IsName a → name_read want at a ≡ got a
named_again want at a h = passed (is_name a) (got a) (wrong want at) h

pub name_again : (at : List ℕ) (a : List ℕ) → IsName a → name_in_tree at (PlainTree.atom a) ≡ got a
name_again at a h = named_again wants.Name at a h

-- An integer is read back from its decimal digits.
abbrev IsRespelled : ℤ → Type 0
IsRespelled i = integer_of (signed_decimal i) ≡ Some i

no_minus : (ds : List ℕ) → is_numeral ds ≡ true → (slice_index ds 0 == 45) ≡ false
no_minus [] h = cc
no_minus (c ∷ cs) h = elim (cases_eq c 45) [
  | inl e ↦ let bad : false ≡ true = subst (λ z. is_numeral (z ∷ cs) ≡ true) e h in cc
  | inr ne ↦ let e : (c == 45) ≡ false = grind (arith, nat_tests) in e
]

bare : (n : ℕ) → n ≤ 0x7FFF_FFFF_FFFF_FFFF → IsRespelled (pos n)
bare n small =
    let spelled = decimal_is_IsNumeral n (omega arith) in
    let numeral : is_numeral (decimal n) ≡ true = numeral-test (decimal n) spelled.0 in
    let fits : nat_le n 0x7FFF_FFFF_FFFF_FFFF ≡ true = grind (arith, nat_tests) in
    rw (no_minus (decimal n) numeral, numeral, spelled.1, fits) refl

signed : (n : ℕ) → n ≤ 0x8000_0000_0000_0000 → IsRespelled (neg_ℤ (pos n))
signed zero small = bare 0 (omega arith)
signed (suc n) small =
    let spelled = decimal_is_IsNumeral (suc n) (omega arith) in
    let numeral : is_numeral (decimal (suc n)) ≡ true = numeral-test (decimal (suc n)) spelled.0 in
    let fits : nat_le (suc n) 0x8000_0000_0000_0000 ≡ true = grind (arith, nat_tests) in
    rw (numeral, spelled.1, fits) refl

bounded : (b : Bool) (n most : ℕ) → (b && nat_le n most) ≡ true → n ≤ most
bounded true n most h = grind (arith, nat_tests)
bounded false n most h = cc

chosen : (m p q : Bool) (x y : ℕ) (i : ℤ) → (p ≡ true → x ≤ 0x8000_0000_0000_0000) → (q ≡ true → y ≤ 0x7FFF_FFFF_FFFF_FFFF)
    → (if m then (if p then Some (neg_ℤ (pos x)) else None) else (if q then Some (pos y) else None)) ≡ Some i → IsRespelled i
chosen true true q x y i h k e = let same : neg_ℤ (pos x) ≡ i = cc in subst IsRespelled same (signed x (h refl))
chosen true false q x y i h k e = cc
chosen false p true x y i h k e = let same : pos y ≡ i = cc in subst IsRespelled same (bare y (k refl))
chosen false p false x y i h k e = cc

respelled : (a : List ℕ) (i : ℤ) → integer_of a ≡ Some i → IsRespelled i
respelled a i e =
    chosen (slice_index a 0 == 45) (is_number_to 0x8000_0000_0000_0000 (drop 1 a)) (is_number_to 0x7FFF_FFFF_FFFF_FFFF a) (digits_value 10 (drop 1 a)) (digits_value 10 a) i
    (bounded (is_numeral (drop 1 a)) (digits_value 10 (drop 1 a)) 0x8000_0000_0000_0000)
    (bounded (is_numeral a) (digits_value 10 a) 0x7FFF_FFFF_FFFF_FFFF) e

-- A text that is an integer isn't equal to a word that is none.
no_word : (a : List ℕ) (i : ℤ) (word : List ℕ) → integer_of a ≡ Some i → integer_of word ≡ None → bytes_eq a word ≡ false
no_word a i word e n = elim (cases_Bool (bytes_eq a word)) [
  | inl same ↦ let bad : Some i ≡ None = sym e ∙ ap integer_of ((bytes_eq-Decides a word).0 same) ∙ n in cc
  | inr other ↦ other
]

-- An expression is read back from its tree, at any place. Below: the parts of a `cat`, and a query.
abbrev pub IsAgain : Expression → Type 0
IsAgain e = (to : List ℕ) → expression_in_tree to (tree_of_expression e) ≡ got e

abbrev AreAgain : Expressions → Type 0
AreAgain es = (to : List ℕ) (k : ℕ) → expressions_in_trees to k (trees_of_expressions es) ≡ got es

abbrev pub IsAsked : ℕ → Question → Type 0
IsAsked most q = (to : List ℕ) → question_in_tree most to (tree_of_question q) ≡ got q

-- An atom that is none of the reserved words.
record IsFree (a : List ℕ) : Type 0 where
  no_true : bytes_eq a (codes "true") ≡ false
  no_false : bytes_eq a (codes "false") ≡ false
  no_this : bytes_eq a (codes "this") ≡ false
  no_viewer : bytes_eq a (codes "viewer") ≡ false

free_atom : (at a : List ℕ) → IsFree a → atom_expression at a ≡ number_or_name at a (integer_of a)
free_atom at a h =
    missed (bytes_eq a (codes "true")) (got (Expression.bool true)) _ h.no_true
    ∙ missed (bytes_eq a (codes "false")) (got (Expression.bool false)) _ h.no_false
    ∙ missed (bytes_eq a (codes "this")) (got Expression.this) _ h.no_this
    ∙ missed (bytes_eq a (codes "viewer")) (got Expression.viewer) _ h.no_viewer

int_again : (i : ℤ) → IsRespelled i → IsAgain (Expression.int i)
int_again i e to =
    free_atom to (signed_decimal i) (record {
      no_true = no_word (signed_decimal i) i (codes "true") e refl;
      no_false = no_word (signed_decimal i) i (codes "false") e refl;
      no_this = no_word (signed_decimal i) i (codes "this") e refl;
      no_viewer = no_word (signed_decimal i) i (codes "viewer") e refl;
    }) ∙ ap (number_or_name to (signed_decimal i)) e

free_name_again : (a : List ℕ) → IsFree a → integer_of a ≡ None → IsName a → IsAgain (Expression.name a)
free_name_again a h e name to =
    free_atom to a h ∙ ap (number_or_name to a) e ∙ mapping Expression.name (name_read wants.Expression to a) a (named_again wants.Expression to a name)

number_or_name-again : (at a : List ℕ) → IsFree a → (o : Option ℤ) → integer_of a ≡ o → IfGot (number_or_name at a o) IsAgain
number_or_name-again at a h (Some i) e = int_again i (respelled a i e)
number_or_name-again at a h None e =
    mapped (λ x. (a ≡ x) × IsName a) IsAgain Expression.name (name_read wants.Expression at a)
    (where_true (λ x. (a ≡ x) × IsName a) (is_name a) (got a) (faults.Form at wants.Expression) (λ name. (refl, name)))
    (λ x (same, name). subst (λ z. IsAgain (Expression.name z)) same (free_name_again a h e name))

atom-again : (at a : List ℕ) → IfGot (atom_expression at a) IsAgain
atom-again at a =
    decided IsAgain (bytes_eq a (codes "true")) (got (Expression.bool true)) _ (λ _ to. refl) (λ p.
    decided IsAgain (bytes_eq a (codes "false")) (got (Expression.bool false)) _ (λ _ to. refl) (λ q.
    decided IsAgain (bytes_eq a (codes "this")) (got Expression.this) _ (λ _ to. refl) (λ r.
    decided IsAgain (bytes_eq a (codes "viewer")) (got Expression.viewer) _ (λ _ to. refl) (λ s.
    number_or_name-again at a (record { no_true = p; no_false = q; no_this = r; no_viewer = s }) (integer_of a) refl))))

-- A binder is read back from its tree. Below: the order of a query.
abbrev IsBinder : Binder → Type 0
IsBinder b = (to : List ℕ) → binder_in_tree to (pair b.name (PlainTree.atom b.model)) ≡ got b

abbrev IsOrder : Order → Type 0
IsOrder o = (to : List ℕ) → order_in_tree to (tree_of_order o) ≡ got o

binder_again : (x m : List ℕ) → IsName x → IsName m → IsBinder (binder x m)
binder_again x m h k to =
    step (λ name. read_map (binder name) (name_in_tree (child to 1) (PlainTree.atom m))) (name_in_tree (child to 0) (PlainTree.atom x)) x (name_again (child to 0) x h)
    ∙ mapping (binder x) (name_in_tree (child to 1) (PlainTree.atom m)) m (name_again (child to 1) m k)

binder-again : (at : List ℕ) (t : PlainTree) → IfGot (binder_in_tree at t) IsBinder
binder-again at (PlainTree.list (PlainTrees.more x (PlainTrees.more m PlainTrees.none))) =
    chained IsName IsBinder (λ name. read_map (binder name) (name_in_tree (child at 1) m)) (name_in_tree (child at 0) x) (name-written (child at 0) x) (λ name h.
    mapped IsName IsBinder (binder name) (name_in_tree (child at 1) m) (name-written (child at 1) m) (λ model k. binder_again name model h k))
binder-again at t = tt

-- The binders are read back from their trees, of which there are `n`.
record AreBound (n : ℕ) (bs : List Binder) : Type 0 where
  same : (to : List ℕ) (k : ℕ) → binders_in_trees to k (trees_of_binders bs) ≡ got bs
  size : count (trees_of_binders bs) ≡ n

binders-again : (at : List ℕ) (k : ℕ) (ts : PlainTrees) → IfGot (binders_in_trees at k ts) (AreBound (count ts))
binders-again at k PlainTrees.none = record { same = λ to j. refl; size = refl }
binders-again at k (PlainTrees.more t ts) =
    chained IsBinder (AreBound (count ts + 1)) (λ b. read_map (λ bs. b ∷ bs) (binders_in_trees at (k + 1) ts)) (binder_in_tree (child at k) t) (binder-again (child at k) t) (λ b h.
    mapped (AreBound (count ts)) (AreBound (count ts + 1)) (λ bs. b ∷ bs) (binders_in_trees at (k + 1) ts) (binders-again at (k + 1) ts) (λ bs l.
    record {
      same = λ to j.
          step (λ x. read_map (λ xs. x ∷ xs) (binders_in_trees to (j + 1) (trees_of_binders bs))) (binder_in_tree (child to j) (pair b.name (PlainTree.atom b.model))) b (h (child to j))
          ∙ mapping (λ xs. b ∷ xs) (binders_in_trees to (j + 1) (trees_of_binders bs)) bs (l.same to (j + 1));
      size = ap (λ n. n + 1) l.size;
    }))

-- The binders of a query are read back, if it may have up to `most`.
record AreFew (most : ℕ) (bs : List Binder) : Type 0 where
  same : (to : List ℕ) → binders_in_tree most to (PlainTree.list (trees_of_binders bs)) ≡ got bs
  few : has_few most (PlainTree.list (trees_of_binders bs)) ≡ true

fitting : (b c : Bool) → c ≡ true → (if b then c else true) ≡ true
fitting true c e = e
fitting false c e = refl

few_binders : (most n : ℕ) (bs : List Binder) → nat_le n 0 ≡ false → n ≤ most → AreBound n bs → AreFew most bs
few_binders most n bs some few h =
    let ts = trees_of_binders bs in
    let fits : nat_le n most ≡ true = grind (arith, nat_tests) in
    let small : nat_le (count ts) most ≡ true = ap (λ m. nat_le m most) h.size ∙ fits in
    record {
      same = λ to.
          missed (nat_le (count ts) 0) (wrong wants.Binder to) (up_to whats.Binders to most (count ts) (binders_in_trees to 0 ts)) (ap (λ m. nat_le m 0) h.size ∙ some)
          ∙ passed (nat_le (count ts) most) (binders_in_trees to 0 ts) (many whats.Binders to (count ts)) small
          ∙ h.same to 0;
      few = fitting (nat_le most 1) (nat_le (count ts) most) small;
    }

some-again : (most : ℕ) (at : List ℕ) (ts : PlainTrees) → IfGot (some_binders most at ts) (AreFew most)
some-again most at ts =
    where_false (AreFew most) (nat_le (count ts) 0) (up_to whats.Binders at most (count ts) (binders_in_trees at 0 ts)) (faults.Form at wants.Binder) (λ some.
    within (AreFew most) whats.Binders at most (count ts) (binders_in_trees at 0 ts) (λ few.
    weaker (AreBound (count ts)) (AreFew most) (binders_in_trees at 0 ts) (binders-again at 0 ts) (λ bs h. few_binders most (count ts) bs some few h)))

query_binders-again : (most : ℕ) (at : List ℕ) (t : PlainTree) → IfGot (binders_in_tree most at t) (AreFew most)
query_binders-again most at (PlainTree.atom a) = tt
query_binders-again most at (PlainTree.text x) = tt
query_binders-again most at (PlainTree.list ts) = some-again most at ts

abbrev IsKey : SortKey → Type 0
IsKey key = (to : List ℕ) → key_of_sort to (PlainTree.atom key.binder) (PlainTree.atom key.field) ≡ got key

key_again : (x f : List ℕ) → IsName x → IsName f → IsKey (sort_key x f)
key_again x f h k to =
    step (λ name. read_map (sort_key name) (name_in_tree (child to 2) (PlainTree.atom f))) (name_in_tree (child to 1) (PlainTree.atom x)) x (name_again (child to 1) x h)
    ∙ mapping (sort_key x) (name_in_tree (child to 2) (PlainTree.atom f)) f (name_again (child to 2) f k)

key-again : (at : List ℕ) (x f : PlainTree) → IfGot (key_of_sort at x f) IsKey
key-again at x f =
    chained IsName IsKey (λ name. read_map (sort_key name) (name_in_tree (child at 2) f)) (name_in_tree (child at 1) x) (name-written (child at 1) x) (λ name h.
    mapped IsName IsKey (sort_key name) (name_in_tree (child at 2) f) (name-written (child at 2) f) (λ field k. key_again name field h k))

sorting-again : (at : List ℕ) (ts : PlainTrees) → IfGot (sorting_in_trees at ts) IsOrder
sorting-again at (PlainTrees.more w (PlainTrees.more x (PlainTrees.more f PlainTrees.none))) =
    either IsOrder (is_word (codes "up") w) (read_map rising (key_of_sort at x f)) _
    (mapped IsKey IsOrder rising (key_of_sort at x f) (key-again at x f) (λ key h to. mapping rising (key_of_sort to (PlainTree.atom key.binder) (PlainTree.atom key.field)) key (h to)))
    (where_true IsOrder (is_word (codes "down") w) (read_map falling (key_of_sort at x f)) (faults.Form at wants.Order) (λ _.
    mapped IsKey IsOrder falling (key_of_sort at x f) (key-again at x f) (λ key h to. mapping falling (key_of_sort to (PlainTree.atom key.binder) (PlainTree.atom key.field)) key (h to))))
sorting-again at ts = tt

order-again : (at : List ℕ) (t : PlainTree) → IfGot (order_in_tree at t) IsOrder
order-again at (PlainTree.atom a) = where_true IsOrder (bytes_eq a (codes "key")) (got orders.Key) (faults.Form at wants.Order) (λ _ to. refl)
order-again at (PlainTree.text x) = tt
order-again at (PlainTree.list ts) = sorting-again at ts

question_again : (most : ℕ) (bs : List Binder) (c : Expression) (o : Order) → AreFew most bs → IsAgain c → IsOrder o → IsAsked most (question bs c o)
question_again most bs c o h k l to =
    let binders = binders_in_tree most (child to 1) (PlainTree.list (trees_of_binders bs)) in
    let cond = expression_in_tree (child to 2) (tree_of_expression c) in
    let order = order_in_tree (child to 3) (tree_of_order o) in
    passed (has_few most (PlainTree.list (trees_of_binders bs))) (question_if binders cond order) (wrong wants.Query to) h.few
    ∙ step (λ xs. read_and_then (λ x. read_map (question xs x) order) cond) binders bs (h.same (child to 1))
    ∙ step (λ x. read_map (question bs x) order) cond c (k (child to 2))
    ∙ mapping (question bs c) order o (l (child to 3))

question-again : (most : ℕ) (bs : Read (List Binder)) (c : Read Expression) (o : Read Order) → IfGot bs (AreFew most) → IfGot c IsAgain → IfGot o IsOrder
    → IfGot (question_if bs c o) (IsAsked most)
question-again most bs c o h k l =
    chained (AreFew most) (IsAsked most) (λ binders. read_and_then (λ cond. read_map (question binders cond) o) c) bs h (λ binders p.
    chained IsAgain (IsAsked most) (λ cond. read_map (question binders cond) o) c k (λ cond q.
    mapped IsOrder (IsAsked most) (question binders cond) o l (λ order r. question_again most binders cond order p q r)))

op_form : (op : Op) → form_of (PlainTree.atom (op_word op)) ≡ Some (forms.Two op)
op_form ops.Add = refl
op_form ops.Sub = refl
op_form ops.Mul = refl
op_form ops.Eq = refl
op_form ops.Lt = refl
op_form ops.And = refl
op_form ops.Or = refl

two_again : (op : Op) (x y : Expression) → IsAgain x → IsAgain y → IsAgain (Expression.two op x y)
two_again op x y h k to =
    let ts = two_trees (tree_of_expression x) (tree_of_expression y) in
    ap (λ z. expression_of_form to z (operands_of to ts)) (op_form op)
    ∙ step (λ z. read_map (Expression.two op z) (expression_in_tree (child to 2) (tree_of_expression y))) (expression_in_tree (child to 1) (tree_of_expression x)) x (h (child to 1))
    ∙ mapping (Expression.two op x) (expression_in_tree (child to 2) (tree_of_expression y)) y (k (child to 2))

none-again : (at : List ℕ) (ts : PlainTrees) → IfGot (none_in_trees at ts) IsAgain
none-again at (PlainTrees.more m PlainTrees.none) =
    mapped IsName IsAgain Expression.none_of (name_in_tree (child at 1) m) (name-written (child at 1) m) (λ x h to.
    mapping Expression.none_of (name_in_tree (child to 1) (PlainTree.atom x)) x (name_again (child to 1) x h))
none-again at ts = tt

-- The operands of a form, read in each way in which some form takes them.
record AreOperands (operands : Operands) : Type 0 where
  none_of : IfGot operands.none_of IsAgain
  one : IfGot operands.one IsAgain
  two : (op : Op) → IfGot (operands.two op) IsAgain
  get : IfGot operands.get IsAgain
  pick : IfGot operands.pick IsAgain
  parts : IfGot operands.parts AreAgain
  asked : (most : ℕ) → IfGot (operands.asked most) (IsAsked most)
  sum : IfGot operands.sum IsAgain

form-again : (at : List ℕ) (form : Option Form) (operands : Operands) → AreOperands operands → IfGot (expression_of_form at form operands) IsAgain
form-again at None operands h = tt
form-again at (Some forms.NoneOf) operands h = h.none_of
form-again at (Some forms.Get) operands h = h.get
form-again at (Some forms.Live) operands h =
    mapped IsAgain IsAgain Expression.live operands.one h.one (λ x k to. mapping Expression.live (expression_in_tree (child to 1) (tree_of_expression x)) x (k (child to 1)))
form-again at (Some (forms.Two op)) operands h = h.two op
form-again at (Some forms.Not) operands h =
    mapped IsAgain IsAgain Expression.negated operands.one h.one (λ x k to. mapping Expression.negated (expression_in_tree (child to 1) (tree_of_expression x)) x (k (child to 1)))
form-again at (Some forms.Cat) operands h =
    mapped AreAgain IsAgain Expression.cat operands.parts h.parts (λ x k to. mapping Expression.cat (expressions_in_trees to 1 (trees_of_expressions x)) x (k to 1))
form-again at (Some forms.Str) operands h =
    mapped IsAgain IsAgain Expression.str operands.one h.one (λ x k to. mapping Expression.str (expression_in_tree (child to 1) (tree_of_expression x)) x (k (child to 1)))
form-again at (Some forms.Pick) operands h = h.pick
form-again at (Some forms.Count) operands h =
    mapped (IsAsked 1) IsAgain count_expression (operands.asked 1) (h.asked 1) (λ x k to. mapping count_expression (question_in_tree 1 (child to 1) (tree_of_question x)) x (k (child to 1)))
form-again at (Some forms.Sum) operands h = h.sum
form-again at (Some forms.AnyOf) operands h =
    mapped (IsAsked 3) IsAgain any_expression (operands.asked 3) (h.asked 3) (λ x k to. mapping any_expression (question_in_tree 3 (child to 1) (tree_of_question x)) x (k (child to 1)))
form-again at (Some forms.First) operands h =
    mapped (IsAsked 3) IsAgain first_expression (operands.asked 3) (h.asked 3) (λ x k to. mapping first_expression (question_in_tree 3 (child to 1) (tree_of_question x)) x (k (child to 1)))

mutual
  pub expression-again : (at : List ℕ) (t : PlainTree) → IfGot (expression_in_tree at t) IsAgain
  expression-again at (PlainTree.atom a) = atom-again at a
  expression-again at (PlainTree.text x) = λ to. refl
  expression-again at (PlainTree.list ts) = list-again at ts

  list-again : (at : List ℕ) (ts : PlainTrees) → IfGot (expression_in_list at ts) IsAgain
  list-again at PlainTrees.none = tt
  list-again at (PlainTrees.more head ts) =
      form-again at (form_of head) (operands_of at ts) (record {
        none_of = none-again at ts;
        one = one-again wants.Expression at ts;
        two = two-again at ts;
        get = get-again at ts;
        pick = pick-again at ts;
        parts = parts-again at 1 ts;
        asked = query-again at ts;
        sum = sum-again at ts;
      })

  pub one-again : (want : Want) (at : List ℕ) (ts : PlainTrees) → IfGot (one_in_trees want at ts) IsAgain
  one-again want at (PlainTrees.more a PlainTrees.none) = expression-again (child at 1) a
  one-again want at PlainTrees.none = tt
  one-again want at (PlainTrees.more a (PlainTrees.more b ts)) = tt

  two-again : (at : List ℕ) (ts : PlainTrees) (op : Op) → IfGot (two_in_trees at ts op) IsAgain
  two-again at (PlainTrees.more a (PlainTrees.more b PlainTrees.none)) op =
      chained IsAgain IsAgain (λ x. read_map (Expression.two op x) (expression_in_tree (child at 2) b)) (expression_in_tree (child at 1) a) (expression-again (child at 1) a) (λ x h.
      mapped IsAgain IsAgain (Expression.two op x) (expression_in_tree (child at 2) b) (expression-again (child at 2) b) (λ y k. two_again op x y h k))
  two-again at PlainTrees.none op = tt
  two-again at (PlainTrees.more a PlainTrees.none) op = tt
  two-again at (PlainTrees.more a (PlainTrees.more b (PlainTrees.more c ts))) op = tt

  pick-again : (at : List ℕ) (ts : PlainTrees) → IfGot (pick_in_trees at ts) IsAgain
  pick-again at (PlainTrees.more c (PlainTrees.more a (PlainTrees.more b PlainTrees.none))) =
      chained IsAgain IsAgain (λ x. read_and_then (λ y. read_map (Expression.pick x y) (expression_in_tree (child at 3) b)) (expression_in_tree (child at 2) a)) (expression_in_tree (child at 1) c) (expression-again (child at 1) c) (λ x h.
      chained IsAgain IsAgain (λ y. read_map (Expression.pick x y) (expression_in_tree (child at 3) b)) (expression_in_tree (child at 2) a) (expression-again (child at 2) a) (λ y k.
      mapped IsAgain IsAgain (Expression.pick x y) (expression_in_tree (child at 3) b) (expression-again (child at 3) b) (λ z l to.
      step (λ u. read_and_then (λ v. read_map (Expression.pick u v) (expression_in_tree (child to 3) (tree_of_expression z))) (expression_in_tree (child to 2) (tree_of_expression y))) (expression_in_tree (child to 1) (tree_of_expression x)) x (h (child to 1))
      ∙ step (λ v. read_map (Expression.pick x v) (expression_in_tree (child to 3) (tree_of_expression z))) (expression_in_tree (child to 2) (tree_of_expression y)) y (k (child to 2))
      ∙ mapping (Expression.pick x y) (expression_in_tree (child to 3) (tree_of_expression z)) z (l (child to 3)))))
  pick-again at PlainTrees.none = tt
  pick-again at (PlainTrees.more c PlainTrees.none) = tt
  pick-again at (PlainTrees.more c (PlainTrees.more a PlainTrees.none)) = tt
  pick-again at (PlainTrees.more c (PlainTrees.more a (PlainTrees.more b (PlainTrees.more d ts)))) = tt

  get-again : (at : List ℕ) (ts : PlainTrees) → IfGot (get_in_trees at ts) IsAgain
  get-again at (PlainTrees.more m (PlainTrees.more f (PlainTrees.more e PlainTrees.none))) =
      chained IsName IsAgain (λ model. read_and_then (λ field. read_map (Expression.get model field) (expression_in_tree (child at 3) e)) (name_in_tree (child at 2) f)) (name_in_tree (child at 1) m) (name-written (child at 1) m) (λ x h.
      chained IsName IsAgain (λ field. read_map (Expression.get x field) (expression_in_tree (child at 3) e)) (name_in_tree (child at 2) f) (name-written (child at 2) f) (λ y k.
      mapped IsAgain IsAgain (Expression.get x y) (expression_in_tree (child at 3) e) (expression-again (child at 3) e) (λ z l to.
      step (λ u. read_and_then (λ v. read_map (Expression.get u v) (expression_in_tree (child to 3) (tree_of_expression z))) (name_in_tree (child to 2) (PlainTree.atom y))) (name_in_tree (child to 1) (PlainTree.atom x)) x (name_again (child to 1) x h)
      ∙ step (λ v. read_map (Expression.get x v) (expression_in_tree (child to 3) (tree_of_expression z))) (name_in_tree (child to 2) (PlainTree.atom y)) y (name_again (child to 2) y k)
      ∙ mapping (Expression.get x y) (expression_in_tree (child to 3) (tree_of_expression z)) z (l (child to 3)))))
  get-again at PlainTrees.none = tt
  get-again at (PlainTrees.more m PlainTrees.none) = tt
  get-again at (PlainTrees.more m (PlainTrees.more f PlainTrees.none)) = tt
  get-again at (PlainTrees.more m (PlainTrees.more f (PlainTrees.more e (PlainTrees.more d ts)))) = tt

  parts-again : (at : List ℕ) (k : ℕ) (ts : PlainTrees) → IfGot (expressions_in_trees at k ts) AreAgain
  parts-again at k PlainTrees.none = λ to j. refl
  parts-again at k (PlainTrees.more t ts) =
      chained IsAgain AreAgain (λ e. read_map (Expressions.more e) (expressions_in_trees at (k + 1) ts)) (expression_in_tree (child at k) t) (expression-again (child at k) t) (λ x h.
      mapped AreAgain AreAgain (Expressions.more x) (expressions_in_trees at (k + 1) ts) (parts-again at (k + 1) ts) (λ y l to j.
      step (λ e. read_map (Expressions.more e) (expressions_in_trees to (j + 1) (trees_of_expressions y))) (expression_in_tree (child to j) (tree_of_expression x)) x (h (child to j))
      ∙ mapping (Expressions.more x) (expressions_in_trees to (j + 1) (trees_of_expressions y)) y (l to (j + 1))))

  query-again : (at : List ℕ) (ts : PlainTrees) (most : ℕ) → IfGot (query_in_trees at ts most) (IsAsked most)
  query-again at (PlainTrees.more q PlainTrees.none) most = from-again most (child at 1) q
  query-again at PlainTrees.none most = tt
  query-again at (PlainTrees.more q (PlainTrees.more e ts)) most = tt

  sum-again : (at : List ℕ) (ts : PlainTrees) → IfGot (sum_in_trees at ts) IsAgain
  sum-again at (PlainTrees.more q (PlainTrees.more e PlainTrees.none)) =
      chained (IsAsked 1) IsAgain (λ any_expression. read_map (sum_expression any_expression) (expression_in_tree (child at 2) e)) (question_in_tree 1 (child at 1) q) (from-again 1 (child at 1) q) (λ x h.
      mapped IsAgain IsAgain (sum_expression x) (expression_in_tree (child at 2) e) (expression-again (child at 2) e) (λ y k to.
      step (λ z. read_map (sum_expression z) (expression_in_tree (child to 2) (tree_of_expression y))) (question_in_tree 1 (child to 1) (tree_of_question x)) x (h (child to 1))
      ∙ mapping (sum_expression x) (expression_in_tree (child to 2) (tree_of_expression y)) y (k (child to 2))))
  sum-again at PlainTrees.none = tt
  sum-again at (PlainTrees.more q PlainTrees.none) = tt
  sum-again at (PlainTrees.more q (PlainTrees.more e (PlainTrees.more d ts))) = tt

  pub from-again : (most : ℕ) (at : List ℕ) (t : PlainTree) → IfGot (question_in_tree most at t) (IsAsked most)
  from-again most at (PlainTree.list (PlainTrees.more w (PlainTrees.more bs (PlainTrees.more c (PlainTrees.more o PlainTrees.none))))) =
      where_true (IsAsked most) (is_word (codes "from") w) _ (faults.Form at wants.Query) (λ _.
      where_true (IsAsked most) (has_few most bs) (question_if (binders_in_tree most (child at 1) bs) (expression_in_tree (child at 2) c) (order_in_tree (child at 3) o)) (faults.Form at wants.Query) (λ _.
      question-again most (binders_in_tree most (child at 1) bs) (expression_in_tree (child at 2) c) (order_in_tree (child at 3) o) (query_binders-again most (child at 1) bs) (expression-again (child at 2) c) (order-again (child at 3) o)))
  from-again most at t = tt
