-- The trees of a list of values, or of statements, that were read are read as the same.
use Rattle.std.proofs.Common.{◌≡◌, ℕ, ◌+◌, refl, ◌∙◌, ap, Option, Some, None, List, [], ◌∷◌}
use Rattle.std.specs.Prelude.{codes}
use Rattle.jac_lang.specs.Syntax.{Expression, Assigned, Statement}
use Rattle.jac_lang.specs.Written.{IsName}
use Rattle.jac_tree.specs.Plain.{PlainTree, PlainTrees, count, tail_of}
use Rattle.jac_forms.specs.Places.{child}
use Rattle.jac_forms.specs.Reads.{Read, got, read_map, read_and_then}
use Rattle.jac_forms.specs.declared.fault.Want.{Want}
use Rattle.jac_forms.specs.declared.fault.Want.TheVariants as wants
use Rattle.jac_forms.specs.Names.{name_in_tree, each_in_trees}
use Rattle.jac_forms.specs.Expressions.{expression_in_tree, one_in_trees, question_in_tree}
use Rattle.jac_forms.specs.Statements.{assigned_field, assigned_in_tree, set_in_tree, assign_in_trees, update_in_trees, delete_in_trees, missing_in_trees, template_in_trees, single_in_trees, Numbered, Body, next_site, numbered_statement, bind_statement, branch, each, create, before_body, StatementOperands, step_of, statement_of_step, statement_in_tree, statement_in_list, bind_in_trees, branch_in_trees, each_of_query, create_in_trees, body_in_tree, statements_in_trees, statement_operands}
use Rattle.jac_unparse.specs.TreeOf.{pair, tree_of_expression, tree_of_question, trees_of_assigned, tree_of_set, tree_of_statement, trees_of_statements}
use Rattle.jac_forms.specs.declared.steps.Single.{Single}
use Rattle.jac_forms.specs.declared.steps.Single.TheVariants as singles
use Rattle.jac_forms.specs.declared.steps.Step.{Step}
use Rattle.jac_forms.specs.declared.steps.Step.TheVariants as steps
use Rattle.jac_unparse.proofs.Again.{step, mapping, name_again, IsAgain, IsAsked, expression-again, one-again, from-again}
use Rattle.jac_forms.proofs.Chains.{IfGot, after, chained, mapped, weaker}
use Rattle.jac_forms.proofs.WrittenExpressions.{name-written}

-- The values are read back from their `n` trees, each by `again`.
pub record AreRead {A : Type 0} (again : List ℕ → PlainTree → Read A) (writes : List A → PlainTrees) (n : ℕ) (xs : List A) : Type 0 where
  pub same : (to : List ℕ) (k : ℕ) → each_in_trees again to k (writes xs) ≡ got xs
  pub size : count (writes xs) ≡ n

-- It suffices that `P` holds for each value that is read.
pub each-again : {A : Type 0} (P : A → Type 0) (read again : List ℕ → PlainTree → Read A) (write : A → PlainTree) (writes : List A → PlainTrees)
    → writes [] ≡ PlainTrees.none → ((x : A) (xs : List A) → writes (x ∷ xs) ≡ PlainTrees.more (write x) (writes xs))
    → ((at : List ℕ) (t : PlainTree) → IfGot (read at t) P) → ((to : List ℕ) (x : A) → P x → again to (write x) ≡ got x)
    → (at : List ℕ) (k : ℕ) (ts : PlainTrees) → IfGot (each_in_trees read at k ts) (AreRead again writes (count ts))
each-again P read again write writes nil cons one keeps at k PlainTrees.none =
    record { same = λ to j. ap (each_in_trees again to j) nil; size = ap count nil }
each-again {A} P read again write writes nil cons one keeps at k (PlainTrees.more t ts) =
    chained P (AreRead again writes (count ts + 1)) (λ first. read_map (λ rest. first ∷ rest) (each_in_trees read at (k + 1) ts)) (read (child at k) t) (one (child at k) t) (λ x h.
    mapped (AreRead again writes (count ts)) (AreRead again writes (count ts + 1)) (λ rest. x ∷ rest) (each_in_trees read at (k + 1) ts) (each-again P read again write writes nil cons one keeps at (k + 1) ts) (λ xs l.
    record {
      same = λ to j.
          ap (each_in_trees again to j) (cons x xs)
          ∙ step (λ first. read_map (λ rest. first ∷ rest) (each_in_trees again to (j + 1) (writes xs))) (again (child to j) (write x)) x (keeps (child to j) x h)
          ∙ mapping (λ rest. x ∷ rest) (each_in_trees again to (j + 1) (writes xs)) xs (l.same to (j + 1));
      size = ap count (cons x xs) ∙ ap (λ n. n + 1) l.size;
    }))

-- The field is a name, and its expression is read back.
abbrev IsSet : Assigned → Type 0
IsSet a = IsName a.field × IsAgain a.value

assigned-again : (want : Want) (at : List ℕ) (t : PlainTree) → IfGot (assigned_in_tree want at t) IsSet
assigned-again want at (PlainTree.list (PlainTrees.more f (PlainTrees.more e PlainTrees.none))) =
    chained IsName IsSet (λ field. read_map (assigned_field field) (expression_in_tree (child at 1) e)) (name_in_tree (child at 0) f) (name-written (child at 0) f) (λ field h.
    mapped IsAgain IsSet (assigned_field field) (expression_in_tree (child at 1) e) (expression-again (child at 1) e) (λ value k. (h, k)))
assigned-again want at t = tt

assigned_again : (want : Want) (to : List ℕ) (a : Assigned) → IsSet a → assigned_in_tree want to (pair a.field (tree_of_expression a.value)) ≡ got a
assigned_again want to a (h, k) =
    step (λ field. read_map (assigned_field field) (expression_in_tree (child to 1) (tree_of_expression a.value))) (name_in_tree (child to 0) (PlainTree.atom a.field)) a.field (name_again (child to 0) a.field h)
    ∙ mapping (assigned_field a.field) (expression_in_tree (child to 1) (tree_of_expression a.value)) a.value (k (child to 1))

pub all-assigned-again : (want : Want) (at : List ℕ) (ts : PlainTrees) → IfGot (each_in_trees (assigned_in_tree want) at 1 ts) (AreRead (assigned_in_tree want) trees_of_assigned (count ts))
all-assigned-again want at ts =
    each-again IsSet (assigned_in_tree want) (assigned_in_tree want) (λ a. pair a.field (tree_of_expression a.value)) trees_of_assigned refl (λ x xs. refl)
    (assigned-again want) (assigned_again want) at 1 ts

abbrev AreSet : List Assigned → Type 0
AreSet cells = (to : List ℕ) → set_in_tree to (tree_of_set cells) ≡ got cells

set-again : (at : List ℕ) (t : PlainTree) → IfGot (set_in_tree at t) AreSet
set-again at t =
    after AreSet wants.Set at (each_in_trees (assigned_in_tree wants.Cell) at 1) (tail_of (codes "set") t) (λ ts.
    weaker (AreRead (assigned_in_tree wants.Cell) trees_of_assigned (count ts)) AreSet (each_in_trees (assigned_in_tree wants.Cell) at 1 ts) (all-assigned-again wants.Cell at ts) (λ cells h to. h.same to 1))

-- A statement without sites is read back, with any number for its first site.
abbrev IsSingle : Statement → Type 0
IsSingle s = (to : List ℕ) (n : ℕ) → statement_in_tree to (tree_of_statement s) n ≡ got (numbered_statement n s)

assign-again : (at : List ℕ) (ts : PlainTrees) → IfGot (assign_in_trees at ts) IsSingle
assign-again at (PlainTrees.more x (PlainTrees.more e PlainTrees.none)) =
    chained IsName IsSingle (λ name. read_map (Statement.assign name) (expression_in_tree (child at 2) e)) (name_in_tree (child at 1) x) (name-written (child at 1) x) (λ name h.
    mapped IsAgain IsSingle (Statement.assign name) (expression_in_tree (child at 2) e) (expression-again (child at 2) e) (λ value k to n.
    mapping (numbered_statement n) (read_and_then (λ u. read_map (Statement.assign u) (expression_in_tree (child to 2) (tree_of_expression value))) (name_in_tree (child to 1) (PlainTree.atom name))) (Statement.assign name value)
    (step (λ u. read_map (Statement.assign u) (expression_in_tree (child to 2) (tree_of_expression value))) (name_in_tree (child to 1) (PlainTree.atom name)) name (name_again (child to 1) name h)
    ∙ mapping (Statement.assign name) (expression_in_tree (child to 2) (tree_of_expression value)) value (k (child to 2)))))
assign-again at ts = tt

update-again : (at : List ℕ) (ts : PlainTrees) → IfGot (update_in_trees at ts) IsSingle
update-again at (PlainTrees.more m (PlainTrees.more e (PlainTrees.more s PlainTrees.none))) =
    chained IsName IsSingle (λ model. read_and_then (λ target. read_map (Statement.update model target) (set_in_tree (child at 3) s)) (expression_in_tree (child at 2) e)) (name_in_tree (child at 1) m) (name-written (child at 1) m) (λ model h.
    chained IsAgain IsSingle (λ target. read_map (Statement.update model target) (set_in_tree (child at 3) s)) (expression_in_tree (child at 2) e) (expression-again (child at 2) e) (λ target k.
    mapped AreSet IsSingle (Statement.update model target) (set_in_tree (child at 3) s) (set-again (child at 3) s) (λ cells l to n.
    mapping (numbered_statement n) (read_and_then (λ u. read_and_then (λ v. read_map (Statement.update u v) (set_in_tree (child to 3) (tree_of_set cells))) (expression_in_tree (child to 2) (tree_of_expression target))) (name_in_tree (child to 1) (PlainTree.atom model))) (Statement.update model target cells)
    (step (λ u. read_and_then (λ v. read_map (Statement.update u v) (set_in_tree (child to 3) (tree_of_set cells))) (expression_in_tree (child to 2) (tree_of_expression target))) (name_in_tree (child to 1) (PlainTree.atom model)) model (name_again (child to 1) model h)
    ∙ step (λ v. read_map (Statement.update model v) (set_in_tree (child to 3) (tree_of_set cells))) (expression_in_tree (child to 2) (tree_of_expression target)) target (k (child to 2))
    ∙ mapping (Statement.update model target) (set_in_tree (child to 3) (tree_of_set cells)) cells (l (child to 3))))))
update-again at ts = tt

delete-again : (at : List ℕ) (ts : PlainTrees) → IfGot (delete_in_trees at ts) IsSingle
delete-again at (PlainTrees.more m (PlainTrees.more e PlainTrees.none)) =
    chained IsName IsSingle (λ model. read_map (Statement.delete model) (expression_in_tree (child at 2) e)) (name_in_tree (child at 1) m) (name-written (child at 1) m) (λ model h.
    mapped IsAgain IsSingle (Statement.delete model) (expression_in_tree (child at 2) e) (expression-again (child at 2) e) (λ target k to n.
    mapping (numbered_statement n) (read_and_then (λ u. read_map (Statement.delete u) (expression_in_tree (child to 2) (tree_of_expression target))) (name_in_tree (child to 1) (PlainTree.atom model))) (Statement.delete model target)
    (step (λ u. read_map (Statement.delete u) (expression_in_tree (child to 2) (tree_of_expression target))) (name_in_tree (child to 1) (PlainTree.atom model)) model (name_again (child to 1) model h)
    ∙ mapping (Statement.delete model) (expression_in_tree (child to 2) (tree_of_expression target)) target (k (child to 2)))))
delete-again at ts = tt

missing-again : (at : List ℕ) (ts : PlainTrees) → IfGot (missing_in_trees at ts) IsSingle
missing-again at PlainTrees.none = λ to n. refl
missing-again at (PlainTrees.more t ts) = tt

template-again : (at : List ℕ) (ts : PlainTrees) → IfGot (template_in_trees at ts) IsSingle
template-again at (PlainTrees.more (PlainTree.text x) PlainTrees.none) = λ to n. refl
template-again at ts = tt

-- A statement with one expression is read back.
with_one-again : (make : Expression → Statement) (at : List ℕ) (ts : PlainTrees)
    → ((e : Expression) (to : List ℕ) (n : ℕ) → statement_in_tree to (tree_of_statement (make e)) n ≡ read_map (numbered_statement n) (read_map make (expression_in_tree (child to 1) (tree_of_expression e))))
    → IfGot (read_map make (one_in_trees wants.Statement at ts)) IsSingle
with_one-again make at ts by =
    mapped IsAgain IsSingle make (one_in_trees wants.Statement at ts) (one-again wants.Statement at ts) (λ e h to n.
    by e to n ∙ mapping (numbered_statement n) (read_map make (expression_in_tree (child to 1) (tree_of_expression e))) (make e) (mapping make (expression_in_tree (child to 1) (tree_of_expression e)) e (h (child to 1))))

single-again : (at : List ℕ) (ts : PlainTrees) (single : Single) → IfGot (single_in_trees at ts single) IsSingle
single-again at ts singles.Put = with_one-again Statement.put at ts (λ e to n. refl)
single-again at ts singles.Esc = with_one-again Statement.escape at ts (λ e to n. refl)
single-again at ts singles.Assign = assign-again at ts
single-again at ts singles.Update = update-again at ts
single-again at ts singles.Delete = delete-again at ts
single-again at ts singles.Missing = missing-again at ts
single-again at ts singles.Redirect = with_one-again Statement.redirect at ts (λ e to n. refl)
single-again at ts singles.Template = template-again at ts

-- A statement is read back if its sites begin at the same number. Below: statements.
abbrev pub IsCounted : ℕ → Numbered → Type 0
IsCounted n s = (to : List ℕ) → statement_in_tree to (tree_of_statement s.statement) n ≡ got s

abbrev pub AreCounted : ℕ → Body → Type 0
AreCounted n b = (to : List ℕ) (k : ℕ) → statements_in_trees to k (trees_of_statements b.statements) n ≡ got b

bind_again : (n : ℕ) (name : List ℕ) (value : Expression) (b : Body) → IsName name → IsAgain value → AreCounted n b → IsCounted n (bind_statement name value b)
bind_again n name value b h k l to =
    let ss = trees_of_statements b.statements in
    step (λ u. read_and_then (λ v. read_map (bind_statement u v) (statements_in_trees to 3 ss n)) (expression_in_tree (child to 2) (tree_of_expression value))) (name_in_tree (child to 1) (PlainTree.atom name)) name (name_again (child to 1) name h)
    ∙ step (λ v. read_map (bind_statement name v) (statements_in_trees to 3 ss n)) (expression_in_tree (child to 2) (tree_of_expression value)) value (k (child to 2))
    ∙ mapping (bind_statement name value) (statements_in_trees to 3 ss n) b (l to 3)

branch_again : (n : ℕ) (cond : Expression) (first second : Body) → IsAgain cond → AreCounted n first → AreCounted first.next second → IsCounted n (branch cond first second)
branch_again n cond first second h k l to =
    let a = PlainTree.list (trees_of_statements first.statements) in
    let b = PlainTree.list (trees_of_statements second.statements) in
    step (λ u. read_and_then (λ v. read_map (branch u v) (body_in_tree (child to 3) b v.next)) (body_in_tree (child to 2) a n)) (expression_in_tree (child to 1) (tree_of_expression cond)) cond (h (child to 1))
    ∙ step (λ v. read_map (branch cond v) (body_in_tree (child to 3) b v.next)) (body_in_tree (child to 2) a n) first (k (child to 2) 0)
    ∙ mapping (branch cond first) (body_in_tree (child to 3) b first.next) second (l (child to 3) 0)

create_again : (n : ℕ) (name model : List ℕ) (cells : List Assigned) (b : Body) → IsName name → IsName model → AreSet cells → AreCounted (next_site n) b → IsCounted n (create name model n cells b)
create_again n name model cells b h k i l to =
    let ss = trees_of_statements b.statements in
    let set = set_in_tree (child to 3) (tree_of_set cells) in
    step (λ u. read_and_then (λ v. read_and_then (λ w. read_map (create u v n w) (statements_in_trees to 4 ss (next_site n))) set) (name_in_tree (child to 2) (PlainTree.atom model))) (name_in_tree (child to 1) (PlainTree.atom name)) name (name_again (child to 1) name h)
    ∙ step (λ v. read_and_then (λ w. read_map (create name v n w) (statements_in_trees to 4 ss (next_site n))) set) (name_in_tree (child to 2) (PlainTree.atom model)) model (name_again (child to 2) model k)
    ∙ step (λ w. read_map (create name model n w) (statements_in_trees to 4 ss (next_site n))) set cells (i (child to 3))
    ∙ mapping (create name model n cells) (statements_in_trees to 4 ss (next_site n)) b (l to 4)

-- The trees after the head, read in each way in which some statement takes them.
record AreOperands (operands : StatementOperands) : Type 0 where
  single : (one : Single) → IfGot (operands.single one) IsSingle
  bind : (n : ℕ) → IfGot (operands.bind n) (IsCounted n)
  branch : (n : ℕ) → IfGot (operands.branch n) (IsCounted n)
  each : (n : ℕ) → IfGot (operands.each n) (IsCounted n)
  create : (n : ℕ) → IfGot (operands.create n) (IsCounted n)

step-again : (at : List ℕ) (step : Option Step) (operands : StatementOperands) (n : ℕ) → AreOperands operands → IfGot (statement_of_step at step operands n) (IsCounted n)
step-again at None operands n h = tt
step-again at (Some (steps.Single single)) operands n h =
    mapped IsSingle (IsCounted n) (numbered_statement n) (operands.single single) (h.single single) (λ s k to. k to n)
step-again at (Some steps.Let) operands n h = h.bind n
step-again at (Some steps.If) operands n h = h.branch n
step-again at (Some steps.For) operands n h = h.each n
step-again at (Some steps.Create) operands n h = h.create n

mutual
  statement-again : (at : List ℕ) (t : PlainTree) (n : ℕ) → IfGot (statement_in_tree at t n) (IsCounted n)
  statement-again at (PlainTree.atom a) n = tt
  statement-again at (PlainTree.text x) n = tt
  statement-again at (PlainTree.list ts) n = list-again at ts n

  list-again : (at : List ℕ) (ts : PlainTrees) (n : ℕ) → IfGot (statement_in_list at ts n) (IsCounted n)
  list-again at PlainTrees.none n = tt
  list-again at (PlainTrees.more head ts) n =
      step-again at (step_of head) (statement_operands at ts) n (record {
        single = single-again at ts;
        bind = bind-again at ts;
        branch = branch-again at ts;
        each = each_of-again at ts;
        create = create-again at ts;
      })

  bind-again : (at : List ℕ) (ts : PlainTrees) (n : ℕ) → IfGot (bind_in_trees at ts n) (IsCounted n)
  bind-again at (PlainTrees.more x (PlainTrees.more e ss)) n =
      chained IsName (IsCounted n) (λ name. read_and_then (λ value. read_map (bind_statement name value) (statements_in_trees at 3 ss n)) (expression_in_tree (child at 2) e)) (name_in_tree (child at 1) x) (name-written (child at 1) x) (λ name h.
      chained IsAgain (IsCounted n) (λ value. read_map (bind_statement name value) (statements_in_trees at 3 ss n)) (expression_in_tree (child at 2) e) (expression-again (child at 2) e) (λ value k.
      mapped (AreCounted n) (IsCounted n) (bind_statement name value) (statements_in_trees at 3 ss n) (statements-again at 3 ss n) (λ b l. bind_again n name value b h k l)))
  bind-again at PlainTrees.none n = tt
  bind-again at (PlainTrees.more x PlainTrees.none) n = tt

  branch-again : (at : List ℕ) (ts : PlainTrees) (n : ℕ) → IfGot (branch_in_trees at ts n) (IsCounted n)
  branch-again at (PlainTrees.more c (PlainTrees.more a (PlainTrees.more b PlainTrees.none))) n =
      chained IsAgain (IsCounted n) (λ cond. read_and_then (λ first. read_map (branch cond first) (body_in_tree (child at 3) b first.next)) (body_in_tree (child at 2) a n)) (expression_in_tree (child at 1) c) (expression-again (child at 1) c) (λ cond h.
      chained (AreCounted n) (IsCounted n) (λ first. read_map (branch cond first) (body_in_tree (child at 3) b first.next)) (body_in_tree (child at 2) a n) (body-again (child at 2) a n) (λ first k.
      mapped (AreCounted first.next) (IsCounted n) (branch cond first) (body_in_tree (child at 3) b first.next) (body-again (child at 3) b first.next) (λ second l. branch_again n cond first second h k l)))
  branch-again at PlainTrees.none n = tt
  branch-again at (PlainTrees.more c PlainTrees.none) n = tt
  branch-again at (PlainTrees.more c (PlainTrees.more a PlainTrees.none)) n = tt
  branch-again at (PlainTrees.more c (PlainTrees.more a (PlainTrees.more b (PlainTrees.more d ts)))) n = tt

  each_of-again : (at : List ℕ) (ts : PlainTrees) (n : ℕ) → IfGot (each_of_query at ts n) (IsCounted n)
  each_of-again at (PlainTrees.more q ss) n =
      chained (IsAsked 3) (IsCounted n) (λ asked. read_map (each asked) (statements_in_trees at 2 ss n)) (question_in_tree 3 (child at 1) q) (from-again 3 (child at 1) q) (λ asked h.
      mapped (AreCounted n) (IsCounted n) (each asked) (statements_in_trees at 2 ss n) (statements-again at 2 ss n) (λ b l to.
      step (λ u. read_map (each u) (statements_in_trees to 2 (trees_of_statements b.statements) n)) (question_in_tree 3 (child to 1) (tree_of_question asked)) asked (h (child to 1))
      ∙ mapping (each asked) (statements_in_trees to 2 (trees_of_statements b.statements) n) b (l to 2)))
  each_of-again at PlainTrees.none n = tt

  create-again : (at : List ℕ) (ts : PlainTrees) (n : ℕ) → IfGot (create_in_trees at ts n) (IsCounted n)
  create-again at (PlainTrees.more x (PlainTrees.more m (PlainTrees.more s ss))) n =
      chained IsName (IsCounted n) (λ name. read_and_then (λ model. read_and_then (λ cells. read_map (create name model n cells) (statements_in_trees at 4 ss (next_site n))) (set_in_tree (child at 3) s)) (name_in_tree (child at 2) m)) (name_in_tree (child at 1) x) (name-written (child at 1) x) (λ name h.
      chained IsName (IsCounted n) (λ model. read_and_then (λ cells. read_map (create name model n cells) (statements_in_trees at 4 ss (next_site n))) (set_in_tree (child at 3) s)) (name_in_tree (child at 2) m) (name-written (child at 2) m) (λ model k.
      chained AreSet (IsCounted n) (λ cells. read_map (create name model n cells) (statements_in_trees at 4 ss (next_site n))) (set_in_tree (child at 3) s) (set-again (child at 3) s) (λ cells i.
      mapped (AreCounted (next_site n)) (IsCounted n) (create name model n cells) (statements_in_trees at 4 ss (next_site n)) (statements-again at 4 ss (next_site n)) (λ b l. create_again n name model cells b h k i l))))
  create-again at PlainTrees.none n = tt
  create-again at (PlainTrees.more x PlainTrees.none) n = tt
  create-again at (PlainTrees.more x (PlainTrees.more m PlainTrees.none)) n = tt

  body-again : (at : List ℕ) (t : PlainTree) (n : ℕ) → IfGot (body_in_tree at t n) (AreCounted n)
  body-again at (PlainTree.atom a) n = tt
  body-again at (PlainTree.text x) n = tt
  body-again at (PlainTree.list ts) n = statements-again at 0 ts n

  pub statements-again : (at : List ℕ) (k : ℕ) (ts : PlainTrees) (n : ℕ) → IfGot (statements_in_trees at k ts n) (AreCounted n)
  statements-again at k PlainTrees.none n = λ to j. refl
  statements-again at k (PlainTrees.more t ts) n =
      chained (IsCounted n) (AreCounted n) (λ first. read_map (before_body first.statement) (statements_in_trees at (k + 1) ts first.next)) (statement_in_tree (child at k) t n) (statement-again (child at k) t n) (λ first h.
      mapped (AreCounted first.next) (AreCounted n) (before_body first.statement) (statements_in_trees at (k + 1) ts first.next) (statements-again at (k + 1) ts first.next) (λ rest l to j.
      step (λ u. read_map (before_body u.statement) (statements_in_trees to (j + 1) (trees_of_statements rest.statements) u.next)) (statement_in_tree (child to j) (tree_of_statement first.statement) n) first (h (child to j))
      ∙ mapping (before_body first.statement) (statements_in_trees to (j + 1) (trees_of_statements rest.statements) first.next) rest (l to (j + 1))))
