-- Statements that are read are written ones, and the sites of their `create` statements are
-- numbered.
use Rattle.std.proofs.Common.{◌≡◌, ℕ, ◌+◌, refl, Option, Some, None, List, [], length}
use Rattle.std.specs.Prelude.{codes}
use Rattle.std.specs.List.{All}
use Rattle.jac_lang.specs.Syntax.{Statement}
use Rattle.jac_lang.specs.Written.{IsName, IsWrittenExpression, IsWrittenQuestion, IsWrittenAssigned, IsWrittenStatement, AreWrittenStatements, sites_in, sites}
use Rattle.jac_tree.specs.Plain.{PlainTree, PlainTrees, count, tail_of}
use Rattle.jac_forms.specs.Places.{child}
use Rattle.jac_forms.specs.Reads.{read_map, read_and_then}
use Rattle.jac_forms.specs.declared.fault.Want.{Want}
use Rattle.jac_forms.specs.declared.fault.Want.TheVariants as wants
use Rattle.jac_forms.specs.Names.{name_in_tree, each_in_trees}
use Rattle.jac_forms.specs.Expressions.{expression_in_tree, one_in_trees, question_in_tree}
use Rattle.jac_forms.specs.Statements.{assigned_field, assigned_in_tree, set_in_tree, assign_in_trees, update_in_trees, delete_in_trees, missing_in_trees, template_in_trees, single_in_trees, Numbered, Body, next_site, numbered_statement, bind_statement, branch, each, create, before_body, StatementOperands, step_of, statement_of_step, statement_in_tree, statement_in_list, bind_in_trees, branch_in_trees, each_of_query, create_in_trees, body_in_tree, statements_in_trees, statement_operands}
use Rattle.jac_forms.specs.declared.steps.Single.{Single}
use Rattle.jac_forms.specs.declared.steps.Single.TheVariants as singles
use Rattle.jac_forms.specs.declared.steps.Step.{Step}
use Rattle.jac_forms.specs.declared.steps.Step.TheVariants as steps
use Rattle.jac_forms.proofs.Chains.{IfGot, after, chained, mapped, each as each_read, weaker}
use Rattle.jac_forms.proofs.Spans.{Spans, spans-none, spans-append, spans-create}
use Rattle.jac_forms.proofs.WrittenExpressions.{name-written, expression-written, one-written, from-written}

pub assigned-written : (want : Want) (at : List ℕ) (t : PlainTree) → IfGot (assigned_in_tree want at t) IsWrittenAssigned
assigned-written want at (PlainTree.list (PlainTrees.more f (PlainTrees.more e PlainTrees.none))) =
    chained IsName IsWrittenAssigned (λ field. read_map (assigned_field field) (expression_in_tree (child at 1) e)) (name_in_tree (child at 0) f) (name-written (child at 0) f) (λ field h.
    mapped IsWrittenExpression IsWrittenAssigned (assigned_field field) (expression_in_tree (child at 1) e) (expression-written (child at 1) e) (λ value k. (h, k)))
assigned-written want at t = tt

pub all-assigned : (want : Want) (at : List ℕ) (ts : PlainTrees) → IfGot (each_in_trees (assigned_in_tree want) at 1 ts) (λ cells. All IsWrittenAssigned cells × (length cells ≡ count ts))
all-assigned want at ts = each_read IsWrittenAssigned (assigned_in_tree want) (assigned-written want) at 1 ts

set-written : (at : List ℕ) (t : PlainTree) → IfGot (set_in_tree at t) (All IsWrittenAssigned)
set-written at t =
    after (All IsWrittenAssigned) wants.Set at (each_in_trees (assigned_in_tree wants.Cell) at 1) (tail_of (codes "set") t) (λ ts.
    weaker (λ cells. All IsWrittenAssigned cells × (length cells ≡ count ts)) (All IsWrittenAssigned) (each_in_trees (assigned_in_tree wants.Cell) at 1 ts) (all-assigned wants.Cell at ts) (λ cells h. h.0))

-- A statement without sites.
abbrev pub IsPlainStep : Statement → Type 0
IsPlainStep s = IsWrittenStatement s × (sites_in s ≡ [])

assign-written : (at : List ℕ) (ts : PlainTrees) → IfGot (assign_in_trees at ts) IsPlainStep
assign-written at (PlainTrees.more x (PlainTrees.more e PlainTrees.none)) =
    chained IsName IsPlainStep (λ name. read_map (Statement.assign name) (expression_in_tree (child at 2) e)) (name_in_tree (child at 1) x) (name-written (child at 1) x) (λ name h.
    mapped IsWrittenExpression IsPlainStep (Statement.assign name) (expression_in_tree (child at 2) e) (expression-written (child at 2) e) (λ value k. ((h, k), refl)))
assign-written at ts = tt

update-written : (at : List ℕ) (ts : PlainTrees) → IfGot (update_in_trees at ts) IsPlainStep
update-written at (PlainTrees.more m (PlainTrees.more e (PlainTrees.more s PlainTrees.none))) =
    chained IsName IsPlainStep (λ model. read_and_then (λ target. read_map (Statement.update model target) (set_in_tree (child at 3) s)) (expression_in_tree (child at 2) e)) (name_in_tree (child at 1) m) (name-written (child at 1) m) (λ model h.
    chained IsWrittenExpression IsPlainStep (λ target. read_map (Statement.update model target) (set_in_tree (child at 3) s)) (expression_in_tree (child at 2) e) (expression-written (child at 2) e) (λ target k.
    mapped (All IsWrittenAssigned) IsPlainStep (Statement.update model target) (set_in_tree (child at 3) s) (set-written (child at 3) s) (λ cells l. ((h, k, l), refl))))
update-written at ts = tt

delete-written : (at : List ℕ) (ts : PlainTrees) → IfGot (delete_in_trees at ts) IsPlainStep
delete-written at (PlainTrees.more m (PlainTrees.more e PlainTrees.none)) =
    chained IsName IsPlainStep (λ model. read_map (Statement.delete model) (expression_in_tree (child at 2) e)) (name_in_tree (child at 1) m) (name-written (child at 1) m) (λ model h.
    mapped IsWrittenExpression IsPlainStep (Statement.delete model) (expression_in_tree (child at 2) e) (expression-written (child at 2) e) (λ target k. ((h, k), refl)))
delete-written at ts = tt

missing-written : (at : List ℕ) (ts : PlainTrees) → IfGot (missing_in_trees at ts) IsPlainStep
missing-written at PlainTrees.none = (tt, refl)
missing-written at (PlainTrees.more t ts) = tt

template-written : (at : List ℕ) (ts : PlainTrees) → IfGot (template_in_trees at ts) IsPlainStep
template-written at (PlainTrees.more (PlainTree.text x) PlainTrees.none) = (tt, refl)
template-written at ts = tt

single-written : (at : List ℕ) (ts : PlainTrees) (single : Single) → IfGot (single_in_trees at ts single) IsPlainStep
single-written at ts singles.Put = mapped IsWrittenExpression IsPlainStep Statement.put (one_in_trees wants.Statement at ts) (one-written wants.Statement at ts) (λ e h. (h, refl))
single-written at ts singles.Esc = mapped IsWrittenExpression IsPlainStep Statement.escape (one_in_trees wants.Statement at ts) (one-written wants.Statement at ts) (λ e h. (h, refl))
single-written at ts singles.Assign = assign-written at ts
single-written at ts singles.Update = update-written at ts
single-written at ts singles.Delete = delete-written at ts
single-written at ts singles.Missing = missing-written at ts
single-written at ts singles.Redirect = mapped IsWrittenExpression IsPlainStep Statement.redirect (one_in_trees wants.Statement at ts) (one-written wants.Statement at ts) (λ e h. (h, refl))
single-written at ts singles.Template = template-written at ts

-- The statement is a written one, and its sites are numbered from `n`.
abbrev pub IsNumbered : ℕ → Numbered → Type 0
IsNumbered n s = IsWrittenStatement s.statement × Spans n s.next (sites_in s.statement)

abbrev pub AreNumbered : ℕ → Body → Type 0
AreNumbered n b = AreWrittenStatements b.statements × Spans n b.next (sites b.statements)

-- The trees after the head, read in each way in which some statement takes them.
record AreOperands (operands : StatementOperands) : Type 0 where
  single : (one : Single) → IfGot (operands.single one) IsPlainStep
  bind : (n : ℕ) → IfGot (operands.bind n) (IsNumbered n)
  branch : (n : ℕ) → IfGot (operands.branch n) (IsNumbered n)
  each : (n : ℕ) → IfGot (operands.each n) (IsNumbered n)
  create : (n : ℕ) → IfGot (operands.create n) (IsNumbered n)

step-written : (at : List ℕ) (step : Option Step) (operands : StatementOperands) (n : ℕ) → AreOperands operands → IfGot (statement_of_step at step operands n) (IsNumbered n)
step-written at None operands n h = tt
step-written at (Some (steps.Single single)) operands n h =
    mapped IsPlainStep (IsNumbered n) (numbered_statement n) (operands.single single) (h.single single) (λ s k. (k.0, spans-none n (sites_in s) k.1))
step-written at (Some steps.Let) operands n h = h.bind n
step-written at (Some steps.If) operands n h = h.branch n
step-written at (Some steps.For) operands n h = h.each n
step-written at (Some steps.Create) operands n h = h.create n

mutual
  pub statement-written : (at : List ℕ) (t : PlainTree) (n : ℕ) → IfGot (statement_in_tree at t n) (IsNumbered n)
  statement-written at (PlainTree.atom a) n = tt
  statement-written at (PlainTree.text x) n = tt
  statement-written at (PlainTree.list ts) n = list-written at ts n

  list-written : (at : List ℕ) (ts : PlainTrees) (n : ℕ) → IfGot (statement_in_list at ts n) (IsNumbered n)
  list-written at PlainTrees.none n = tt
  list-written at (PlainTrees.more head ts) n =
      step-written at (step_of head) (statement_operands at ts) n (record {
        single = single-written at ts;
        bind = bind-written at ts;
        branch = branch-written at ts;
        each = each-written at ts;
        create = create-written at ts;
      })

  bind-written : (at : List ℕ) (ts : PlainTrees) (n : ℕ) → IfGot (bind_in_trees at ts n) (IsNumbered n)
  bind-written at (PlainTrees.more x (PlainTrees.more e ss)) n =
      chained IsName (IsNumbered n) (λ name. read_and_then (λ value. read_map (bind_statement name value) (statements_in_trees at 3 ss n)) (expression_in_tree (child at 2) e)) (name_in_tree (child at 1) x) (name-written (child at 1) x) (λ name h.
      chained IsWrittenExpression (IsNumbered n) (λ value. read_map (bind_statement name value) (statements_in_trees at 3 ss n)) (expression_in_tree (child at 2) e) (expression-written (child at 2) e) (λ value k.
      mapped (AreNumbered n) (IsNumbered n) (bind_statement name value) (statements_in_trees at 3 ss n) (statements-written at 3 ss n) (λ body l. ((h, k, l.0), l.1))))
  bind-written at PlainTrees.none n = tt
  bind-written at (PlainTrees.more x PlainTrees.none) n = tt

  branch-written : (at : List ℕ) (ts : PlainTrees) (n : ℕ) → IfGot (branch_in_trees at ts n) (IsNumbered n)
  branch-written at (PlainTrees.more c (PlainTrees.more a (PlainTrees.more b PlainTrees.none))) n =
      chained IsWrittenExpression (IsNumbered n) (λ cond. read_and_then (λ first. read_map (branch cond first) (body_in_tree (child at 3) b first.next)) (body_in_tree (child at 2) a n)) (expression_in_tree (child at 1) c) (expression-written (child at 1) c) (λ cond h.
      chained (AreNumbered n) (IsNumbered n) (λ first. read_map (branch cond first) (body_in_tree (child at 3) b first.next)) (body_in_tree (child at 2) a n) (body-written (child at 2) a n) (λ first k.
      mapped (AreNumbered first.next) (IsNumbered n) (branch cond first) (body_in_tree (child at 3) b first.next) (body-written (child at 3) b first.next) (λ second l.
      ((h, k.0, l.0), spans-append n first.next second.next (sites first.statements) (sites second.statements) k.1 l.1))))
  branch-written at PlainTrees.none n = tt
  branch-written at (PlainTrees.more c PlainTrees.none) n = tt
  branch-written at (PlainTrees.more c (PlainTrees.more a PlainTrees.none)) n = tt
  branch-written at (PlainTrees.more c (PlainTrees.more a (PlainTrees.more b (PlainTrees.more d ts)))) n = tt

  each-written : (at : List ℕ) (ts : PlainTrees) (n : ℕ) → IfGot (each_of_query at ts n) (IsNumbered n)
  each-written at (PlainTrees.more q ss) n =
      chained (IsWrittenQuestion 3) (IsNumbered n) (λ asked. read_map (each asked) (statements_in_trees at 2 ss n)) (question_in_tree 3 (child at 1) q) (from-written 3 (child at 1) q) (λ asked h.
      mapped (AreNumbered n) (IsNumbered n) (each asked) (statements_in_trees at 2 ss n) (statements-written at 2 ss n) (λ body l. ((h, l.0), l.1)))
  each-written at PlainTrees.none n = tt

  create-written : (at : List ℕ) (ts : PlainTrees) (n : ℕ) → IfGot (create_in_trees at ts n) (IsNumbered n)
  create-written at (PlainTrees.more x (PlainTrees.more m (PlainTrees.more s ss))) n =
      chained IsName (IsNumbered n) (λ name. read_and_then (λ model. read_and_then (λ cells. read_map (create name model n cells) (statements_in_trees at 4 ss (next_site n))) (set_in_tree (child at 3) s)) (name_in_tree (child at 2) m)) (name_in_tree (child at 1) x) (name-written (child at 1) x) (λ name h.
      chained IsName (IsNumbered n) (λ model. read_and_then (λ cells. read_map (create name model n cells) (statements_in_trees at 4 ss (next_site n))) (set_in_tree (child at 3) s)) (name_in_tree (child at 2) m) (name-written (child at 2) m) (λ model k.
      chained (All IsWrittenAssigned) (IsNumbered n) (λ cells. read_map (create name model n cells) (statements_in_trees at 4 ss (next_site n))) (set_in_tree (child at 3) s) (set-written (child at 3) s) (λ cells i.
      mapped (AreNumbered (next_site n)) (IsNumbered n) (create name model n cells) (statements_in_trees at 4 ss (next_site n)) (statements-written at 4 ss (next_site n)) (λ body l.
      ((h, k, i, l.0), spans-create n body.next (sites body.statements) l.1)))))
  create-written at PlainTrees.none n = tt
  create-written at (PlainTrees.more x PlainTrees.none) n = tt
  create-written at (PlainTrees.more x (PlainTrees.more m PlainTrees.none)) n = tt

  body-written : (at : List ℕ) (t : PlainTree) (n : ℕ) → IfGot (body_in_tree at t n) (AreNumbered n)
  body-written at (PlainTree.atom a) n = tt
  body-written at (PlainTree.text x) n = tt
  body-written at (PlainTree.list ts) n = statements-written at 0 ts n

  pub statements-written : (at : List ℕ) (k : ℕ) (ts : PlainTrees) (n : ℕ) → IfGot (statements_in_trees at k ts n) (AreNumbered n)
  statements-written at k PlainTrees.none n = (tt, spans-none n [] refl)
  statements-written at k (PlainTrees.more t ts) n =
      chained (IsNumbered n) (AreNumbered n) (λ first. read_map (before_body first.statement) (statements_in_trees at (k + 1) ts first.next)) (statement_in_tree (child at k) t n) (statement-written (child at k) t n) (λ first h.
      mapped (AreNumbered first.next) (AreNumbered n) (before_body first.statement) (statements_in_trees at (k + 1) ts first.next) (statements-written at (k + 1) ts first.next) (λ rest l.
      ((h.0, l.0), spans-append n first.next rest.next (sites_in first.statement) (sites rest.statements) h.1 l.1)))
