-- How trees represent statements.
use Rattle.std.specs.Prelude.{ℕ, ◌+◌, min, if◌then◌else◌, Option, Some, None, List, codes}
use Rattle.std.specs.Str.{bytes_eq}
use Rattle.jac_lang.specs.Syntax.{Expression, Question, Assigned, Statement, Statements}
use Rattle.jac_tree.specs.Plain.{PlainTree, PlainTrees, tail_of}
use Rattle.jac_forms.specs.Places.{child}
use Rattle.jac_forms.specs.Reads.{Read, got, wrong, read_map, read_and_then, read_behind}
use Rattle.jac_forms.specs.Names.{name_in_tree, each_in_trees}
use Rattle.jac_forms.specs.Expressions.{expression_in_tree, one_in_trees, question_in_tree}
use Rattle.jac_forms.specs.declared.fault.Want.{Want}
use Rattle.jac_forms.specs.declared.fault.Want.TheVariants as wants
use Rattle.jac_forms.specs.declared.steps.Single.{Single}
use Rattle.jac_forms.specs.declared.steps.Single.TheVariants as singles
use Rattle.jac_forms.specs.declared.steps.Step.{Step}
use Rattle.jac_forms.specs.declared.steps.Step.TheVariants as steps

-- The statement that begins with this word and has no statements inside.
abbrev pub single_of : List ℕ → Option Single
single_of a =
    if bytes_eq a (codes "put") then Some singles.Put else
    if bytes_eq a (codes "esc") then Some singles.Esc else
    if bytes_eq a (codes "assign") then Some singles.Assign else
    if bytes_eq a (codes "update") then Some singles.Update else
    if bytes_eq a (codes "delete") then Some singles.Delete else
    if bytes_eq a (codes "missing") then Some singles.Missing else
    if bytes_eq a (codes "redirect") then Some singles.Redirect else
    if bytes_eq a (codes "template") then Some singles.Template else None

-- The statement that begins with this word and has statements inside.
abbrev pub step_around : List ℕ → Option Step
step_around a =
    if bytes_eq a (codes "let") then Some steps.Let else
    if bytes_eq a (codes "if") then Some steps.If else
    if bytes_eq a (codes "for") then Some steps.For else
    if bytes_eq a (codes "create") then Some steps.Create else None

abbrev pub step_or_single : List ℕ → Option Single → Option Step
step_or_single a (Some single) = Some (steps.Single single)
step_or_single a None = step_around a

abbrev pub step_of_word : List ℕ → Option Step
step_of_word a = step_or_single a (single_of a)

-- The kind of statement that a list with this head represents.
abbrev pub step_of : PlainTree → Option Step
step_of (PlainTree.atom a) = step_of_word a
step_of t = None

abbrev pub assigned_field : List ℕ → Expression → Assigned
assigned_field field value = record { field = field; value = value }

-- `(NAME expression)`. Anything else is a fault with `want`.
abbrev pub assigned_in_tree : Want → List ℕ → PlainTree → Read Assigned
assigned_in_tree want at (PlainTree.list (PlainTrees.more f (PlainTrees.more e PlainTrees.none))) =
    read_and_then (λ field. read_map (assigned_field field) (expression_in_tree (child at 1) e))
    (name_in_tree (child at 0) f)
assigned_in_tree want at t = wrong want at

-- `(set (NAME expression) ..)`.
abbrev pub set_in_tree : List ℕ → PlainTree → Read (List Assigned)
set_in_tree at t = read_behind wants.Set at (each_in_trees (assigned_in_tree wants.Cell) at 1)
    (tail_of (codes "set") t)

-- A name and an expression.
abbrev pub assign_in_trees : List ℕ → PlainTrees → Read Statement
assign_in_trees at (PlainTrees.more x (PlainTrees.more e PlainTrees.none)) =
    read_and_then (λ name. read_map (Statement.assign name) (expression_in_tree (child at 2) e))
    (name_in_tree (child at 1) x)
assign_in_trees at ts = wrong wants.Statement at

-- A model, a reference and a set.
abbrev pub update_in_trees : List ℕ → PlainTrees → Read Statement
update_in_trees at (PlainTrees.more m (PlainTrees.more e (PlainTrees.more s PlainTrees.none))) =
    read_and_then (λ model. read_and_then (λ target. read_map (Statement.update model target)
    (set_in_tree (child at 3) s)) (expression_in_tree (child at 2) e))
    (name_in_tree (child at 1) m)
update_in_trees at ts = wrong wants.Statement at

-- A model and a reference.
abbrev pub delete_in_trees : List ℕ → PlainTrees → Read Statement
delete_in_trees at (PlainTrees.more m (PlainTrees.more e PlainTrees.none)) =
    read_and_then (λ model. read_map (Statement.delete model) (expression_in_tree (child at 2) e))
    (name_in_tree (child at 1) m)
delete_in_trees at ts = wrong wants.Statement at

abbrev pub missing_in_trees : List ℕ → PlainTrees → Read Statement
missing_in_trees at PlainTrees.none = got Statement.missing
missing_in_trees at ts = wrong wants.Statement at

-- A text.
abbrev pub template_in_trees : List ℕ → PlainTrees → Read Statement
template_in_trees at (PlainTrees.more (PlainTree.text x) PlainTrees.none) =
    got (Statement.template x)
template_in_trees at ts = wrong wants.Statement at

abbrev pub single_in_trees : List ℕ → PlainTrees → Single → Read Statement
single_in_trees at ts singles.Put = read_map Statement.put (one_in_trees wants.Statement at ts)
single_in_trees at ts singles.Esc = read_map Statement.escape (one_in_trees wants.Statement at ts)
single_in_trees at ts singles.Assign = assign_in_trees at ts
single_in_trees at ts singles.Update = update_in_trees at ts
single_in_trees at ts singles.Delete = delete_in_trees at ts
single_in_trees at ts singles.Missing = missing_in_trees at ts
single_in_trees at ts singles.Redirect = read_map Statement.redirect (one_in_trees wants.Statement
    at ts)
single_in_trees at ts singles.Template = template_in_trees at ts

-- A statement, and the next site after those of its `create` statements.
pub record Numbered : Type 0 where
  pub statement : Statement
  pub next : ℕ

-- The same for statements.
pub record Body : Type 0 where
  pub statements : Statements
  pub next : ℕ

-- The site after this one. It is at most 65, because a view has at most 64 sites.
abbrev pub next_site : ℕ → ℕ
next_site n = min (n + 1) 65

abbrev pub numbered_statement : ℕ → Statement → Numbered
numbered_statement n s = record { statement = s; next = n }

abbrev pub body : ℕ → Statements → Body
body n ss = record { statements = ss; next = n }

abbrev pub bind_statement : List ℕ → Expression → Body → Numbered
bind_statement x e b = numbered_statement b.next (Statement.bind x e b.statements)

abbrev pub branch : Expression → Body → Body → Numbered
branch c a b = numbered_statement b.next (Statement.branch c a.statements b.statements)

abbrev pub each : Question → Body → Numbered
each q b = numbered_statement b.next (Statement.each q b.statements)

abbrev pub create : List ℕ → List ℕ → ℕ → List Assigned → Body → Numbered
create x m n cells b = numbered_statement b.next (Statement.create x m n cells b.statements)

abbrev pub before_body : Statement → Body → Body
before_body s b = body b.next (Statements.more s b.statements)

-- The trees after the head, read in each way in which some statement takes them.
pub record StatementOperands : Type 0 where
  pub single : Single → Read Statement
  pub bind : ℕ → Read Numbered
  pub branch : ℕ → Read Numbered
  pub each : ℕ → Read Numbered
  pub create : ℕ → Read Numbered

-- The statement of this kind. Its sites are numbered from `n`.
abbrev pub statement_of_step : List ℕ → Option Step → StatementOperands → ℕ → Read Numbered
statement_of_step at None operands n = wrong wants.Statement at
statement_of_step at (Some (steps.Single single)) operands n = read_map (numbered_statement n)
    (operands.single single)
statement_of_step at (Some steps.Let) operands n = operands.bind n
statement_of_step at (Some steps.If) operands n = operands.branch n
statement_of_step at (Some steps.For) operands n = operands.each n
statement_of_step at (Some steps.Create) operands n = operands.create n

-- A statement, and statements. Their sites are numbered from `n` in the order of the text.
abbrev mutual
  pub statement_in_tree : List ℕ → PlainTree → ℕ → Read Numbered
  statement_in_tree at (PlainTree.atom a) n = wrong wants.Statement at
  statement_in_tree at (PlainTree.text x) n = wrong wants.Statement at
  statement_in_tree at (PlainTree.list ts) n = statement_in_list at ts n

  -- A list, which begins with the word of its statement.
  pub statement_in_list : List ℕ → PlainTrees → ℕ → Read Numbered
  statement_in_list at PlainTrees.none n = wrong wants.Statement at
  statement_in_list at (PlainTrees.more head ts) n =
      statement_of_step at (step_of head) (record {
        single = single_in_trees at ts;
        bind = bind_in_trees at ts;
        branch = branch_in_trees at ts;
        each = each_of_query at ts;
        create = create_in_trees at ts;
      }) n

  -- A name, an expression and statements.
  pub bind_in_trees : List ℕ → PlainTrees → ℕ → Read Numbered
  bind_in_trees at (PlainTrees.more x (PlainTrees.more e ss)) n =
      read_and_then (λ name. read_and_then (λ value. read_map (bind_statement name value)
      (statements_in_trees at 3 ss n)) (expression_in_tree (child at 2) e))
      (name_in_tree (child at 1) x)
  bind_in_trees at ts n = wrong wants.Statement at

  -- A condition and two lists of statements.
  pub branch_in_trees : List ℕ → PlainTrees → ℕ → Read Numbered
  branch_in_trees at (PlainTrees.more c (PlainTrees.more a (PlainTrees.more b PlainTrees.none))) n =
      read_and_then (λ cond. read_and_then (λ first. read_map (branch cond first)
      (body_in_tree (child at 3) b first.next)) (body_in_tree (child at 2) a n))
      (expression_in_tree (child at 1) c)
  branch_in_trees at ts n = wrong wants.Statement at

  -- A query and statements.
  pub each_of_query : List ℕ → PlainTrees → ℕ → Read Numbered
  each_of_query at (PlainTrees.more q ss) n =
      read_and_then (λ asked. read_map (each asked) (statements_in_trees at 2 ss n))
      (question_in_tree 3 (child at 1) q)
  each_of_query at PlainTrees.none n = wrong wants.Statement at

  -- A name, a model, a set and statements. Its own site comes before theirs.
  pub create_in_trees : List ℕ → PlainTrees → ℕ → Read Numbered
  create_in_trees at (PlainTrees.more x (PlainTrees.more m (PlainTrees.more s ss))) n =
      read_and_then (λ name. read_and_then
      (λ model. read_and_then (λ cells. read_map (create name model n cells)
      (statements_in_trees at 4 ss (next_site n))) (set_in_tree (child at 3) s))
      (name_in_tree (child at 2) m)) (name_in_tree (child at 1) x)
  create_in_trees at ts n = wrong wants.Statement at

  -- A list of statements.
  pub body_in_tree : List ℕ → PlainTree → ℕ → Read Body
  body_in_tree at (PlainTree.atom a) n = wrong wants.Body at
  body_in_tree at (PlainTree.text x) n = wrong wants.Body at
  body_in_tree at (PlainTree.list ts) n = statements_in_trees at 0 ts n

  -- Statements. The first is child `k`.
  pub statements_in_trees : List ℕ → ℕ → PlainTrees → ℕ → Read Body
  statements_in_trees at k PlainTrees.none n = got (body n Statements.none)
  statements_in_trees at k (PlainTrees.more t ts) n =
      read_and_then (λ first. read_map (before_body first.statement) (statements_in_trees at (k + 1)
      ts first.next)) (statement_in_tree (child at k) t n)

abbrev pub statement_operands : List ℕ → PlainTrees → StatementOperands
statement_operands at ts = record {
  single = single_in_trees at ts;
  bind = bind_in_trees at ts;
  branch = branch_in_trees at ts;
  each = each_of_query at ts;
  create = create_in_trees at ts;
}

-- The number of `create` statements.
abbrev mutual
  pub creates_in : Statement → ℕ
  creates_in (Statement.put e) = 0
  creates_in (Statement.escape e) = 0
  creates_in (Statement.bind x e body) = creates body
  creates_in (Statement.assign x e) = 0
  creates_in (Statement.branch c a b) = creates a + creates b
  creates_in (Statement.each q body) = creates body
  creates_in (Statement.create x m site cells body) = creates body + 1
  creates_in (Statement.update m e cells) = 0
  creates_in (Statement.delete m e) = 0
  creates_in Statement.missing = 0
  creates_in (Statement.redirect e) = 0
  creates_in (Statement.template t) = 0
  creates_in (Statement.block body) = creates body

  pub creates : Statements → ℕ
  creates Statements.none = 0
  creates (Statements.more s ss) = creates_in s + creates ss
