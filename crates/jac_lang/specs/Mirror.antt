-- From the types of the program to the plain data that they stand for.
use Rattle.std.specs.Prelude.{List, [], ◌∷◌}
use Rattle.jac_lang.specs.declared.application.App.{App}
use Rattle.jac_lang.specs.declared.assigned.Public.{Public}
use Rattle.jac_lang.specs.declared.assigned.Publics.{Publics}
use Rattle.jac_lang.specs.declared.assigned.Publics.TheVariants as publics
use Rattle.jac_lang.specs.declared.expressions.Expr.{Expr}
use Rattle.jac_lang.specs.declared.expressions.Expr.TheVariants as expr
use Rattle.jac_lang.specs.declared.expressions.Exprs.{Exprs}
use Rattle.jac_lang.specs.declared.expressions.Exprs.TheVariants as exprs
use Rattle.jac_lang.specs.declared.expressions.Query.{Query}
use Rattle.jac_lang.specs.declared.pages.View.{View}
use Rattle.jac_lang.specs.declared.queries.Binder.{Binder}
use Rattle.jac_lang.specs.declared.queries.Binders.{Binders}
use Rattle.jac_lang.specs.declared.queries.Binders.TheVariants as binders
use Rattle.jac_lang.specs.declared.schema.Group.{Group}
use Rattle.jac_lang.specs.declared.schema.ModelDef.{ModelDef}
use Rattle.jac_lang.specs.declared.statements.Stmt.{Stmt}
use Rattle.jac_lang.specs.declared.statements.Stmt.TheVariants as stmt
use Rattle.jac_lang.specs.declared.statements.Stmts.{Stmts}
use Rattle.jac_lang.specs.declared.statements.Stmts.TheVariants as stmts
use Rattle.jac_lang.specs.Syntax.{Expression, Expressions, Question, Assigned, Statement, Statements, FieldGroup, Entity, Page, Application}

abbrev pub binders_of : Binders → List Binder
binders_of binders.End = []
binders_of (binders.More' b p rest) = b ∷ binders_of rest

abbrev mutual
  pub expression_of : Expr → Expression
  expression_of (expr.Int i) = Expression.int i
  expression_of (expr.Text t) = Expression.text t
  expression_of (expr.Bool b) = Expression.bool b
  expression_of (expr.NoneOf m) = Expression.none_of m
  expression_of (expr.Name x) = Expression.name x
  expression_of expr.This = Expression.this
  expression_of expr.Viewer = Expression.viewer
  expression_of (expr.Get' m f p e) = Expression.get m f (expression_of e)
  expression_of (expr.Live' p e) = Expression.live (expression_of e)
  expression_of (expr.Two' o p a q b) = Expression.two o (expression_of a) (expression_of b)
  expression_of (expr.Not' p e) = Expression.negated (expression_of e)
  expression_of (expr.Cat es) = Expression.cat (expressions_of es)
  expression_of (expr.Str' p e) = Expression.str (expression_of e)
  expression_of (expr.Pick' p c q a r b) = Expression.pick (expression_of c) (expression_of a)
      (expression_of b)
  expression_of (expr.Count' p bs c o) = Expression.count (binders_of bs) (expression_of c) o
  expression_of (expr.Sum' p bs c o q e) = Expression.sum (binders_of bs) (expression_of c) o
      (expression_of e)
  expression_of (expr.AnyOf' p bs c o) = Expression.any_of (binders_of bs) (expression_of c) o
  expression_of (expr.First' p bs c o) = Expression.first (binders_of bs) (expression_of c) o

  pub expressions_of : Exprs → Expressions
  expressions_of exprs.End = Expressions.none
  expressions_of (exprs.More' p e q es) = Expressions.more (expression_of e) (expressions_of es)

abbrev pub question_of : Query → Question
question_of q = record {
  binders = binders_of q.binders;
  cond = expression_of q.cond;
  order = q.order;
}

abbrev pub one_assigned_of : Public → Assigned
one_assigned_of p = record { field = p.field; value = expression_of p.value }

abbrev pub assigned_of : Publics → List Assigned
assigned_of publics.End = []
assigned_of (publics.More' b p rest) = one_assigned_of b ∷ assigned_of rest

abbrev mutual
  pub statement_of : Stmt → Statement
  statement_of (stmt.Put e) = Statement.put (expression_of e)
  statement_of (stmt.Esc e) = Statement.escape (expression_of e)
  statement_of (stmt.Let x e body) = Statement.bind x (expression_of e) (statements_of body)
  statement_of (stmt.Assign x e) = Statement.assign x (expression_of e)
  statement_of (stmt.If c a b) = Statement.branch (expression_of c) (statements_of a)
      (statements_of b)
  statement_of (stmt.For q body) = Statement.each (question_of q) (statements_of body)
  statement_of (stmt.Create x m s cells body) = Statement.create x m s (assigned_of cells)
      (statements_of body)
  statement_of (stmt.Update m e cells) = Statement.update m (expression_of e) (assigned_of cells)
  statement_of (stmt.Delete m e) = Statement.delete m (expression_of e)
  statement_of stmt.Missing = Statement.missing
  statement_of (stmt.Redirect e) = Statement.redirect (expression_of e)
  statement_of (stmt.Template t) = Statement.template t
  statement_of (stmt.Block body) = Statement.block (statements_of body)

  pub statements_of : Stmts → Statements
  statements_of stmts.End = Statements.none
  statements_of (stmts.More' p s q ss) = Statements.more (statement_of s) (statements_of ss)

abbrev pub field_group_of : Group → FieldGroup
field_group_of g = record {
  guards = assigned_of g.guards;
  hides = g.hides;
  policy = expression_of g.policy;
}

abbrev pub groups_of : List Group → List FieldGroup
groups_of [] = []
groups_of (g ∷ gs) = field_group_of g ∷ groups_of gs

abbrev pub entity_of : ModelDef → Entity
entity_of m = record {
  name = m.name;
  nested = m.nested;
  fields = m.fields;
  groups = groups_of m.groups;
}

abbrev pub entities_of : List ModelDef → List Entity
entities_of [] = []
entities_of (m ∷ ms) = entity_of m ∷ entities_of ms

abbrev pub page_of_view : View → Page
page_of_view v = record {
  method = v.method;
  path = v.path;
  params = v.params;
  body = statements_of v.body;
}

abbrev pub pages_of : List View → List Page
pages_of [] = []
pages_of (v ∷ vs) = page_of_view v ∷ pages_of vs

abbrev pub application_of : App → Application
application_of a = record {
  viewer = a.viewer;
  models = entities_of a.models;
  views = pages_of a.views;
}
