-- What the text of an application guarantees besides its shape: names and paths are valid, lists
-- are within their limits, and the sites of a view's `create` statements are 0, 1, 2 and so on.
use Rattle.std.specs.Prelude.{◌≡◌, ℕ, ◌<◌, ◌≤◌, ◌^◌, List, [], ◌∷◌, ◌++◌, length, IfSome, IsTrue, nat_lt, not}
use Rattle.std.specs.List.{All, range_with_len}
use Rattle.jac_value.specs.Names.{is_name}
use Rattle.jac_value.specs.Paths.{is_path}
use Rattle.jac_lang.specs.declared.field_kinds.Field.{Field}
use Rattle.jac_lang.specs.declared.field_kinds.KindName.{KindName}
use Rattle.jac_lang.specs.declared.field_kinds.KindName.TheVariants as kinds
use Rattle.jac_lang.specs.declared.queries.Binder.{Binder}
use Rattle.jac_lang.specs.declared.queries.Order.{Order}
use Rattle.jac_lang.specs.declared.queries.Order.TheVariants as orders
use Rattle.jac_lang.specs.Syntax.{Expression, Expressions, Question, Assigned, Statement, Statements, FieldGroup, Entity, Page, Application}

abbrev pub IsName : List ℕ → Type 0
IsName name = IsTrue (is_name name)

abbrev pub IsWrittenBinder : Binder → Type 0
IsWrittenBinder b = IsName b.name × IsName b.model

-- One or more binders, up to `most`.
abbrev pub AreBinders : ℕ → List Binder → Type 0
AreBinders most bs = (0 < length bs) × (length bs ≤ most) × All IsWrittenBinder bs

abbrev pub IsWrittenOrder : Order → Type 0
IsWrittenOrder orders.Key = Unit {0}
IsWrittenOrder (orders.Up x f) = IsName x × IsName f
IsWrittenOrder (orders.Down x f) = IsName x × IsName f

-- The query of a `count` or a `sum` has one binder.
abbrev mutual
  pub IsWrittenExpression : Expression → Type 0
  IsWrittenExpression (Expression.int i) = Unit {0}
  IsWrittenExpression (Expression.text t) = Unit {0}
  IsWrittenExpression (Expression.bool b) = Unit {0}
  IsWrittenExpression (Expression.none_of m) = IsName m
  IsWrittenExpression (Expression.name x) = IsName x
  IsWrittenExpression Expression.this = Unit {0}
  IsWrittenExpression Expression.viewer = Unit {0}
  IsWrittenExpression (Expression.get m f e) = IsName m × IsName f × IsWrittenExpression e
  IsWrittenExpression (Expression.live e) = IsWrittenExpression e
  IsWrittenExpression (Expression.two op a b) = IsWrittenExpression a × IsWrittenExpression b
  IsWrittenExpression (Expression.negated e) = IsWrittenExpression e
  IsWrittenExpression (Expression.cat es) = AreWrittenExpressions es
  IsWrittenExpression (Expression.str e) = IsWrittenExpression e
  IsWrittenExpression (Expression.pick c a b) = IsWrittenExpression c × IsWrittenExpression a
      × IsWrittenExpression b
  IsWrittenExpression (Expression.count bs c o) = AreBinders 1 bs × IsWrittenExpression c
      × IsWrittenOrder o
  IsWrittenExpression (Expression.sum bs c o e) = AreBinders 1 bs × IsWrittenExpression c
      × IsWrittenOrder o × IsWrittenExpression e
  IsWrittenExpression (Expression.any_of bs c o) = AreBinders 3 bs × IsWrittenExpression c
      × IsWrittenOrder o
  IsWrittenExpression (Expression.first bs c o) = AreBinders 3 bs × IsWrittenExpression c
      × IsWrittenOrder o

  pub AreWrittenExpressions : Expressions → Type 0
  AreWrittenExpressions Expressions.none = Unit {0}
  AreWrittenExpressions (Expressions.more e es) = IsWrittenExpression e × AreWrittenExpressions es

abbrev pub IsWrittenQuestion : ℕ → Question → Type 0
IsWrittenQuestion most q = AreBinders most q.binders × IsWrittenExpression q.cond
    × IsWrittenOrder q.order

abbrev pub IsWrittenAssigned : Assigned → Type 0
IsWrittenAssigned a = IsName a.field × IsWrittenExpression a.value

abbrev mutual
  pub IsWrittenStatement : Statement → Type 0
  IsWrittenStatement (Statement.put e) = IsWrittenExpression e
  IsWrittenStatement (Statement.escape e) = IsWrittenExpression e
  IsWrittenStatement (Statement.bind x e body) = IsName x × IsWrittenExpression e
      × AreWrittenStatements body
  IsWrittenStatement (Statement.assign x e) = IsName x × IsWrittenExpression e
  IsWrittenStatement (Statement.branch c a b) = IsWrittenExpression c × AreWrittenStatements a
      × AreWrittenStatements b
  IsWrittenStatement (Statement.each q body) = IsWrittenQuestion 3 q × AreWrittenStatements body
  IsWrittenStatement (Statement.create x m site cells body) = IsName x × IsName m
      × All IsWrittenAssigned cells × AreWrittenStatements body
  IsWrittenStatement (Statement.update m e cells) = IsName m × IsWrittenExpression e
      × All IsWrittenAssigned cells
  IsWrittenStatement (Statement.delete m e) = IsName m × IsWrittenExpression e
  IsWrittenStatement Statement.missing = Unit {0}
  IsWrittenStatement (Statement.redirect e) = IsWrittenExpression e
  IsWrittenStatement (Statement.template t) = Unit {0}
  IsWrittenStatement (Statement.block body) = AreWrittenStatements body

  pub AreWrittenStatements : Statements → Type 0
  AreWrittenStatements Statements.none = Unit {0}
  AreWrittenStatements (Statements.more s ss) = IsWrittenStatement s × AreWrittenStatements ss

-- The sites of the `create` statements, in the order of the text.
abbrev mutual
  pub sites_in : Statement → List ℕ
  sites_in (Statement.put e) = []
  sites_in (Statement.escape e) = []
  sites_in (Statement.bind x e body) = sites body
  sites_in (Statement.assign x e) = []
  sites_in (Statement.branch c a b) = sites a ++ sites b
  sites_in (Statement.each q body) = sites body
  sites_in (Statement.create x m site cells body) = site ∷ sites body
  sites_in (Statement.update m e cells) = []
  sites_in (Statement.delete m e) = []
  sites_in Statement.missing = []
  sites_in (Statement.redirect e) = []
  sites_in (Statement.template t) = []
  sites_in (Statement.block body) = sites body

  pub sites : Statements → List ℕ
  sites Statements.none = []
  sites (Statements.more s ss) = sites_in s ++ sites ss

abbrev pub IsWrittenKind : KindName → Type 0
IsWrittenKind kinds.Int = Unit {0}
IsWrittenKind kinds.Text = Unit {0}
IsWrittenKind kinds.Bool = Unit {0}
IsWrittenKind (kinds.Ref m) = IsName m

abbrev pub IsWrittenField : Field → Type 0
IsWrittenField f = IsName f.name × IsWrittenKind f.kind

-- A group guards one or more fields, or it hides the record.
pub record IsWrittenGroup (g : FieldGroup) : Type 0 where
  pub some : nat_lt 0 (length g.guards) ≡ not g.hides
  pub guards : All IsWrittenAssigned g.guards
  pub policy : IsWrittenExpression g.policy

pub record IsWrittenModel (m : Entity) : Type 0 where
  pub name : IsName m.name
  pub few_fields : length m.fields ≤ 32
  pub fields : All IsWrittenField m.fields
  pub few_groups : length m.groups ≤ 8
  pub groups : All IsWrittenGroup m.groups

-- The sites of a view are 0, 1, 2 and so on. There are at most 64.
pub record IsWrittenView (v : Page) : Type 0 where
  pub path : IsTrue (is_path v.path)
  pub params : All IsWrittenField v.params
  pub body : AreWrittenStatements v.body
  pub few_sites : length (sites v.body) ≤ 64
  pub in_order : sites v.body ≡ range_with_len 0 (length (sites v.body))

pub record IsWritten (a : Application) : Type 0 where
  pub viewer : IfSome a.viewer IsName
  pub few_models : length a.models ≤ 64
  pub models : All IsWrittenModel a.models
  pub few_views : length a.views < 2 ^ 32
  pub views : All IsWrittenView a.views
