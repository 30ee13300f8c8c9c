-- The trees that applications, expressions and queries are written as.
use Rattle.std.specs.Prelude.{◌≡◌, ℕ, Bool, true, false, Option, Some, None, List, [], ◌∷◌, codes}
use Rattle.std.specs.Fmt.{signed_decimal}
use Rattle.jac_lang.specs.Syntax.{Expression, Expressions, Question, Assigned, Statement, Statements, FieldGroup, Entity, Page, Application}
use Rattle.jac_lang.specs.declared.expressions.Op.{Op}
use Rattle.jac_lang.specs.declared.expressions.Op.TheVariants as ops
use Rattle.jac_lang.specs.declared.queries.Binder.{Binder}
use Rattle.jac_lang.specs.declared.queries.Order.{Order}
use Rattle.jac_lang.specs.declared.queries.Order.TheVariants as orders
use Rattle.jac_lang.specs.declared.field_kinds.Field.{Field}
use Rattle.jac_lang.specs.declared.field_kinds.KindName.{KindName}
use Rattle.jac_lang.specs.declared.field_kinds.KindName.TheVariants as kinds
use Rattle.jac_lang.specs.declared.pages.Verb.{Verb}
use Rattle.jac_lang.specs.declared.pages.Verb.TheVariants as verbs
use Rattle.jac_tree.specs.Plain.{PlainTree, PlainTrees}
use Rattle.jac_forms.specs.Applications.{application_of_tree}

-- One, two or three trees.
abbrev pub one : PlainTree → PlainTrees
one t = PlainTrees.more t PlainTrees.none

abbrev pub two_trees : PlainTree → PlainTree → PlainTrees
two_trees t u = PlainTrees.more t (one u)

abbrev pub three : PlainTree → PlainTree → PlainTree → PlainTrees
three t u v = PlainTrees.more t (two_trees u v)

-- `(word tree ..)`.
abbrev pub form : List ℕ → PlainTrees → PlainTree
form word ts = PlainTree.list (PlainTrees.more (PlainTree.atom word) ts)

-- `(NAME tree)`.
abbrev pub pair : List ℕ → PlainTree → PlainTree
pair name t = PlainTree.list (two_trees (PlainTree.atom name) t)

abbrev pub truth_word : Bool → List ℕ
truth_word true = codes "true"
truth_word false = codes "false"

abbrev pub op_word : Op → List ℕ
op_word ops.Add = codes "add"
op_word ops.Sub = codes "sub"
op_word ops.Mul = codes "mul"
op_word ops.Eq = codes "eq"
op_word ops.Lt = codes "lt"
op_word ops.And = codes "and"
op_word ops.Or = codes "or"

-- `((NAME MODEL) ..)`.
abbrev pub trees_of_binders : List Binder → PlainTrees
trees_of_binders [] = PlainTrees.none
trees_of_binders (b ∷ bs) = PlainTrees.more (pair b.name (PlainTree.atom b.model))
    (trees_of_binders bs)

-- `key`, `(up BINDER FIELD)` or `(down BINDER FIELD)`.
abbrev pub tree_of_order : Order → PlainTree
tree_of_order orders.Key = PlainTree.atom (codes "key")
tree_of_order (orders.Up x f) = form (codes "up") (two_trees (PlainTree.atom x) (PlainTree.atom f))
tree_of_order (orders.Down x f) = form (codes "down") (two_trees (PlainTree.atom x)
    (PlainTree.atom f))

-- `(from ((NAME MODEL) ..) condition order)`.
abbrev pub tree_of_query : List Binder → PlainTree → Order → PlainTree
tree_of_query bs cond o = form (codes "from") (three (PlainTree.list (trees_of_binders bs)) cond
    (tree_of_order o))

abbrev mutual
  pub tree_of_expression : Expression → PlainTree
  tree_of_expression (Expression.int i) = PlainTree.atom (signed_decimal i)
  tree_of_expression (Expression.text t) = PlainTree.text t
  tree_of_expression (Expression.bool b) = PlainTree.atom (truth_word b)
  tree_of_expression (Expression.none_of m) = form (codes "none") (one (PlainTree.atom m))
  tree_of_expression (Expression.name x) = PlainTree.atom x
  tree_of_expression Expression.this = PlainTree.atom (codes "this")
  tree_of_expression Expression.viewer = PlainTree.atom (codes "viewer")
  tree_of_expression (Expression.get m f e) =
      form (codes "get") (three (PlainTree.atom m) (PlainTree.atom f) (tree_of_expression e))
  tree_of_expression (Expression.live e) = form (codes "live") (one (tree_of_expression e))
  tree_of_expression (Expression.two op a b) =
      form (op_word op) (two_trees (tree_of_expression a) (tree_of_expression b))
  tree_of_expression (Expression.negated e) = form (codes "not") (one (tree_of_expression e))
  tree_of_expression (Expression.cat es) = form (codes "cat") (trees_of_expressions es)
  tree_of_expression (Expression.str e) = form (codes "str") (one (tree_of_expression e))
  tree_of_expression (Expression.pick c a b) = form (codes "pick") (three (tree_of_expression c)
      (tree_of_expression a) (tree_of_expression b))
  tree_of_expression (Expression.count bs c o) = form (codes "count")
      (one (tree_of_query bs (tree_of_expression c) o))
  tree_of_expression (Expression.sum bs c o e) =
      form (codes "sum") (two_trees (tree_of_query bs (tree_of_expression c) o)
      (tree_of_expression e))
  tree_of_expression (Expression.any_of bs c o) =
      form (codes "some") (one (tree_of_query bs (tree_of_expression c) o))
  tree_of_expression (Expression.first bs c o) = form (codes "first")
      (one (tree_of_query bs (tree_of_expression c) o))

  pub trees_of_expressions : Expressions → PlainTrees
  trees_of_expressions Expressions.none = PlainTrees.none
  trees_of_expressions (Expressions.more e es) = PlainTrees.more (tree_of_expression e)
      (trees_of_expressions es)

abbrev pub tree_of_question : Question → PlainTree
tree_of_question q = tree_of_query q.binders (tree_of_expression q.cond) q.order

-- `(NAME expression) ..`.
abbrev pub trees_of_assigned : List Assigned → PlainTrees
trees_of_assigned [] = PlainTrees.none
trees_of_assigned (a ∷ cells) = PlainTrees.more (pair a.field (tree_of_expression a.value))
    (trees_of_assigned cells)

-- `(set (NAME expression) ..)`.
abbrev pub tree_of_set : List Assigned → PlainTree
tree_of_set cells = form (codes "set") (trees_of_assigned cells)

-- A block is the expansion of a template. No application that was read has one.
abbrev mutual
  pub tree_of_statement : Statement → PlainTree
  tree_of_statement (Statement.put e) = form (codes "put") (one (tree_of_expression e))
  tree_of_statement (Statement.escape e) = form (codes "esc") (one (tree_of_expression e))
  tree_of_statement (Statement.bind x e body) =
      form (codes "let") (PlainTrees.more (PlainTree.atom x) (PlainTrees.more (tree_of_expression e)
      (trees_of_statements body)))
  tree_of_statement (Statement.assign x e) = form (codes "assign")
      (two_trees (PlainTree.atom x) (tree_of_expression e))
  tree_of_statement (Statement.branch c a b) = form (codes "if") (three (tree_of_expression c)
      (PlainTree.list (trees_of_statements a)) (PlainTree.list (trees_of_statements b)))
  tree_of_statement (Statement.each q body) =
      form (codes "for") (PlainTrees.more (tree_of_question q) (trees_of_statements body))
  tree_of_statement (Statement.create x m site cells body) =
      form (codes "create") (PlainTrees.more (PlainTree.atom x) (PlainTrees.more (PlainTree.atom m)
      (PlainTrees.more (tree_of_set cells) (trees_of_statements body))))
  tree_of_statement (Statement.update m e cells) = form (codes "update")
      (three (PlainTree.atom m) (tree_of_expression e) (tree_of_set cells))
  tree_of_statement (Statement.delete m e) = form (codes "delete")
      (two_trees (PlainTree.atom m) (tree_of_expression e))
  tree_of_statement Statement.missing = form (codes "missing") PlainTrees.none
  tree_of_statement (Statement.redirect e) = form (codes "redirect") (one (tree_of_expression e))
  tree_of_statement (Statement.template t) = form (codes "template") (one (PlainTree.text t))
  tree_of_statement (Statement.block body) = form (codes "block") (trees_of_statements body)

  pub trees_of_statements : Statements → PlainTrees
  trees_of_statements Statements.none = PlainTrees.none
  trees_of_statements (Statements.more s ss) = PlainTrees.more (tree_of_statement s)
      (trees_of_statements ss)

abbrev pub tree_of_kind : KindName → PlainTree
tree_of_kind kinds.Int = PlainTree.atom (codes "int")
tree_of_kind kinds.Text = PlainTree.atom (codes "text")
tree_of_kind kinds.Bool = PlainTree.atom (codes "bool")
tree_of_kind (kinds.Ref m) = form (codes "ref") (one (PlainTree.atom m))

-- `(NAME kind) ..`.
abbrev pub trees_of_fields : List Field → PlainTrees
trees_of_fields [] = PlainTrees.none
trees_of_fields (f ∷ fs) = PlainTrees.more (pair f.name (tree_of_kind f.kind)) (trees_of_fields fs)

-- `hides` if the whole record is hidden, or else `(guards (NAME expression) ..)`.
abbrev pub tree_of_guarding : Bool → List Assigned → PlainTree
tree_of_guarding true guards = PlainTree.atom (codes "hides")
tree_of_guarding false guards = form (codes "guards") (trees_of_assigned guards)

-- `(group hides (policy expression))` or `(group (guards (NAME expression) ..) (policy
-- expression))`.
abbrev pub tree_of_group : FieldGroup → PlainTree
tree_of_group g = form (codes "group") (two_trees (tree_of_guarding g.hides g.guards)
    (form (codes "policy") (one (tree_of_expression g.policy))))

abbrev pub trees_of_groups : List FieldGroup → PlainTrees
trees_of_groups [] = PlainTrees.none
trees_of_groups (g ∷ gs) = PlainTrees.more (tree_of_group g) (trees_of_groups gs)

-- `nested`, if the model is nested, before the other trees.
abbrev pub nested_before : Bool → PlainTrees → PlainTrees
nested_before true ts = PlainTrees.more (PlainTree.atom (codes "nested")) ts
nested_before false ts = ts

-- `(fields field ..) group ..`.
abbrev pub trees_of_parts : Entity → PlainTrees
trees_of_parts m = PlainTrees.more (form (codes "fields") (trees_of_fields m.fields))
    (trees_of_groups m.groups)

-- `(model NAME (fields field ..) group ..)` or `(model NAME nested (fields field ..) group ..)`.
abbrev pub tree_of_entity : Entity → PlainTree
tree_of_entity m = form (codes "model") (PlainTrees.more (PlainTree.atom m.name)
    (nested_before m.nested (trees_of_parts m)))

abbrev pub method_word : Verb → List ℕ
method_word verbs.Get = codes "get"
method_word verbs.Post = codes "post"

-- `(view method "path" (params parameter ..) statement ..)`.
abbrev pub tree_of_page : Page → PlainTree
tree_of_page v =
    form (codes "view") (PlainTrees.more (PlainTree.atom (method_word v.method))
    (PlainTrees.more (PlainTree.text v.path)
    (PlainTrees.more (form (codes "params") (trees_of_fields v.params))
    (trees_of_statements v.body))))

abbrev pub trees_of_pages : List Page → PlainTrees
trees_of_pages [] = PlainTrees.none
trees_of_pages (v ∷ vs) = PlainTrees.more (tree_of_page v) (trees_of_pages vs)

-- The models, before the other trees.
abbrev pub models_before : List Entity → PlainTrees → PlainTrees
models_before [] ts = ts
models_before (m ∷ ms) ts = PlainTrees.more (tree_of_entity m) (models_before ms ts)

-- `(viewer NAME)`, if a model is named, before the other trees.
abbrev pub viewer_before : Option (List ℕ) → PlainTrees → PlainTrees
viewer_before None ts = ts
viewer_before (Some name) ts = PlainTrees.more (form (codes "viewer") (one (PlainTree.atom name)))
    ts

-- `(app (viewer NAME)? model .. view ..)`.
abbrev pub tree_of_application : Application → PlainTree
tree_of_application a =
    form (codes "app") (viewer_before a.viewer (models_before a.models (trees_of_pages a.views)))

-- Some tree is read as the application.
abbrev pub IsReadable : Application → Type 0
IsReadable a = (t : PlainTree) × (application_of_tree t ≡ Some a)
