-- An application after its templates are expanded.
use Rattle.std.specs.Prelude.{◌≡◌, ◌⊎◌, ℕ, ◌+◌, List, [], ◌∷◌}
use Rattle.jac_lang.specs.Syntax.{Statement, Statements, Page, Application}
use Rattle.jac_template.specs.Expansion.{Expansion, Expands}
use Rattle.jac_template.specs.Faults.{Fault}

-- Each template is replaced by the block of its statements. All else stays the same.
abbrev mutual
  pub ExpandsStatement : Statement → Statement → Type 0
  ExpandsStatement (Statement.template t) s =
      (ss : Statements) × Expands t (Expansion.statements ss) × (s ≡ Statement.block ss)
  ExpandsStatement (Statement.bind x e body) s = (out : Statements) × ExpandsBody body out
      × (s ≡ Statement.bind x e out)
  ExpandsStatement (Statement.branch c body other) s =
      (out : Statements) × (rest : Statements) × ExpandsBody body out × ExpandsBody other rest
      × (s ≡ Statement.branch c out rest)
  ExpandsStatement (Statement.each q body) s = (out : Statements) × ExpandsBody body out
      × (s ≡ Statement.each q out)
  ExpandsStatement (Statement.create x m site cells body) s =
      (out : Statements) × ExpandsBody body out × (s ≡ Statement.create x m site cells out)
  ExpandsStatement (Statement.block body) s = (out : Statements) × ExpandsBody body out
      × (s ≡ Statement.block out)
  ExpandsStatement other s = s ≡ other

  pub ExpandsBody : Statements → Statements → Type 0
  ExpandsBody Statements.none ss = ss ≡ Statements.none
  ExpandsBody (Statements.more s rest) ss =
      (out : Statement) × (more : Statements) × ExpandsStatement s out × ExpandsBody rest more
      × (ss ≡ Statements.more out more)

-- This is the fault of the first template with a fault, in the order of the text.
abbrev mutual
  pub StatementFault : Statement → Fault → Type 0
  StatementFault (Statement.template t) fault = Expands t (Expansion.fault fault)
  StatementFault (Statement.bind x e body) fault = BodyFault body fault
  StatementFault (Statement.branch c body other) fault =
      BodyFault body fault ⊎ ((out : Statements) × ExpandsBody body out × BodyFault other fault)
  StatementFault (Statement.each q body) fault = BodyFault body fault
  StatementFault (Statement.create x m site cells body) fault = BodyFault body fault
  StatementFault (Statement.block body) fault = BodyFault body fault
  StatementFault other fault = ⊥

  pub BodyFault : Statements → Fault → Type 0
  BodyFault Statements.none fault = ⊥
  BodyFault (Statements.more s rest) fault =
      StatementFault s fault ⊎ ((out : Statement) × ExpandsStatement s out × BodyFault rest fault)

abbrev pub ExpandsView : Page → Page → Type 0
ExpandsView v out = (body : Statements) × ExpandsBody v.body body × (out ≡ record v { body = body })

abbrev pub ExpandsViews : List Page → List Page → Type 0
ExpandsViews [] out = out ≡ []
ExpandsViews (v ∷ vs) out = (first : Page) × (rest : List Page) × ExpandsView v first
    × ExpandsViews vs rest × (out ≡ first ∷ rest)

-- The first view with a fault has this number and this fault. Views are numbered from `number` on.
abbrev pub ViewsFault : ℕ → List Page → ℕ → Fault → Type 0
ViewsFault number [] view fault = ⊥
ViewsFault number (v ∷ vs) view fault =
    ((view ≡ number) × BodyFault v.body fault)
    ⊎ ((out : Page) × ExpandsView v out × ViewsFault (number + 1) vs view fault)

-- The expansion of an application.
pub data Expanded : Type 0 where
  application : Application → Expanded
  fault : ℕ → Fault → Expanded

abbrev pub ExpandsApplication : Application → Expanded → Type 0
ExpandsApplication a (Expanded.application out) =
    (views : List Page) × ExpandsViews a.views views × (out ≡ record a { views = views })
ExpandsApplication a (Expanded.fault view f) = ViewsFault 0 a.views view f
