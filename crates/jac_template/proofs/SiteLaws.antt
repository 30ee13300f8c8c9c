-- The sites of `create` statements stay the same when templates are expanded, because a template
-- creates nothing.
use Rattle.std.proofs.Common.{◌≡◌, ◌∙◌, ap, refl, ℕ, suc, List, [], ◌∷◌, ◌++◌}
use Rattle.jac_lang.specs.Syntax.{Statement, Statements, Page}
use Rattle.jac_lang.specs.Written.{sites, sites_in}
use Rattle.jac_template.specs.Applications.{ExpandsStatement, ExpandsBody, ExpandsView}
use Rattle.jac_template.specs.Grammar.{StatementAt, OtherAt, BodyAt}
use Rattle.jac_template.specs.Pieces.{Piece, pieces}

mutual
  no_site : (s : Statement) (depth : ℕ) (from to : List Piece) → StatementAt s depth from to → sites_in s ≡ []
  no_site (Statement.put e) depth from to h = refl
  no_site (Statement.escape e) depth from to h = refl
  no_site (Statement.bind x e body) depth from to h = no_sites body (suc depth) h.0 h.1 h.4
  no_site (Statement.each q body) depth from to h = no_sites body (suc depth) h.0 h.1 h.4
  no_site (Statement.branch c body other) depth from to h =
      λ i. no_sites body (suc depth) h.0 h.1 h.4 i ++ no_other other (suc depth) h.1 to h.5 i
  no_site (Statement.assign x e) depth from to h = absurd h
  no_site (Statement.create x m site cells body) depth from to h = absurd h
  no_site (Statement.update m e cells) depth from to h = absurd h
  no_site (Statement.delete m e) depth from to h = absurd h
  no_site Statement.missing depth from to h = absurd h
  no_site (Statement.redirect e) depth from to h = absurd h
  no_site (Statement.template t) depth from to h = absurd h
  no_site (Statement.block body) depth from to h = absurd h

  no_other : (ss : Statements) (depth : ℕ) (from to : List Piece) → OtherAt ss depth from to → sites ss ≡ []
  no_other Statements.none depth from to h = refl
  no_other (Statements.more s ss) depth from to h = λ i. no_site s depth h.0 h.1 h.4 i ++ no_sites ss depth h.1 h.2 h.5 i

  no_sites : (ss : Statements) (depth : ℕ) (from to : List Piece) → BodyAt ss depth from to → sites ss ≡ []
  no_sites Statements.none depth from to h = refl
  no_sites (Statements.more s ss) depth from to h = λ i. no_site s depth from h.0 h.1 i ++ no_sites ss depth h.0 to h.2 i

mutual
  same_site : (s out : Statement) → ExpandsStatement s out → sites_in out ≡ sites_in s
  same_site (Statement.put e) out h = ap sites_in h
  same_site (Statement.escape e) out h = ap sites_in h
  same_site (Statement.bind x e body) out h = ap sites_in h.2 ∙ same_sites body h.0 h.1
  same_site (Statement.assign x e) out h = ap sites_in h
  same_site (Statement.branch c body other) out h = ap sites_in h.4 ∙ (λ i. same_sites body h.0 h.2 i ++ same_sites other h.1 h.3 i)
  same_site (Statement.each q body) out h = ap sites_in h.2 ∙ same_sites body h.0 h.1
  same_site (Statement.create x m site cells body) out h = ap sites_in h.2 ∙ ap (λ (rest : List ℕ). site ∷ rest) (same_sites body h.0 h.1)
  same_site (Statement.update m e cells) out h = ap sites_in h
  same_site (Statement.delete m e) out h = ap sites_in h
  same_site Statement.missing out h = ap sites_in h
  same_site (Statement.redirect e) out h = ap sites_in h
  same_site (Statement.template t) out h = ap sites_in h.2 ∙ no_sites h.0 0 (pieces t) [] h.1
  same_site (Statement.block body) out h = ap sites_in h.2 ∙ same_sites body h.0 h.1

  same_sites : (ss out : Statements) → ExpandsBody ss out → sites out ≡ sites ss
  same_sites Statements.none out h = ap sites h
  same_sites (Statements.more s rest) out h = ap sites h.4 ∙ (λ i. same_site s h.0 h.2 i ++ same_sites rest h.1 h.3 i)

pub view_keeps_sites : (v out : Page) → ExpandsView v out → sites out.body ≡ sites v.body
view_keeps_sites v out h = ap (λ (p : Page). sites p.body) h.2 ∙ same_sites v.body h.0 h.1
