-- The expansion of a template, a body or a view has no template.
use Rattle.std.proofs.Common.{◌≡◌, ℕ, suc, ◌&&◌, Bool, true, List, [], refl, ◌∙◌, ap}
use Rattle.jac_lang.specs.Syntax.{Statement, Statements}
use Rattle.jac_template.specs.Applications.{ExpandsStatement, ExpandsBody}
use Rattle.jac_template.specs.Grammar.{StatementAt, OtherAt, BodyAt}
use Rattle.jac_template.specs.Pieces.{Piece, pieces}
use Rattle.jac_lang.specs.Untemplated.{is_untemplated, are_untemplated}

both : (a b : Bool) → a ≡ true → b ≡ true → (a && b) ≡ true
both a b p q = rw (p, q) refl

-- The grammar describes no template.
mutual
  written_one : (s : Statement) (depth : ℕ) (from to : List Piece) → StatementAt s depth from to → is_untemplated s ≡ true
  written_one (Statement.put e) depth from to h = refl
  written_one (Statement.escape e) depth from to h = refl
  written_one (Statement.bind x e body) depth from to (inside, rest, few, at, front, finish) = written body (suc depth) inside rest front
  written_one (Statement.assign x e) depth from to h = absurd h
  written_one (Statement.branch c body other) depth from to (inside, rest, few, at, front, back) =
      both (are_untemplated body) (are_untemplated other) (written body (suc depth) inside rest front) (written_other other (suc depth) rest to back)
  written_one (Statement.each q body) depth from to (inside, rest, few, at, front, finish) = written body (suc depth) inside rest front
  written_one (Statement.create x m site cells body) depth from to h = absurd h
  written_one (Statement.update m e cells) depth from to h = absurd h
  written_one (Statement.delete m e) depth from to h = absurd h
  written_one Statement.missing depth from to h = absurd h
  written_one (Statement.redirect e) depth from to h = absurd h
  written_one (Statement.template t) depth from to h = absurd h
  written_one (Statement.block body) depth from to h = absurd h

  written_other : (ss : Statements) (depth : ℕ) (from to : List Piece) → OtherAt ss depth from to → are_untemplated ss ≡ true
  written_other Statements.none depth from to h = refl
  written_other (Statements.more s ss) depth from to (inside, middle, rest, at, first, more, finish) =
      both (is_untemplated s) (are_untemplated ss) (written_one s depth inside middle first) (written ss depth middle rest more)

  written : (ss : Statements) (depth : ℕ) (from to : List Piece) → BodyAt ss depth from to → are_untemplated ss ≡ true
  written Statements.none depth from to h = refl
  written (Statements.more s ss) depth from to (rest, first, more) =
      both (is_untemplated s) (are_untemplated ss) (written_one s depth from rest first) (written ss depth rest to more)

-- No expansion has a template.
mutual
  expanded_one : (s out : Statement) → ExpandsStatement s out → is_untemplated out ≡ true
  expanded_one (Statement.put e) out same = ap is_untemplated same
  expanded_one (Statement.escape e) out same = ap is_untemplated same
  expanded_one (Statement.bind x e body) out (ss, h, same) = ap is_untemplated same ∙ expanded body ss h
  expanded_one (Statement.assign x e) out same = ap is_untemplated same
  expanded_one (Statement.branch c body other) out (ss, ts, h, k, same) =
      ap is_untemplated same ∙ both (are_untemplated ss) (are_untemplated ts) (expanded body ss h) (expanded other ts k)
  expanded_one (Statement.each q body) out (ss, h, same) = ap is_untemplated same ∙ expanded body ss h
  expanded_one (Statement.create x m site cells body) out (ss, h, same) = ap is_untemplated same ∙ expanded body ss h
  expanded_one (Statement.update m e cells) out same = ap is_untemplated same
  expanded_one (Statement.delete m e) out same = ap is_untemplated same
  expanded_one Statement.missing out same = ap is_untemplated same
  expanded_one (Statement.redirect e) out same = ap is_untemplated same
  expanded_one (Statement.template t) out (ss, h, same) = ap is_untemplated same ∙ written ss 0 (pieces t) [] h
  expanded_one (Statement.block body) out (ss, h, same) = ap is_untemplated same ∙ expanded body ss h

  pub expanded : (body out : Statements) → ExpandsBody body out → are_untemplated out ≡ true
  expanded Statements.none out same = ap are_untemplated same
  expanded (Statements.more s rest) out (one, more, h, k, same) =
      ap are_untemplated same ∙ both (is_untemplated one) (are_untemplated more) (expanded_one s one h) (expanded rest more k)
