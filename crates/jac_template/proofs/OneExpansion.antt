-- The expansion of an application is unique.
use Rattle.std.proofs.Common.{◌≡◌, inl, inr, ℕ, ◌+◌, Bool, true, false, List, [], ◌∷◌, sym, ◌∙◌, ap, arith}
use Rattle.jac_lang.specs.Syntax.{Statement, Statements, Page, Application}
use Rattle.jac_template.specs.Applications.{Expanded, ExpandsStatement, ExpandsBody, ExpandsView, ExpandsViews, ExpandsApplication, StatementFault, BodyFault, ViewsFault}
use Rattle.jac_template.specs.Expansion.{Expansion, Expands}
use Rattle.jac_template.specs.Faults.{Fault}
use Rattle.jac_template.proofs.Runs.{one_expansion}

abbrev statements_or : Statements → Expansion → Statements
statements_or ss (Expansion.statements ts) = ts
statements_or ss (Expansion.fault f) = ss

abbrev fault_or : Fault → Expansion → Fault
fault_or f (Expansion.statements ss) = f
fault_or f (Expansion.fault g) = g

abbrev is_fault : Expansion → Bool
is_fault (Expansion.statements ss) = false
is_fault (Expansion.fault f) = true

no_both : (text : List ℕ) (ss : Statements) (f : Fault) → Expands text (Expansion.statements ss) → Expands text (Expansion.fault f) → ⊥
no_both text ss f h k =
    let e : false ≡ true = ap is_fault (one_expansion text (Expansion.statements ss) (Expansion.fault f) h k) in
    grind (arith, e)

-- The expansion of a body is unique, and the body then has no fault.
mutual
  one_statement : (s a b : Statement) → ExpandsStatement s a → ExpandsStatement s b → a ≡ b
  one_statement (Statement.put e) a b h k = h ∙ sym k
  one_statement (Statement.escape e) a b h k = h ∙ sym k
  one_statement (Statement.bind x e body) a b (ss, h, p) (ts, k, q) = p ∙ ap (λ (z : Statements). Statement.bind x e z) (one_body body ss ts h k) ∙ sym q
  one_statement (Statement.assign x e) a b h k = h ∙ sym k
  one_statement (Statement.branch c body other) a b (ss, us, h, i, p) (ts, vs, k, j, q) =
      p ∙ ap (λ (z : Statements). Statement.branch c z us) (one_body body ss ts h k) ∙ ap (λ (z : Statements). Statement.branch c ts z) (one_body other us vs i j) ∙ sym q
  one_statement (Statement.each a' body) a b (ss, h, p) (ts, k, q) = p ∙ ap (λ (z : Statements). Statement.each a' z) (one_body body ss ts h k) ∙ sym q
  one_statement (Statement.create x m site cells body) a b (ss, h, p) (ts, k, q) =
      p ∙ ap (λ (z : Statements). Statement.create x m site cells z) (one_body body ss ts h k) ∙ sym q
  one_statement (Statement.update m e cells) a b h k = h ∙ sym k
  one_statement (Statement.delete m e) a b h k = h ∙ sym k
  one_statement Statement.missing a b h k = h ∙ sym k
  one_statement (Statement.redirect e) a b h k = h ∙ sym k
  one_statement (Statement.template t) a b (ss, h, p) (ts, k, q) =
      p ∙ ap (λ (z : Expansion). Statement.block (statements_or ss z)) (one_expansion t (Expansion.statements ss) (Expansion.statements ts) h k) ∙ sym q
  one_statement (Statement.block body) a b (ss, h, p) (ts, k, q) = p ∙ ap (λ (z : Statements). Statement.block z) (one_body body ss ts h k) ∙ sym q

  one_body : (body a b : Statements) → ExpandsBody body a → ExpandsBody body b → a ≡ b
  one_body Statements.none a b h k = h ∙ sym k
  one_body (Statements.more s rest) a b (x, xs, h, i, p) (y, ys, k, j, q) =
      p ∙ ap (λ (z : Statement). Statements.more z xs) (one_statement s x y h k) ∙ ap (λ (z : Statements). Statements.more y z) (one_body rest xs ys i j) ∙ sym q

mutual
  statement_whole : (s a : Statement) (f : Fault) → ExpandsStatement s a → StatementFault s f → ⊥
  statement_whole (Statement.put e) a f h k = k
  statement_whole (Statement.escape e) a f h k = k
  statement_whole (Statement.bind x e body) a f (ss, h, p) k = body_whole body ss f h k
  statement_whole (Statement.assign x e) a f h k = k
  statement_whole (Statement.branch c body other) a f (ss, us, h, i, p) (inl k) = body_whole body ss f h k
  statement_whole (Statement.branch c body other) a f (ss, us, h, i, p) (inr (out, j, k)) = body_whole other us f i k
  statement_whole (Statement.each q body) a f (ss, h, p) k = body_whole body ss f h k
  statement_whole (Statement.create x m site cells body) a f (ss, h, p) k = body_whole body ss f h k
  statement_whole (Statement.update m e cells) a f h k = k
  statement_whole (Statement.delete m e) a f h k = k
  statement_whole Statement.missing a f h k = k
  statement_whole (Statement.redirect e) a f h k = k
  statement_whole (Statement.template t) a f (ss, h, p) k = no_both t ss f h k
  statement_whole (Statement.block body) a f (ss, h, p) k = body_whole body ss f h k

  body_whole : (body a : Statements) (f : Fault) → ExpandsBody body a → BodyFault body f → ⊥
  body_whole Statements.none a f h k = k
  body_whole (Statements.more s rest) a f (x, xs, h, i, p) (inl k) = statement_whole s x f h k
  body_whole (Statements.more s rest) a f (x, xs, h, i, p) (inr (y, j, k)) = body_whole rest xs f i k

-- The first fault of a body is unique.
mutual
  one_statement_fault : (s : Statement) (f g : Fault) → StatementFault s f → StatementFault s g → f ≡ g
  one_statement_fault (Statement.put e) f g h k = absurd h
  one_statement_fault (Statement.escape e) f g h k = absurd h
  one_statement_fault (Statement.bind x e body) f g h k = one_body_fault body f g h k
  one_statement_fault (Statement.assign x e) f g h k = absurd h
  one_statement_fault (Statement.branch c body other) f g (inl h) (inl k) = one_body_fault body f g h k
  one_statement_fault (Statement.branch c body other) f g (inl h) (inr (out, i, k)) = absurd (body_whole body out f i h)
  one_statement_fault (Statement.branch c body other) f g (inr (out, i, h)) (inl k) = absurd (body_whole body out g i k)
  one_statement_fault (Statement.branch c body other) f g (inr (out, i, h)) (inr (out', j, k)) = one_body_fault other f g h k
  one_statement_fault (Statement.each q body) f g h k = one_body_fault body f g h k
  one_statement_fault (Statement.create x m site cells body) f g h k = one_body_fault body f g h k
  one_statement_fault (Statement.update m e cells) f g h k = absurd h
  one_statement_fault (Statement.delete m e) f g h k = absurd h
  one_statement_fault Statement.missing f g h k = absurd h
  one_statement_fault (Statement.redirect e) f g h k = absurd h
  one_statement_fault (Statement.template t) f g h k = ap (fault_or f) (one_expansion t (Expansion.fault f) (Expansion.fault g) h k)
  one_statement_fault (Statement.block body) f g h k = one_body_fault body f g h k

  one_body_fault : (body : Statements) (f g : Fault) → BodyFault body f → BodyFault body g → f ≡ g
  one_body_fault Statements.none f g h k = absurd h
  one_body_fault (Statements.more s rest) f g (inl h) (inl k) = one_statement_fault s f g h k
  one_body_fault (Statements.more s rest) f g (inl h) (inr (y, i, k)) = absurd (statement_whole s y f i h)
  one_body_fault (Statements.more s rest) f g (inr (x, i, h)) (inl k) = absurd (statement_whole s x g i k)
  one_body_fault (Statements.more s rest) f g (inr (x, i, h)) (inr (y, j, k)) = one_body_fault rest f g h k

-- The same for views.
one_view : (v a b : Page) → ExpandsView v a → ExpandsView v b → a ≡ b
one_view v a b (ss, h, p) (ts, k, q) = p ∙ ap (λ (z : Statements). with_body z) (one_body v.body ss ts h k) ∙ sym q
  where
    with_body : Statements → Page
    with_body z = record v { body = z }

one_views : (vs a b : List Page) → ExpandsViews vs a → ExpandsViews vs b → a ≡ b
one_views [] a b h k = h ∙ sym k
one_views (v ∷ vs) a b (x, xs, h, i, p) (y, ys, k, j, q) =
    p ∙ ap (λ (z : Page). z ∷ xs) (one_view v x y h k) ∙ ap (λ (z : List Page). y ∷ z) (one_views vs xs ys i j) ∙ sym q

views_whole : (number : ℕ) (vs out : List Page) (view : ℕ) (f : Fault) → ExpandsViews vs out → ViewsFault number vs view f → ⊥
views_whole number [] out view f h k = k
views_whole number (v ∷ vs) out view f (x, xs, (body, h, p), i, q) (inl (same, k)) = body_whole v.body body f h k
views_whole number (v ∷ vs) out view f (x, xs, h, i, q) (inr (y, j, k)) = views_whole (number + 1) vs xs view f i k

one_views_fault : (number : ℕ) (vs : List Page) (a b : ℕ) (f g : Fault) → ViewsFault number vs a f → ViewsFault number vs b g → (a ≡ b) × (f ≡ g)
one_views_fault number [] a b f g h k = absurd h
one_views_fault number (v ∷ vs) a b f g (inl (p, h)) (inl (q, k)) = (p ∙ sym q, one_body_fault v.body f g h k)
one_views_fault number (v ∷ vs) a b f g (inl (p, h)) (inr (y, (body, i, q), k)) = absurd (body_whole v.body body f i h)
one_views_fault number (v ∷ vs) a b f g (inr (y, (body, i, q), h)) (inl (p, k)) = absurd (body_whole v.body body g i k)
one_views_fault number (v ∷ vs) a b f g (inr (x, i, h)) (inr (y, j, k)) = one_views_fault (number + 1) vs a b f g h k

pub one_application : (a : Application) (x y : Expanded) → ExpandsApplication a x → ExpandsApplication a y → x ≡ y
one_application a (Expanded.application out) (Expanded.application other) (vs, h, p) (ws, k, q) =
    ap (λ (z : Application). Expanded.application z) (p ∙ ap (λ (z : List Page). with_views z) (one_views a.views vs ws h k) ∙ sym q)
  where
    with_views : List Page → Application
    with_views z = record a { views = z }
one_application a (Expanded.application out) (Expanded.fault view f) (vs, h, p) k = absurd (views_whole 0 a.views vs view f h k)
one_application a (Expanded.fault view f) (Expanded.application out) h (vs, k, p) = absurd (views_whole 0 a.views vs view f k h)
one_application a (Expanded.fault view f) (Expanded.fault other g) h k =
    let (same, one) = one_views_fault 0 a.views view other f g h k in
    ap (λ (z : ℕ). Expanded.fault z f) same ∙ ap (λ (z : Fault). Expanded.fault other z) one
