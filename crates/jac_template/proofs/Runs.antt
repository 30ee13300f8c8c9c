-- The expansion of a text is unique: it is the result of reading the pieces from the left with the
-- open blocks.
use Rattle.std.proofs.Common.{◌≡◌, ◌<◌, inl, inr, ℕ, suc, Bool, true, false, nat_lt, List, [], ◌∷◌, length, Option, Some, None, refl, sym, ◌∙◌, ap, subst, arith}
use Rattle.std.proofs.lemmas.Bool.Decides.{nat_tests}
use Rattle.std.specs.Option.{option_map}
use Rattle.jac_lang.specs.Syntax.{Expression, Statement, Statements}
use Rattle.jac_lang.specs.Turned.{body_onto}
use Rattle.jac_tree.proofs.Unique.{spells_one}
use Rattle.jac_tree.specs.Plain.{PlainTree}
use Rattle.jac_tree.specs.declared.fault.TreeFault.{TreeFault}
use Rattle.jac_template.specs.Expansion.{Expansion, Expands}
use Rattle.jac_template.specs.Faults.{Fault}
use Rattle.jac_template.specs.Grammar.{StatementAt, OtherAt, BodyAt, Block, misplaced_fault, EndFault, FirstFault}
use Rattle.jac_template.specs.Pieces.{Piece, pieces}
use Rattle.jac_template.specs.Progress.{OpenBlock, Opening, Progress, progress, open_block, block_opened, run_order, progress_after}
use Rattle.jac_template.specs.Tags.{Mark, Meaning, Form, MeansTree, MeansAs, MeansTag, meaning_of_form, output_of_tree, control_of_tree}
use Rattle.jac_template.specs.declared.pieces.Kind.{Kind}
use Rattle.jac_template.specs.declared.pieces.Kind.TheVariants as kinds
use Rattle.jac_template.proofs.FaultLaws.{no_fault, one_fault}
use Rattle.jac_template.proofs.Leads.{blocks_of, blocks_in, behind_after}

-- The meaning of a piece is unique.
one_tree : (place : ℕ) (form : PlainTree → Form) (content : List ℕ) (m n : Meaning) → MeansTree place form content m → MeansTree place form content n → m ≡ n
one_tree place form content m n (inl (t, a, e)) (inl (u, b, k)) =
    e ∙ ap (λ (z : PlainTree). meaning_of_form place (form z)) (spells_one content t u a.spelled b.spelled) ∙ sym k
one_tree place form content m n (inl (t, a, e)) (inr (g, b, k)) = absurd (no_fault content t g a b)
one_tree place form content m n (inr (f, a, e)) (inl (u, b, k)) = absurd (no_fault content u f b a)
one_tree place form content m n (inr (f, a, e)) (inr (g, b, k)) =
    e ∙ ap (λ (z : TreeFault). Meaning.fault (Fault.tree place z)) (one_fault content f g a b) ∙ sym k

one_as : (kind : Kind) (place : ℕ) (content : List ℕ) (m n : Meaning) → MeansAs kind place content m → MeansAs kind place content n → m ≡ n
one_as kinds.Literal place content m n h k = h ∙ sym k
one_as kinds.Output place content m n h k = one_tree place output_of_tree content m n h k
one_as kinds.Control place content m n h k = one_tree place control_of_tree content m n h k
one_as kinds.Endless place content m n h k = h ∙ sym k

one_meaning : (p : Piece) (m n : Meaning) → MeansTag p m → MeansTag p n → m ≡ n
one_meaning p m n h k = one_as p.kind p.place p.content m n h k

-- The result of the pieces.
abbrev AtEnd : List OpenBlock → Statements → Expansion → Type 0
AtEnd [] body x = x ≡ Expansion.statements (run_order body)
AtEnd (b ∷ blocks) body x = x ≡ Expansion.fault (Fault.unclosed b.place)

abbrev NextIf : Option Progress → Fault → Expansion → (Progress → Type 0) → Type 0
NextIf None f x go = x ≡ Expansion.fault f
NextIf (Some q) f x go = go q

abbrev Next : ℕ → Meaning → Progress → Expansion → (Progress → Type 0) → Type 0
Next place (Meaning.fault f) q x go = x ≡ Expansion.fault f
Next place (Meaning.mark m) q x go = NextIf (progress_after place m q) (misplaced_fault place m) x go

abbrev Runs : List Piece → Progress → Expansion → Type 0
Runs [] q x = AtEnd q.blocks q.body x
Runs (p ∷ ps) q x = (m : Meaning) × MeansTag p m × Next p.place m q x (λ next. Runs ps next x)

-- The result of the pieces is unique.
one_end : (blocks : List OpenBlock) (body : Statements) (x y : Expansion) → AtEnd blocks body x → AtEnd blocks body y → x ≡ y
one_end [] body x y h k = h ∙ sym k
one_end (b ∷ blocks) body x y h k = h ∙ sym k

module _ (Go : Progress → Expansion → Type 0) (x y : Expansion) (one : (q : Progress) → Go q x → Go q y → x ≡ y) where
  one_if : (o : Option Progress) (f : Fault) → NextIf o f x (λ q. Go q x) → NextIf o f y (λ q. Go q y) → x ≡ y
  one_if None f h k = h ∙ sym k
  one_if (Some q) f h k = one q h k

  one_next : (place : ℕ) (m : Meaning) (q : Progress) → Next place m q x (λ next. Go next x) → Next place m q y (λ next. Go next y) → x ≡ y
  one_next place (Meaning.fault f) q h k = h ∙ sym k
  one_next place (Meaning.mark m) q h k = one_if (progress_after place m q) (misplaced_fault place m) h k

one_run : (ps : List Piece) (q : Progress) (x y : Expansion) → Runs ps q x → Runs ps q y → x ≡ y
one_run [] q x y h k = one_end q.blocks q.body x y h k
one_run (p ∷ ps) q x y (m, means, go) (n, meant, went) =
    one_next (Runs ps) x y (λ next. one_run ps next x y) p.place m q go
    (subst (λ (z : Meaning). Next p.place z q y (λ next. Runs ps next y)) (one_meaning p n m meant means) went)

-- Statements reversed twice.
abbrev put_before : Statements → Statements → Statements
put_before Statements.none out = out
put_before (Statements.more s ss) out = Statements.more s (put_before ss out)

turned_twice : (ss out back : Statements) → body_onto (body_onto ss out) back ≡ body_onto out (put_before ss back)
turned_twice Statements.none out back = refl
turned_twice (Statements.more s ss) out back = turned_twice ss (Statements.more s out) back

before_none : (ss : Statements) → put_before ss Statements.none ≡ ss
before_none Statements.none = refl
before_none (Statements.more s ss) = ap (λ (rest : Statements). Statements.more s rest) (before_none ss)

in_order : (ss : Statements) → run_order (body_onto ss Statements.none) ≡ ss
in_order ss = turned_twice ss Statements.none Statements.none ∙ before_none ss

-- The first piece is this mark.
marked : (m : Mark) (p : Piece) (from to : List Piece) (q : Progress) (x : Expansion) → from ≡ p ∷ to → MeansTag p (Meaning.mark m)
    → NextIf (progress_after p.place m q) (misplaced_fault p.place m) x (λ next. Runs to next x) → Runs from q x
marked m p from to q x first means go = subst (λ (ps : List Piece). Runs ps q x) (sym first) (Meaning.mark m, means, go)

opened_if : (place : ℕ) (opening : Opening) (blocks : List OpenBlock) (body : Statements) (f : Fault) (x : Expansion) (go : Progress → Type 0) → length blocks < 64
    → go (progress (open_block place opening body ∷ blocks) Statements.none) → NextIf (block_opened place opening (progress blocks body)) f x go
opened_if place opening blocks body f x go few h =
    let test : nat_lt (length blocks) 64 ≡ true = grind (arith, nat_tests, few) in
    rw test h

-- What the grammar describes is the result of the pieces.
mutual
  run_statement : (s : Statement) (blocks : List OpenBlock) (body : Statements) (from to : List Piece) (x : Expansion) → StatementAt s (length blocks) from to
      → Runs to (progress blocks (Statements.more s body)) x → Runs from (progress blocks body) x
  run_statement (Statement.put e) blocks body from to x (p, first, means) h = marked (Mark.put e) p from to (progress blocks body) x first means h
  run_statement (Statement.escape e) blocks body from to x (p, first, means) h = marked (Mark.escape e) p from to (progress blocks body) x first means h
  run_statement (Statement.bind n e inner) blocks body from to x (inside, rest, few, (p, first, means), front, (q, last, meant)) h =
      let block = open_block p.place (Opening.bind n e) body in
      marked (Mark.bind n e) p from inside (progress blocks body) x first means
      (opened_if p.place (Opening.bind n e) blocks body (Fault.deep p.place) x (λ next. Runs inside next x) few
      (run_body inner (block ∷ blocks) Statements.none inside rest x front
      (marked Mark.finish q rest to (progress (block ∷ blocks) (body_onto inner Statements.none)) x last meant
      (subst (λ (ss : Statements). Runs to (progress blocks (Statements.more (Statement.bind n e ss) body)) x) (sym (in_order inner)) h))))
  run_statement (Statement.assign n e) blocks body from to x at h = absurd at
  run_statement (Statement.branch c inner other) blocks body from to x (inside, rest, few, (p, first, means), front, back) h =
      marked (Mark.branch c) p from inside (progress blocks body) x first means
      (opened_if p.place (Opening.first c) blocks body (Fault.deep p.place) x (λ next. Runs inside next x) few
      (run_body inner (open_block p.place (Opening.first c) body ∷ blocks) Statements.none inside rest x front
      (run_other other c p.place inner blocks body rest to x back h)))
  run_statement (Statement.each a inner) blocks body from to x (inside, rest, few, (p, first, means), front, (q, last, meant)) h =
      let block = open_block p.place (Opening.each a) body in
      marked (Mark.each a) p from inside (progress blocks body) x first means
      (opened_if p.place (Opening.each a) blocks body (Fault.deep p.place) x (λ next. Runs inside next x) few
      (run_body inner (block ∷ blocks) Statements.none inside rest x front
      (marked Mark.finish q rest to (progress (block ∷ blocks) (body_onto inner Statements.none)) x last meant
      (subst (λ (ss : Statements). Runs to (progress blocks (Statements.more (Statement.each a ss) body)) x) (sym (in_order inner)) h))))
  run_statement (Statement.create n m site cells inner) blocks body from to x at h = absurd at
  run_statement (Statement.update m e cells) blocks body from to x at h = absurd at
  run_statement (Statement.delete m e) blocks body from to x at h = absurd at
  run_statement Statement.missing blocks body from to x at h = absurd at
  run_statement (Statement.redirect e) blocks body from to x at h = absurd at
  run_statement (Statement.template t) blocks body from to x at h = absurd at
  run_statement (Statement.block inner) blocks body from to x at h = absurd at

  -- From the end of the first body of an `if`.
  run_other : (other : Statements) (c : Expression) (place : ℕ) (inner : Statements) (blocks : List OpenBlock) (body : Statements) (from to : List Piece) (x : Expansion)
      → OtherAt other (suc (length blocks)) from to → Runs to (progress blocks (Statements.more (Statement.branch c inner other) body)) x
      → Runs from (progress (open_block place (Opening.first c) body ∷ blocks) (body_onto inner Statements.none)) x
  run_other Statements.none c place inner blocks body from to x (inl (q, last, meant)) h =
      marked Mark.finish q from to (progress (open_block place (Opening.first c) body ∷ blocks) (body_onto inner Statements.none)) x last meant
      (subst (λ (ss : Statements). Runs to (progress blocks (Statements.more (Statement.branch c ss Statements.none) body)) x) (sym (in_order inner)) h)
  run_other Statements.none c place inner blocks body from to x (inr (inside, (p, first, means), (q, last, meant))) h =
      let done = run_order (body_onto inner Statements.none) in
      marked Mark.otherwise p from inside (progress (open_block place (Opening.first c) body ∷ blocks) (body_onto inner Statements.none)) x first means
      (marked Mark.finish q inside to (progress (open_block place (Opening.second c done) body ∷ blocks) Statements.none) x last meant
      (subst (λ (ss : Statements). Runs to (progress blocks (Statements.more (Statement.branch c ss Statements.none) body)) x) (sym (in_order inner)) h))
  run_other (Statements.more s ss) c place inner blocks body from to x (inside, middle, rest, (p, first, means), one, more, (q, last, meant)) h =
      let done = run_order (body_onto inner Statements.none) in
      let block = open_block place (Opening.second c done) body in
      marked Mark.otherwise p from inside (progress (open_block place (Opening.first c) body ∷ blocks) (body_onto inner Statements.none)) x first means
      (run_statement s (block ∷ blocks) Statements.none inside middle x one
      (run_body ss (block ∷ blocks) (Statements.more s Statements.none) middle rest x more
      (marked Mark.finish q rest to (progress (block ∷ blocks) (body_onto ss (Statements.more s Statements.none))) x last meant
      (subst (λ (es : Statements). Runs to (progress blocks (Statements.more (Statement.branch c done es) body)) x) (sym (in_order (Statements.more s ss)))
      (subst (λ (ts : Statements). Runs to (progress blocks (Statements.more (Statement.branch c ts (Statements.more s ss)) body)) x) (sym (in_order inner)) h)))))

  run_body : (ss : Statements) (blocks : List OpenBlock) (body : Statements) (from to : List Piece) (x : Expansion) → BodyAt ss (length blocks) from to
      → Runs to (progress blocks (body_onto ss body)) x → Runs from (progress blocks body) x
  run_body Statements.none blocks body from to x same h = subst (λ (ps : List Piece). Runs ps (progress blocks body) x) (sym same) h
  run_body (Statements.more s ss) blocks body from to x (rest, one, more) h =
      run_statement s blocks body from rest x one (run_body ss blocks (Statements.more s body) rest to x more h)

-- The same for the first fault.
at_fault : (blocks : List OpenBlock) (body : Statements) (f : Fault) → EndFault (blocks_of blocks) f → AtEnd blocks body (Expansion.fault f)
at_fault [] body f h = absurd h
at_fault (b ∷ blocks) body f h = ap (λ (g : Fault). Expansion.fault g) h

abbrev is_there : {A : Type 0} → Option A → Bool
is_there None = false
is_there (Some a) = true

abbrev blocks_or : List Block → Option (List Block) → List Block
blocks_or blocks None = blocks
blocks_or blocks (Some other) = other

none_next : (o : Option Progress) (f g : Fault) (go : Progress → Type 0) → option_map blocks_in o ≡ None → g ≡ f → NextIf o f (Expansion.fault g) go
none_next None f g go none same = ap (λ (z : Fault). Expansion.fault z) same
none_next (Some q) f g go none same = let e : true ≡ false = ap is_there none in absurd (grind (arith, e))

some_next : (o : Option Progress) (next : List Block) (f : Fault) (x : Expansion) (go : Progress → Type 0) → option_map blocks_in o ≡ Some next
    → ((q : Progress) → blocks_in q ≡ next → go q) → NextIf o f x go
some_next None next f x go some each = let e : false ≡ true = ap is_there some in absurd (grind (arith, e))
some_next (Some q) next f x go some each = each q (ap (blocks_or []) some)

run_fault : (ps : List Piece) (q : Progress) (f : Fault) → FirstFault (blocks_in q) ps f → Runs ps q (Expansion.fault f)
run_fault [] q f h = at_fault q.blocks q.body f h
run_fault (p ∷ ps) q f (inl means) = (Meaning.fault f, means, refl)
run_fault (p ∷ ps) q f (inr (inl (m, means, none, same))) = (
  Meaning.mark m,
  means,
  none_next (progress_after p.place m q) (misplaced_fault p.place m) f (λ next. Runs ps next (Expansion.fault f)) (sym (behind_after p.place m q.blocks q.body) ∙ none) same,
)
run_fault (p ∷ ps) q f (inr (inr (m, next, means, some, rest))) = (
  Meaning.mark m,
  means,
  some_next (progress_after p.place m q) next (misplaced_fault p.place m) (Expansion.fault f) (λ z. Runs ps z (Expansion.fault f)) (sym (behind_after p.place m q.blocks q.body) ∙ some)
      (λ z same. run_fault ps z f (subst (λ (blocks : List Block). FirstFault blocks ps f) (sym same) rest)),
)

run_text : (text : List ℕ) (x : Expansion) → Expands text x → Runs (pieces text) (progress [] Statements.none) x
run_text text (Expansion.statements ss) h =
    run_body ss [] Statements.none (pieces text) [] (Expansion.statements ss) h (ap (λ (z : Statements). Expansion.statements z) (sym (in_order ss)))
run_text text (Expansion.fault f) h = run_fault (pieces text) (progress [] Statements.none) f h

pub one_expansion : (text : List ℕ) (x y : Expansion) → Expands text x → Expands text y → x ≡ y
one_expansion text x y h k = one_run (pieces text) (progress [] Statements.none) x y (run_text text x h) (run_text text y k)
