-- What completes a template after the pieces that were read.
use Rattle.std.proofs.Common.{◌≡◌, inl, inr, ℕ, suc, ◌<◌, Bool, true, false, nat_lt, List, [], ◌∷◌, length, Option, Some, None, if◌then◌else◌, refl, sym, ◌∙◌, ap, subst, arith}
use Rattle.std.proofs.lemmas.Bool.Decides.{nat_tests}
use Rattle.std.specs.Option.{option_map}
use Rattle.jac_lang.specs.Syntax.{Statement, Statements}
use Rattle.jac_lang.specs.Turned.{body_onto}
use Rattle.jac_template.specs.Faults.{Fault}
use Rattle.jac_template.specs.Grammar.{MarkAt, StatementAt, OtherAt, BodyAt, Block, block, blocks_within, blocks_behind, misplaced_fault, EndFault, FirstFault}
use Rattle.jac_template.specs.Pieces.{Piece}
use Rattle.jac_template.specs.Progress.{OpenBlock, Opening, Progress, progress, open_block, block_opened, turned_in, statement, run_order, progress_after, IsUnclosed}
use Rattle.jac_template.specs.Tags.{Mark, Meaning, MeansTag}

-- The pieces `from` complete the open block, which is inside `depth` blocks and has the body so far
-- `body`. It is the statement `s`, and the pieces `to` follow.
abbrev pub EndsAs : Opening → ℕ → Statements → List Piece → List Piece → Statement → Type 0
EndsAs (Opening.bind x e) depth body from to s =
    (inner : Statements) × (rest : List Piece) × BodyAt inner depth from rest × MarkAt Mark.finish rest to × (s ≡ Statement.bind x e (body_onto body inner))
EndsAs (Opening.first c) depth body from to s =
    (inner : Statements) × (other : Statements) × (rest : List Piece) × BodyAt inner depth from rest × OtherAt other depth rest to
    × (s ≡ Statement.branch c (body_onto body inner) other)
EndsAs (Opening.second c done) depth body from to s =
    (inner : Statements) × (rest : List Piece) × BodyAt inner depth from rest × MarkAt Mark.finish rest to × (s ≡ Statement.branch c done (body_onto body inner))
EndsAs (Opening.each q) depth body from to s =
    (inner : Statements) × (rest : List Piece) × BodyAt inner depth from rest × MarkAt Mark.finish rest to × (s ≡ Statement.each q (body_onto body inner))

-- The pieces complete the template of the statements `ss`.
abbrev pub Completes : List OpenBlock → Statements → List Piece → Statements → Type 0
Completes [] body from ss = (inner : Statements) × BodyAt inner 0 from [] × (ss ≡ body_onto body inner)
Completes (b ∷ blocks) body from ss =
    (s : Statement) × (to : List Piece) × EndsAs b.opening (length (b ∷ blocks)) body from to s × Completes blocks (Statements.more s b.before) to ss

abbrev CompletesIf : Option Progress → List Piece → Statements → Type 0
CompletesIf None from ss = ⊥
CompletesIf (Some p) from ss = Completes p.blocks p.body from ss

-- One more statement of the innermost body.
ends_more : (opening : Opening) (depth : ℕ) (s t : Statement) (body : Statements) (from rest to : List Piece) → StatementAt s depth from rest
    → EndsAs opening depth (Statements.more s body) rest to t → EndsAs opening depth body from to t
ends_more (Opening.bind x e) depth s t body from rest to at (inner, end, front, finish, same) = (Statements.more s inner, end, (rest, at, front), finish, same)
ends_more (Opening.first c) depth s t body from rest to at (inner, other, end, front, finish, same) =
    (Statements.more s inner, other, end, (rest, at, front), finish, same)
ends_more (Opening.second c done) depth s t body from rest to at (inner, end, front, finish, same) = (Statements.more s inner, end, (rest, at, front), finish, same)
ends_more (Opening.each q) depth s t body from rest to at (inner, end, front, finish, same) = (Statements.more s inner, end, (rest, at, front), finish, same)

more_first : (blocks : List OpenBlock) (s : Statement) (body ss : Statements) (from rest : List Piece) → StatementAt s (length blocks) from rest
    → Completes blocks (Statements.more s body) rest ss → Completes blocks body from ss
more_first [] s body ss from rest at (inner, front, same) = (Statements.more s inner, (rest, at, front), same)
more_first (b ∷ blocks) s body ss from rest at (t, to, ends, more) = (t, to, ends_more b.opening (length (b ∷ blocks)) s t body from rest to at ends, more)

-- The mark opens a block with this body. Below: if the block ends, it is a statement.
abbrev pub opens_with : Opening → Mark → Type 0
opens_with (Opening.bind x e) m = m ≡ Mark.bind x e
opens_with (Opening.first c) m = m ≡ Mark.branch c
opens_with (Opening.second c done) m = ⊥
opens_with (Opening.each q) m = m ≡ Mark.each q

begun : (opening : Opening) (depth : ℕ) (m : Mark) (s : Statement) (from inside to : List Piece) → opens_with opening m → depth < 64 → MarkAt m from inside
    → EndsAs opening (suc depth) Statements.none inside to s → StatementAt s depth from to
begun (Opening.bind x e) depth m s from inside to is few at (inner, rest, front, finish, same) =
    subst (λ (t : Statement). StatementAt t depth from to) (sym same) (inside, rest, few, subst (λ (k : Mark). MarkAt k from inside) is at, front, finish)
begun (Opening.first c) depth m s from inside to is few at (inner, other, rest, front, finish, same) =
    subst (λ (t : Statement). StatementAt t depth from to) (sym same) (inside, rest, few, subst (λ (k : Mark). MarkAt k from inside) is at, front, finish)
begun (Opening.second c done) depth m s from inside to is few at ends = absurd is
begun (Opening.each q) depth m s from inside to is few at (inner, rest, front, finish, same) =
    subst (λ (t : Statement). StatementAt t depth from to) (sym same) (inside, rest, few, subst (λ (k : Mark). MarkAt k from inside) is at, front, finish)

opened_first : (place : ℕ) (opening : Opening) (m : Mark) (blocks : List OpenBlock) (body ss : Statements) (from inside : List Piece) → opens_with opening m
    → length blocks < 64 → MarkAt m from inside → Completes (open_block place opening body ∷ blocks) Statements.none inside ss → Completes blocks body from ss
opened_first place opening m blocks body ss from inside is few at (s, to, ends, more) =
    more_first blocks s body ss from to (begun opening (length blocks) m s from inside to is few at ends) more

-- An `else`, the second body and `end` complete an `if`.
other_at : (inner : Statements) (depth : ℕ) (from inside rest to : List Piece) → MarkAt Mark.otherwise from inside → BodyAt inner depth inside rest → MarkAt Mark.finish rest to
    → OtherAt inner depth from to
other_at Statements.none depth from inside rest to at front finish = inr (inside, at, subst (λ (r : List Piece). MarkAt Mark.finish r to) (sym front) finish)
other_at (Statements.more s ss) depth from inside rest to at (middle, first, more) finish = (inside, middle, rest, at, first, more, finish)

turned_first : (place : ℕ) (opening : Opening) (before : Statements) (blocks : List OpenBlock) (body ss : Statements) (from inside : List Piece)
    → MarkAt Mark.otherwise from inside → CompletesIf (turned_in place opening before blocks body) inside ss
    → Completes (open_block place opening before ∷ blocks) body from ss
turned_first place (Opening.bind x e) before blocks body ss from inside at h = absurd h
turned_first place (Opening.first c) before blocks body ss from inside at (s, to, (inner, rest, front, finish, same), more) =
    (s, to, (Statements.none, inner, from, refl, other_at inner (length (open_block place (Opening.first c) before ∷ blocks)) from inside rest to at front finish, same), more)
turned_first place (Opening.second c done) before blocks body ss from inside at h = absurd h
turned_first place (Opening.each q) before blocks body ss from inside at h = absurd h

-- A block has its end.
closed_as : (opening : Opening) (depth : ℕ) (body : Statements) (from to : List Piece) → MarkAt Mark.finish from to
    → EndsAs opening depth body from to (statement opening (run_order body))
closed_as (Opening.bind x e) depth body from to at = (Statements.none, from, refl, at, refl)
closed_as (Opening.first c) depth body from to at = (Statements.none, Statements.none, from, refl, inl at, refl)
closed_as (Opening.second c done) depth body from to at = (Statements.none, from, refl, at, refl)
closed_as (Opening.each q) depth body from to at = (Statements.none, from, refl, at, refl)

-- If the pieces after a mark complete a template, so do the pieces from the mark on.
opened_or_deep : (few : Bool) (place : ℕ) (opening : Opening) (m : Mark) (blocks : List OpenBlock) (body ss : Statements) (from inside : List Piece)
    → nat_lt (length blocks) 64 ≡ few → opens_with opening m → MarkAt m from inside
    → CompletesIf (if few then Some (progress (open_block place opening body ∷ blocks) Statements.none) else None) inside ss → Completes blocks body from ss
opened_or_deep true place opening m blocks body ss from inside test is at h =
    let few : length blocks < 64 = grind (arith, nat_tests, test) in
    opened_first place opening m blocks body ss from inside is few at h
opened_or_deep false place opening m blocks body ss from inside test is at h = absurd h

completes : (place : ℕ) (m : Mark) (blocks : List OpenBlock) (body ss : Statements) (from to : List Piece) → MarkAt m from to
    → CompletesIf (progress_after place m (progress blocks body)) to ss → Completes blocks body from ss
completes place (Mark.put e) blocks body ss from to at h = more_first blocks (Statement.put e) body ss from to at h
completes place (Mark.escape e) blocks body ss from to at h = more_first blocks (Statement.escape e) body ss from to at h
completes place (Mark.bind x e) blocks body ss from to at h =
    opened_or_deep (nat_lt (length blocks) 64) place (Opening.bind x e) (Mark.bind x e) blocks body ss from to refl refl at h
completes place (Mark.branch c) blocks body ss from to at h =
    opened_or_deep (nat_lt (length blocks) 64) place (Opening.first c) (Mark.branch c) blocks body ss from to refl refl at h
completes place (Mark.each q) blocks body ss from to at h =
    opened_or_deep (nat_lt (length blocks) 64) place (Opening.each q) (Mark.each q) blocks body ss from to refl refl at h
completes place Mark.otherwise [] body ss from to at h = absurd h
completes place Mark.otherwise (b ∷ blocks) body ss from to at h = turned_first b.place b.opening b.before blocks body ss from to at h
completes place Mark.finish [] body ss from to at h = absurd h
completes place Mark.finish (b ∷ blocks) body ss from to at h =
    (statement b.opening (run_order body), to, closed_as b.opening (length (b ∷ blocks)) body from to at, h)

-- The open blocks as in the grammar.
abbrev pub is_choice : Opening → Bool
is_choice (Opening.bind x e) = false
is_choice (Opening.first c) = true
is_choice (Opening.second c done) = false
is_choice (Opening.each q) = false

abbrev pub blocks_of : List OpenBlock → List Block
blocks_of [] = []
blocks_of (b ∷ blocks) = block b.place (is_choice b.opening) ∷ blocks_of blocks

abbrev pub blocks_in : Progress → List Block
blocks_in p = blocks_of p.blocks

as_many : (blocks : List OpenBlock) → length (blocks_of blocks) ≡ length blocks
as_many [] = refl
as_many (b ∷ blocks) = let n = as_many blocks in omega arith

within_opened : (place : ℕ) (opening : Opening) (blocks : List OpenBlock) (body : Statements)
    → blocks_within place (is_choice opening) (blocks_of blocks) ≡ option_map blocks_in (block_opened place opening (progress blocks body))
within_opened place opening blocks body = rw (as_many blocks) (either (nat_lt (length blocks) 64))
  where
    either : (few : Bool)
        → (if few then Some (block place (is_choice opening) ∷ blocks_of blocks) else None)
        ≡ option_map blocks_in (if few then Some (progress (open_block place opening body ∷ blocks) Statements.none) else None)
    either true = refl
    either false = refl

turned_behind : (place : ℕ) (opening : Opening) (before : Statements) (blocks : List OpenBlock) (body : Statements)
    → (if is_choice opening then Some (block place false ∷ blocks_of blocks) else None) ≡ option_map blocks_in (turned_in place opening before blocks body)
turned_behind place (Opening.bind x e) before blocks body = refl
turned_behind place (Opening.first c) before blocks body = refl
turned_behind place (Opening.second c done) before blocks body = refl
turned_behind place (Opening.each q) before blocks body = refl

pub behind_after : (place : ℕ) (m : Mark) (blocks : List OpenBlock) (body : Statements)
    → blocks_behind place m (blocks_of blocks) ≡ option_map blocks_in (progress_after place m (progress blocks body))
behind_after place (Mark.put e) blocks body = refl
behind_after place (Mark.escape e) blocks body = refl
behind_after place (Mark.bind x e) blocks body = within_opened place (Opening.bind x e) blocks body
behind_after place (Mark.branch c) blocks body = within_opened place (Opening.first c) blocks body
behind_after place (Mark.each q) blocks body = within_opened place (Opening.each q) blocks body
behind_after place Mark.otherwise [] body = refl
behind_after place Mark.otherwise (b ∷ blocks) body = turned_behind b.place b.opening b.before blocks body
behind_after place Mark.finish [] body = refl
behind_after place Mark.finish (b ∷ blocks) body = refl

-- What the pieces `left` expand to after those read so far is what all pieces expand to.
pub record Leads (all : List Piece) (so_far : Progress) (left : List Piece) : Type 0 where
  pub written : (ss : Statements) → Completes so_far.blocks so_far.body left ss → BodyAt ss 0 all []
  pub faulty : (f : Fault) → FirstFault (blocks_in so_far) left f → FirstFault [] all f

pub leads_from : (all : List Piece) (so_far : Progress) → so_far ≡ progress [] Statements.none → Leads all so_far all
leads_from all so_far start = subst (λ (q : Progress). Leads all q all) (sym start) from_none
  where
    from_none : Leads all (progress [] Statements.none) all
    from_none = record {
      written = λ ss (inner, front, same). subst (λ (out : Statements). BodyAt out 0 all []) (sym same) front;
      faulty = λ f h. h;
    }

pub leads_on : (all left rest : List Piece) (p : Piece) (m : Mark) (so_far next : Progress) → left ≡ p ∷ rest → MeansTag p (Meaning.mark m)
    → progress_after p.place m so_far ≡ Some next → Leads all so_far left → Leads all next rest
leads_on all left rest p m so_far next first means taken leads = record {
  written = λ ss h. leads.written ss
      (completes p.place m so_far.blocks so_far.body ss left rest (p, first, means) (subst (λ (o : Option Progress). CompletesIf o rest ss) (sym taken) h));
  faulty = λ f h. leads.faulty f
      (subst (λ (ps : List Piece). FirstFault (blocks_in so_far) ps f) (sym first)
      (inr (inr (m, blocks_in next, means, behind_after p.place m so_far.blocks so_far.body ∙ ap (option_map blocks_in) taken, h))));
}

-- The first fault is that of this piece.
pub fault_here : (all left rest : List Piece) (p : Piece) (f : Fault) (so_far : Progress) → left ≡ p ∷ rest → MeansTag p (Meaning.fault f)
    → Leads all so_far left → FirstFault [] all f
fault_here all left rest p f so_far first means leads =
    leads.faulty f (subst (λ (ps : List Piece). FirstFault (blocks_in so_far) ps f) (sym first) (inl means))

-- The first fault is that this mark may not be here.
pub fault_of_place : (all left rest : List Piece) (p : Piece) (m : Mark) (f : Fault) (so_far : Progress) → left ≡ p ∷ rest → MeansTag p (Meaning.mark m)
    → progress_after p.place m so_far ≡ None → f ≡ misplaced_fault p.place m → Leads all so_far left → FirstFault [] all f
fault_of_place all left rest p m f so_far first means none is leads =
    leads.faulty f
    (subst (λ (ps : List Piece). FirstFault (blocks_in so_far) ps f) (sym first)
    (inr (inl (m, means, behind_after p.place m so_far.blocks so_far.body ∙ ap (option_map blocks_in) none, is))))

-- No piece is left.
pub whole : (all left : List Piece) (so_far : Progress) (ss : Statements) → left ≡ [] → so_far.blocks ≡ [] → ss ≡ run_order so_far.body
    → Leads all so_far left → BodyAt ss 0 all []
whole all left so_far ss end none same leads =
    leads.written ss
    (subst (λ (ps : List Piece). Completes so_far.blocks so_far.body ps ss) (sym end)
    (subst (λ (blocks : List OpenBlock). Completes blocks so_far.body [] ss) (sym none) (Statements.none, refl, same)))

pub unended : (all left : List Piece) (so_far : Progress) (f : Fault) → left ≡ [] → IsUnclosed so_far.blocks f → Leads all so_far left → FirstFault [] all f
unended all left so_far f end is leads =
    leads.faulty f (subst (λ (ps : List Piece). FirstFault (blocks_in so_far) ps f) (sym end) (at_end so_far.blocks is))
  where
    at_end : (blocks : List OpenBlock) → IsUnclosed blocks f → EndFault (blocks_of blocks) f
    at_end [] h = absurd h
    at_end (b ∷ blocks) h = h
