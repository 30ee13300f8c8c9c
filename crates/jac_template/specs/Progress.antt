-- The state of a reader of pieces: the open blocks, and the statements so far of the innermost
-- body.
use Rattle.std.specs.Prelude.{◌≡◌, ℕ, nat_lt, if◌then◌else◌, Option, Some, None, List, [], ◌∷◌, ◌++◌, length}
use Rattle.jac_lang.specs.Mirror.{expression_of, question_of, statements_of}
use Rattle.jac_lang.specs.Syntax.{Expression, Question, Statement, Statements}
use Rattle.jac_lang.specs.Turned.{body_onto}
use Rattle.jac_template.specs.Faults.{Fault}
use Rattle.jac_template.specs.Tags.{Mark}
use Rattle.jac_template.specs.declared.blocks.Blocks.{Blocks}
use Rattle.jac_template.specs.declared.blocks.Context.{Context}
use Rattle.jac_template.specs.declared.blocks.Context.TheVariants as contexts
use Rattle.jac_template.specs.declared.blocks.Frame.{Frame}

-- The open body: that of a `let`, the first or the second of an `if`, or that of a `for`.
pub data Opening : Type 0 where
  bind : List ℕ → Expression → Opening
  first : Expression → Opening
  second : Expression → Statements → Opening
  each : Question → Opening

-- An open block: the place of its tag, its body, and the statements before it, in reverse order.
pub record OpenBlock : Type 0 where
  pub place : ℕ
  pub opening : Opening
  pub before : Statements

abbrev pub open_block : ℕ → Opening → Statements → OpenBlock
open_block place opening before = record { place = place; opening = opening; before = before }

-- The open blocks, the innermost first, and the statements of the innermost body, in reverse order.
pub record Progress : Type 0 where
  pub blocks : List OpenBlock
  pub body : Statements

abbrev pub progress : List OpenBlock → Statements → Progress
progress blocks body = record { blocks = blocks; body = body }

abbrev pub opening_of : Context → Opening
opening_of (contexts.Let x e) = Opening.bind x (expression_of e)
opening_of (contexts.Then c) = Opening.first (expression_of c)
opening_of (contexts.Else c ss) = Opening.second (expression_of c) (statements_of ss)
opening_of (contexts.For q) = Opening.each (question_of q)

abbrev pub open_block_of : Frame → OpenBlock
open_block_of f = open_block f.place (opening_of f.context) (statements_of f.before)

-- The open blocks of a stack, the innermost first. On the stack it is the last.
abbrev pub open_blocks : List Frame → List OpenBlock
open_blocks [] = []
open_blocks (f ∷ fs) = open_blocks fs ++ open_block_of f ∷ []

abbrev pub progress_of : Blocks → Progress
progress_of b = progress (open_blocks b.frames.items) (statements_of b.body)

-- The statements in the order in which they run.
abbrev pub run_order : Statements → Statements
run_order body = body_onto body Statements.none

-- The statement of a block, after its `end` is read.
abbrev pub statement : Opening → Statements → Statement
statement (Opening.bind x e) body = Statement.bind x e body
statement (Opening.first c) body = Statement.branch c body Statements.none
statement (Opening.second c done) body = Statement.branch c done body
statement (Opening.each q) body = Statement.each q body

-- The progress after one more block is opened, or none if there are 64 already.
abbrev pub block_opened : ℕ → Opening → Progress → Option Progress
block_opened place opening p =
    if nat_lt (length p.blocks) 64 then Some (progress (open_block place opening p.body ∷ p.blocks)
    Statements.none) else None

-- The progress after the `else` of the innermost block.
abbrev pub turned_in : ℕ → Opening → Statements → List OpenBlock → Statements → Option Progress
turned_in place (Opening.first c) before blocks body =
    Some (progress (open_block place (Opening.second c (run_order body)) before ∷ blocks)
    Statements.none)
turned_in place opening before blocks body = None

abbrev pub block_turned : List OpenBlock → Statements → Option Progress
block_turned [] body = None
block_turned (b ∷ blocks) body = turned_in b.place b.opening b.before blocks body

-- The progress after the `end` of the innermost block.
abbrev pub block_closed : List OpenBlock → Statements → Option Progress
block_closed [] body = None
block_closed (b ∷ blocks) body =
    Some (progress blocks (Statements.more (statement b.opening (run_order body)) b.before))

-- The progress after a mark at this place, or none if the mark may not be there.
abbrev pub progress_after : ℕ → Mark → Progress → Option Progress
progress_after place (Mark.put e) p = Some (progress p.blocks (Statements.more
    (Statement.put e) p.body))
progress_after place (Mark.escape e) p =
    Some (progress p.blocks (Statements.more (Statement.escape e) p.body))
progress_after place (Mark.bind x e) p = block_opened place (Opening.bind x e) p
progress_after place (Mark.branch c) p = block_opened place (Opening.first c) p
progress_after place (Mark.each q) p = block_opened place (Opening.each q) p
progress_after place Mark.otherwise p = block_turned p.blocks p.body
progress_after place Mark.finish p = block_closed p.blocks p.body

-- The fault if the innermost block has no end.
abbrev pub IsUnclosed : List OpenBlock → Fault → Type 0
IsUnclosed [] fault = ⊥
IsUnclosed (b ∷ blocks) fault = fault ≡ Fault.unclosed b.place
