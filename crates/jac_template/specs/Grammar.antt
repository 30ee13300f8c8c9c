-- Which statements the pieces of a template stand for, or where its first fault is.
use Rattle.std.specs.Prelude.{◌≡◌, ◌⊎◌, ℕ, suc, ◌<◌, nat_lt, Bool, true, false, if◌then◌else◌, Option, Some, None, List, [], ◌∷◌, length}
use Rattle.jac_lang.specs.Syntax.{Statement, Statements}
use Rattle.jac_template.specs.Faults.{Fault}
use Rattle.jac_template.specs.Pieces.{Piece}
use Rattle.jac_template.specs.Tags.{Mark, Meaning, MeansTag}

-- The first of the pieces `from` means the mark, and the pieces `to` follow it.
abbrev pub MarkAt : Mark → List Piece → List Piece → Type 0
MarkAt m from to = (p : Piece) × (from ≡ p ∷ to) × MeansTag p (Meaning.mark m)

-- The pieces `from` begin with the statement, which is inside `depth` blocks. The pieces `to`
-- follow it.
abbrev mutual
  pub StatementAt : Statement → ℕ → List Piece → List Piece → Type 0
  StatementAt (Statement.put e) depth from to = MarkAt (Mark.put e) from to
  StatementAt (Statement.escape e) depth from to = MarkAt (Mark.escape e) from to
  StatementAt (Statement.bind x e body) depth from to =
      (inside : List Piece) × (rest : List Piece) × (depth < 64)
      × MarkAt (Mark.bind x e) from inside × BodyAt body (suc depth) inside rest
      × MarkAt Mark.finish rest to
  StatementAt (Statement.each q body) depth from to =
      (inside : List Piece) × (rest : List Piece) × (depth < 64)
      × MarkAt (Mark.each q) from inside × BodyAt body (suc depth) inside rest
      × MarkAt Mark.finish rest to
  StatementAt (Statement.branch c body other) depth from to =
      (inside : List Piece) × (rest : List Piece) × (depth < 64)
      × MarkAt (Mark.branch c) from inside × BodyAt body (suc depth) inside rest
      × OtherAt other (suc depth) rest to
  StatementAt s depth from to = ⊥

  -- The end of an `if`: `end`, or `else`, statements and `end`.
  pub OtherAt : Statements → ℕ → List Piece → List Piece → Type 0
  OtherAt Statements.none depth from to =
      MarkAt Mark.finish from to
      ⊎ ((inside : List Piece) × MarkAt Mark.otherwise from inside × MarkAt Mark.finish inside to)
  OtherAt (Statements.more s ss) depth from to =
      (inside : List Piece) × (middle : List Piece) × (rest : List Piece)
      × MarkAt Mark.otherwise from inside × StatementAt s depth inside middle
      × BodyAt ss depth middle rest × MarkAt Mark.finish rest to

  -- The statements, one after another.
  pub BodyAt : Statements → ℕ → List Piece → List Piece → Type 0
  BodyAt Statements.none depth from to = from ≡ to
  BodyAt (Statements.more s ss) depth from to = (rest : List Piece) × StatementAt s depth from rest
      × BodyAt ss depth rest to

-- An open block: the place of its tag, and whether an `else` may be directly in it.
pub record Block : Type 0 where
  pub place : ℕ
  pub is_choice : Bool

abbrev pub block : ℕ → Bool → Block
block place is_choice = record { place = place; is_choice = is_choice }

-- The open blocks after one more is opened, or none if there are 64 already.
abbrev pub blocks_within : ℕ → Bool → List Block → Option (List Block)
blocks_within place is_choice blocks = if nat_lt (length blocks) 64
    then Some (block place is_choice ∷ blocks) else None

-- The blocks without the innermost.
abbrev pub blocks_ended : List Block → Option (List Block)
blocks_ended [] = None
blocks_ended (b ∷ blocks) = Some blocks

-- The open blocks after the `else` of the innermost.
abbrev pub blocks_turned : List Block → Option (List Block)
blocks_turned [] = None
blocks_turned (b ∷ blocks) = if b.is_choice then Some (block b.place false ∷ blocks) else None

-- The blocks that are open after a mark at this place, the innermost first. The result is `None` if
-- the mark may not be there.
abbrev pub blocks_behind : ℕ → Mark → List Block → Option (List Block)
blocks_behind place (Mark.put e) blocks = Some blocks
blocks_behind place (Mark.escape e) blocks = Some blocks
blocks_behind place (Mark.bind x e) blocks = blocks_within place false blocks
blocks_behind place (Mark.branch c) blocks = blocks_within place true blocks
blocks_behind place (Mark.each q) blocks = blocks_within place false blocks
blocks_behind place Mark.otherwise blocks = blocks_turned blocks
blocks_behind place Mark.finish blocks = blocks_ended blocks

-- The fault of a mark that may not be at this place.
abbrev pub misplaced_fault : ℕ → Mark → Fault
misplaced_fault place Mark.otherwise = Fault.stray place
misplaced_fault place Mark.finish = Fault.stray place
misplaced_fault place m = Fault.deep place

-- The fault of blocks that are open at the end of the text: the innermost block has no end.
abbrev pub EndFault : List Block → Fault → Type 0
EndFault [] fault = ⊥
EndFault (b ∷ blocks) fault = fault ≡ Fault.unclosed b.place

-- The first fault of the pieces inside the open blocks: that of the first piece, or that it may not
-- be there, or else the first fault of the pieces after it.
abbrev pub FirstFault : List Block → List Piece → Fault → Type 0
FirstFault blocks [] fault = EndFault blocks fault
FirstFault blocks (p ∷ ps) fault =
    MeansTag p (Meaning.fault fault)
    ⊎ ((m : Mark) × MeansTag p (Meaning.mark m) × (blocks_behind p.place m blocks ≡ None)
    × (fault ≡ misplaced_fault p.place m))
    ⊎ ((m : Mark) × (next : List Block) × MeansTag p (Meaning.mark m)
    × (blocks_behind p.place m blocks ≡ Some next) × FirstFault next ps fault)
