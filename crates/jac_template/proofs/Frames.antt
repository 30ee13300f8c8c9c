-- The stack of open blocks.
use Rattle.std.proofs.Common.{◌≡◌, ◌≤◌, ◌<◌, ℕ, true, false, nat_lt, List, [], ◌∷◌, ◌++◌, length, Some, None, refl, ◌∙◌, ap, arith, length-append}
use Rattle.std.proofs.lemmas.Bool.Decides.{nat_tests}
use Rattle.jac_lang.specs.Mirror.{statements_of}
use Rattle.jac_lang.specs.Syntax.{Statements}
use Rattle.jac_template.specs.Progress.{OpenBlock, Opening, progress, open_block, open_block_of, opening_of, open_blocks, block_opened, block_turned, turned_in, block_closed, statement, run_order, IsUnclosed}
use Rattle.jac_template.specs.Faults.{Fault}
use Rattle.jac_template.specs.declared.blocks.Context.{Context}
use Rattle.jac_template.specs.declared.blocks.Frame.{Frame}

open_blocks-push : (stack : List Frame) (f : Frame) → open_blocks (stack ++ f ∷ []) ≡ open_block_of f ∷ open_blocks stack
open_blocks-push [] f = refl
open_blocks-push (g ∷ stack) f = ap (λ (bs : List OpenBlock). bs ++ open_block_of g ∷ []) (open_blocks-push stack f)

-- The open blocks after a frame is pushed onto the stack, or before it is popped.
pub pushed : (all rest : List Frame) (f : Frame) → all ≡ rest ++ f ∷ [] → open_blocks all ≡ open_block_of f ∷ open_blocks rest
pushed all rest f e = ap open_blocks e ∙ open_blocks-push rest f

pub none_open : (stack : List Frame) → length stack ≡ 0 → open_blocks stack ≡ []
none_open [] e = refl
none_open (f ∷ stack) e = absurd (omega arith)

as_many : (stack : List Frame) → length (open_blocks stack) ≡ length stack
as_many [] = refl
as_many (f ∷ stack) =
    let n = as_many stack in
    let m = length-append (open_blocks stack) (open_block_of f ∷ []) in
    omega arith

-- One more block is opened inside fewer than 64.
pub opens : (place : ℕ) (opening : Opening) (stack : List Frame) (body : Statements) → length stack < 64
    → block_opened place opening (progress (open_blocks stack) body) ≡ Some (progress (open_block place opening body ∷ open_blocks stack) Statements.none)
opens place opening stack body few =
    let n = as_many stack in
    let test : nat_lt (length (open_blocks stack)) 64 ≡ true = grind (arith, nat_tests, n, few) in
    rw test refl

-- No block is opened inside 64.
pub too_deep : (place : ℕ) (opening : Opening) (stack : List Frame) (body : Statements) → 64 ≤ length stack
    → block_opened place opening (progress (open_blocks stack) body) ≡ None
too_deep place opening stack body many =
    let n = as_many stack in
    let test : nat_lt (length (open_blocks stack)) 64 ≡ false = grind (arith, nat_tests, n, many) in
    rw test refl

-- The innermost block ends.
pub closes : (all rest now : List Frame) (f : Frame) (body new : Statements) → all ≡ rest ++ f ∷ [] → now ≡ rest
    → new ≡ Statements.more (statement (opening_of f.context) (run_order body)) (statements_of f.before)
    → block_closed (open_blocks all) body ≡ Some (progress (open_blocks now) new)
closes all rest now f body new e same made = rw (pushed all rest f e, same, made) refl

pub no_block_closes : (stack : List Frame) (body : Statements) → length stack ≡ 0 → block_closed (open_blocks stack) body ≡ None
no_block_closes stack body e = rw (none_open stack e) refl

-- The innermost block reaches its `else`.
pub turns : (all rest : List Frame) (f : Frame) (context : Context) (body : Statements) → all ≡ rest ++ f ∷ [] → f.context ≡ context
    → block_turned (open_blocks all) body ≡ turned_in f.place (opening_of context) (statements_of f.before) (open_blocks rest) body
turns all rest f context body e is = rw (pushed all rest f e, is) refl

pub no_block_turns : (stack : List Frame) (body : Statements) → length stack ≡ 0 → block_turned (open_blocks stack) body ≡ None
no_block_turns stack body e = rw (none_open stack e) refl

-- The innermost block has no end.
pub unclosed : (all rest : List Frame) (f : Frame) → all ≡ rest ++ f ∷ [] → IsUnclosed (open_blocks all) (Fault.unclosed f.place)
unclosed all rest f e = rw (pushed all rest f e) refl
