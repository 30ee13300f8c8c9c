use Rattle.std.proofs.Common.{◌≤◌, ◌+◌, encode_utf8, length, sym, ◌∙◌, subst, arith}
use Rattle.std.proofs.lemmas.List.{nil_from_length}
use Rattle.std.proofs.lemmas.Result.{err_from_is_err_and}
use Rattle.jac_tree.specs.Reading.{open_lists, IsShallow}
use Rattle.jac_tree.proofs.States.{chain}
use Rattle.jac_tree.proofs.Runs.{Reading, past_by, past_within, reading_step_by, step_fault, reads_end, end_fault}
use Rattle.jac_tree.proofs.read.read_str.Goals as goal

pub returns-in_err-mode : goal.returns-in_err-mode
returns-in_err-mode c =
    let p = err_from_is_err_and c.from_residual.result c.from_residual.ensures.1 in
    let i = c.characters.invariant in
    rw (p.1, p.2) (step_fault (open_lists c.characters.stack.items) c.characters.mode c.args.text.now _ c.in-Some.c c.characters.at _ i.within (sym i.left ∙ c.in-Some.ensures.steps.0) i.reads i.shallow c.in_err-mode.ensures.steps)

pub characters-preserved : goal.characters-preserved
characters-preserved c =
    let i = c.characters.invariant in
    let e = sym i.left ∙ c.in-Some.ensures.steps.0 in
    let n = c.len_utf8.ensures.len in
    let m : c.characters.at + length (encode_utf8 c.in-Some.c) ≤ length c.args.text.now = past_within _ _ _ c.characters.at i.within e in
    record {
      within = omega (arith, m, n);
      left = past_by c.args.text.now _ _ c.characters.at _ n e;
      reads = reading_step_by (open_lists c.characters.stack.items) (open_lists c.step.new.stack.items) c.characters.mode _ c.args.text.now _ _ c.characters.at _ n e i.reads c.in_ok-mode.ensures.steps;
      shallow = c.in_ok-mode.ensures.shallow i.shallow;
    }

pub returns-in_err-tree : goal.returns-in_err-tree
returns-in_err-tree c =
    let p = err_from_is_err_and c.from_residual-in_err-tree.result c.from_residual-in_err-tree.ensures.1 in
    let i = c.characters.invariant in
    let e = sym i.left ∙ nil_from_length _ c.in-None.ensures.steps.0.0 in
    let r = subst (λ z. Reading (open_lists z) c.characters.mode c.args.text.now c.characters.at) (sym c.as_slice.ensures.value) i.reads in
    let h = subst (λ z. IsShallow (open_lists z) c.characters.mode) (sym c.as_slice.ensures.value) i.shallow in
    rw (p.1, p.2) (end_fault (open_lists c.as_slice.result.now) c.characters.mode c.args.text.now c.characters.at _ i.within e r h c.in_err-tree.ensures.finishes.0 c.in_err-tree.ensures.finishes.1)

pub returns : goal.returns
returns c =
    let i = c.characters.invariant in
    let e = sym i.left ∙ nil_from_length _ c.in-None.ensures.steps.0.0 in
    let r = subst (λ z. Reading (open_lists z) c.characters.mode c.args.text.now c.characters.at) (sym c.as_slice.ensures.value) i.reads in
    let h = subst (λ z. IsShallow (open_lists z) c.characters.mode) (sym c.as_slice.ensures.value) i.shallow in
    (c.in_ok-tree.ensures.shallow h, λ t. chain (reads_end (open_lists c.as_slice.result.now) c.characters.mode c.args.text.now c.characters.at t e r) (c.in_ok-tree.ensures.finishes t))
