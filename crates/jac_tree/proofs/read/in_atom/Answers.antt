use Rattle.std.proofs.Common.{arith, sym, subst}
use Rattle.std.proofs.lemmas.Result.{err_from_is_err_and}
use Rattle.jac_tree.specs.declared.read.Mode.TheVariants as modes
use Rattle.jac_tree.specs.Plain.{PlainTree}
use Rattle.jac_tree.specs.Reading.{open_lists, Settles}
use Rattle.jac_tree.proofs.States.{shallow_few, in_atom_step, end_atom_step, end_atom_fault}
use Rattle.jac_tree.proofs.read.in_atom.Goals as goal

pub returns-in_err-next-clause-steps : goal.returns-in_err-next-clause-steps
returns-in_err-next-clause-steps c =
    let p = err_from_is_err_and c.from_residual-in_err-next.result c.from_residual-in_err-next.ensures.1 in
    let s = subst (λ z. Settles (open_lists c.args.stack.now.items) (PlainTree.atom z) (open_lists c.settle.new.stack.items) c.in_ok-place.place) c.from_string.ensures c.in_ok-place.ensures.settles in
    rw (p.1, p.2) (end_atom_fault _ _ c.args.c (modes.InAtom c.args.atom) _ c.in_ok-place.place _ _ (sym c.if-is_atom_char.ensures) (λ rest t. (λ h. h, λ h. h)) s c.in_err-next.ensures.steps)

pub returns-in_ok-atom-clause-steps : goal.returns-in_ok-atom-clause-steps
returns-in_ok-atom-clause-steps c = in_atom_step _ c.args.c _ _ (sym c.if-is_atom_char.ensures) c.in_ok-atom.ensures

pub returns-in_ok-next-clause-steps : goal.returns-in_ok-next-clause-steps
returns-in_ok-next-clause-steps c =
    let s = subst (λ z. Settles (open_lists c.args.stack.now.items) (PlainTree.atom z) (open_lists c.settle.new.stack.items) c.in_ok-place.place) c.from_string.ensures c.in_ok-place.ensures.settles in
    end_atom_step _ _ _ c.args.c _ c.in_ok-place.place _ (sym c.if-is_atom_char.ensures) s c.in_ok-next.ensures.steps

pub returns-in_ok-next-clause-shallow : goal.returns-in_ok-next-clause-shallow
returns-in_ok-next-clause-shallow c h =
    let n = shallow_few _ h in
    c.in_ok-next.ensures.shallow (c.in_ok-place.ensures.shallow h (omega arith))
