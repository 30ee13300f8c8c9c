use Rattle.std.proofs.Common.{◌≡◌, ◌≢◌, ◌==◌, true, false, length, refl, arith}
use Rattle.std.proofs.lemmas.Bool.Decides.{nat_tests}
use Rattle.jac_tree.proofs.States.{none_open, none_open_from, atom_finished, atom_unfinished}
use Rattle.jac_tree.proofs.read.finish_atom.Goals as goal

pub returns-then-is_empty-clause-finishes : goal.returns-then-is_empty-clause-finishes
returns-then-is_empty-clause-finishes c t =
    let e : true ≡ (length c.args.stack.now == 0) = c.if-is_empty.ensures in
    let n : length c.args.stack.now ≡ 0 = grind (arith, nat_tests, e) in
    atom_finished _ _ _ t (none_open _ n) c.from_string.ensures

pub returns-else-is_empty-clause-finishes : goal.returns-else-is_empty-clause-finishes
returns-else-is_empty-clause-finishes c =
    let e : false ≡ (length c.args.stack.now == 0) = c.if-is_empty.ensures in
    let m : length c.args.stack.now ≢ 0 = grind (arith, nat_tests, e) in
    (refl, λ t. atom_unfinished _ _ t (λ h. let n = none_open_from c.args.stack.now h in omega arith))
