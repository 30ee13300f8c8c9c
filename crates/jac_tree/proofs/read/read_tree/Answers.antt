use Rattle.std.proofs.Common.{◌≡◌, ◌≤◌, inl, length, refl, sym, ap, subst, arith}
use Rattle.std.proofs.lemmas.Result.{err_from_is_err_and}
use Rattle.std.specs.Str.{IsValidUpTo}
use Rattle.jac_tree.specs.Grammar.{Spells}
use Rattle.jac_tree.specs.Mirror.{plain}
use Rattle.jac_tree.specs.Reading.{HasFault}
use Rattle.jac_tree.proofs.First.{one_fault, faultless, encoding_fault}
use Rattle.jac_tree.proofs.Runs.{no_fault}
use Rattle.jac_tree.proofs.Unique.{spells_wide}
use Rattle.jac_tree.proofs.read.read_tree.Goals as goal

pub returns-in_err-tree-clause-only : goal.returns-in_err-tree-clause-only
returns-in_err-tree-clause-only c t a =
    let p = err_from_is_err_and c.from_residual.result c.from_residual.ensures.1 in
    let same = c.in-Ok.ensures.cases.0 in
    let h = subst (λ z. Spells z t) (sym same) a.spelled in
    rw (p.1, p.2) (no_fault _ t _ h a.shallow c.in_err-tree.ensures)

pub returns-clause-tree : goal.returns-clause-tree
returns-clause-tree c =
    let same = c.in-Ok.ensures.cases.0 in
    record {
      short = omega arith;
      utf8 = c.in-Ok.ensures.cases.1;
      spelled = subst (λ z. Spells z (plain c.in_ok-tree.tree)) same ((c.in_ok-tree.ensures.1 (plain c.in_ok-tree.tree)).1 refl);
      shallow = c.in_ok-tree.ensures.0;
    }

pub returns-clause-only : goal.returns-clause-only
returns-clause-only c t a =
    let same = c.in-Ok.ensures.cases.0 in
    sym ((c.in_ok-tree.ensures.1 t).0 (subst (λ z. Spells z t) (sym same) a.spelled))

pub returns-clause-short_lists : goal.returns-clause-short_lists
returns-clause-short_lists c =
    let h = (c.in_ok-tree.ensures.1 (plain c.in_ok-tree.tree)).1 refl in
    let n = spells_wide c.in-Ok.text.now (plain c.in_ok-tree.tree) h in
    let m : length c.in-Ok.text.now ≡ length c.args.bytes.now = ap length c.in-Ok.ensures.cases.0 in
    let k : length c.args.bytes.now ≤ 1048576 = omega arith in
    omega (arith, n, m, k)

pub returns-in-Err-clause-faults : goal.returns-in-Err-clause-faults
returns-in-Err-clause-faults c fault f =
    let (p, v) = c.in-Err.ensures.cases in
    inl (encoding_fault c.args.bytes.now _ fault (omega arith) p (subst (λ z. IsValidUpTo c.args.bytes.now z) (sym c.valid_up_to.ensures) v) f)

pub returns-in_err-tree-clause-faults : goal.returns-in_err-tree-clause-faults
returns-in_err-tree-clause-faults c fault f =
    let p = err_from_is_err_and c.from_residual.result c.from_residual.ensures.1 in
    let (same, text) = c.in-Ok.ensures.cases in
    let h = subst (λ z. HasFault z c.in_err-tree.field-0.0) same c.in_err-tree.ensures in
    rw (p.1, p.2) (one_fault c.args.bytes.now _ fault (omega arith) text h f)

pub returns-clause-faults : goal.returns-clause-faults
returns-clause-faults c fault f =
    let (same, text) = c.in-Ok.ensures.cases in
    let s = (c.in_ok-tree.ensures.1 (plain c.in_ok-tree.tree)).1 refl in
    faultless c.args.bytes.now (plain c.in_ok-tree.tree) fault (omega arith) text (subst (λ z. Spells z (plain c.in_ok-tree.tree)) same s) c.in_ok-tree.ensures.0 f
