use Rattle.std.proofs.Common.{◌≡◌, refl, sym}
use Rattle.jac_tree.specs.Mirror.{plain}
use Rattle.jac_tree.proofs.Unique.{spells_wide}
use Rattle.jac_tree.proofs.read.read_text.Goals as goal

pub returns-clause-reads : goal.returns-clause-reads
returns-clause-reads c = rw (sym c.as_str.ensures) c.in_ok-tree.ensures

pub returns-clause-wide : goal.returns-clause-wide
returns-clause-wide c =
    let e : c.as_str.result.now ≡ c.args.text.now = c.as_str.ensures in
    rw (sym e) (spells_wide c.as_str.result.now (plain c.in_ok-tree.tree) ((c.in_ok-tree.ensures.1 (plain c.in_ok-tree.tree)).1 refl))
