use Rattle.std.proofs.Common.{◌≡◌, ℕ, ◌==◌, ◌||◌, rules}
use Rattle.jac_world.specs.World.{shown_by, IsAscending}
use Rattle.jac_why.proofs.Inserting.{with_inserted}
use Rattle.jac_why.proofs.hidden.with_label.Goals as goal

pub returns : goal.returns
returns c =
    let old = c.args.shown.now in
    let new = c.in_ok-beside.beside in
    let rises : IsAscending old = search rules in
    let rises_too : IsAscending new = search rules in
    let grown : (j : ℕ) → shown_by new j ≡ (c.args.label == j || shown_by old j) = c.in_ok-beside.ensures in
    with_inserted c.args.label old new rises rises_too grown
