use Rattle.std.proofs.Common.{◌∙◌, ◌++◌, ◌∷◌, [], ℕ, Bool, List, refl}
use Rattle.jac_keep.specs.Schema.{shapes_by}
use Rattle.jac_sqlkeep.specs.Alternatives.{AreTaken, ReadsOnWith}
use Rattle.jac_sqlkeep.specs.declared.stored.Last.{Last}
use Rattle.jac_sqlkeep.proofs.Rows.{ok_then, reads_on_is}
use Rattle.jac_sqlkeep.proofs.stored.read_on.Goals as goal

pub returns : goal.returns
returns c =
    let shapes = shapes_by c.args.shape.now.kinds c.args.shape.now.nested in
    let moves = c.in_ok-before.ensures in
    let row = c.in_ok-row.row in
    ok_then _ (λ (next : Last). (all : List (List (ℕ × Bool))) → AreTaken all c.args.last.guards.guards.items c.args.last.guards.in_order
    → ReadsOnWith (shapes_by c.args.shape.now.kinds c.args.shape.now.nested) c.args.number c.args.last.model c.args.last.id all c.args.values.now next.model next.id next.guards.guards.items next.guards.in_order)
    c.one_more.result c.one_more.ensures
    (λ next facts all kept.
    let moved = moves.2 all kept in
    let one = facts.2 moved.before moved.kept in
    record {
      next = moved.before ++ row.guard ∷ [];
      read = reads_on_is shapes c.args.number c.args.last.model c.args.last.id all c.args.values.now c.in_ok-model.model row moved.before
          next.model next.id (moved.before ++ row.guard ∷ []) c.in_ok-model.ensures c.in_ok-row.ensures moved.moved (facts.0 ∙ moves.0) (facts.1 ∙ moves.1) one.0 one.1 refl;
      kept = one.2;
    })
