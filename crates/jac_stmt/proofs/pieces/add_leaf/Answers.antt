use Rattle.std.proofs.Common.{◌∙◌, ap, [], ◌∷◌, ◌++◌, List, if◌then◌else◌}
use Rattle.jac_facet.specs.Leaves.{leaves_seen}
use Rattle.jac_facet.proofs.Ordering.{seen-push}
use Rattle.jac_plain.specs.declared.page.Piece.{Piece}
use Rattle.jac_world.specs.World.{holds}
use Rattle.jac_stmt.proofs.pieces.add_leaf.Goals as goal

pub returns : goal.returns
returns c w =
    ap (leaves_seen w) c.in_ok-push.ensures.ok
    ∙ seen-push w c.args.out.now (c.args.guard, c.in_ok-piece.piece)
    ∙ ap (λ (p : Piece). leaves_seen w c.args.out.now ++ if◌then◌else◌ {A = List Piece} (holds w c.args.guard) (p ∷ []) []) c.in_ok-piece.ensures
