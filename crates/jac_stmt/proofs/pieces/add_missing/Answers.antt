use Rattle.std.proofs.Common.{rules, ◌∙◌, ap, [], ◌∷◌, ◌++◌, List, if◌then◌else◌}
use Rattle.jac_facet.specs.Leaves.{leaves_seen}
use Rattle.jac_facet.proofs.Ordering.{seen-push}
use Rattle.jac_plain.specs.declared.page.Piece.{Piece}
use Rattle.jac_plain.specs.declared.page.Piece.TheVariants as piece
use Rattle.jac_world.specs.World.{holds}
use Rattle.jac_stmt.proofs.pieces.add_missing.Goals as goal

pub returns : goal.returns
returns c w =
    ap (leaves_seen w) c.in_ok-push.ensures.ok
    ∙ seen-push w c.args.out.now (c.in_ok-guard.guard, piece.Missing)
    ∙ ap (λ g. leaves_seen w c.args.out.now ++ if◌then◌else◌ {A = List Piece} (holds w g) (piece.Missing ∷ []) []) (search rules)
