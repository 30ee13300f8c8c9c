use Rattle.std.proofs.Common.{◌≡◌, ◌+◌, length}
use Rattle.std.specs.Str.{IsUtf8}
use Rattle.jac_template.specs.Pieces.{pieces, pieces_from}
use Rattle.jac_template.specs.Progress.{progress_of}
use Rattle.jac_template.proofs.Leads.{Leads}
use Rattle.jac_template.proofs.expansion.expand.Given as goal

abbrev pub invariant-pieces : goal.invariant-pieces
invariant-pieces l = record {
  size : l.place + length l.left ≡ length l.text;
  text : IsUtf8 l.left;
  leads : Leads (pieces l.text) (progress_of l.blocks) (pieces_from l.place 0 l.left);
}

abbrev pub decreases-pieces : goal.decreases-pieces
decreases-pieces l = length l.left
