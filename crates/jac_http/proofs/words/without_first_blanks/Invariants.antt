use Rattle.std.proofs.Common.{◌≡◌, length}
use Rattle.jac_http.specs.Parts.{without_blanks}
use Rattle.jac_http.proofs.words.without_first_blanks.Given as goal

abbrev pub invariant-blanks : goal.invariant-blanks
invariant-blanks l = without_blanks l.kept ≡ without_blanks l.bytes

abbrev pub decreases-blanks : goal.decreases-blanks
decreases-blanks l = length l.kept
