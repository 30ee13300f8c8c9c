use Rattle.std.proofs.Common.{◌≡◌, length, reverse}
use Rattle.jac_http.specs.Parts.{without_blanks}
use Rattle.jac_http.proofs.words.without_last_blanks.Given as goal

abbrev pub invariant-blanks : goal.invariant-blanks
invariant-blanks l = reverse (without_blanks (reverse l.kept)) ≡ reverse (without_blanks (reverse l.bytes))

abbrev pub decreases-blanks : goal.decreases-blanks
decreases-blanks l = length l.kept
