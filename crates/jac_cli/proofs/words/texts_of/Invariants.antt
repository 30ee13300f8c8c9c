use Rattle.std.proofs.Common.{◌≡◌, map, ◌++◌, length}
use Rattle.jac_cli.proofs.words.texts_of.Given as goal

abbrev pub invariant-words : goal.invariant-words
invariant-words l = map (λ text. text.now) l.texts.items ++ l.left ≡ l.words

abbrev pub decreases-words : goal.decreases-words
decreases-words l = length l.left
