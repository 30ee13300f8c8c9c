use Rattle.std.proofs.Common.{◌≡◌, ℕ, List, ◌++◌, length}
use Rattle.jac_lang.specs.declared.pages.View.{View}
use Rattle.jac_lang.specs.Mirror.{pages_of}
use Rattle.jac_route.specs.Firsts.{firsts_from, firsts_at}
use Rattle.jac_route.proofs.firsts.firsts_of.Given as goal

-- The map has the first views among those that follow the ones left.
abbrev pub invariant-views : goal.invariant-views
invariant-views l =
    (behind : List View) × (l.views ≡ l.left ++ behind)
    × ((pattern : List ℕ) → firsts_at l.firsts pattern ≡ firsts_from (length l.left) (pages_of behind) pattern)

abbrev pub decreases-views : goal.decreases-views
decreases-views l = length l.left
