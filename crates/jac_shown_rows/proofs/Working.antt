-- Loops, and loops that read through a work.
use Rattle.std.proofs.Common.{◌≡◌, ◌<◌, ◌+◌, ℕ, suc, List, ◌∷◌, length, drop, get_or, drop-cons, add-one, ap, sym, ◌∙◌}
use Rattle.jac_keep.specs.declared.alteration.Alterations.{Alterations}
use Rattle.jac_keep.specs.declared.work.WorkOver.{WorkOver}
use Rattle.jac_keep.specs.KeeperSeen.{KeeperSeen}
use Rattle.jac_keep.specs.WorkState.{IsTold, IsUntouched}

-- What stays the same and what doesn't fall. If the work's contents are known, what was computed so
-- far.
pub record LoopOver {K : Type 0} (seen : K → KeeperSeen) (old new : WorkOver K Alterations) (computed : Type 0) : Type 0 where
  pub told : IsTold seen new → computed
  pub same : IsUntouched seen old new

-- The step of a loop by index.
pub next : {T : Type 0} (xs : List T) (x : T) (i : ℕ) → x ≡ get_or xs i x → i < length xs → drop i xs ≡ x ∷ drop (i + 1) xs
next xs x i item below = rw add-one (drop-cons xs i x below ∙ ap (λ z. z ∷ drop (suc i) xs) (sym item))
