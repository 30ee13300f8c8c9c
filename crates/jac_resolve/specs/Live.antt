-- Which labels of a list are live.
use Rattle.std.specs.Prelude.{◌≡◌, ℕ, true, List}
use Rattle.jac_world.specs.World.{shown_by}
use Rattle.jac_lang.specs.Syntax.{Application}
use Rattle.jac_plain.specs.Policies.{IsLiveLabel}
use Rattle.jac_plain.specs.Requests.{Worlds}

-- The live labels among the given ones.
pub record AreLiveOf (app : Application) (worlds : Worlds) (labels live : List ℕ) : Type 0 where
  pub within : (k : ℕ) → shown_by live k ≡ true → shown_by labels k ≡ true
  pub only : (k : ℕ) → shown_by live k ≡ true → IsLiveLabel app worlds k
  pub every : (k : ℕ) → IsLiveLabel app worlds k → shown_by labels k ≡ true → shown_by live k ≡ true
