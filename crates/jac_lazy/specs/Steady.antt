-- Labels that are settled among those that were consulted (`--lazy`).
use Rattle.std.specs.Prelude.{◌≡◌, ℕ, Bool, true, false, List, Option}
use Rattle.jac_world.specs.World.{shown_by, IsAscending}
use Rattle.jac_lang.specs.Syntax.{Application}
use Rattle.jac_plain.specs.Policies.{is_allowed, with_label, IsLiveLabel}
use Rattle.jac_plain.specs.Requests.{Visit, Worlds, page}
use Rattle.jac_plain.specs.declared.page.Page.{Page}
use Rattle.jac_shown_rows.specs.Consulted.{Agrees}

-- The label is allowed, whatever else is shown besides what was consulted.
pub record AlwaysAllows (app : Application) (worlds : Worlds) (viewer : Option ℕ)
    (consulted : List ℕ) (w : ℕ → Bool) (label : ℕ) : Type 0 where
  pub each : (v : ℕ → Bool) → Agrees consulted w v → is_allowed app (worlds v) viewer label ≡ true

-- Some label that the assignment shows isn't allowed, whatever else is shown besides what was
-- consulted.
pub record AlwaysForbids (app : Application) (worlds : Worlds) (viewer : Option ℕ)
    (consulted : List ℕ) (w : ℕ → Bool) : Type 0 where
  pub label : ℕ
  pub is_shown : w label ≡ true
  pub forbidden : (v : ℕ → Bool) → Agrees consulted w v
      → is_allowed app (worlds v) viewer label ≡ false

-- Labels are steady for a viewer if they ascend, and each was consulted, is live, and is allowed
-- whatever else is shown. If any other live label that was consulted is added, some label is never
-- allowed.
pub record IsSteady (app : Application) (worlds : Worlds) (viewer : Option ℕ)
    (consulted labels : List ℕ) : Type 0 where
  pub ascending : IsAscending labels
  pub within : (k : ℕ) → shown_by labels k ≡ true → shown_by consulted k ≡ true
  pub live : (k : ℕ) → shown_by labels k ≡ true → IsLiveLabel app worlds k
  pub allowed : (k : ℕ) → shown_by labels k ≡ true
      → AlwaysAllows app worlds viewer consulted (shown_by labels) k
  pub full : (k : ℕ) → IsLiveLabel app worlds k → shown_by consulted k ≡ true
      → shown_by labels k ≡ false
      → AlwaysForbids app worlds viewer consulted (with_label k (shown_by labels))

-- The page of the request is the same, whatever is shown besides what was consulted.
pub record IsPageOf (app : Application) (before : Worlds) (consulted labels : List ℕ)
    (visit : Visit) (it : Page) : Type 0 where
  pub each : (w : ℕ → Bool) → Agrees consulted (shown_by labels) w → it ≡ page w app
      (before w) visit
