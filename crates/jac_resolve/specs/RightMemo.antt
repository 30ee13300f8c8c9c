-- When cached results of policies are right, while labels are tried.
use Rattle.std.specs.Prelude.{◌≡◌, ◌==◌, ◌||◌, ℕ, Bool, true, false, List, Option, Some, is_some, ⊤}
use Rattle.jac_world.specs.World.{shown_by, holds}
use Rattle.jac_lang.specs.Syntax.{Application}
use Rattle.jac_plain.specs.Requests.{Worlds}
use Rattle.jac_plain.specs.Policies.{is_allowed, with_label, AreAllowed}
use Rattle.jac_policy_cache.specs.declared.policy_memo.PolicyMemo.{PolicyMemo}
use Rattle.jac_policy_cache.specs.declared.policy_memo.MemoEntry.{MemoEntry}
use Rattle.jac_policy_cache.specs.Memo.{AreWatched, recall, watches}

-- The result is that of the label's policy under each assignment for which the guard holds.
pub record IsRight (app : Application) (worlds : Worlds) (viewer : Option ℕ) (label : ℕ)
    (known : MemoEntry) : Type 0 where
  pub each : (w : ℕ → Bool) → holds w known.when ≡ true
      → known.holds ≡ is_allowed app (worlds w) viewer label

-- The cached results are the results of the policies.
pub record AreRight (app : Application) (worlds : Worlds) (viewer : Option ℕ)
    (answers : PolicyMemo) : Type 0 where
  pub each : (k : ℕ) (w : ℕ → Bool) (b : Bool) → recall answers k w ≡ Some b
      → b ≡ is_allowed app (worlds w) viewer k

-- Each label that is shown has a cached result.
pub record AreFitted (answers : PolicyMemo) (w : ℕ → Bool) : Type 0 where
  pub each : (k : ℕ) → w k ≡ true → is_some (recall answers k w) ≡ true

-- Results and watchers are only added.
pub record Grown (old new : PolicyMemo) : Type 0 where
  pub kept : (k : ℕ) (w : ℕ → Bool) → is_some (recall old k w) ≡ true
      → is_some (recall new k w) ≡ true
  pub watching : (k j : ℕ) → watches old k j ≡ true → watches new k j ≡ true
  pub watched : AreWatched old → AreWatched new

-- What was shown is still shown, and what was cached is still cached.
pub record Retains (old new : List ℕ) (before now : PolicyMemo) : Type 0 where
  pub shows : (k : ℕ) → shown_by old k ≡ true → shown_by new k ≡ true
  pub grown : Grown before now

-- The invariant between two tries.
pub record IsUnderway (app : Application) (worlds : Worlds) (viewer : Option ℕ) (a : List ℕ)
    (answers : PolicyMemo) : Type 0 where
  pub right : AreRight app worlds viewer answers
  pub allowed : AreAllowed app worlds viewer a
  pub watched : AreWatched answers
  pub fitted : AreFitted answers (shown_by a)

-- Some label that the assignment shows isn't allowed under it, and this result is cached.
pub record RemembersForbidden (app : Application) (worlds : Worlds) (viewer : Option ℕ)
    (answers : PolicyMemo) (w : ℕ → Bool) : Type 0 where
  pub label : ℕ
  pub is_shown : w label ≡ true
  pub forbidden : is_allowed app (worlds w) viewer label ≡ false
  pub known : is_some (recall answers label w) ≡ true

-- Each of the labels that were checked and are shown is allowed, or some label that is shown isn't.
abbrev pub Stays : Application → Worlds → Option ℕ → PolicyMemo → (ℕ → Bool) → (ℕ → Bool) → Bool →
    Type 0
Stays app worlds viewer answers w asked true =
    (j : ℕ) → asked j ≡ true → w j ≡ true → is_allowed app (worlds w) viewer j ≡ true
Stays app worlds viewer answers w asked false = RemembersForbidden app worlds viewer answers w

-- If all were checked, each of them that is shown has a cached result.
abbrev pub Fitting : PolicyMemo → (ℕ → Bool) → (ℕ → Bool) → Bool → Type 0
Fitting answers w asked true = (j : ℕ) → asked j ≡ true → w j ≡ true
    → is_some (recall answers j w) ≡ true
Fitting answers w asked false = ⊤

-- The label, and the labels that watch it.
abbrev pub is_affected : PolicyMemo → ℕ → ℕ → Bool
is_affected answers k j = k == j || watches answers k j

-- The label was added, and all shown labels are allowed; or it can't be added.
abbrev pub Tries : Application → Worlds → Option ℕ → PolicyMemo → ℕ → List ℕ → List ℕ → Bool → Type
    0
Tries app worlds viewer answers k old new true = AreAllowed app worlds viewer new
Tries app worlds viewer answers k old new false =
    shown_by old k ≡ false → RemembersForbidden app worlds viewer answers (with_label k
    (shown_by old))

-- None of the labels can be added.
pub record AreRefused (app : Application) (worlds : Worlds) (viewer : Option ℕ)
    (answers : PolicyMemo)
    (labels new : List ℕ) : Type 0 where
  pub each : (k : ℕ) → shown_by labels k ≡ true → shown_by new k ≡ false →
      RemembersForbidden app worlds viewer answers (with_label k (shown_by new))

-- After a round that added none, none of the labels can be added.
abbrev pub Fills : Application → Worlds → Option ℕ → PolicyMemo → List ℕ → List ℕ → Bool → Type 0
Fills app worlds viewer answers labels new true = ⊤
Fills app worlds viewer answers labels new false = AreRefused app worlds viewer answers labels new

-- The labels are some of those that were tried. Each is allowed, and none of the others can be
-- added. The results for this are cached.
pub record IsPassed (app : Application) (worlds : Worlds) (viewer : Option ℕ) (answers : PolicyMemo)
    (tried labels : List ℕ) : Type 0 where
  pub within : (k : ℕ) → shown_by labels k ≡ true → shown_by tried k ≡ true
  pub underway : IsUnderway app worlds viewer labels answers
  pub refused : AreRefused app worlds viewer answers tried labels
