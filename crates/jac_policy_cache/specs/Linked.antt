-- The labels that cached results of policies link to given labels, while they are collected.
use Rattle.std.specs.Prelude.{◌≡◌, ℕ, Bool, true, not, ◌&&◌, List, Option, Some, None, ⊤}
use Rattle.jac_world.specs.World.{shown_by}
use Rattle.jac_policy_cache.specs.declared.policy_memo.PolicyMemo.{PolicyMemo}
use Rattle.jac_policy_cache.specs.Memo.{IsLinked}

-- The list `all` has the labels, and all that any label in it is linked to.
pub record AreLinked (answers : PolicyMemo) (labels all : List ℕ) : Type 0 where
  pub linked : IsLinked answers all
  pub among : (k : ℕ) → shown_by labels k ≡ true → shown_by all k ≡ true

abbrev pub AreLinkedIf : PolicyMemo → List ℕ → Option (List ℕ) → Type 0
AreLinkedIf answers labels None = ⊤
AreLinkedIf answers labels (Some all) = AreLinked answers labels all

-- The label is in `all` and isn't left.
abbrev pub is_done : List ℕ → List ℕ → ℕ → Bool
is_done all left k = shown_by all k && not (shown_by left k)

-- Each label that is done in the second lists is done in the first.
pub record IsDoneBefore (all left all_now left_now : List ℕ) : Type 0 where
  pub each : (k : ℕ) → is_done all_now left_now k ≡ true → is_done all left k ≡ true
