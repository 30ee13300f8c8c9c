-- A bound on evaluations of policies that consult only labels of their own record.
use Rattle.std.specs.Prelude.{◌≡◌, ◌==◌, ◌≤◌, ◌+◌, ℕ, zero, suc, Bool, true, false, List, [], ◌∷◌, Option, None, is_some, if◌then◌else◌}
use Rattle.jac_value.specs.Ids.{label_of, record_of_label}
use Rattle.jac_world.specs.World.{shown_by}
use Rattle.jac_policy_cache.specs.declared.policy_memo.PolicyMemo.{PolicyMemo}
use Rattle.jac_policy_cache.specs.Memo.{recall, watches}

-- An assignment with this label set to shown or hidden.
abbrev pub with_sign : ℕ → Bool → (ℕ → Bool) → ℕ → Bool
with_sign k b w j = if k == j then b else w j

-- The number of assignments of the labels of a record's first groups for which no result is known.
unfoldable pub unknown_signs : ℕ → ℕ → ((ℕ → Bool) → Option Bool) → (ℕ → Bool) → ℕ
unknown_signs zero id f w = if is_some (f w) then 0 else 1
unknown_signs (suc n) id f w = unknown_signs n id f (with_sign (label_of id n) true w)
    + unknown_signs n id f (with_sign (label_of id n) false w)

-- The sum, over the labels, of the number of assignments of its record's labels for which no result
-- is cached.
abbrev pub room : List ℕ → PolicyMemo → ℕ
room [] answers = 0
room (k ∷ ks) answers =
    unknown_signs 8 (record_of_label k) (recall answers k) (λ j. false) + room ks answers

-- The cached result of a label depends only on labels of its own record. The labels that watch a
-- label are among these.
pub record AreLocalAnswers (labels : List ℕ) (answers : PolicyMemo) : Type 0 where
  pub own : (k : ℕ) (v w : ℕ → Bool) → ((j : ℕ) → record_of_label j ≡ record_of_label k → v j ≡ w j)
      → recall answers k v ≡ recall answers k w
  pub among : (k j : ℕ) → watches answers k j ≡ true → shown_by labels j ≡ true

-- No result is cached, and no label is watched.
pub record IsEmptyMemo (answers : PolicyMemo) : Type 0 where
  pub recalls : (k : ℕ) (w : ℕ → Bool) → recall answers k w ≡ None
  pub unwatched : (k j : ℕ) → watches answers k j ≡ false

-- The evaluations so far and the room that is left are together no more than before.
pub record Spends (labels : List ℕ) (before now : ℕ) (old new : PolicyMemo) : Type 0 where
  pub own : AreLocalAnswers labels new
  pub spent : now + room labels new ≤ before + room labels old
