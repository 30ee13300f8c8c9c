use Rattle.std.specs.Prelude.{◌≡◌, ℕ, ◌<◌, Bool, true, false, not, nat_lt, ◌&&◌, ◌==◌, ◌+◌, if◌then◌else◌, Option, Some, None, List, [], ◌∷◌, ⊤}
use Rattle.std.specs.List.{list_any, list_all, AllByRecursion}
use mathlib.Core.Bool.{beq}

-- Assignments and guards. An assignment is a test on labels: true if the label is shown. A guard is
-- a list of labels with signs.

-- The assignment that a list of shown labels gives.
abbrev pub shown_by : List ℕ → ℕ → Bool
shown_by a k = list_any (λ x. x == k) a

-- A guard holds if each of its labels is shown (sign true) or hidden (sign false).
abbrev pub holds : (ℕ → Bool) → List (ℕ × Bool) → Bool
holds w g = list_all (λ p. beq p.1 (w p.0)) g

abbrev pub both : (ℕ → Bool) → List (ℕ × Bool) → List (ℕ × Bool) → Bool
both w g h = holds w g && holds w h

-- How many of the guards hold.
abbrev pub holding : (ℕ → Bool) → List (List (ℕ × Bool)) → ℕ
holding w [] = 0
holding w (g ∷ gs) = (if holds w g then 1 else 0) + holding w gs

-- The conjunction of two guards, or none if they never hold together.
abbrev pub IsMeet : List (ℕ × Bool) → List (ℕ × Bool) → Option (List (ℕ × Bool)) → Type 0
IsMeet g h None = (w : ℕ → Bool) → both w g h ≡ false
IsMeet g h (Some m) = (w : ℕ → Bool) → holds w m ≡ both w g h

-- The first key, if there is one, is above `k`.
abbrev pub StartsAboveBy : {X : Type 0} → (X → ℕ) → ℕ → List X → Type 0
StartsAboveBy key k [] = ⊤
StartsAboveBy key k (x ∷ xs) = k < key x

-- The keys rise strictly.
abbrev pub IsRisingBy : {X : Type 0} → (X → ℕ) → List X → Type 0
IsRisingBy key [] = ⊤
IsRisingBy key (x ∷ xs) = StartsAboveBy key (key x) xs × IsRisingBy key xs

-- The labels of a guard rise strictly.
abbrev pub IsRising : List (ℕ × Bool) → Type 0
IsRising g = IsRisingBy (λ p. p.0) g

abbrev pub StartsAbove : ℕ → List (ℕ × Bool) → Type 0
StartsAbove k g = StartsAboveBy (λ p. p.0) k g

-- The labels of an assignment rise strictly.
abbrev pub IsAscending : List ℕ → Type 0
IsAscending a = IsRisingBy (λ x. x) a

-- Whether the guard has the label with this sign.
abbrev pub has_pair : List (ℕ × Bool) → ℕ → Bool → Bool
has_pair g k b = list_any (λ p. (p.0 == k) && beq p.1 b) g

-- Whether the guard names the label.
abbrev pub names : List (ℕ × Bool) → ℕ → Bool
names g k = list_any (λ p. p.0 == k) g

-- Whether some label has opposite signs in the two guards.
abbrev pub contradict : List (ℕ × Bool) → List (ℕ × Bool) → Bool
contradict g h = list_any (λ p. has_pair h p.0 (not p.1)) g

-- The two guards never hold together.
abbrev pub IsApart : List (ℕ × Bool) → List (ℕ × Bool) → Type 0
IsApart g h = (w : ℕ → Bool) → both w g h ≡ false

abbrev pub ArePairwiseApart : List (List (ℕ × Bool)) → Type 0
ArePairwiseApart [] = ⊤
ArePairwiseApart (g ∷ gs) = AllByRecursion (IsApart g) gs × ArePairwiseApart gs

-- The assignment that shows exactly the labels with sign true in the guard.
abbrev pub guard_wants : List (ℕ × Bool) → ℕ → Bool
guard_wants g k = has_pair g k true

-- The number of leading labels of a guard that are as their signs say.
abbrev pub kept_count : (ℕ → Bool) → List (ℕ × Bool) → ℕ
kept_count w [] = 0
kept_count w (p ∷ ps) = if beq p.1 (w p.0) then kept_count w ps + 1 else 0

-- Under each assignment that meets the first guard, the cut breaks at an earlier label than under
-- each assignment that meets the second.
abbrev pub BreaksEarlier : List (ℕ × Bool) → List (ℕ × Bool) → List (ℕ × Bool) → Type 0
BreaksEarlier cut g h = (v w : ℕ → Bool) → holds v g ≡ true → holds w h ≡ true
    → kept_count v cut < kept_count w cut

-- The guards are in the order of the labels at which they break the cut.
abbrev pub FollowCut : List (ℕ × Bool) → List (List (ℕ × Bool)) → Type 0
FollowCut cut [] = ⊤
FollowCut cut (g ∷ gs) = AllByRecursion (BreaksEarlier cut g) gs × FollowCut cut gs

-- A rising list with the number inserted, unless it has it already.
abbrev pub with_number : ℕ → List ℕ → List ℕ
with_number k [] = k ∷ []
with_number k (x ∷ xs) = if nat_lt x k then x ∷ with_number k xs else (if x == k then x ∷ xs
    else k ∷ (x ∷ xs))
