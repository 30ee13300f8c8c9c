use Rattle.std.specs.Prelude.{◌≡◌, ◌≢◌, ℕ, ◌+◌, ◌<◌, max, Bool, false, ◌||◌, true, ◌==◌, ◌⊎◌, if◌then◌else◌, Option, Some, None, List, [], ◌∷◌, ◌++◌, ⊤}
use Rattle.std.specs.Coded.{Coded, code_by, coded×, coded⊎, coded_list, coded_ℕ}
use Rattle.std.proofs.Common.{refl, ap, sym, ◌∙◌, append_assoc, append-nil, inl, inr}

-- A faceted value: one value, or a label with a faceted value for when it is shown and one for when
-- it is hidden.
pub data Shape (T : Type 0) : Type 0 where
  one : T → Shape T
  fork : ℕ → Shape T → Shape T → Shape T

module _ {T : Type 0} where
  -- The value under an assignment.
  abbrev pub at : (ℕ → Bool) → Shape T → T
  at w (one x) = x
  at w (fork k h l) = if w k then at w h else at w l

  abbrev pub depth : Shape T → ℕ
  depth (one x) = 0
  depth (fork k h l) = max (depth h) (depth l) + 1

  -- The first label, if there is one, is above `k`.
  abbrev pub Above : ℕ → Shape T → Type 0
  Above k (one x) = ⊤
  Above k (fork j h l) = k < j

  -- The number of splits.
  abbrev pub splits_in : Shape T → ℕ
  splits_in (one x) = 0
  splits_in (fork k h l) = splits_in h + splits_in l + 1

  abbrev pub top : Shape T → Option ℕ
  top (one x) = None
  top (fork k h l) = Some k

  -- Labels rise strictly on every path, and the two sides of each split differ.
  abbrev pub IsOrdered : Shape T → Type 0
  IsOrdered (one x) = ⊤
  IsOrdered (fork k h l) = Above k h × Above k l × IsOrdered h × IsOrdered l × (h ≢ l)

  abbrev pub has_label : ℕ → Shape T → Bool
  has_label k (one x) = false
  has_label k (fork j h l) = (j == k) || has_label k h || has_label k l

  -- At the first split at which the assignments take different sides, `v` takes the high side.
  abbrev pub higher : (ℕ → Bool) → (ℕ → Bool) → Shape T → Bool
  higher v w (one x) = false
  higher v w (fork k h l) = if v k then (if w k then higher v w h else true)
      else (if w k then false else higher v w l)

  -- A facet is encoded as its leftmost value and its nodes, from the top down.
  abbrev first_of : Shape T → T
  first_of (one x) = x
  first_of (fork k h l) = first_of h

  abbrev nodes : Shape T → List (T ⊎ ℕ)
  nodes (one x) = inl x ∷ []
  nodes (fork k h l) = inr k ∷ (nodes h ++ nodes l)

  abbrev joined : ℕ → List (Shape T) → List (Shape T)
  joined k (h ∷ (l ∷ ss)) = fork k h l ∷ ss
  joined k (h ∷ []) = h ∷ []
  joined k [] = []

  abbrev read : List (T ⊎ ℕ) → List (Shape T)
  read [] = []
  read (inl x ∷ ns) = one x ∷ read ns
  read (inr k ∷ ns) = joined k (read ns)

  abbrev head_or : T → List (Shape T) → Shape T
  head_or x [] = one x
  head_or x (s ∷ ss) = s

  read-nodes : (s : Shape T) (ns : List (T ⊎ ℕ)) → read (nodes s ++ ns) ≡ s ∷ read ns
  read-nodes (one x) ns = refl
  read-nodes (fork k h l) ns =
      ap (λ z. joined k (read z)) (append_assoc (nodes h) (nodes l) ns)
      ∙ ap (joined k) (read-nodes h (nodes l ++ ns) ∙ ap (λ z. h ∷ z) (read-nodes l ns))

  pub read_back : (s : Shape T) → head_or (first_of s) (read (nodes s)) ≡ s
  read_back s = ap (λ z. head_or (first_of s) (read z)) (sym (append-nil (nodes s))) ∙ ap
      (head_or (first_of s)) (read-nodes s [])

  abbrev pub shape_code : Coded T → Coded (Shape T)
  shape_code c =
      code_by (T × List (T ⊎ ℕ)) (coded× c (coded_list (coded⊎ c coded_ℕ)))
      (λ s. (first_of s, nodes s)) (λ p. head_or p.0 (read p.1)) read_back
