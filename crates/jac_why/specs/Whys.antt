-- Why a viewer isn't shown a label.
use Rattle.std.specs.Prelude.{◌≡◌, ◌&&◌, ◌++◌, ℕ, Bool, not, true, false, if◌then◌else◌, List, [], ◌∷◌, Option, Some, None}
use Rattle.std.specs.Option.{option_map}
use Rattle.jac_world.specs.World.{shown_by, with_number}
use Rattle.jac_lang.specs.Syntax.{Application}
use Rattle.jac_rows.specs.declared.plain.PlainState.{PlainState}
use Rattle.jac_plain.specs.Policies.{is_allowed, IsLiveLabel}
use Rattle.jac_why.specs.declared.reasons.Reason.{Reason}
use Rattle.jac_why.specs.declared.reasons.Explanation.{Explanation}
use Rattle.jac_why.specs.Named.{as_reason, names_its_label}
use Rattle.jac_why.specs.Context.{PlainContext}

-- The first of the labels that isn't allowed in a world.
abbrev pub first_forbidden : Application → PlainState → Option ℕ → List ℕ → Option ℕ
first_forbidden app t viewer [] = None
first_forbidden app t viewer (k ∷ ks) =
    if is_allowed app t viewer k then first_forbidden app t viewer ks else Some k

-- A label with what keeps it hidden, if anything does.
abbrev pub why_of : ℕ → Option Reason → List Explanation
why_of k None = []
why_of k (Some r) = record { hidden = k; reason = r } ∷ []

module _ (context : PlainContext) where
  -- The labels that are shown, and this one.
  abbrev pub beside : ℕ → List ℕ
  beside k = with_number k context.labels

  -- The world that they show.
  abbrev pub world_beside : ℕ → PlainState
  world_beside k = context.worlds (shown_by (beside k))

  -- What keeps a label hidden: among the labels that are shown and this one, the least that isn't
  -- allowed under them.
  abbrev pub why_hidden : ℕ → Option Reason
  why_hidden k =
      option_map as_reason
      (first_forbidden context.app (world_beside k) context.viewer (beside k))

  -- Whether the reason keeps the label hidden: its label is shown or is this one, its model and
  -- group are those of its label, and its label isn't allowed under these labels.
  abbrev pub stands_against : ℕ → Reason → Bool
  stands_against k r =
      shown_by (beside k) r.label
      && (names_its_label r && not (is_allowed context.app (world_beside k) context.viewer r.label))

  -- Whether the reason that is found for a label keeps it hidden.
  abbrev pub is_standing : Explanation → Bool
  is_standing e = stands_against e.hidden e.reason

  -- What keeps a label hidden, unless it is shown.
  abbrev pub why_at : ℕ → List Explanation
  why_at k = if shown_by context.labels k then [] else why_of k (why_hidden k)

  -- The labels that aren't shown, in their order, with what keeps each hidden.
  abbrev pub all_whys : List ℕ → List Explanation
  all_whys [] = []
  all_whys (k ∷ ks) = why_at k ++ all_whys ks

  -- There is a reason for each live label that isn't shown.
  pub record AreExplained : Type 0 where
    pub reason :
        (k : ℕ) → IsLiveLabel context.app context.worlds k → shown_by context.labels k ≡ false →
        Reason
    pub stands :
        (k : ℕ) (live : IsLiveLabel context.app context.worlds k)
        (hidden : shown_by context.labels k ≡ false) → stands_against k (reason k live hidden) ≡
        true
