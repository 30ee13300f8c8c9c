-- How labels are added to steady ones until no further one can be added.
use Rattle.std.specs.Prelude.{◌≡◌, ℕ, zero, suc, ◌&&◌, ◌||◌, not, Bool, false, if◌then◌else◌, List, [], ◌∷◌, length, Option}
use Rattle.std.specs.List.{list_all}
use Rattle.jac_world.specs.World.{shown_by, with_number}
use Rattle.jac_lang.specs.Syntax.{Application}
use Rattle.jac_plain.specs.Policies.{is_allowed, with_label, IsLiveLabel, ShowsForbidden, AreAllowed, IsSettled}
use Rattle.jac_plain.specs.Requests.{Visit, Worlds, page}
use Rattle.jac_rows.specs.declared.plain.PlainState.{PlainState}
use Rattle.jac_plain.specs.declared.page.Page.{Page}
use Rattle.jac_shown_rows.specs.Consulted.{Agrees}

-- Labels are added one after another. Each is live and wasn't consulted, and all labels that are
-- then shown are allowed.
abbrev pub Adds : Application → Worlds → Option ℕ → List ℕ → List ℕ → List ℕ → List ℕ → Type 0
Adds app worlds viewer consulted [] old new = new ≡ old
Adds app worlds viewer consulted (k ∷ ks) old new =
    IsLiveLabel app worlds k × (shown_by consulted k ≡ false) ×
    AreAllowed app worlds viewer (with_number k old) ×
    Adds app worlds viewer consulted ks (with_number k old) new

-- Labels are added to the old ones in this way until no other label can be added.
pub record IsFilled (app : Application) (worlds : Worlds) (viewer : Option ℕ)
    (consulted old new : List ℕ) : Type 0 where
  pub added : List ℕ
  pub adds : Adds app worlds viewer consulted added old new
  pub full : (k : ℕ) → IsLiveLabel app worlds k → shown_by consulted k ≡ false → shown_by new k
      ≡ false →
      ShowsForbidden app worlds viewer (with_label k (shown_by new))

-- Each of the labels is allowed in the state.
abbrev pub all_allowed : Application → PlainState → Option ℕ → List ℕ → Bool
all_allowed app t viewer labels = list_all (λ k. is_allowed app t viewer k) labels

module _ (app : Application) (worlds : Worlds) (viewer : Option ℕ) (consulted : List ℕ) where
  -- A label may be added if it wasn't consulted and isn't shown, and if all labels are allowed once
  -- it is shown.
  abbrev pub may_add : ℕ → List ℕ → Bool
  may_add k labels = not (shown_by consulted k || shown_by labels k) && all_allowed app
      (worlds (shown_by (with_number k labels))) viewer (with_number k labels)

  -- Each of these labels is tried, in their order.
  abbrev pub round : List ℕ → List ℕ → List ℕ
  round [] labels = labels
  round (k ∷ ks) labels = round ks (if may_add k labels then with_number k labels else labels)

  abbrev pub rounds : ℕ → List ℕ → List ℕ → List ℕ
  rounds zero ks labels = labels
  rounds (suc n) ks labels = rounds n ks (round ks labels)

  -- Beginning with these labels, the live labels that weren't consulted are tried in their order,
  -- in rounds. Each round adds a label, until one adds none, and no round after that adds any. So
  -- as many rounds as there are live labels are enough.
  abbrev pub fill : List ℕ → List ℕ → List ℕ
  fill live labels = rounds (length live) live labels

-- The page of the request under some settled labels that agree with the given ones about what was
-- consulted.
pub record IsPageOfSettled (app : Application) (worlds before : Worlds) (viewer : Option ℕ)
    (consulted labels : List ℕ) (visit : Visit) (it : Page) : Type 0 where
  pub all : List ℕ
  pub settled : IsSettled app worlds viewer all
  pub agrees : Agrees consulted (shown_by labels) (shown_by all)
  pub page : it ≡ page (shown_by all) app (before (shown_by all)) visit
