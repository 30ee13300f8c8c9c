-- An upgrade, if the contents of the keeper are known.
use Rattle.std.proofs.Common.{◌≡◌, ◌∙◌, ap, subst, ℕ, ◌≤◌, Bool, IsTrue, List, None, length}
use Rattle.jac_check.specs.Well.{is_well}
use Rattle.jac_lang.specs.declared.schema.ModelDef.{ModelDef}
use Rattle.jac_lang.specs.Mirror.{entities_of}
use Rattle.jac_lang.specs.Syntax.{Application}
use Rattle.jac_lang.proofs.Places.{length-entities}
use Rattle.jac_plain.specs.Models.{shapes_of}
use Rattle.jac_rows.specs.Project.{project_at}
use Rattle.jac_keep.specs.Alterations.{AreApart}
use Rattle.jac_keep.specs.ChangedState.{changed_state}
use Rattle.jac_keep.specs.KeeperSeen.{IsLeft, KeeperSeen}
use Rattle.jac_keep.specs.Reshaping.{widened_state}
use Rattle.jac_keep.specs.Schema.{IsFit}
use Rattle.jac_keep.specs.declared.alteration.Alteration.{Alteration}
use Rattle.jac_keep.specs.declared.alteration.Change.{Change}
use Rattle.jac_upgrade.specs.Changed.{AreIdsOf, changed_ids}
use Rattle.jac_upgrade.specs.Extends.{models_lack}
use Rattle.jac_upgrade.specs.Steps.{AltersBelow}
use Rattle.jac_upgrade.specs.Upgraded.{upgraded_state}
use Rattle.jac_upgrade.proofs.Applied.{change_of, law_shows}
use Rattle.jac_upgrade.proofs.Fits.{Upgrading, law_fits, upgrading}
use Rattle.jac_upgrade.proofs.Naming.{law_names}
use Rattle.jac_upgrade.proofs.Prefixes.{at_least}

pub models_within : (olds news : List ModelDef) → models_lack 0 (entities_of olds) (entities_of news) ≡ None → length olds ≤ length news
models_within olds news h =
    subst (λ n. n ≤ length news) (length-entities olds) (subst (λ n. length (entities_of olds) ≤ n) (length-entities news) (at_least (entities_of olds) (entities_of news) h))

-- What was read from a keeper: the number first, and then all rows.
pub record Told (app new : Application) (before middle after : KeeperSeen) (number : ℕ) (changed : List Alteration) : Type 0 where
  pub first : IsLeft before middle
  pub second : IsLeft middle after
  pub exact : IsTrue middle.tells → number ≡ before.state.number
  pub well : IsTrue (is_well app)
  pub extends : models_lack 0 app.models new.models ≡ None
  pub fit : IsTrue before.tells → IsFit (shapes_of app) before.state
  pub apart : AreApart changed
  pub all : IsTrue after.tells → AltersBelow app.models new.models middle.state (length app.models) changed

pub finish : (app new : Application) (before middle after : KeeperSeen) (number : ℕ) (changed : List Alteration) → Told app new before middle after number changed → IsTrue after.tells
    → Upgrading app new before.state changed
finish app new before middle after number changed t told =
    let middle_told : IsTrue middle.tells = t.second.told told in
    let below : AltersBelow app.models new.models before.state (length app.models) changed =
    subst (λ s. AltersBelow app.models new.models s (length app.models) changed) (t.first.same_state middle_told) (t.all told) in
    upgrading app new before.state changed t.well t.extends (t.fit (t.first.told middle_told)) t.apart below

same_change : (app new : Application) (before middle after : KeeperSeen) (number : ℕ) (changed : List Alteration) (c : Change) → Told app new before middle after number changed → IsTrue after.tells
    → c ≡ record { changed = changed; number = number } → c ≡ change_of changed before.state
same_change app new before middle after number changed c t told is = is ∙ ap (λ n. record { changed = changed; number = n }) (t.exact (t.second.told told))

pub names : (app new : Application) (before middle after : KeeperSeen) (number : ℕ) (changed : List Alteration) → Told app new before middle after number changed → IsTrue after.tells
    → AreIdsOf before.state (changed_ids changed)
names app new before middle after number changed t told =
    law_names app.models new.models before.state changed (finish app new before middle after number changed t told).all

pub shows : (app new : Application) (before middle after : KeeperSeen) (number : ℕ) (changed : List Alteration) (c : Change) → Told app new before middle after number changed → IsTrue after.tells
    → c ≡ record { changed = changed; number = number } → (w : ℕ → Bool)
    → project_at w (widened_state (length new.models) (changed_state c before.state)) ≡ upgraded_state w app.models new.models (project_at w before.state)
shows app new before middle after number changed c t told is w =
    law_shows w app.models new.models before.state changed c (same_change app new before middle after number changed c t told is)
    (finish app new before middle after number changed t told).all

pub fits : (app new : Application) (before middle after : KeeperSeen) (number : ℕ) (changed : List Alteration) (c : Change) → Told app new before middle after number changed → IsTrue after.tells
    → c ≡ record { changed = changed; number = number } → IsFit (shapes_of new) (widened_state (length new.models) (changed_state c before.state))
fits app new before middle after number changed c t told is =
    law_fits app new before.state changed c (same_change app new before middle after number changed c t told is) (finish app new before middle after number changed t told)
