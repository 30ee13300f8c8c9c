-- What `upgrade` writes, and why it ends.
use Rattle.std.specs.Prelude.{◌≡◌, ◌≤◌, ◌⊎◌, ℕ, Bool, IsTrue, Result, Ok, Err, Option, Some, None, List, [], ◌∷◌, ◌++◌, length, slice_get, codes, decimal}
use Rattle.jac_io.specs.Faults.{Rose}
use Rattle.jac_io.specs.Seen.{SinkSeen}
use Rattle.jac_lang.specs.Lookup.{fields_at}
use Rattle.jac_lang.specs.Syntax.{Application, Entity}
use Rattle.jac_check.specs.Causes.{entity_name}
use Rattle.jac_rows.specs.Project.{project_at}
use Rattle.jac_plain.specs.Models.{shapes_of}
use Rattle.jac_plain.specs.Records.{name_in as field_name_in}
use Rattle.jac_keep.specs.KeeperSeen.{KeeperSeen, IsLeft}
use Rattle.jac_keep.specs.Schema.{IsFit}
use Rattle.jac_app_load.specs.Application.{schema_text}
use Rattle.jac_cli.specs.declared.words.Command.{Command}
use Rattle.jac_cli.specs.Commands.{db_of}
use Rattle.jac_serve_events.specs.RunSeen.{IsStill}
use Rattle.jac_serve_events.specs.Outside.{Span, span}
use Rattle.jac_upgrade.specs.Changed.{AreIdsOf}
use Rattle.jac_upgrade.specs.Extends.{models_lack}
use Rattle.jac_upgrade.specs.Upgraded.{upgraded_state}
use Rattle.jac_upgrade.specs.declared.fault.UpgradeFault.{UpgradeFault}
use Rattle.jac_upgrade.specs.declared.fault.UpgradeFault.TheVariants as lacks
use Rattle.jac_command_base.specs.declared.exit_reason.ExitReason.{ExitReason}
use Rattle.jac_command_base.specs.declared.exit_reason.ExitReason.TheVariants as exits
use Rattle.jac_command_base.specs.Attached.{AttachesAs}
use Rattle.jac_command_base.specs.Early.{IsEndedEarly}
use Rattle.jac_command_base.specs.ExitReason.{PutsText}
use Rattle.jac_command_base.specs.Files.{Sight, HasApplication, HasNext}

-- ---- the lines

-- Why the second application doesn't extend the first: `model NAME`, `field NAME FIELD` or `group
-- NAME G` of the first.
abbrev pub lack_line : List Entity → UpgradeFault → List ℕ
lack_line models (lacks.Model m) =
    codes "upgrade: model " ++ (entity_name (slice_get models m) ++ 10 ∷ [])
lack_line models (lacks.Field m f) =
    codes "upgrade: field "
    ++ (entity_name (slice_get models m)
    ++ (codes " " ++ (field_name_in (slice_get (fields_at models m) f) ++ 10 ∷ [])))
lack_line models (lacks.Group m g) =
    codes "upgrade: group "
    ++ (entity_name (slice_get models m) ++ (codes " " ++ (decimal g ++ 10 ∷ [])))

-- The number of records that were upgraded to the second application.
abbrev pub upgraded_line : ℕ → List ℕ
upgraded_line n = codes "upgraded " ++ (decimal n ++ codes " records\n")

-- ---- the steps

-- The second application doesn't extend the first. The line names the first part that is missing or
-- differs, unless memory ran out. The store was not called.
pub record IsLacking (old new : Application) (k : Span KeeperSeen)
    (result : Result (Unit {0}) ExitReason) (put : List ℕ) : Type 0 where
  pub fault : UpgradeFault
  pub lacks : models_lack 0 old.models new.models ≡ Some fault
  pub told :
      (result ≡ Err (exits.UpgradeRefused (lack_line old.models fault)))
      ⊎ (result ≡ Err exits.Memory)
  pub no_out : put ≡ []
  pub still : IsStill k

-- The store was not attached for the first application, and is unchanged.
pub record IsStoreUnmoved (db : Option (List ℕ)) (old : Application) (k : Span KeeperSeen)
    (result : Result (Unit {0}) ExitReason) (put : List ℕ) : Type 0 where
  pub exit_reason : ExitReason
  pub ended : result ≡ Err exit_reason
  pub attaches : AttachesAs db old k (Err exit_reason)
  pub no_out : put ≡ []

-- This many records were upgraded to the second application, and are stored under its schema. Under
-- every assignment, the store shows the upgraded tables, and it is good for that application.
pub record IsUpgraded (old new : Application) (k : Span KeeperSeen) (count : ℕ) : Type 0 where
  pub later : k.before.faults ≤ k.after.faults
  pub store : k.after.store ≡ record k.before.store { schema = Some (schema_text new) }
  pub told : IsTrue k.after.tells → IsTrue k.before.tells
  pub worlds : IsTrue k.after.tells → (w : ℕ → Bool) →
      project_at w k.after.state ≡ upgraded_state w old.models new.models
      (project_at w k.before.state)
  pub fit : IsTrue k.after.tells → IsFit (shapes_of new) k.after.state
  pub counted : IsTrue k.after.tells →
      (ids : List ℕ) × AreIdsOf k.before.state ids × (count ≡ length ids)

-- The records were upgraded, and their number was put, or a prefix of its line.
pub record IsReported (old new : Application) (out : Span SinkSeen) (k : Span KeeperSeen)
    (result : Result (Unit {0}) ExitReason) (put : List ℕ) : Type 0 where
  pub count : ℕ
  pub upgraded : IsUpgraded old new k count
  pub puts : PutsText out (upgraded_line count) result put

-- A read of the store or its change failed, or memory ran out. The rows, the number and the schema
-- are unchanged.
pub record IsKept (k : Span KeeperSeen) (result : Result (Unit {0}) ExitReason) (put : List ℕ)
    : Type 0 where
  pub left : IsLeft k.before k.after
  pub ended :
      ((result ≡ Err exits.StoreFault) × Rose k.before.faults k.after.faults)
      ⊎ (result ≡ Err exits.Memory)
  pub no_out : put ≡ []

-- A store that was attached was upgraded to the second application, all or nothing.
abbrev pub EndsReshaping : Application → Application → Span SinkSeen → Span KeeperSeen
    → Result (Unit {0}) ExitReason → List ℕ → Type 0
EndsReshaping old new out k result put =
    IsReported old new out k result put ⊎ IsKept k result put

-- A store was attached for the first application, and then upgraded to the second.
pub record IsMoved (db : Option (List ℕ)) (old new : Application) (out : Span SinkSeen)
    (k : Span KeeperSeen) (result : Result (Unit {0}) ExitReason) (put : List ℕ) : Type 0 where
  pub opened : KeeperSeen
  pub attached : AttachesAs db old (span k.before opened) (Ok tt)
  pub ends : EndsReshaping old new out (span opened k.after) result put

-- How the steps from the attachment on end.
abbrev pub EndsMoving : Option (List ℕ) → Application → Application → Span SinkSeen
    → Span KeeperSeen → Result (Unit {0}) ExitReason → List ℕ → Type 0
EndsMoving db old new out k result put =
    IsStoreUnmoved db old k result put ⊎ IsMoved db old new out k result put

-- How the steps after both files end. The store is attached only if the second application extends
-- the first.
abbrev pub EndsUpgrading : Option (List ℕ) → Application → Application → Span SinkSeen
    → Span KeeperSeen → Result (Unit {0}) ExitReason → List ℕ → Type 0
EndsUpgrading db old new out k result put =
    IsLacking old new k result put
    ⊎ ((models_lack 0 old.models new.models ≡ None) × EndsMoving db old new out k result put)

-- Both applications were read. The audit was left alone.
pub record IsUpgrading (seen : Sight) (command : Command) (result : Result (Unit {0}) ExitReason)
    (out_bytes audit_bytes : List ℕ) : Type 0 where
  pub old : Application
  pub new : Application
  pub application : HasApplication seen command old
  pub next : HasNext seen command new
  pub no_audit : audit_bytes ≡ []
  pub unaimed : IsTrue seen.audit.after.tells → seen.audit.after.aims ≡ seen.audit.before.aims
  pub ends : EndsUpgrading (db_of command) old new seen.out seen.keeper result out_bytes

-- What the steps of an upgrade put, and why they ended.
abbrev pub EndsUpgrade : Sight → Command → Result (Unit {0}) ExitReason → List ℕ → List ℕ → Type 0
EndsUpgrade seen command result out audit =
    IsEndedEarly seen command result out audit ⊎ IsUpgrading seen command result out audit
