-- How an attempt to attach a store for an application ends.
use Rattle.std.specs.Prelude.{◌≡◌, ℕ, IsTrue, Result, Ok, Err, Option, Some, List, []}
use Rattle.jac_io.specs.Faults.{Rose}
use Rattle.jac_lang.specs.Syntax.{Application}
use Rattle.jac_keep.specs.Schema.{IsFit}
use Rattle.jac_keep.specs.Attaching.{Attaches, IsRefused}
use Rattle.jac_keep.specs.KeeperSeen.{KeeperSeen}
use Rattle.jac_plain.specs.Models.{shapes_of}
use Rattle.jac_command_base.specs.declared.exit_reason.ExitReason.{ExitReason}
use Rattle.jac_command_base.specs.declared.exit_reason.ExitReason.TheVariants as exits
use Rattle.jac_app_load.specs.Application.{schema_text}
use Rattle.jac_serve_events.specs.Outside.{Span}

-- A store with this name was attached for the application, and no other store since. Its cells have
-- the kinds of the application.
pub record IsAttached (db : Option (List ℕ)) (app : Application) (k : Span KeeperSeen)
    (opened : KeeperSeen) : Type 0 where
  pub attaches : Attaches k.before opened db (schema_text app) (Ok tt)
  pub fit : IsTrue opened.tells → IsFit (shapes_of app) opened.state
  pub stays : k.after.store ≡ opened.store

-- No store was attached. Nothing was put, and what was stored is unchanged.
pub record IsUnattached (k : Span KeeperSeen) (out_bytes audit_bytes : List ℕ) : Type 0 where
  pub no_out : out_bytes ≡ []
  pub no_audit : audit_bytes ≡ []
  pub unattached : k.after.store.attached ≡ k.before.store.attached
  pub refused : IsTrue k.after.tells → IsRefused k.before k.after

-- The stored schema isn't the wanted one.
pub record IsOther (k : Span KeeperSeen) (stored wanted : List ℕ) : Type 0 where
  pub differs : ¬ (stored ≡ wanted)
  pub known : k.after.store.schema ≡ Some stored
  pub told : IsTrue k.after.tells → k.before.store.schema ≡ Some stored

-- How attaching a store for the application ends.
abbrev pub AttachesAs : Option (List ℕ) → Application → Span KeeperSeen → Result (Unit {0})
    ExitReason
    → Type 0
AttachesAs db app k (Ok done) = Attaches k.before k.after db (schema_text app) (Ok tt)
    × (IsTrue k.after.tells → IsFit (shapes_of app) k.after.state)
AttachesAs db app k (Err exits.StoreFault) = Rose k.before.faults k.after.faults
    × IsUnattached k [] []
AttachesAs db app k (Err (exits.OtherStore stored wanted)) = (wanted ≡ schema_text app)
    × IsOther k stored wanted × IsUnattached k [] []
AttachesAs db app k (Err exits.Memory) = IsUnattached k [] []
AttachesAs db app k (Err exit_reason) = ⊥
