-- What `why` writes, and why it ends.
use Rattle.std.specs.Prelude.{◌≡◌, ◌⊎◌, ℕ, IsTrue, Result, Ok, Option, None, List, [], ◌∷◌, ◌++◌, slice_get, codes, decimal}
use Rattle.std.specs.Option.{option_and_then}
use Rattle.jac_io.specs.Seen.{SinkSeen}
use Rattle.jac_value.specs.Ids.{record_of_label}
use Rattle.jac_world.specs.World.{IsAscending}
use Rattle.jac_lang.specs.Syntax.{Application, Entity}
use Rattle.jac_check.specs.Causes.{entity_name}
use Rattle.jac_rows.specs.declared.state.State.{State}
use Rattle.jac_plain.specs.Policies.{IsSettled}
use Rattle.jac_keep.specs.KeeperSeen.{KeeperSeen, IsLeft}
use Rattle.jac_resolve.specs.Rounds.{AreLive}
use Rattle.jac_replies.specs.Spelled.{labels_text}
use Rattle.jac_route.specs.Parameters.{viewer_of}
use Rattle.jac_cli.specs.declared.words.Command.{Command}
use Rattle.jac_cli.specs.declared.words.Command.TheVariants as commands
use Rattle.jac_cli.specs.Commands.{db_of}
use Rattle.jac_serve_events.specs.Outside.{Span, span}
use Rattle.jac_why.specs.declared.reasons.Explanation.{Explanation}
use Rattle.jac_why.specs.declared.reasons.Reason.{Reason}
use Rattle.jac_why.specs.Named.{as_reason}
use Rattle.jac_why.specs.Context.{PlainContext}
use Rattle.jac_why.specs.Whys.{all_whys}
use Rattle.jac_command_base.specs.declared.exit_reason.ExitReason.{ExitReason}
use Rattle.jac_command_base.specs.Attached.{AttachesAs}
use Rattle.jac_command_base.specs.Early.{IsEndedEarly}
use Rattle.jac_command_base.specs.ExitReason.{PutsText}
use Rattle.jac_command_base.specs.Files.{Sight, HasApplication}
use Rattle.jac_admin.specs.Upgrade.{IsStoreUnmoved, IsKept}
use Rattle.jac_plain.specs.Shown.{worlds_of}

-- ---- the lines

-- The labels that the viewer is shown, written as in the audit.
abbrev pub shown_line : List ℕ → List ℕ
shown_line labels = codes "shown " ++ (labels_text labels ++ codes "\n")

-- `LABEL MODEL ID GROUP`.
abbrev pub reason_text : List Entity → Reason → List ℕ
reason_text models r =
    decimal r.label
    ++ (codes " " ++ (entity_name (slice_get models r.model)
    ++ (codes " " ++ (decimal (record_of_label r.label) ++ (codes " " ++ decimal r.group)))))

-- A label that isn't shown, and what prevents it.
abbrev pub why_line : List Entity → Explanation → List ℕ
why_line models e =
    reason_text models (as_reason e.hidden)
    ++ (codes " because " ++ (reason_text models e.reason ++ codes "\n"))

abbrev pub why_lines : List Entity → List Explanation → List ℕ
why_lines models [] = []
why_lines models (e ∷ es) = why_line models e ++ why_lines models es

abbrev pub whys_text : List Entity → List ℕ → List Explanation → List ℕ
whys_text models labels es = shown_line labels ++ why_lines models es

-- The labels, with the worlds of a state.
abbrev pub context_with : Application → Option ℕ → State → List ℕ → PlainContext
context_with app viewer s labels = record {
  app = app;
  worlds = worlds_of s;
  viewer = viewer;
  labels = labels;
}

-- The text begins with labels that are settled for the viewer. Then follows each other live label
-- of the state, in ascending order, with what prevents it.
pub record IsExplanation (app : Application) (viewer : Option ℕ) (s : State) (text : List ℕ)
    : Type 0 where
  pub labels : List ℕ
  pub live : List ℕ
  pub settled : IsSettled app (worlds_of s) viewer labels
  pub ascending : IsAscending live
  pub are_live : AreLive app (worlds_of s) live
  pub is_text : text ≡ whys_text app.models labels (all_whys (context_with app viewer s labels)
      live)

-- ---- the steps

-- The viewer with this number: nobody if it is no id of the viewer's model.
abbrev pub asker_of : Application → Option ℕ → Option ℕ
asker_of app number = option_and_then (viewer_of app) number

abbrev pub asker_in : Command → Application → Option ℕ
asker_in (commands.Why explaining) app = asker_of app explaining.viewer
asker_in command app = None

-- The text of the store's contents was put, or a prefix of it.
pub record IsTextExplained (app : Application) (viewer : Option ℕ) (out : Span SinkSeen)
    (k : KeeperSeen)
    (result : Result (Unit {0}) ExitReason) (put : List ℕ) : Type 0 where
  pub text : List ℕ
  pub explains : IsTrue k.tells → IsExplanation app viewer k.state text
  pub puts : PutsText out text result put

-- A store that was attached was read. If that failed or memory ran out, nothing was put. Otherwise,
-- its text was put.
abbrev pub EndsExplained : Application → Option ℕ → Span SinkSeen → Span KeeperSeen
    → Result (Unit {0}) ExitReason → List ℕ → Type 0
EndsExplained app viewer out k result put =
    IsTextExplained app viewer out k.after result put ⊎ IsKept k result put

-- A store was attached and read, and reading left it unchanged.
pub record IsExplained (db : Option (List ℕ)) (app : Application) (viewer : Option ℕ)
    (out : Span SinkSeen) (k : Span KeeperSeen) (result : Result (Unit {0}) ExitReason)
    (put : List ℕ)
    : Type 0 where
  pub opened : KeeperSeen
  pub attached : AttachesAs db app (span k.before opened) (Ok tt)
  pub left : IsLeft opened k.after
  pub ends : EndsExplained app viewer out (span opened k.after) result put

-- How the steps from the attachment on end.
abbrev pub EndsExplaining : Option (List ℕ) → Application → Option ℕ → Span SinkSeen
    → Span KeeperSeen → Result (Unit {0}) ExitReason → List ℕ → Type 0
EndsExplaining db app viewer out k result put =
    IsStoreUnmoved db app k result put ⊎ IsExplained db app viewer out k result put

-- The application was read, and its store was asked. The audit was left alone.
pub record IsExplaining (seen : Sight) (command : Command) (result : Result (Unit {0}) ExitReason)
    (out_bytes audit_bytes : List ℕ) : Type 0 where
  pub app : Application
  pub application : HasApplication seen command app
  pub no_audit : audit_bytes ≡ []
  pub unaimed : IsTrue seen.audit.after.tells → seen.audit.after.aims ≡ seen.audit.before.aims
  pub ends :
      EndsExplaining (db_of command) app (asker_in command app) seen.out seen.keeper result
      out_bytes

-- What the steps of a `why` put, and why they ended.
abbrev pub EndsExplain : Sight → Command → Result (Unit {0}) ExitReason → List ℕ → List ℕ → Type 0
EndsExplain seen command result out audit =
    IsEndedEarly seen command result out audit ⊎ IsExplaining seen command result out audit
