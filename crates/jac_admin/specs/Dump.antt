-- What `dump` writes, and why it ends.
use Rattle.std.specs.Prelude.{◌≡◌, ◌⊎◌, ◌+◌, ℕ, Bool, true, false, IsTrue, Result, Err, Option, Some, None, List, [], ◌∷◌, ◌++◌, codes, decimal}
use Rattle.std.specs.Fmt.{signed_decimal}
use Rattle.jac_io.specs.Faults.{Rose}
use Rattle.jac_io.specs.Seen.{SinkSeen}
use Rattle.jac_value.specs.declared.value.Value.{Value}
use Rattle.jac_value.specs.declared.value.Value.TheVariants as values
use Rattle.jac_value.specs.Quoted.{quoted_bytes}
use Rattle.jac_world.specs.World.{shown_by}
use Rattle.jac_lang.specs.declared.field_kinds.Field.{Field}
use Rattle.jac_lang.specs.Syntax.{Entity, Application}
use Rattle.jac_rows.specs.declared.plain.PlainRow.{PlainRow}
use Rattle.jac_rows.specs.declared.plain.PlainState.{PlainState}
use Rattle.jac_rows.specs.Tables.{rows_of}
use Rattle.jac_rows.specs.Project.{project_at}
use Rattle.jac_keep.specs.KeeperSeen.{KeeperSeen, IsLeft}
use Rattle.jac_cli.specs.declared.words.Command.{Command}
use Rattle.jac_cli.specs.declared.words.Command.TheVariants as commands
use Rattle.jac_command_base.specs.declared.exit_reason.ExitReason.{ExitReason}
use Rattle.jac_command_base.specs.declared.exit_reason.ExitReason.TheVariants as exits
use Rattle.jac_serve_events.specs.Outside.{Span, span}
use Rattle.jac_cli.specs.Commands.{db_of}
use Rattle.jac_command_base.specs.Files.{Sight, HasApplication}
use Rattle.jac_command_base.specs.ExitReason.{PutsText}
use Rattle.jac_app_load.specs.Application.{schema_text}
use Rattle.jac_command_base.specs.Attached.{IsAttached, IsUnattached, IsOther}
use Rattle.jac_command_base.specs.Early.{IsEndedEarly}

-- ---- the text

-- A number in decimal, a text in quotes, a truth value as a word, and a reference as its id or
-- `none`.
abbrev pub cell_text : Value → List ℕ
cell_text (values.Int i) = signed_decimal i
cell_text (values.Text t) = quoted_bytes t
cell_text (values.Bool true) = codes "true"
cell_text (values.Bool false) = codes "false"
cell_text (values.Ref None) = codes "none"
cell_text (values.Ref (Some id)) = decimal id

-- ` FIELD=VALUE` for each field.
abbrev pub cells_text : List Field → List Value → List ℕ
cells_text [] vs = []
cells_text (f ∷ fs) [] = []
cells_text (f ∷ fs) (v ∷ vs) =
    codes " " ++ (f.name ++ (codes "=" ++ (cell_text v ++ cells_text fs vs)))

-- `MODEL ID` and its fields.
abbrev pub record_line : Entity → PlainRow → List ℕ
record_line model r = model.name
    ++ (codes " " ++ (decimal r.id ++ (cells_text model.fields r.cells ++ codes "\n")))

abbrev pub table_text : Entity → List PlainRow → List ℕ
table_text model [] = []
table_text model (r ∷ rs) = record_line model r ++ table_text model rs

-- The tables of these models. The first model has the place k.
abbrev pub tables_text : List Entity → ℕ → List (List PlainRow) → List ℕ
tables_text [] k tables = []
tables_text (m ∷ ms) k tables = table_text m (rows_of tables k) ++ tables_text ms (k + 1) tables

abbrev pub number_line : ℕ → List ℕ
number_line n = codes "number " ++ (decimal n ++ codes "\n")

-- A line for each record, by model and id, and the number of the next request.
abbrev pub dump_text : Application → PlainState → List ℕ
dump_text app s = tables_text app.models 0 s.tables ++ number_line s.number

-- ---- the steps

-- The labels that are shown.
abbrev pub labels_dumped : Command → List ℕ
labels_dumped (commands.Dump dumping) = dumping.labels
labels_dumped command = []

-- If the contents of the store are known, the text is their dump, projected with this assignment.
abbrev pub IsDumpOf : Application → (ℕ → Bool) → KeeperSeen → List ℕ → Type 0
IsDumpOf app w k text = IsTrue k.tells → text ≡ dump_text app (project_at w k.state)

-- The text of the store's contents was put, or a prefix of it.
pub record IsPrinted (app : Application) (w : ℕ → Bool) (out : Span SinkSeen) (k : KeeperSeen)
    (result : Result (Unit {0}) ExitReason) (put : List ℕ) : Type 0 where
  pub text : List ℕ
  pub told : IsDumpOf app w k text
  pub puts : PutsText out text result put

-- A store that was attached was read. If that failed or memory ran out, nothing was put. Otherwise,
-- its text was put.
abbrev pub EndsRead : Application → (ℕ → Bool) → Span SinkSeen → Span KeeperSeen
    → Result (Unit {0}) ExitReason → List ℕ → Type 0
EndsRead app w out k (Err exits.StoreFault) put = (put ≡ []) × Rose k.before.faults k.after.faults
EndsRead app w out k (Err exits.Memory) put = put ≡ []
EndsRead app w out k result put = IsPrinted app w out k.after result put

-- A store was attached and read, and reading left it unchanged.
pub record IsDumped (db : Option (List ℕ)) (app : Application) (w : ℕ → Bool) (out : Span SinkSeen)
    (k : Span KeeperSeen) (result : Result (Unit {0}) ExitReason) (put : List ℕ) : Type 0 where
  pub opened : KeeperSeen
  pub attached : IsAttached db app k opened
  pub left : IsLeft opened k.after
  pub ends : EndsRead app w out (span opened k.after) result put

-- How the steps from the attachment on end.
abbrev pub EndsDumping : Option (List ℕ) → Application → (ℕ → Bool) → Span SinkSeen
    → Span KeeperSeen → Result (Unit {0}) ExitReason → List ℕ → Type 0
EndsDumping db app w out k (Err exits.StoreFault) put =
    Rose k.before.faults k.after.faults
    × (IsUnattached k put [] ⊎ IsDumped db app w out k (Err exits.StoreFault) put)
EndsDumping db app w out k (Err (exits.OtherStore stored wanted)) put = (wanted ≡ schema_text app)
    × IsOther k stored wanted × IsUnattached k put []
EndsDumping db app w out k (Err exits.Memory) put = IsUnattached k put []
    ⊎ IsDumped db app w out k (Err exits.Memory) put
EndsDumping db app w out k result put = IsDumped db app w out k result put

-- The application was read, and its store was dumped. The audit was left alone.
pub record IsDumping (seen : Sight) (command : Command) (result : Result (Unit {0}) ExitReason)
    (out_bytes audit_bytes : List ℕ) : Type 0 where
  pub app : Application
  pub application : HasApplication seen command app
  pub no_audit : audit_bytes ≡ []
  pub unaimed : IsTrue seen.audit.after.tells → seen.audit.after.aims ≡ seen.audit.before.aims
  pub ends : EndsDumping (db_of command) app (shown_by (labels_dumped command)) seen.out seen.keeper
      result
      out_bytes

-- What the steps of a dump put, and why they ended.
abbrev pub EndsDump : Sight → Command → Result (Unit {0}) ExitReason → List ℕ → List ℕ → Type 0
EndsDump seen command result out audit = IsEndedEarly seen command result out audit
    ⊎ IsDumping seen command result out audit
