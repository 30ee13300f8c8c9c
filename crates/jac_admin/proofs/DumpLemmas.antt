-- The text of a store, table by table, and how the steps of a dump end.
use Rattle.std.proofs.Common.{◌≡◌, ◌≤◌, ◌⊎◌, inl, inr, ◌∙◌, ap, sym, subst, refl, ℕ, ◌+◌, Bool, true, false, if◌then◌else◌, IsTrue, Result, Ok, Err, arith, List, [], ◌∷◌, ◌++◌, append_assoc, append-nil, length, map, Option, Some, None, slice_get}
use Rattle.std.specs.Option.{option_map}
use Rattle.std.proofs.lemmas.Option.{slice_get-map}
use Rattle.jac_io.specs.Seen.{FilesSeen, SinkSeen}
use Rattle.jac_world.specs.World.{holds, shown_by}
use Rattle.jac_lang.specs.declared.application.App.{App}
use Rattle.jac_lang.specs.declared.schema.ModelDef.{ModelDef}
use Rattle.jac_lang.specs.Mirror.{application_of, entities_of, entity_of}
use Rattle.jac_lang.specs.Syntax.{Application, Entity}
use Rattle.jac_rows.specs.declared.row.Row.{Row}
use Rattle.jac_rows.specs.declared.plain.PlainRow.{PlainRow}
use Rattle.jac_rows.specs.declared.state.State.{State}
use Rattle.jac_rows.specs.Project.{rows_at, project_at}
use Rattle.jac_rows.specs.Tables.{rows_of, rows_or_none}
use Rattle.jac_keep.specs.KeeperSeen.{KeeperSeen, Store, IsLeft}
use Rattle.jac_command_base.specs.declared.exit_reason.ExitReason.{ExitReason}
use Rattle.jac_command_base.specs.declared.exit_reason.ExitReason.TheVariants as exits
use Rattle.jac_route.specs.declared.sessions.Session.{Session}
use Rattle.jac_cli.specs.declared.words.Command.TheVariants as commands
use Rattle.jac_cli.specs.declared.words.DumpArgs.{DumpArgs}
use Rattle.jac_serve_events.specs.Outside.{Span, span, sinks, WentAimed}
use Rattle.jac_command_base.specs.Attached.{AttachesAs}
use Rattle.jac_command_base.specs.ExitReason.{Closed}
use Rattle.jac_command_base.specs.Startup.{sight_of, AreFilesRead, HasBegun, IsBarred, IsHalted, IsStoppedAiming}
use Rattle.jac_admin.specs.Dump.{record_line, table_text, tables_text, number_line, dump_text, EndsRead, IsDumped, EndsDumping, EndsDump}
use Rattle.jac_serve_events.proofs.OutsideLemmas.{Rose-widen}
use Rattle.jac_command_base.proofs.ExitReasonLemmas.{is_attached}
use Rattle.jac_command_base.proofs.StartupLemmas.{application_read, idle_behind, idle_with}

-- The text of the tables from this place on.
abbrev pub text_from : (ℕ → Bool) → List ModelDef → ℕ → KeeperSeen → List ℕ
text_from w models place k = tables_text (entities_of models) place (map (rows_at w) k.state.tables)

-- In a loop over the models, the store was read, and the text so far, followed by that of the
-- tables left, is the result.
pub record Pushes (old new : KeeperSeen) (w : ℕ → Bool) (models : List ModelDef) (before : List ℕ) (left : List ModelDef) (place : ℕ) (text : List ℕ) : Type 0 where
  pub is_left : IsLeft old new
  pub attached : IsTrue new.store.attached
  pub counted : place + length left ≡ length models
  pub joined : IsTrue new.tells → text ++ text_from w left place old ≡ before ++ text_from w models 0 old

-- What is unchanged from one moment to a second and from there to a third.
pub left_then : (a b c : KeeperSeen) → IsLeft a b → IsLeft b c → IsLeft a c
left_then a b c one two = record {
  later = omega (arith, one.later, two.later);
  told = λ told. one.told (two.told told);
  same_state = λ told. two.same_state told ∙ one.same_state (two.told told);
  same_store = two.same_store ∙ one.same_store;
}

or_none-map : (w : ℕ → Bool) (o : Option (List Row)) → rows_or_none (option_map (rows_at w) o) ≡ rows_at w (rows_or_none o)
or_none-map w None = refl
or_none-map w (Some t) = refl

-- The table of a model, projected.
rows_of-project : (w : ℕ → Bool) (tables : List (List Row)) (m : ℕ) → rows_of (map (rows_at w) tables) m ≡ rows_at w (rows_of tables m)
rows_of-project w tables m = ap rows_or_none (slice_get-map (rows_at w) tables m) ∙ or_none-map w (slice_get tables m)

-- The loop over the models: its next step and its end.
pub push_next : (old now new : KeeperSeen) (w : ℕ → Bool) (models : List ModelDef) (before : List ℕ) (model : ModelDef) (rest : List ModelDef) (place : ℕ) (text next : List ℕ)
    → Pushes old now w models before (model ∷ rest) place text → IsLeft now new
    → (IsTrue new.tells → next ≡ text ++ table_text (entity_of model) (rows_at w (rows_of now.state.tables place)))
    → Pushes old new w models before rest (place + 1) next
push_next old now new w models before model rest place text next p left pushed = record {
  is_left = left_then old now new p.is_left left;
  attached = subst (λ (s : Store). IsTrue s.attached) (sym left.same_store) p.attached;
  counted = omega (arith, p.counted);
  joined = λ told.
      let back = left.told told in
      let table = λ (s : State). table_text (entity_of model) (rows_at w (rows_of s.tables place)) in
      ap (λ (t : List ℕ). t ++ text_from w rest (place + 1) old) (pushed told)
      ∙ append_assoc text (table now.state) (text_from w rest (place + 1) old)
      ∙ ap (λ (s : State). text ++ (table s ++ text_from w rest (place + 1) old)) (p.is_left.same_state back)
      ∙ ap (λ (rows : List PlainRow). text ++ (table_text (entity_of model) rows ++ text_from w rest (place + 1) old)) (sym (rows_of-project w old.state.tables place))
      ∙ p.joined back;
}

pub push_end : (old now : KeeperSeen) (w : ℕ → Bool) (models : List ModelDef) (before : List ℕ) (place : ℕ) (text : List ℕ)
    → Pushes old now w models before [] place text → IsTrue now.tells → text ≡ before ++ text_from w models 0 old
push_end old now w models before place text p told = sym (append-nil text) ∙ p.joined told

held_step : (model : Entity) (r : PlainRow) (held : Bool) (rest : List PlainRow) →
    table_text model (if held then r ∷ rest else rest) ≡ (if held then record_line model r else []) ++ table_text model rest
held_step model r true rest = refl
held_step model r false rest = refl

-- A row, followed by the rows after it.
pub row_step : (model : Entity) (w : ℕ → Bool) (row : Row) (rest : List Row) →
    table_text model (rows_at w (row ∷ rest)) ≡ (if holds w row.guard then record_line model (record { id = row.id; cells = row.cells }) else []) ++ table_text model (rows_at w rest)
row_step model w row rest = held_step model (record { id = row.id; cells = row.cells }) (holds w row.guard) (rows_at w rest)

-- All tables were put, and then the number.
pub state_dumped : (app : App) (w : ℕ → Bool) (old mid new : KeeperSeen) (tables text : List ℕ) (number : ℕ)
    → IsLeft old mid → IsLeft mid new
    → (IsTrue mid.tells → tables ≡ [] ++ text_from w app.models 0 old) → (IsTrue new.tells → number ≡ mid.state.number)
    → text ≡ tables ++ number_line number
    → IsTrue new.tells → text ≡ dump_text (application_of app) (project_at w new.state)
state_dumped app w old mid new tables text number first second pushed counted joined told =
    let back = second.told told in
    joined
    ∙ ap (λ (t : List ℕ). t ++ number_line number) (pushed back)
    ∙ ap (λ (n : ℕ). text_from w app.models 0 old ++ number_line n) (counted told)
    ∙ ap (λ (s : State). tables_text (entities_of app.models) 0 (map (rows_at w) s.tables) ++ number_line mid.state.number) (sym (first.same_state back))
    ∙ ap (λ (s : State). dump_text (application_of app) (project_at w s)) (sym (second.same_state told))

-- Assignments that show the same labels are equal.
pub same_shown : (P : (ℕ → Bool) → Type 0) (v w : ℕ → Bool) → ((k : ℕ) → v k ≡ w k) → P v → P w
same_shown P v w same h = subst P (λ i k. same k i) h

-- A store that wasn't attached ends the steps.
pub unattached_ends : (db : Option (List ℕ)) (app : Application) (w : ℕ → Bool) (out : Span SinkSeen) (k : Span KeeperSeen) (exit_reason : ExitReason)
    → AttachesAs db app k (Err exit_reason) → EndsDumping db app w out k (Err exit_reason) []
unattached_ends db app w out k exits.StoreFault h = (h.0, inl h.1)
unattached_ends db app w out k (exits.OtherStore stored wanted) h = h
unattached_ends db app w out k exits.Memory h = inl h
unattached_ends db app w out k (exits.ReadFault role) h = absurd h
unattached_ends db app w out k (exits.TooLong role) h = absurd h
unattached_ends db app w out k (exits.AppRefused line) h = absurd h
unattached_ends db app w out k (exits.NewRefused line) h = absurd h
unattached_ends db app w out k (exits.UpgradeRefused line) h = absurd h
unattached_ends db app w out k exits.DoorFault h = absurd h
unattached_ends db app w out k (exits.LineRefused event_fault) h = absurd h
unattached_ends db app w out k (exits.SessionsRefused line) h = absurd h
unattached_ends db app w out k exits.WriteFault h = absurd h

-- A store that was attached was read.
module _ (db : Option (List ℕ)) (app : Application) (w : ℕ → Bool) (out : Span SinkSeen) (before opened after : KeeperSeen)
    (attaches : AttachesAs db app (span before opened) (Ok tt)) (left : IsLeft opened after) where
  dumped : (result : Result (Unit {0}) ExitReason) (put : List ℕ) → EndsRead app w out (span opened after) result put → IsDumped db app w out (span before after) result put
  dumped result put ends = record { opened = opened; attached = is_attached db app before opened after attaches left.same_store; left = left; ends = ends }

  pub read_ends : (result : Result (Unit {0}) ExitReason) (put : List ℕ) → EndsRead app w out (span opened after) result put → EndsDumping db app w out (span before after) result put
  read_ends (Ok done) put h = dumped (Ok done) put h
  read_ends (Err exits.StoreFault) put h = (Rose-widen _ _ _ _ attaches.0.later (omega arith) h.1, inr (dumped (Err exits.StoreFault) put h))
  read_ends (Err exits.Memory) put h = inr (dumped (Err exits.Memory) put h)
  read_ends (Err exits.WriteFault) put h = dumped (Err exits.WriteFault) put h
  read_ends (Err (exits.OtherStore stored wanted)) put h = absurd h.puts
  read_ends (Err (exits.ReadFault role)) put h = dumped (Err (exits.ReadFault role)) put h
  read_ends (Err (exits.TooLong role)) put h = dumped (Err (exits.TooLong role)) put h
  read_ends (Err (exits.AppRefused line)) put h = dumped (Err (exits.AppRefused line)) put h
  read_ends (Err (exits.NewRefused line)) put h = dumped (Err (exits.NewRefused line)) put h
  read_ends (Err (exits.UpgradeRefused line)) put h = dumped (Err (exits.UpgradeRefused line)) put h
  read_ends (Err exits.DoorFault) put h = dumped (Err exits.DoorFault) put h
  read_ends (Err (exits.LineRefused event_fault)) put h = dumped (Err (exits.LineRefused event_fault)) put h
  read_ends (Err (exits.SessionsRefused line)) put h = dumped (Err (exits.SessionsRefused line)) put h

-- A dump that ended when it began.
module _ (files : Span FilesSeen) (out audit later : SinkSeen) (keeper : Span KeeperSeen) (dumping : DumpArgs) (exit_reason : ExitReason) where
  dump_barred : (app : Application) (sessions : List Session) (events : List ℕ) → AreFilesRead (commands.Dump dumping) files app sessions events
      → IsStoppedAiming (commands.Dump dumping) (span audit later) keeper exit_reason ⊎ IsBarred (commands.Dump dumping) app (span audit later) keeper exit_reason
      → WentAimed (sinks out out audit later) (EndsDump (sight_of files (span out out) (span audit later) keeper) (commands.Dump dumping) (Err exit_reason))
  dump_barred app sessions events read (inl stopped) = absurd stopped.aims
  dump_barred app sessions events read (inr barred) =
      idle_behind out audit later _ barred.aims
      (inr (record {
        app = app;
        application = application_read (commands.Dump dumping) files (span out out) (span audit later) keeper app sessions events read;
        no_audit = refl;
        unaimed = λ told. ap (λ (s : SinkSeen). s.aims) barred.aims;
        ends = unattached_ends dumping.db app (shown_by dumping.labels) (span out out) keeper exit_reason barred.attaches;
      }))

  pub dump_halted : IsHalted (commands.Dump dumping) files (span audit later) keeper exit_reason
      → WentAimed (sinks out out audit later) (EndsDump (sight_of files (span out out) (span audit later) keeper) (commands.Dump dumping) (Err exit_reason))
  dump_halted (inl early) =
      idle_behind out audit later _ early.uncalled
      (inl (early.ends (span out out) (span audit later) keeper, idle_with (span audit later) keeper early.uncalled early.still))
  dump_halted (inr behind) = dump_barred behind.app behind.sessions behind.events behind.read behind.halts

-- A dump that began, and then read its store.
pub dump_ended : (files : Span FilesSeen) (out_before out_after audit later : SinkSeen) (before opened after : KeeperSeen) (dumping : DumpArgs) (w : ℕ → Bool)
    (app : Application) (sessions : List Session) (events : List ℕ) (result : Result (Unit {0}) ExitReason)
    → HasBegun (commands.Dump dumping) files (span audit later) (span before opened) app sessions events
    → ((k : ℕ) → w k ≡ shown_by dumping.labels k) → IsLeft opened after → Closed (span out_before out_after) (EndsRead app w (span out_before out_after) (span opened after) result)
    → WentAimed (sinks out_before out_after audit later) (EndsDump (sight_of files (span out_before out_after) (span audit later) (span before after)) (commands.Dump dumping) result)
dump_ended files out_before out_after audit later before opened after dumping w app sessions events result begun same left closed =
    let out = span out_before out_after in
    record {
      out = closed.put;
      audit = [];
      out_lasts = closed.lasts;
      audit_later = subst (λ (s : SinkSeen). audit.faults ≤ s.faults) (sym begun.aims) (omega arith);
      out_took = closed.took;
      audit_took = λ told. ap (λ (s : SinkSeen). s.held) begun.aims ∙ sym (append-nil audit.held);
      holds = inr (record {
        app = app;
        application = application_read (commands.Dump dumping) files out (span audit later) (span before after) app sessions events begun.read;
        no_audit = refl;
        unaimed = λ told. ap (λ (s : SinkSeen). s.aims) begun.aims;
        ends = same_shown (λ (v : ℕ → Bool). EndsDumping dumping.db app v out (span before after) result closed.put) w (shown_by dumping.labels) same
            (read_ends dumping.db app w out before opened after begun.attaches left result closed.put closed.holds);
      });
    }
