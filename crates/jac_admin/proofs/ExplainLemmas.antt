-- The lines of a `why`, and how its steps end.
use Rattle.std.proofs.Common.{◌≡◌, ◌∙◌, ◌≤◌, ap, sym, subst, refl, arith, ℕ, zero, suc, drop, length, ◌⊎◌, inl, inr, Bool, true, Result, Err, Option, List, [], ◌∷◌, ◌++◌, append_assoc, append-nil}
use Rattle.std.specs.List.{list_all}
use Rattle.std.proofs.lemmas.Bool.{and_parts}
use Rattle.jac_io.specs.Seen.{FilesSeen, SinkSeen}
use Rattle.jac_world.specs.World.{IsAscending}
use Rattle.jac_lang.specs.Syntax.{Application, Entity}
use Rattle.jac_rows.specs.declared.state.State.{State}
use Rattle.jac_plain.specs.Models.{shapes_of}
use Rattle.jac_plain.specs.Policies.{AreAllowed, IsSettled}
use Rattle.jac_keep.specs.KeeperSeen.{KeeperSeen, IsLeft}
use Rattle.jac_keep.specs.Schema.{IsFit}
use Rattle.jac_keep.proofs.SoundLaws.{sound_if_good}
use Rattle.jac_resolve.specs.Rounds.{AreLive, HasSoundTables}
use Rattle.jac_route.specs.declared.sessions.Session.{Session}
use Rattle.jac_cli.specs.declared.words.Command.TheVariants as commands
use Rattle.jac_cli.specs.declared.words.WhyArgs.{WhyArgs}
use Rattle.jac_serve_events.specs.Outside.{Span, span, sinks, WentAimed}
use Rattle.jac_why.specs.declared.reasons.Explanation.{Explanation}
use Rattle.jac_why.specs.Whys.{all_whys, is_standing}
use Rattle.jac_why.proofs.Explaining.{all_stand}
use Rattle.jac_command_base.specs.declared.exit_reason.ExitReason.{ExitReason}
use Rattle.jac_command_base.specs.ExitReason.{Closed}
use Rattle.jac_command_base.specs.Startup.{sight_of, AreFilesRead, HasBegun, IsBarred, IsHalted, IsStoppedAiming}
use Rattle.jac_command_base.proofs.StartupLemmas.{application_read, idle_behind, idle_with}
use Rattle.jac_admin.specs.Explain.{asker_of, why_line, why_lines, whys_text, context_with, IsExplanation, EndsExplained, EndsExplain}
use Rattle.jac_plain.specs.Shown.{worlds_of}

-- A state that fits has sound tables.
pub sound_tables : (app : Application) (s : State) → IsFit (shapes_of app) s → HasSoundTables s
sound_tables app s fit = record { next = s.number; sound = sound_if_good (shapes_of app) s fit.good }

-- One more line.
pub lines_on : (models : List Entity) (left more : List Explanation) (x : Explanation) (text new all : List ℕ) → left ≡ x ∷ more
    → new ≡ text ++ why_line models x → text ++ why_lines models left ≡ all → new ++ why_lines models more ≡ all
lines_on models left more x text new all is added so_far =
    ap (λ (t : List ℕ). t ++ why_lines models more) added
    ∙ append_assoc text (why_line models x) (why_lines models more)
    ∙ ap (λ (es : List Explanation). text ++ why_lines models es) (sym is)
    ∙ so_far

pub lines_end : (models : List Entity) (left : List Explanation) (text all : List ℕ) → left ≡ [] → text ++ why_lines models left ≡ all → text ≡ all
lines_end models left text all none so_far = sym (append-nil text) ∙ ap (λ (es : List Explanation). text ++ why_lines models es) (sym none) ∙ so_far

pub none_behind : (es : List Explanation) (i : ℕ) → length es ≤ i → drop i es ≡ []
none_behind [] zero past = refl
none_behind [] (suc i) past = refl
none_behind (e ∷ es) zero past = absurd (omega (arith, past))
none_behind (e ∷ es) (suc i) past = none_behind es i (omega (arith, past))

-- The tests hold for the first explanation and for the rest.
pub standing_parts : (p : Explanation → Bool) (left more : List Explanation) (x : Explanation) → left ≡ x ∷ more → list_all p left ≡ true → (p x ≡ true) × (list_all p more ≡ true)
standing_parts p left more x is stand = and_parts (p x) (list_all p more) (ap (list_all p) (sym is) ∙ stand)

-- The lines of all explanations, if each was found and then passed the test.
pub all_lines : (app : Application) (viewer : Option ℕ) (s testing : State) (labels live text : List ℕ) (es : List Explanation)
    → testing ≡ s → es ≡ all_whys (context_with app viewer s labels) live
    → (list_all (is_standing (context_with app viewer testing labels)) es ≡ true → text ≡ whys_text app.models labels es)
    → text ≡ whys_text app.models labels (all_whys (context_with app viewer s labels) live)
all_lines app viewer s testing labels live text es same found tested =
    let context = context_with app viewer s labels in
    let tested_now : list_all (is_standing context) es ≡ true → text ≡ whys_text app.models labels es =
    subst (λ (t : State). list_all (is_standing (context_with app viewer t labels)) es ≡ true → text ≡ whys_text app.models labels es) same tested in
    tested_now (ap (list_all (is_standing context)) found ∙ all_stand context live) ∙ ap (whys_text app.models labels) found

-- What was read at three moments at which the state was the same.
pub explained : (app : Application) (viewer : Option ℕ) (s settling asking : State) (live labels text : List ℕ)
    → settling ≡ s → asking ≡ s
    → IsAscending live → AreLive app (worlds_of s) live → IsSettled app (worlds_of settling) viewer labels
    → (AreAllowed app (worlds_of asking) viewer labels → text ≡ whys_text app.models labels (all_whys (context_with app viewer asking labels) live))
    → IsExplanation app viewer s text
explained app viewer s settling asking live labels text one two up are settled lines =
    let settled_now : IsSettled app (worlds_of s) viewer labels = subst (λ (t : State). IsSettled app (worlds_of t) viewer labels) one settled in
    record {
      labels = labels;
      live = live;
      settled = settled_now;
      ascending = up;
      are_live = are;
      is_text =
          subst (λ (t : State). AreAllowed app (worlds_of t) viewer labels → text ≡ whys_text app.models labels (all_whys (context_with app viewer t labels) live)) two lines
          settled_now.allowed;
    }

-- A `why` that ended when it began.
module _ (files : Span FilesSeen) (out audit later : SinkSeen) (keeper : Span KeeperSeen) (explaining : WhyArgs) (exit_reason : ExitReason) where
  why_barred : (app : Application) (sessions : List Session) (events : List ℕ) → AreFilesRead (commands.Why explaining) files app sessions events
      → IsStoppedAiming (commands.Why explaining) (span audit later) keeper exit_reason ⊎ IsBarred (commands.Why explaining) app (span audit later) keeper exit_reason
      → WentAimed (sinks out out audit later) (EndsExplain (sight_of files (span out out) (span audit later) keeper) (commands.Why explaining) (Err exit_reason))
  why_barred app sessions events read (inl stopped) = absurd stopped.aims
  why_barred app sessions events read (inr barred) =
      idle_behind out audit later _ barred.aims
      (inr (record {
        app = app;
        application = application_read (commands.Why explaining) files (span out out) (span audit later) keeper app sessions events read;
        no_audit = refl;
        unaimed = λ told. ap (λ (s : SinkSeen). s.aims) barred.aims;
        ends = inl (record { exit_reason = exit_reason; ended = refl; attaches = barred.attaches; no_out = refl });
      }))

  pub why_halted : IsHalted (commands.Why explaining) files (span audit later) keeper exit_reason
      → WentAimed (sinks out out audit later) (EndsExplain (sight_of files (span out out) (span audit later) keeper) (commands.Why explaining) (Err exit_reason))
  why_halted (inl early) =
      idle_behind out audit later _ early.uncalled
      (inl (early.ends (span out out) (span audit later) keeper, idle_with (span audit later) keeper early.uncalled early.still))
  why_halted (inr behind) = why_barred behind.app behind.sessions behind.events behind.read behind.halts

-- A `why` that began, and then asked its store.
pub why_ended : (files : Span FilesSeen) (out_before out_after audit later : SinkSeen) (before opened after : KeeperSeen) (explaining : WhyArgs)
    (app : Application) (sessions : List Session) (events : List ℕ) (result : Result (Unit {0}) ExitReason)
    → HasBegun (commands.Why explaining) files (span audit later) (span before opened) app sessions events → IsLeft opened after
    → Closed (span out_before out_after) (EndsExplained app (asker_of app explaining.viewer) (span out_before out_after) (span opened after) result)
    → WentAimed (sinks out_before out_after audit later) (EndsExplain (sight_of files (span out_before out_after) (span audit later) (span before after)) (commands.Why explaining) result)
why_ended files out_before out_after audit later before opened after explaining app sessions events result begun left closed =
    let out = span out_before out_after in
    record {
      out = closed.put;
      audit = [];
      out_lasts = closed.lasts;
      audit_later = subst (λ (s : SinkSeen). audit.faults ≤ s.faults) (sym begun.aims) (omega arith);
      out_took = closed.took;
      audit_took = λ told. ap (λ (s : SinkSeen). s.held) begun.aims ∙ sym (append-nil audit.held);
      holds = inr (record {
        app = app;
        application = application_read (commands.Why explaining) files out (span audit later) (span before after) app sessions events begun.read;
        no_audit = refl;
        unaimed = λ told. ap (λ (s : SinkSeen). s.aims) begun.aims;
        ends = inr (record { opened = opened; attached = begun.attaches; left = left; ends = closed.holds });
      });
    }
