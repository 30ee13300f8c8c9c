-- Two replays of the same events: entries at the same place.
use Rattle.std.proofs.Common.{◌≡◌, subst, arith, ℕ, false, Some, List, [], ◌∷◌, ◌++◌, length}
use Rattle.jac_lang.specs.Syntax.{Application}
use Rattle.jac_rows.specs.declared.state.State.{State}
use Rattle.jac_app_text_laws.proofs.OneSpelled.{one_spelled}
use Rattle.jac_serve_events.specs.AnswerSpec.{LogEntry}
use Rattle.jac_serve_events.specs.Script.{script_of}
use Rattle.jac_cli.specs.declared.words.Command.TheVariants as commands
use Rattle.jac_cli.specs.declared.words.Replay.{Replay}
use Rattle.jac_cli.specs.Words.{command_of}
use Rattle.jac_noninterference.specs.TwoRuns.{OneRun, IsRunServed, NoneFailed, IsSameWhereShown, AreSameWhereShown}
use Rattle.jac_noninterference.proofs.SideBySide.{pages_agree}
use Rattle.jac_run_laws.specs.Replayed.{TopRun, IsTopRun}
use Rattle.jac_headline.specs.Headline.{Given, HoldGiven, IsReplayTold}
use Rattle.jac_headline.specs.Companions.{HideAlike}
use Rattle.jac_headline.proofs.Told.{HasAnswered, has_answered}
use Rattle.jac_headline.proofs.Faithful.{faithful}

-- Entries after equally many others are compared.
same_behind : (start other : State) (before before' : List LogEntry) (entry entry' : LogEntry) (later later' : List LogEntry)
    → AreSameWhereShown start other (before ++ entry ∷ later) (before' ++ entry' ∷ later') → length before ≡ length before'
    → NoneFailed (before ++ entry ∷ []) → NoneFailed (before' ++ entry' ∷ []) → IsSameWhereShown start other entry entry'
same_behind start other [] [] entry entry' later later' same long none none' = (same (none.0, none'.0)).0
same_behind start other [] (two ∷ before') entry entry' later later' same long none none' = absurd (grind (arith, long))
same_behind start other (one ∷ before) [] entry entry' later later' same long none none' = absurd (grind (arith, long))
same_behind start other (one ∷ before) (two ∷ before') entry entry' later later' same long none none' =
    same_behind start other before before' entry entry' later later' (same (none.0, none'.0)).1 (omega (arith, long)) none.1 none'.1

-- The run in the form that the laws of two runs need.
abbrev pub run_of : {L : Type 0} (replay : Replay) (given : Given) (top : TopRun L) → HasAnswered replay given top → OneRun
run_of replay given top run =
    record { lazy = replay.lazy; early = false; start = run.opened.state; log = run.log; finish = top.seen.keeper.after.state }

pub hide_alike : {L M : Type 0} (replay again : Replay) (given : Given) (one : TopRun L) (two : TopRun M) → HasAnswered replay given one → HasAnswered again given two
    → HideAlike replay again given one two
hide_alike replay again given one two run run' =
    let app_is = one_spelled given.app run'.app run.app run'.spelled run.spelled in
    let served : IsRunServed run.app given.sessions (script_of given.events).events (run_of replay given one run) = run.served in
    let served' : IsRunServed run.app given.sessions (script_of given.events).events (run_of again given two run') =
    subst (λ (a : Application). IsRunServed a given.sessions (script_of given.events).events (run_of again given two run')) app_is run'.served in
    let agree = pages_agree run.app given.sessions (script_of given.events).events (run_of replay given one run) (run_of again given two run') served served' in
    record {
      first = faithful replay given one run;
      second = faithful again given two run';
      same = λ before before' entry other labels has has' long none none' on on' look.
          let here = subst (λ (l : List LogEntry). AreSameWhereShown run.opened.state run'.opened.state l run'.log) has.parts agree in
          let both = subst (λ (l : List LogEntry). AreSameWhereShown run.opened.state run'.opened.state (before ++ entry ∷ has.later) l) has'.parts here in
          (same_behind run.opened.state run'.opened.state before before' entry other has.later has'.later both long none none').page labels look on on';
    }

pub hidden_changes_nothing : {L M : Type 0} (words others : List (List ℕ)) (replay again : Replay) (given : Given) (one : TopRun L) (two : TopRun M)
    → IsTopRun words one → IsTopRun others two → command_of words ≡ Some (commands.Replay replay) → command_of others ≡ Some (commands.Replay again)
    → HoldGiven one.seen.files.before.file replay given → HoldGiven two.seen.files.before.file again given
    → IsReplayTold one → IsReplayTold two → HideAlike replay again given one two
hidden_changes_nothing words others replay again given one two ran ran' is is' held held' told told' =
    hide_alike replay again given one two (has_answered words replay given one ran is held told) (has_answered others again given two ran' is' held' told')
