-- What a run of the program keeps: the contract of the top call, and the promise that follows.
use Rattle.std.specs.Prelude.{◌≡◌, ℕ, Some, List}
use Rattle.jac_io.specs.Linked.{LinkSeen, DoorSeen}
use Rattle.jac_serve_events.specs.Outside.{Span}
use Rattle.jac_cli.specs.Words.{command_of}
use Rattle.jac_cli.specs.declared.words.Command.TheVariants as commands
use Rattle.jac_cli.specs.declared.words.Replay.{Replay}
use Rattle.jac_cli.specs.declared.words.ServeArgs.{ServeArgs}
use Rattle.jac_command_base.specs.Files.{Sight}
use Rattle.jac_command_base.specs.declared.status.Status.{Status}
use Rattle.jac_command_base.specs.declared.status.Status.TheVariants as statuses
use Rattle.jac_run_laws.specs.Replayed.{TopRun, IsTopRun, IsToldToEnd}
use Rattle.jac_reopen.specs.Reopened.{Supposed}
use Rattle.jac_main.specs.Start.{BeginsSupposed}
use Rattle.jac_main.specs.Refused.{IsOtherLeft}
use Rattle.jac_headline.specs.Headline.{Given, HoldGiven, IsReplayTold, HasReplayedFaithfully, HasServedFaithfully}

abbrev pub top_run : {L : Type 0} → (L → LinkSeen) → Sight → Span (DoorSeen L) → Span ℕ
    → Span ℕ → Status → TopRun L
top_run line seen door splits evaluations status = record {
  line = line;
  seen = seen;
  door = door;
  splits = splits;
  evaluations = evaluations;
  status = status;
}

-- The store begins empty, or as its file is supposed to. The contract of the top call holds. A
-- replay of given files, or a serve, is faithful if the contents that it used are known to its end
-- (`IsReplayTold`, `IsToldToEnd`). A run with status 9 attached no store.
pub record KeepsPromise {L : Type 0} (s : Supposed) (words : List (List ℕ)) (top : TopRun L) :
    Type 0 where
  pub begins : BeginsSupposed s words top.seen.keeper.before
  pub ran : IsTopRun words top
  pub replays : (replay : Replay) (given : Given)
      → command_of words ≡ Some (commands.Replay replay)
      → HoldGiven top.seen.files.before.file replay given
      → IsReplayTold top → HasReplayedFaithfully replay given top
  pub serves : (serving : ServeArgs) → command_of words ≡ Some (commands.Serve serving)
      → IsToldToEnd top → HasServedFaithfully serving top
  pub other_store : top.status ≡ statuses.OtherStore → IsOtherLeft top.seen.keeper
