-- If the contents of the files and the store are known at the end of a replay, it is faithful to
-- the ordinary interpreter.
use Rattle.std.proofs.Common.{◌≡◌, subst, ℕ, ◌+◌, Bool, true, Option, Some, List, [], ◌∷◌, ◌++◌}
use Rattle.jac_world.specs.World.{shown_by}
use Rattle.jac_lang.specs.Syntax.{Application}
use Rattle.jac_rows.specs.declared.state.State.{State}
use Rattle.jac_plain.specs.Policies.{AreAllowed, is_allowed}
use Rattle.jac_plain.specs.Requests.{Visit}
use Rattle.jac_events.specs.declared.event.Event.{Event}
use Rattle.jac_hub.specs.Hearing.{whole, refused, broken}
use Rattle.jac_hub.specs.Heard.{Connections, no_connections, after_both}
use Rattle.jac_route.specs.Found.{found}
use Rattle.jac_route.specs.declared.lookup.Found.{Found}
use Rattle.jac_route.specs.declared.lookup.Found.TheVariants as founds
use Rattle.jac_replies.specs.declared.answer.Ask.{Ask}
use Rattle.jac_serve_events.specs.AnswerSpec.{LogSubject, LogEntry, AnswerSpec, hearing}
use Rattle.jac_serve_events.specs.Log.{Brings, viewer_of_subject}
use Rattle.jac_serve_events.specs.Script.{script_of}
use Rattle.jac_cli.specs.declared.words.Command.TheVariants as commands
use Rattle.jac_cli.specs.declared.words.Replay.{Replay}
use Rattle.jac_cli.specs.Words.{command_of}
use Rattle.jac_dispatch.specs.Answered.{answer_spec_of}
use Rattle.jac_run_laws.specs.Replayed.{TopRun, IsTopRun}
use Rattle.jac_headline.specs.Headline.{Given, HoldGiven, IsReplayTold, HasReplayedFaithfully, IsFaithful, HasEntry, TellsLog, visit_by, visit_in, world_behind}
use Rattle.jac_headline.proofs.Told.{HasAnswered, has_answered}
use Rattle.jac_headline.proofs.RightAnswers.{faithful_log}

-- What the events bring doesn't depend on how they are answered.
pub tells : (x : AnswerSpec) (known : Connections Ask) (n : ℕ) (events : List Event) (log : List LogEntry) (text : List ℕ) (later : Connections Ask)
    → Brings x known n events log text later → TellsLog (hearing x) known n events log text
tells x known n [] log text later (none, is, stays) = (none, is)
tells x known n (event ∷ events) log text later (mine, others, rest, parts, is, brought, more) =
    (mine, others, rest, parts, is, brought, tells x (after_both (hearing x) event mine known) (n + 1) events others rest later more)

abbrev pub faithful : {L : Type 0} (replay : Replay) (given : Given) (top : TopRun L) → HasAnswered replay given top → HasReplayedFaithfully replay given top
faithful replay given top run = record {
  app = run.app;
  opened = run.opened;
  log = run.log;
  spelled = run.spelled;
  attached = run.attached;
  faithful =
      faithful_log replay.lazy run.app run.opened.state top.seen.keeper.after.state run.log run.served.worlds run.served.answered;
  told = record {
    text = run.text;
    told =
        tells (answer_spec_of replay.lazy run.app given.sessions) no_connections 0 (script_of given.events).events run.log run.text run.later run.brought;
    took = run.out_took;
  };
  audit_took = run.audit_took;
  ended = run.ended;
}

pub headline : {L : Type 0} (words : List (List ℕ)) (replay : Replay) (given : Given) (top : TopRun L) → IsTopRun words top
    → command_of words ≡ Some (commands.Replay replay) → HoldGiven top.seen.files.before.file replay given → IsReplayTold top → HasReplayedFaithfully replay given top
headline words replay given top ran is_replay held told = faithful replay given top (has_answered words replay given top ran is_replay held told)

-- ---- nothing that a policy forbids is shown

visit_viewer : (f : Found) (app : Application) (ask : Ask) (visit : Visit) → visit_by f app ask ≡ Some visit → visit.viewer ≡ ask.viewer
visit_viewer founds.NoRoute app ask visit is = cc
visit_viewer (founds.WrongMethod allow) app ask visit is = cc
visit_viewer (founds.View n pairs) app ask visit is = cc

asked_viewer : (app : Application) (subject : LogSubject) (visit : Visit) → visit_in app subject ≡ Some visit → visit.viewer ≡ viewer_of_subject subject
asked_viewer app (whole ask closes) visit is = visit_viewer (found app ask.method ask.path) app ask visit is
asked_viewer app (refused status) visit is = cc
asked_viewer app broken visit is = cc

pub nothing_forbidden : (lazy : Bool) (app : Application) (start finish : State) (log : List LogEntry) → IsFaithful lazy app start finish log
    → (before : List LogEntry) (entry : LogEntry) (labels : List ℕ) (k : ℕ) → HasEntry log before entry → entry.answer.shown ≡ Some labels → shown_by labels k ≡ true
    → is_allowed app (world_behind app start (before ++ entry ∷ []) (shown_by labels)) (viewer_of_subject entry.subject) k ≡ true
nothing_forbidden lazy app start finish log run before entry labels k has on is =
    let right = run.pages before entry labels has on in
    let allowed = subst (λ (v : Option ℕ). AreAllowed app (world_behind app start (before ++ entry ∷ [])) v labels)
    (asked_viewer app entry.subject right.visit right.asks) right.allowed in
    allowed k is
