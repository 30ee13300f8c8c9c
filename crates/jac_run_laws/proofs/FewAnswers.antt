-- The first answers of a serve, whichever connection each of them belongs to.
use Rattle.std.proofs.Common.{◌≡◌, sym, subst, ℕ, ◌+◌, Bool, List, [], ◌∷◌, length}
use Rattle.jac_io.specs.Linked.{LinkSeen}
use Rattle.jac_lang.specs.Syntax.{Application}
use Rattle.jac_route.specs.declared.sessions.Session.{Session}
use Rattle.jac_serve_events.specs.AnswerSpec.{LogEntry}
use Rattle.jac_serve_events.specs.RunSeen.{RunSeen, run_seen_of, run_seen_with}
use Rattle.jac_cli.specs.declared.words.ServeArgs.{ServeArgs}
use Rattle.jac_connections.specs.Door.{LinkVisit, AreVisited}
use Rattle.jac_dispatch.specs.Answered.{AreAnsweredInTurn, answer_spec_of}
use Rattle.jac_dispatch.proofs.EntriesLemmas.{few_at_first, in_turn-append}
use Rattle.jac_run_laws.specs.Doors.{HasServed}
use Rattle.jac_run_laws.specs.Replayed.{TopRun, AreFewFrom, counts_of}

visits_in_turn : {L : Type 0} (line : L → LinkSeen) (lazy : Bool) (app : Application) (sessions : List Session) (c first : ℕ) (before after : RunSeen)
    (visits : List (LinkVisit L)) (log : List LogEntry) (audit : List ℕ) → AreVisited line (answer_spec_of lazy app sessions) c first before visits log audit after
    → AreAnsweredInTurn lazy app before log after
visits_in_turn line lazy app sessions c first before after [] log audit (none, silent, same) =
    subst (λ (l : List LogEntry). AreAnsweredInTurn lazy app before l after) (sym none) same
visits_in_turn line lazy app sessions c first before after (visit ∷ visits) log audit (between, mine, lines, others, more, visited, parts, text, rest) =
    let later = visits_in_turn line lazy app sessions (c + 1) (first + length mine) between after visits others more rest in
    let here = subst (λ (l : List LogEntry). AreAnsweredInTurn lazy app before l between) visited.entries visited.served.served.entries.in_turn in
    subst (λ (l : List LogEntry). AreAnsweredInTurn lazy app before l after) (sym parts) (in_turn-append lazy app before between after mine others here later)

pub served_few : {L : Type 0} (serving : ServeArgs) (top : TopRun L) (run : HasServed serving top)
    → AreFewFrom serving.lazy run.app top.seen.keeper.after (counts_of top) run.door_served.opened run.log
served_few serving top run =
    let s = run.door_served in
    let before = run_seen_of s.opened (counts_of top).before in
    let after = run_seen_with top.seen.keeper.after (counts_of top).after s.left in
    record {
      left = s.left;
      few =
          few_at_first serving.lazy run.app before after run.log
          (visits_in_turn top.line serving.lazy run.app run.sessions 1 0 before after run.visits run.log run.audit s.visited);
    }
