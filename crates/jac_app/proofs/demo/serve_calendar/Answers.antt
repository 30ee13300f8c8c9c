use Rattle.std.proofs.Common.{◌∙◌, ◌<◌, ◌^◌, subst, sym, List, ℕ, length, arith}
use Rattle.std.specs.List.{All}
use Rattle.jac_events.specs.Lines.{line_of}
use Rattle.jac_lang.specs.Mirror.{application_of}
use Rattle.jac_calendar_laws.specs.Asking.{IsAsking}
use Rattle.jac_app.specs.Demo.{Tallies}
use Rattle.jac_serve_events.specs.Dispatcher.{kept}
use Rattle.jac_serve_events.specs.Line.{lines_of}
use Rattle.jac_serve_events.specs.Script.{script_of}
use Rattle.jac_calendar_laws.proofs.AskingLemmas.{text_asking, text_short}
use Rattle.jac_serve_events.proofs.OutsideLemmas.{WentTo-none, WentTo-on}
use Rattle.jac_serve_events.proofs.DispatcherLemmas.{keeps-none}
use Rattle.jac_dispatch.specs.Answered.{answer_spec}
use Rattle.jac_dispatch.specs.Seen.{dispatcher_seen}
use Rattle.jac_app.proofs.DemoLemmas.{tally_none}
use Rattle.jac_app.proofs.demo.serve_calendar.Goals as goal

pub tally_events-requires-clause-short : goal.tally_events-requires-clause-short
tally_events-requires-clause-short g c =
    subst (λ (t : List ℕ). length t < 2 ^ 63) (sym (c.as_slice.ensures ∙ c.in-Ok.ensures)) (text_short c.args.count c.requires.few)

pub tally_events-requires-clause-asking : goal.tally_events-requires-clause-asking
tally_events-requires-clause-asking g c =
    subst (λ (t : List ℕ). All (λ line. IsAsking (line_of line)) (lines_of t)) (sym (c.as_slice.ensures ∙ c.in-Ok.ensures))
    (text_asking c.args.count (omega (arith, c.requires.few)))

pub returns-in-Ok-clause-served : goal.returns-in-Ok-clause-served
returns-in-Ok-clause-served g c =
    let K = g.K.Keeper in
    let k = kept (dispatcher_seen K.seen c.args.dispatcher.now) (dispatcher_seen K.seen c.tally_events.new.dispatcher) in
    WentTo-on _ _ _
    (λ put h.
    subst (λ (t : List ℕ). Tallies (application_of c.args.dispatcher.now.service.now) k (script_of t) c.tally_events.result put)
    (c.as_slice.ensures ∙ c.in-Ok.ensures) h)
    c.tally_events.ensures.tallied

pub returns-in-Err-clause-served : goal.returns-in-Err-clause-served
returns-in-Err-clause-served g c =
    let dispatcher = dispatcher_seen g.K.Keeper.seen c.args.dispatcher.now in
    WentTo-none (g.U.Sink.seen c.args.audit.now) _ (tally_none (application_of c.args.dispatcher.now.service.now) dispatcher.run_seen c.args.count c.requires.dispatcher.ready)

pub returns-in-Err-clause-keeps : goal.returns-in-Err-clause-keeps
returns-in-Err-clause-keeps g c = keeps-none answer_spec (dispatcher_seen g.K.Keeper.seen c.args.dispatcher.now) c.requires.dispatcher
