use Rattle.std.proofs.Common.{arith}
use Rattle.jac_hub.specs.Hub.{hub_seen}
use Rattle.jac_connections.specs.Link.{as_sink}
use Rattle.jac_serve_events.specs.AnswerSpec.{hearing}
use Rattle.jac_serve_events.specs.Outside.{sinks}
use Rattle.jac_serve_events.proofs.OutsideLemmas.{Went-on}
use Rattle.jac_serve_events.proofs.EventLemmas.{step_left}
use Rattle.jac_connections.proofs.LinkEvents.{answers_on}
use Rattle.jac_connections.proofs.link.serve_event.Goals as goal

pub put_on-requires-clause-few : goal.put_on-requires-clause-few
put_on-requires-clause-few g c =
    let D = g.D.Dispatch in
    let most =
    step_left (hearing (D.answer_spec (D.seen c.args.dispatcher.now).of)) c.args.event.now c.requires.following.known c.take_in.ensures.0 (hub_seen c.args.hub.now) (hub_seen c.take_in.new.hub)
    c.requires.idle c.requires.following.like c.take_in.ensures.1 in
    omega (arith, c.requires.few, most)

pub returns-clause-answered : goal.returns-clause-answered
returns-clause-answered g c =
    let N = g.N.Link in
    let U = g.U.Sink in
    let D = g.D.Dispatch in
    Went-on _ _ _
    (λ out audit puts.
    answers_on (D.answer_spec (D.seen c.args.dispatcher.now).of) c.lawful.ensures c.requests_are_read.ensures c.args.served c.args.event.now (hub_seen c.args.hub.now) (hub_seen c.take_in.new.hub) (hub_seen c.put_on.new.hub)
    (D.seen c.args.dispatcher.now).run_seen (D.seen c.put_on.new.dispatcher).run_seen
    (sinks (as_sink (N.seen c.args.link.now)) (as_sink (N.seen c.put_on.new.link)) (U.seen c.args.audit.now) (U.seen c.put_on.new.audit)) out audit
    c.requires.idle c.requires.piece c.take_in.ensures c.requires.dispatcher.ready c.put_on.result puts)
    c.put_on.ensures.put
