use Rattle.std.proofs.Common.{◌+◌, refl, false}
use Rattle.jac_hub.specs.Hub.{hub_seen}
use Rattle.jac_serve_events.specs.Outside.{sinks}
use Rattle.jac_serve_events.proofs.OutsideLemmas.{Went-on}
use Rattle.jac_serve_events.proofs.EventLemmas.{ask_served, ask_torn}
use Rattle.jac_serve_events.proofs.serve.serve_event.Goals as goal

pub returns-in-Ok-clause-answered : goal.returns-in-Ok-clause-answered
returns-in-Ok-clause-answered g c =
    let D = g.D.Dispatch in
    let dispatcher = D.seen c.args.dispatcher.now in
    let O = g.O.Sink in
    let U = g.U.Sink in
    let s = sinks (O.seen c.args.out.now) (O.seen c.put_asked.new.out) (U.seen c.args.audit.now) (U.seen c.put_asked.new.audit) in
    rw c.in-Ask.is
    (Went-on _ _ _
    (λ out audit put n known like. (
      refl,
      false,
      ask_served (D.answer_spec dispatcher.of) c.lawful.ensures (hub_seen c.args.hub.now) dispatcher.run_seen (D.seen c.ask-asked.new.self).run_seen c.args.served n
          c.in-Ask.viewer c.in-Ask.method c.in-Ask.path c.in-Ask.query c.in-Ask.body s out audit known c.ask-asked.result c.requires.idle like c.ask-asked.ensures.asked put,
    ))
    (rw c.as_bytes.ensures at c.in-Ok.ensures.put))

pub returns-in-Ask-clause-answered : goal.returns-in-Ask-clause-answered
returns-in-Ask-clause-answered g c =
    let D = g.D.Dispatch in
    let dispatcher = D.seen c.args.dispatcher.now in
    let O = g.O.Sink in
    let U = g.U.Sink in
    let s = sinks (O.seen c.args.out.now) (O.seen c.put_asked.new.out) (U.seen c.args.audit.now) (U.seen c.put_asked.new.audit) in
    rw c.in-Ask.is
    (Went-on _ _ _
    (λ out audit torn n known like. (
      refl,
      record { lost = c.in-Err.field-0; count = c.args.served + 1 },
      ask_torn (D.answer_spec dispatcher.of) c.lawful.ensures dispatcher.run_seen (D.seen c.ask-asked.new.self).run_seen c.args.served n
          c.in-Ask.viewer c.in-Ask.method c.in-Ask.path c.in-Ask.query c.in-Ask.body c.in-Err.field-0 s out audit known c.ask-asked.result c.ask-asked.ensures.asked torn,
    ))
    (rw c.as_bytes.ensures at c.in-Err.ensures.put))
