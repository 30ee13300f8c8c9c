use Rattle.std.proofs.Common.{◌+◌, ap, Err, false}
use Rattle.jac_keep.specs.declared.stop.Stop.{Stop}
use Rattle.jac_lang.specs.Mirror.{application_of}
use Rattle.jac_dispatch.specs.Asked.{ask_in}
use Rattle.jac_dispatch.specs.Seen.{dispatcher_seen}
use Rattle.jac_serve_events.specs.Dispatcher.{kept}
use Rattle.jac_serve_events.proofs.OutsideLemmas.{WentTo-on}
use Rattle.jac_app.proofs.DemoLemmas.{ask_counted, ask_stopped, same_line}
use Rattle.jac_dispatch.proofs.DispatcherLaws.{keeps-made, keeps-failed}
use Rattle.jac_dispatch.proofs.EntryLemmas.{is_failed}
use Rattle.jac_app.proofs.demo.tally_ask.Goals as goal

pub returns-in-Ok-clause-answered : goal.returns-in-Ok-clause-answered
returns-in-Ok-clause-answered g c =
    let K = g.K.Keeper in
    let app = application_of c.args.dispatcher.now.service.now in
    let k = kept (dispatcher_seen K.seen c.args.dispatcher.now) (dispatcher_seen K.seen c.count_ask.new.dispatcher) in
    let ask = ask_in app c.args.asking.now.viewer c.args.asking.now.method.now c.args.asking.now.path.now c.args.asking.now.query.now c.args.asking.now.body.now in
    WentTo-on _ _ _
    (λ put h.
    ask_counted app k c.args.served ask c.in-Ok.counted.audit c.in-Ok.counted.tally c.put_counted.result put
    c.in-Ok.ensures.counted c.in-Ok.ensures.told c.in-Ok.ensures.cause.later
    (same_line (c.args.served + 1) _ c.in-Ok.counted.audit c.in-Ok.counted.tally c.put_counted.result put c.as_bytes.ensures h))
    c.put_counted.ensures.put

pub returns-in-Err-clause-answered : goal.returns-in-Err-clause-answered
returns-in-Err-clause-answered g c =
    let K = g.K.Keeper in
    let app = application_of c.args.dispatcher.now.service.now in
    let k = kept (dispatcher_seen K.seen c.args.dispatcher.now) (dispatcher_seen K.seen c.count_ask.new.dispatcher) in
    let ask = ask_in app c.args.asking.now.viewer c.args.asking.now.method.now c.args.asking.now.path.now c.args.asking.now.query.now c.args.asking.now.body.now in
    let stop = c.in-Err.stop in
    WentTo-on _ _ _
    (λ put h.
    ask_stopped app k c.args.served ask c.viewer_in.result stop c.put_stopped.result put (rw c.app.ensures.app at c.viewer_in.ensures)
    (is_failed false app k ask false stop
    c.in-Err.ensures.refused c.in-Err.ensures.reading c.in-Err.ensures.told c.requires.dispatcher.ready c.in-Err.ensures.cause.later (λ is. c.in-Err.ensures.cause.rose (ap (λ (s : Stop). Err s) is)) c.in-Err.ensures.cached)
    h)
    c.put_stopped.ensures.put

pub returns-in-Ok-clause-keeps : goal.returns-in-Ok-clause-keeps
returns-in-Ok-clause-keeps g c =
    let K = g.K.Keeper in
    keeps-made (dispatcher_seen K.seen c.args.dispatcher.now) (dispatcher_seen K.seen c.count_ask.new.dispatcher) c.in-Ok.ensures.same c.in-Ok.ensures.attached
    c.in-Ok.ensures.settled c.in-Ok.ensures.counted.made.goes_on

pub returns-in-Err-clause-keeps : goal.returns-in-Err-clause-keeps
returns-in-Err-clause-keeps g c =
    let K = g.K.Keeper in
    keeps-failed (dispatcher_seen K.seen c.args.dispatcher.now) (dispatcher_seen K.seen c.count_ask.new.dispatcher) c.in-Err.ensures.same c.in-Err.ensures.attached
    c.in-Err.ensures.settled c.requires.dispatcher.ready c.in-Err.ensures.refused c.in-Err.ensures.told
