use Rattle.jac_lang.specs.Mirror.{application_of}
use Rattle.jac_serve_events.specs.Dispatcher.{kept}
use Rattle.jac_serve_events.specs.Outside.{sinks}
use Rattle.jac_serve_events.proofs.OutsideLemmas.{Went-on}
use Rattle.jac_dispatch.specs.Seen.{dispatcher_seen}
use Rattle.jac_dispatch.specs.Answered.{answer_spec_of}
use Rattle.jac_app.proofs.ReplayLemmas.{served_stopped}
use Rattle.jac_app.proofs.replay.serve_script.Goals as goal

pub returns-in-Ok-clause-served : goal.returns-in-Ok-clause-served
returns-in-Ok-clause-served g c = Went-on _ _ _ (λ o a h. h) (rw c.as_slice.ensures at c.in-Ok.ensures.served)

pub returns-in-Err-clause-served : goal.returns-in-Err-clause-served
returns-in-Err-clause-served g c =
    let O = g.O.Sink in
    let U = g.U.Sink in
    let K = g.K.Keeper in
    let dispatcher = c.args.dispatcher.now in
    let after = c.serve_events.new.dispatcher in
    let s = sinks (O.seen c.args.out.now) (O.seen c.serve_events.new.out) (U.seen c.args.audit.now) (U.seen c.serve_events.new.audit) in
    rw c.exit_reason_of.ensures
    (Went-on _ _ _
    (λ o a h.
    served_stopped (answer_spec_of dispatcher.lazy (application_of dispatcher.service.now) dispatcher.sessions.now)
    (kept (dispatcher_seen K.seen dispatcher) (dispatcher_seen K.seen after)) c.args.events.now c.in-Err.stopped s o a h)
    (rw c.as_slice.ensures at c.in-Err.ensures.served))
