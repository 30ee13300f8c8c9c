use Rattle.jac_lang.specs.Mirror.{application_of}
use Rattle.jac_serve_events.specs.Dispatcher.{kept}
use Rattle.jac_serve_events.specs.Outside.{sinks}
use Rattle.jac_serve_events.proofs.DispatcherLemmas.{keeps-none}
use Rattle.jac_serve_events.proofs.OutsideLemmas.{Went-none, Went-on}
use Rattle.jac_dispatch.specs.Answered.{answer_spec}
use Rattle.jac_dispatch.specs.Seen.{dispatcher_seen}
use Rattle.jac_app.proofs.ServerLemmas.{door_ends, unheard_ends}
use Rattle.jac_app.proofs.server.serve_door.Goals as goal

pub returns-in-Ok-clause-served : goal.returns-in-Ok-clause-served
returns-in-Ok-clause-served g c =
    let D = g.D.Door in
    let K = g.K.Keeper in
    let dispatcher = c.args.dispatcher.now in
    let after = c.serve_connections.new.dispatcher in
    let O = g.O.Sink in
    let U = g.U.Sink in
    let s = sinks (O.seen c.args.out.now) (O.seen c.serve_connections.new.out) (U.seen c.args.audit.now) (U.seen c.serve_connections.new.audit) in
    Went-on _ _ _
    (λ out audit served.
    door_ends g.D.Line.Link.seen (application_of dispatcher.service.now) dispatcher.sessions.now (D.seen c.args.door.now) (D.seen c.listen.new.self) (D.seen c.serve_connections.new.door) c.args.serving.now _
    c.in-Ok.ensures c.serve_connections.ensures.lasts c.serve_connections.ensures.same_port dispatcher.lazy c.requires.lazy
    (kept (dispatcher_seen K.seen dispatcher) (dispatcher_seen K.seen after)) c.serve_connections.result s out audit served)
    c.serve_connections.ensures.served

pub returns-in-Err-clause-served : goal.returns-in-Err-clause-served
returns-in-Err-clause-served g c =
    let D = g.D.Door in
    let dispatcher = c.args.dispatcher.now in
    let out = g.O.Sink.seen c.args.out.now in
    let audit = g.U.Sink.seen c.args.audit.now in
    Went-none out audit _
    (unheard_ends g.D.Line.Link.seen (application_of dispatcher.service.now) dispatcher.sessions.now (D.seen c.args.door.now) (D.seen c.listen.new.self) c.args.serving.now
    (dispatcher_seen g.K.Keeper.seen dispatcher).run_seen _ (sinks out out audit audit) c.in-Err.ensures)

pub returns-in-Err-clause-keeps : goal.returns-in-Err-clause-keeps
returns-in-Err-clause-keeps g c = keeps-none answer_spec (dispatcher_seen g.K.Keeper.seen c.args.dispatcher.now) c.requires.dispatcher
