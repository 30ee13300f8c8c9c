use Rattle.jac_lang.specs.Mirror.{application_of}
use Rattle.jac_serve_events.specs.Dispatcher.{kept}
use Rattle.jac_serve_events.specs.Outside.{span}
use Rattle.jac_dispatch.specs.Seen.{dispatcher_seen}
use Rattle.jac_dispatch.specs.Answered.{answer_spec_of}
use Rattle.jac_app.proofs.ServerLemmas.{served_told, served_torn, served_part}
use Rattle.jac_app.proofs.server.serve_connections.Goals as goal

pub returns-in-Ok-put_served-clause-served : goal.returns-in-Ok-put_served-clause-served
returns-in-Ok-put_served-clause-served g c =
    let O = g.O.Sink in
    let U = g.U.Sink in
    let D = g.D.Door in
    let K = g.K.Keeper in
    served_told g.D.Line.Link.seen (answer_spec_of c.args.dispatcher.now.lazy (application_of c.args.dispatcher.now.service.now) c.args.dispatcher.now.sessions.now) c.args.serving.now.count (span (D.seen c.args.door.now) (D.seen c.serve_links.new.door))
    (kept (dispatcher_seen K.seen c.args.dispatcher.now) (dispatcher_seen K.seen c.serve_links.new.dispatcher)) (O.seen c.args.out.now) (O.seen c.put_served.new.out) (U.seen c.args.audit.now) (U.seen c.serve_links.new.audit)
    c.in-Ok.tally _ _ c.in-Ok.ensures.served c.in-Ok-put_served.ensures

pub returns-in-Err-put_served-clause-served : goal.returns-in-Err-put_served-clause-served
returns-in-Err-put_served-clause-served g c =
    let O = g.O.Sink in
    let U = g.U.Sink in
    let D = g.D.Door in
    let K = g.K.Keeper in
    served_torn g.D.Line.Link.seen (answer_spec_of c.args.dispatcher.now.lazy (application_of c.args.dispatcher.now.service.now) c.args.dispatcher.now.sessions.now) c.args.serving.now.count (span (D.seen c.args.door.now) (D.seen c.serve_links.new.door))
    (kept (dispatcher_seen K.seen c.args.dispatcher.now) (dispatcher_seen K.seen c.serve_links.new.dispatcher)) (O.seen c.args.out.now) (O.seen c.put_served.new.out) (U.seen c.args.audit.now) (U.seen c.serve_links.new.audit)
    c.in-Ok.tally _ c.in-Ok.ensures.served c.in-Err-put_served.ensures

pub returns-in-Err-clause-served : goal.returns-in-Err-clause-served
returns-in-Err-clause-served g c =
    let U = g.U.Sink in
    let D = g.D.Door in
    let K = g.K.Keeper in
    rw c.halted.ensures
    (served_part g.D.Line.Link.seen (answer_spec_of c.args.dispatcher.now.lazy (application_of c.args.dispatcher.now.service.now) c.args.dispatcher.now.sessions.now) c.args.serving.now.count (span (D.seen c.args.door.now) (D.seen c.serve_links.new.door))
    (kept (dispatcher_seen K.seen c.args.dispatcher.now) (dispatcher_seen K.seen c.serve_links.new.dispatcher)) (g.O.Sink.seen c.args.out.now) (U.seen c.args.audit.now) (U.seen c.serve_links.new.audit)
    c.in-Err.halt c.in-Err.ensures.cause c.in-Err.ensures.served)
