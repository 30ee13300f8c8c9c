use Rattle.std.proofs.Common.{refl}
use Rattle.jac_connections.specs.Link.{as_sink}
use Rattle.jac_serve_events.specs.Outside.{sinks}
use Rattle.jac_serve_events.proofs.OutsideLemmas.{Went-second}
use Rattle.jac_connections.proofs.DoorProgress.{line_back, line_kept, line_last}
use Rattle.jac_connections.proofs.door.serve_line.Goals as goal

pub returns-in-Ok-closed-clause-served : goal.returns-in-Ok-closed-clause-served
returns-in-Ok-closed-clause-served g c =
    let D = g.D.Door in
    let N = g.D.Line.Link in
    let U = g.U.Sink in
    let K = g.K.Dispatch in
    Went-second (sinks (as_sink (N.seen c.args.line)) (as_sink (N.seen c.serve_link-served.new.link)) (U.seen c.args.audit.now) (U.seen c.serve_link-served.new.audit)) _ _
    (λ out audit took served.
    line_back N.seen (K.answer_spec (K.seen c.args.dispatcher.now).of) c.args.tally _ c.args.line c.serve_link-served.new.link (D.seen c.args.door.now) (D.seen c.close-closed.new.self)
    (K.seen c.args.dispatcher.now).run_seen (K.seen c.serve_link-served.new.dispatcher).run_seen c.in-Ok.count out audit _ took served c.in-Ok-closed.ensures refl refl)
    c.in-Ok.ensures.served

pub returns-in-Err-closed-clause-served : goal.returns-in-Err-closed-clause-served
returns-in-Err-closed-clause-served g c =
    let D = g.D.Door in
    let N = g.D.Line.Link in
    let U = g.U.Sink in
    let K = g.K.Dispatch in
    Went-second (sinks (as_sink (N.seen c.args.line)) (as_sink (N.seen c.serve_link-served.new.link)) (U.seen c.args.audit.now) (U.seen c.serve_link-served.new.audit)) _ _
    (λ out audit took served.
    line_kept N.seen (K.answer_spec (K.seen c.args.dispatcher.now).of) c.args.tally c.args.line c.serve_link-served.new.link (D.seen c.args.door.now) (D.seen c.close-closed.new.self)
    (K.seen c.args.dispatcher.now).run_seen (K.seen c.serve_link-served.new.dispatcher).run_seen c.in-Ok.count out audit _ took served c.in-Err-closed.ensures)
    c.in-Ok.ensures.served

pub returns-in-Write-clause-served : goal.returns-in-Write-clause-served
returns-in-Write-clause-served g c =
    let D = g.D.Door in
    let N = g.D.Line.Link in
    let U = g.U.Sink in
    let K = g.K.Dispatch in
    Went-second (sinks (as_sink (N.seen c.args.line)) (as_sink (N.seen c.serve_link-served.new.link)) (U.seen c.args.audit.now) (U.seen c.serve_link-served.new.audit)) _ _
    (λ out audit took served.
    line_last N.seen (K.answer_spec (K.seen c.args.dispatcher.now).of) c.args.tally c.args.line c.serve_link-served.new.link (D.seen c.args.door.now) (D.seen c.close-closed.new.self)
    (K.seen c.args.dispatcher.now).run_seen (K.seen c.serve_link-served.new.dispatcher).run_seen _ out audit c.close-closed.result took served c.close-closed.ensures)
    (rw c.in-Write.is at c.in-Err.ensures.served)

pub returns-in-Memory-clause-served : goal.returns-in-Memory-clause-served
returns-in-Memory-clause-served g c =
    let D = g.D.Door in
    let N = g.D.Line.Link in
    let U = g.U.Sink in
    let K = g.K.Dispatch in
    Went-second (sinks (as_sink (N.seen c.args.line)) (as_sink (N.seen c.serve_link-served.new.link)) (U.seen c.args.audit.now) (U.seen c.serve_link-served.new.audit)) _ _
    (λ out audit took served.
    line_last N.seen (K.answer_spec (K.seen c.args.dispatcher.now).of) c.args.tally c.args.line c.serve_link-served.new.link (D.seen c.args.door.now) (D.seen c.close-closed.new.self)
    (K.seen c.args.dispatcher.now).run_seen (K.seen c.serve_link-served.new.dispatcher).run_seen _ out audit c.close-closed.result took served c.close-closed.ensures)
    (rw c.in-Memory.is at c.in-Err.ensures.served)
