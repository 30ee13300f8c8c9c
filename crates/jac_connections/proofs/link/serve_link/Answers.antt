use Rattle.jac_connections.specs.Link.{as_sink}
use Rattle.jac_serve_events.proofs.DispatcherLemmas.{keeps-then}
use Rattle.jac_serve_events.proofs.OutsideLemmas.{Went-none, Went-on}
use Rattle.jac_connections.proofs.LinkProgress.{link_unbegun}
use Rattle.jac_connections.proofs.DispatcherSteps.{link-of}
use Rattle.jac_connections.proofs.link.serve_link.Goals as goal

pub returns-in-Ok-clause-served : goal.returns-in-Ok-clause-served
returns-in-Ok-clause-served g c =
    let D = g.D.Dispatch in
    Went-on _ _ _
    (λ out audit served. link-of D.answer_spec (D.seen c.args.dispatcher.now) (D.seen c.begin.new.dispatcher) c.in-Ok.ensures.keeps c.in-Ok.ensures.still _ _ _ _ _ _ _ served)
    c.serve_pieces.ensures.served

pub returns-in-Ok-clause-keeps : goal.returns-in-Ok-clause-keeps
returns-in-Ok-clause-keeps g c =
    let D = g.D.Dispatch in
    keeps-then D.answer_spec (D.seen c.args.dispatcher.now) (D.seen c.begin.new.dispatcher) (D.seen c.serve_pieces.new.dispatcher) c.in-Ok.ensures.keeps c.serve_pieces.ensures.keeps

pub returns-clause-served : goal.returns-clause-served
returns-clause-served g c =
    let D = g.D.Dispatch in
    let dispatcher = D.seen c.args.dispatcher.now in
    rw c.in-Err.ensures.still
    (Went-none (as_sink (g.N.Link.seen c.args.link.now)) (g.U.Sink.seen c.args.audit.now) _
    (link_unbegun (D.answer_spec dispatcher.of) c.lawful.ensures c.args.conn c.args.first (g.N.Link.seen c.args.link.now) dispatcher.run_seen c.requires.dispatcher.ready))
