use Rattle.std.proofs.Common.{refl}
use Rattle.jac_events.specs.Lines.{line_of}
use Rattle.jac_hub.specs.Hub.{hub_seen}
use Rattle.jac_serve_events.specs.Outside.{sinks}
use Rattle.jac_serve_events.proofs.OutsideLemmas.{Went-none}
use Rattle.jac_serve_events.proofs.ProgressLemmas.{line_empty, line_formless}
use Rattle.jac_serve_events.proofs.serve.serve_line.Goals as goal

pub returns-in-Ok-None-clause-answered : goal.returns-in-Ok-None-clause-answered
returns-in-Ok-None-clause-answered g c =
    let D = g.D.Dispatch in
    let dispatcher = D.seen c.args.dispatcher.now in
    let out = g.O.Sink.seen c.args.out.now in
    let audit = g.U.Sink.seen c.args.audit.now in
    Went-none out audit _
    (line_empty (D.answer_spec dispatcher.of) (hub_seen c.args.hub.now) dispatcher.run_seen c.args.served c.args.number (sinks out out audit audit) (line_of c.args.line.now)
    (rw c.in-Ok-None.field-0-is at c.in-Ok-None.ensures.read))

pub returns-in-Err-BadLine-clause-answered : goal.returns-in-Err-BadLine-clause-answered
returns-in-Err-BadLine-clause-answered g c =
    let D = g.D.Dispatch in
    let dispatcher = D.seen c.args.dispatcher.now in
    let out = g.O.Sink.seen c.args.out.now in
    let audit = g.U.Sink.seen c.args.audit.now in
    Went-none out audit _
    (line_formless (D.answer_spec dispatcher.of) (hub_seen c.args.hub.now) dispatcher.run_seen c.args.served c.args.number (sinks out out audit audit) (line_of c.args.line.now)
    ((rw c.in-Err-BadLine.field-0-is at c.in-Err-BadLine.ensures.bad) refl))
