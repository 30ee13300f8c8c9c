use Rattle.jac_serve_events.proofs.OutsideLemmas.{WentTo-none, WentTo-on}
use Rattle.jac_connections.proofs.DoorProgress.{next_some, next_cut, next_no_more, next_failed}
use Rattle.jac_connections.proofs.door.serve_next.Goals as goal

pub returns-in-Ok-clause-served : goal.returns-in-Ok-clause-served
returns-in-Ok-clause-served g c =
    let D = g.D.Door in
    let N = g.D.Line.Link in
    let K = g.K.Dispatch in
    WentTo-on _ _ _
    (λ audit visits.
    next_some N.seen (K.answer_spec (K.seen c.args.dispatcher.now).of) c.args.tally c.in-Ok.more c.in-Ok-Some.line (D.seen c.args.door.now) (D.seen c.next.new.self) (D.seen c.serve_line.new.door) _ audit
    c.in-Ok.ensures.lasts.told (rw c.in-Ok-Some.field-0-is at c.in-Ok-Some.ensures) c.in-Ok.ensures.same_coming visits)
    c.in-Ok.ensures.served

pub returns-in-Err-serve_line-clause-served : goal.returns-in-Err-serve_line-clause-served
returns-in-Err-serve_line-clause-served g c =
    let D = g.D.Door in
    let N = g.D.Line.Link in
    let K = g.K.Dispatch in
    WentTo-on _ _ _
    (λ audit visits.
    next_cut N.seen (K.answer_spec (K.seen c.args.dispatcher.now).of) c.args.tally c.in-Ok-Some.line (D.seen c.args.door.now) (D.seen c.next.new.self) (D.seen c.serve_line.new.door) _ audit c.in-Err-serve_line.halt
    (rw c.in-Ok-Some.field-0-is at c.in-Ok-Some.ensures).lasts.later c.in-Err-serve_line.ensures.lasts.told (rw c.in-Ok-Some.field-0-is at c.in-Ok-Some.ensures) c.in-Err-serve_line.ensures.same_coming visits)
    c.in-Err-serve_line.ensures.served

pub returns-in-Ok-None-clause-served : goal.returns-in-Ok-None-clause-served
returns-in-Ok-None-clause-served g c =
    let D = g.D.Door in
    let K = g.K.Dispatch in
    let N = g.D.Line.Link in
    WentTo-none (g.U.Sink.seen c.args.audit.now) _
    (next_no_more N.seen (K.answer_spec (K.seen c.args.dispatcher.now).of) c.args.tally (D.seen c.args.door.now) (D.seen c.next.new.self) (g.K.Dispatch.seen c.args.dispatcher.now).run_seen
    (rw c.in-Ok-None.field-0-is at c.in-Ok-None.ensures))

pub returns-in-Err-clause-served : goal.returns-in-Err-clause-served
returns-in-Err-clause-served g c =
    let D = g.D.Door in
    let K = g.K.Dispatch in
    let N = g.D.Line.Link in
    WentTo-none (g.U.Sink.seen c.args.audit.now) _
    (next_failed N.seen (K.answer_spec (K.seen c.args.dispatcher.now).of) c.args.tally (D.seen c.args.door.now) (D.seen c.next.new.self) (g.K.Dispatch.seen c.args.dispatcher.now).run_seen _ c.in-Err.ensures)
