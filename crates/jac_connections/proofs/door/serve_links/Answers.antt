use Rattle.std.proofs.Common.{◌∙◌, arith, refl, inl, Ok, Err, Some, None}
use Rattle.jac_serve_events.specs.Dispatcher.{kept}
use Rattle.jac_serve_events.specs.Outside.{span}
use Rattle.jac_serve_events.proofs.DispatcherLemmas.{keeps-none, keeps-may, keeps-then}
use Rattle.jac_serve_events.proofs.OutsideLemmas.{WentTo-none, WentTo-on, WentTo-then}
use Rattle.jac_connections.proofs.DispatcherSteps.{next_link-of}
use Rattle.jac_connections.proofs.DoorProgress.{door_start, door_end, next_on, next_none, next_halt}
use Rattle.jac_connections.proofs.door.serve_links.Goals as goal

pub links-init : goal.links-init
links-init g c = record {
  few = omega arith;
  few_replies = omega arith;
  may_serve = c.requires.dispatcher;
  keeps = keeps-none g.K.Dispatch.answer_spec (g.K.Dispatch.seen c.args.dispatcher.now) c.requires.dispatcher;
  lasts = record { later = omega arith; told = λ told. told };
  same_port = λ told. refl;
  went =
      WentTo-none (g.U.Sink.seen c.args.audit.now) _
      (door_start g.D.Line.Link.seen (g.K.Dispatch.answer_spec (g.K.Dispatch.seen c.args.dispatcher.now).of) c.lawful.ensures (g.D.Door.seen c.args.door.now) (g.K.Dispatch.seen c.args.dispatcher.now).run_seen c.requires.dispatcher.ready);
}

pub returns-clause-served : goal.returns-clause-served
returns-clause-served g c =
    let D = g.D.Door in
    let K = g.K.Dispatch in
    WentTo-on _ _ _
    (λ o so_far.
    door_end g.D.Line.Link.seen (K.answer_spec (K.seen c.args.dispatcher.now).of) c.args.most (D.seen c.args.door.now) (D.seen c.links.door) (K.seen c.args.dispatcher.now).run_seen (K.seen c.links.dispatcher).run_seen c.links.tally o so_far
    c.links.invariant.few (inl (omega (arith, c.links.invariant.few, c.links-test.false))))
    c.links.invariant.went

pub returns-in-Ok-None-clause-served : goal.returns-in-Ok-None-clause-served
returns-in-Ok-None-clause-served g c =
    let D = g.D.Door in
    let N = g.D.Line.Link in
    let U = g.U.Sink in
    let K = g.K.Dispatch in
    WentTo-then (U.seen c.args.audit.now) (U.seen c.links.audit) (U.seen c.serve_next.new.audit) _ _ _
    (λ o au so_far next.
    next_none N.seen (K.answer_spec (K.seen c.args.dispatcher.now).of) c.lawful.ensures (D.seen c.args.door.now) (D.seen c.links.door) (D.seen c.serve_next.new.door)
    (K.seen c.args.dispatcher.now).run_seen (K.seen c.links.dispatcher).run_seen (K.seen c.serve_next.new.dispatcher).run_seen c.links.tally o au c.in-Ok-None.ensures.lasts.told so_far c.args.most c.links.invariant.few
    (next_link-of K.answer_spec (K.seen c.args.dispatcher.now) (K.seen c.links.dispatcher) c.links.invariant.keeps N.seen c.links.tally (span (D.seen c.links.door) (D.seen c.serve_next.new.door))
    (kept (K.seen c.links.dispatcher) (K.seen c.serve_next.new.dispatcher)) (Ok None) au next))
    c.links.invariant.went (rw c.in-Ok-None.field-0-is at c.in-Ok-None.ensures.served)

pub returns-in-Err-clause-served : goal.returns-in-Err-clause-served
returns-in-Err-clause-served g c =
    let D = g.D.Door in
    let N = g.D.Line.Link in
    let U = g.U.Sink in
    let K = g.K.Dispatch in
    WentTo-then (U.seen c.args.audit.now) (U.seen c.links.audit) (U.seen c.serve_next.new.audit) _ _ _
    (λ o au so_far next.
    next_halt N.seen (K.answer_spec (K.seen c.args.dispatcher.now).of) c.lawful.ensures (D.seen c.args.door.now) (D.seen c.links.door) (D.seen c.serve_next.new.door)
    (K.seen c.args.dispatcher.now).run_seen (K.seen c.links.dispatcher).run_seen (K.seen c.serve_next.new.dispatcher).run_seen c.links.tally o au c.in-Err.ensures.lasts.told so_far c.args.most c.links.invariant.lasts.later c.in-Err.halt
    (next_link-of K.answer_spec (K.seen c.args.dispatcher.now) (K.seen c.links.dispatcher) c.links.invariant.keeps N.seen c.links.tally (span (D.seen c.links.door) (D.seen c.serve_next.new.door))
    (kept (K.seen c.links.dispatcher) (K.seen c.serve_next.new.dispatcher)) (Err c.in-Err.halt) au next))
    c.links.invariant.went c.in-Err.ensures.served

pub links-preserved : goal.links-preserved
links-preserved g c =
    let D = g.D.Door in
    let N = g.D.Line.Link in
    let U = g.U.Sink in
    let K = g.K.Dispatch in
    let before = c.links.invariant in
    let next = c.in-Ok-Some.ensures in
    let served = rw c.in-Ok-Some.field-0-is at next.served in
    record {
      few = let n = served.holds.2.2 in omega (arith, n, c.links-test.true);
      few_replies = rw c.in-Ok-Some.field-0-is at next.few_replies;
      may_serve = keeps-may K.answer_spec (K.seen c.links.dispatcher) (K.seen c.serve_next.new.dispatcher) before.may_serve next.keeps;
      keeps = keeps-then K.answer_spec (K.seen c.args.dispatcher.now) (K.seen c.links.dispatcher) (K.seen c.serve_next.new.dispatcher) before.keeps next.keeps;
      lasts = record { later = omega (arith, before.lasts.later, next.lasts.later); told = λ told. before.lasts.told (next.lasts.told told) };
      same_port = λ told. next.same_port told ∙ before.same_port (next.lasts.told told);
      went =
          WentTo-then (U.seen c.args.audit.now) (U.seen c.links.audit) (U.seen c.serve_next.new.audit) _ _ _
          (λ o au so_far next_one.
          next_on N.seen (K.answer_spec (K.seen c.args.dispatcher.now).of) c.lawful.ensures (D.seen c.args.door.now) (D.seen c.links.door) (D.seen c.serve_next.new.door)
          (K.seen c.args.dispatcher.now).run_seen (K.seen c.links.dispatcher).run_seen (K.seen c.serve_next.new.dispatcher).run_seen c.links.tally o au next.lasts.told so_far c.in-Ok-Some.more
          (next_link-of K.answer_spec (K.seen c.args.dispatcher.now) (K.seen c.links.dispatcher) c.links.invariant.keeps N.seen c.links.tally (span (D.seen c.links.door) (D.seen c.serve_next.new.door))
          (kept (K.seen c.links.dispatcher) (K.seen c.serve_next.new.dispatcher)) (Ok (Some c.in-Ok-Some.more)) au next_one))
          before.went served;
    }

pub serve_next-requires-clause-few_replies : goal.serve_next-requires-clause-few_replies
serve_next-requires-clause-few_replies g c = c.links.invariant.few_replies

pub returns-in-Ok-None-clause-keeps : goal.returns-in-Ok-None-clause-keeps
returns-in-Ok-None-clause-keeps g c =
    let K = g.K.Dispatch in
    keeps-then K.answer_spec (K.seen c.args.dispatcher.now) (K.seen c.links.dispatcher) (K.seen c.serve_next.new.dispatcher) c.links.invariant.keeps c.in-Ok-None.ensures.keeps

pub returns-in-Err-clause-keeps : goal.returns-in-Err-clause-keeps
returns-in-Err-clause-keeps g c =
    let K = g.K.Dispatch in
    keeps-then K.answer_spec (K.seen c.args.dispatcher.now) (K.seen c.links.dispatcher) (K.seen c.serve_next.new.dispatcher) c.links.invariant.keeps c.in-Err.ensures.keeps
