use Rattle.std.proofs.Common.{arith, Some, None}
use Rattle.jac_hub.specs.Hub.{hub_seen}
use Rattle.jac_serve_events.proofs.DispatcherLemmas.{keeps-none, keeps-may, keeps-then, next-of}
use Rattle.jac_serve_events.specs.Outside.{sinks}
use Rattle.jac_serve_events.proofs.OutsideLemmas.{Went-none, Went-on, Went-then, fails_behind}
use Rattle.jac_serve_events.proofs.NextLemmas.{so_far_none, so_far_more, so_far_lost, so_far_all, few_replies}
use Rattle.jac_serve_events.proofs.ReplyWriterLemmas.{stays-none, stays-then}
use Rattle.jac_serve_events.proofs.outputs.put_given.Goals as goal

pub outs-init : goal.outs-init
outs-init g c =
    let T = g.T.ReplyWriter in
    let D = g.D.Dispatch in
    let dispatcher = D.seen c.args.dispatcher.now in
    record {
      few = c.requires.few;
      fewer = omega arith;
      may_serve = c.requires.dispatcher;
      keeps = keeps-none D.answer_spec dispatcher c.requires.dispatcher;
      stays = stays-none (T.seen c.args.writer.now);
      went =
          Went-none (T.seen c.args.writer.now).sink (g.U.Sink.seen c.args.audit.now) _
          (so_far_none T.spells (D.answer_spec dispatcher.of) (hub_seen c.args.hub.now) dispatcher.run_seen c.args.served);
    }

pub returns-in-Err-clause-put : goal.returns-in-Err-clause-put
returns-in-Err-clause-put g c =
    let T = g.T.ReplyWriter in
    let U = g.U.Sink in
    let D = g.D.Dispatch in
    let between = hub_seen c.outs.hub in
    let new = hub_seen c.next_out.new.hub in
    let a = D.seen c.args.dispatcher.now in
    let b = D.seen c.outs.dispatcher in
    let d = D.seen c.next_out.new.self in
    let next =
    next-of D.answer_spec a b c.spelling-spelling.result T.spells between new (Some c.in-Some.given) b.run_seen d.run_seen c.outs.invariant.keeps c.spelling-spelling.ensures c.in-Some.ensures.next in
    let went = c.outs.invariant.went in
    let out_first = (T.seen c.args.writer.now).sink in
    let out_next = (T.seen c.outs.writer).sink in
    let out_last = (T.seen c.write_out-told.new.writer).sink in
    let audit_last = U.seen c.write_out-told.new.audit in
    Went-then out_first out_next out_last (U.seen c.args.audit.now) (U.seen c.outs.audit) audit_last _ _ _
    (λ o au p bu so_far torn.
    so_far_lost T.spells (D.answer_spec a.of) (hub_seen c.args.hub.now) between new a.run_seen b.run_seen d.run_seen c.args.served c.outs.so_far o au so_far c.in-Err.lost c.in-Some.given
    (sinks out_first out_last (U.seen c.args.audit.now) audit_last) (sinks out_next out_last (U.seen c.outs.audit) audit_last) p bu
    (fails_behind out_first out_next out_last (U.seen c.args.audit.now) (U.seen c.outs.audit) audit_last went.out_lasts.later went.audit_lasts.later)
    next torn)
    went c.in-Err.ensures.put

pub returns-clause-put : goal.returns-clause-put
returns-clause-put g c =
    let T = g.T.ReplyWriter in
    let D = g.D.Dispatch in
    let between = hub_seen c.outs.hub in
    let new = hub_seen c.next_out.new.hub in
    let a = D.seen c.args.dispatcher.now in
    let b = D.seen c.outs.dispatcher in
    let d = D.seen c.next_out.new.self in
    let next =
    next-of D.answer_spec a b c.spelling-spelling.result T.spells between new None b.run_seen d.run_seen c.outs.invariant.keeps c.spelling-spelling.ensures c.in_default.ensures.next in
    Went-on _ _ _
    (λ o au so_far.
    so_far_all T.spells (D.answer_spec a.of) (hub_seen c.args.hub.now) between new a.run_seen b.run_seen d.run_seen c.args.served c.outs.so_far o au so_far next)
    c.outs.invariant.went

pub outs-preserved : goal.outs-preserved
outs-preserved g c =
    let T = g.T.ReplyWriter in
    let U = g.U.Sink in
    let D = g.D.Dispatch in
    let between = hub_seen c.outs.hub in
    let new = hub_seen c.next_out.new.hub in
    let a = D.seen c.args.dispatcher.now in
    let b = D.seen c.outs.dispatcher in
    let d = D.seen c.next_out.new.self in
    let before = c.outs.invariant in
    let next =
    next-of D.answer_spec a b c.spelling-spelling.result T.spells between new (Some c.in-Some.given) b.run_seen d.run_seen before.keeps c.spelling-spelling.ensures c.in-Some.ensures.next in
    let out_next = (T.seen c.outs.writer).sink in
    let out_last = (T.seen c.write_out-told.new.writer).sink in
    let audit_last = U.seen c.write_out-told.new.audit in
    record {
      few = before.few;
      fewer = omega (arith, before.fewer, c.in-Some.ensures.nearer, c.in-Ok.ensures.put.holds.0, few_replies c.in-Some.given);
      may_serve = keeps-may D.answer_spec b d before.may_serve c.in-Some.ensures.keeps;
      keeps = keeps-then D.answer_spec a b d before.keeps c.in-Some.ensures.keeps;
      stays = stays-then (T.seen c.args.writer.now) (T.seen c.outs.writer) (T.seen c.write_out-told.new.writer) c.in-Ok.ensures.put.out_lasts.told before.stays c.in-Ok.ensures.stays;
      went =
          Went-then (T.seen c.args.writer.now).sink out_next out_last (U.seen c.args.audit.now) (U.seen c.outs.audit) audit_last _ _ _
          (λ o au p bu so_far put.
          so_far_more T.spells (D.answer_spec a.of) (hub_seen c.args.hub.now) between new a.run_seen b.run_seen d.run_seen c.args.served c.outs.so_far o au so_far c.in-Ok.more c.in-Some.given
          (sinks out_next out_last (U.seen c.outs.audit) audit_last) p bu next put)
          before.went c.in-Ok.ensures.put;
    }

pub returns-in-Err-clause-stays : goal.returns-in-Err-clause-stays
returns-in-Err-clause-stays g c =
    let T = g.T.ReplyWriter in
    stays-then (T.seen c.args.writer.now) (T.seen c.outs.writer) (T.seen c.write_out-told.new.writer) c.in-Err.ensures.put.out_lasts.told c.outs.invariant.stays c.in-Err.ensures.stays

pub returns-in-Err-clause-keeps : goal.returns-in-Err-clause-keeps
returns-in-Err-clause-keeps g c =
    let D = g.D.Dispatch in
    keeps-then D.answer_spec (D.seen c.args.dispatcher.now) (D.seen c.outs.dispatcher) (D.seen c.next_out.new.self) c.outs.invariant.keeps c.in-Some.ensures.keeps

pub returns-clause-keeps : goal.returns-clause-keeps
returns-clause-keeps g c =
    let D = g.D.Dispatch in
    keeps-then D.answer_spec (D.seen c.args.dispatcher.now) (D.seen c.outs.dispatcher) (D.seen c.next_out.new.self) c.outs.invariant.keeps c.in_default.ensures.keeps
