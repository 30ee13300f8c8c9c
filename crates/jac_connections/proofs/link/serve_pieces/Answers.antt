use Rattle.std.proofs.Common.{arith, Ok, Err}
use Rattle.jac_hub.specs.Hub.{hub_seen}
use Rattle.jac_serve_events.specs.Dispatcher.{kept}
use Rattle.jac_serve_events.specs.Outside.{span}
use Rattle.jac_connections.specs.declared.link.Standing.TheVariants as standings
use Rattle.jac_connections.specs.Link.{as_sink}
use Rattle.jac_serve_events.specs.AnswerSpec.{AnswerSpec}
use Rattle.jac_serve_events.specs.Serve.{IsFollowing}
use Rattle.jac_serve_events.proofs.DispatcherLemmas.{keeps-none, keeps-may, keeps-then, of-keeps}
use Rattle.jac_serve_events.proofs.OutsideLemmas.{Went-none, Went-then}
use Rattle.jac_connections.proofs.DispatcherSteps.{piece-of}
use Rattle.jac_connections.proofs.LinkProgress.{link_start, link_begun}
use Rattle.jac_connections.proofs.LinkEnds.{pieces_open, pieces_over, pieces_halt, pieces_less, pieces_last, link_few}
use Rattle.jac_connections.proofs.link.serve_pieces.Goals as goal

pub pieces-init : goal.pieces-init
pieces-init g c = record {
  few = c.requires.few;
  may_serve = c.requires.dispatcher;
  keeps = keeps-none g.D.Dispatch.answer_spec (g.D.Dispatch.seen c.args.dispatcher.now) c.requires.dispatcher;
  went =
      rw c.requires.begun
      (Went-none (as_sink (g.N.Link.seen c.args.link.now)) (g.U.Sink.seen c.args.audit.now) _
      (link_start (g.D.Dispatch.answer_spec (g.D.Dispatch.seen c.args.dispatcher.now).of) c.lawful.ensures c.args.conn c.args.first (g.N.Link.seen c.args.link.now) (g.D.Dispatch.seen c.args.dispatcher.now).run_seen c.requires.dispatcher.ready));
}

pub serve_piece-requires-clause-few : goal.serve_piece-requires-clause-few
serve_piece-requires-clause-few g c =
    let few = link_few _ _ _ _ _ _ _ _ _ _ c.pieces.invariant.went.holds in
    omega (arith, few.1, c.requires.few)

pub serve_piece-requires-clause-idle : goal.serve_piece-requires-clause-idle
serve_piece-requires-clause-idle g c = c.pieces.invariant.went.holds.idle

pub serve_piece-requires-clause-following : goal.serve_piece-requires-clause-following
serve_piece-requires-clause-following g c =
    let D = g.D.Dispatch in
    of-keeps D.answer_spec (D.seen c.args.dispatcher.now) (D.seen c.pieces.dispatcher) (λ (app : AnswerSpec). IsFollowing app (hub_seen c.pieces.hub)) c.pieces.invariant.keeps
    (record { known = c.pieces.invariant.went.holds.known; like = c.pieces.invariant.went.holds.like })

pub serve_piece-requires-clause-begun : goal.serve_piece-requires-clause-begun
serve_piece-requires-clause-begun g c = link_begun _ _ _ _ _ _ _ _ _ _ c.pieces.invariant.went.holds

pub pieces-smaller : goal.pieces-smaller
pieces-smaller g c =
    let N = g.N.Link in
    let D = g.D.Dispatch in
    let served = rw c.in-Ok-Open.field-0-is at c.in-Ok-Open.ensures.served in
    pieces_less (D.answer_spec (D.seen c.args.dispatcher.now).of) c.lawful.ensures c.requests_are_read.ensures c.args.conn c.args.first (hub_seen c.pieces.hub) (hub_seen c.serve_piece.new.hub)
    (N.seen c.args.link.now) (N.seen c.pieces.link) (N.seen c.serve_piece.new.link) (D.seen c.args.dispatcher.now).run_seen (D.seen c.pieces.dispatcher).run_seen (D.seen c.serve_piece.new.dispatcher).run_seen
    c.pieces.count c.in-Ok-Open.more _ _ _ _ served.out_lasts.told c.pieces.invariant.went.holds
    (piece-of D.answer_spec (D.seen c.args.dispatcher.now) (D.seen c.pieces.dispatcher) c.pieces.invariant.keeps c.args.conn (hub_seen c.pieces.hub) (hub_seen c.serve_piece.new.hub)
    (span (N.seen c.pieces.link) (N.seen c.serve_piece.new.link)) (kept (D.seen c.pieces.dispatcher) (D.seen c.serve_piece.new.dispatcher)) c.pieces.count (Ok (standings.Open c.in-Ok-Open.more)) served.out served.audit served.holds)

pub pieces-preserved : goal.pieces-preserved
pieces-preserved g c =
    let N = g.N.Link in
    let U = g.U.Sink in
    let D = g.D.Dispatch in
    let before = c.pieces.invariant in
    let served = rw c.in-Ok-Open.field-0-is at c.in-Ok-Open.ensures.served in
    record {
      few = before.few;
      may_serve = keeps-may D.answer_spec (D.seen c.pieces.dispatcher) (D.seen c.serve_piece.new.dispatcher) before.may_serve c.in-Ok-Open.ensures.keeps;
      keeps = keeps-then D.answer_spec (D.seen c.args.dispatcher.now) (D.seen c.pieces.dispatcher) (D.seen c.serve_piece.new.dispatcher) before.keeps c.in-Ok-Open.ensures.keeps;
      went =
          Went-then (as_sink (N.seen c.args.link.now)) (as_sink (N.seen c.pieces.link)) (as_sink (N.seen c.serve_piece.new.link)) (U.seen c.args.audit.now) (U.seen c.pieces.audit) (U.seen c.serve_piece.new.audit) _ _ _
          (λ o au p bu so_far piece.
          pieces_open (D.answer_spec (D.seen c.args.dispatcher.now).of) c.lawful.ensures c.requests_are_read.ensures c.args.conn c.args.first (hub_seen c.pieces.hub) (hub_seen c.serve_piece.new.hub)
          (N.seen c.args.link.now) (N.seen c.pieces.link) (N.seen c.serve_piece.new.link) (D.seen c.args.dispatcher.now).run_seen (D.seen c.pieces.dispatcher).run_seen (D.seen c.serve_piece.new.dispatcher).run_seen
          c.pieces.count c.in-Ok-Open.more o au p bu served.out_lasts.told so_far
          (piece-of D.answer_spec (D.seen c.args.dispatcher.now) (D.seen c.pieces.dispatcher) c.pieces.invariant.keeps c.args.conn (hub_seen c.pieces.hub) (hub_seen c.serve_piece.new.hub)
          (span (N.seen c.pieces.link) (N.seen c.serve_piece.new.link)) (kept (D.seen c.pieces.dispatcher) (D.seen c.serve_piece.new.dispatcher)) c.pieces.count (Ok (standings.Open c.in-Ok-Open.more)) p bu piece))
          before.went served;
    }

pub overflow_sub-result : goal.overflow_sub-result
overflow_sub-result g c =
    let N = g.N.Link in
    let D = g.D.Dispatch in
    let served = rw c.in-Ok-Over.field-0-is at c.in-Ok-Over.ensures.served in
    pieces_last (D.answer_spec (D.seen c.args.dispatcher.now).of) c.lawful.ensures c.requests_are_read.ensures c.args.conn c.args.first (hub_seen c.pieces.hub) (hub_seen c.serve_piece.new.hub)
    (N.seen c.args.link.now) (N.seen c.pieces.link) (N.seen c.serve_piece.new.link) (D.seen c.args.dispatcher.now).run_seen (D.seen c.pieces.dispatcher).run_seen (D.seen c.serve_piece.new.dispatcher).run_seen
    c.pieces.count c.in-Ok-Over.last _ _ _ _ served.out_lasts.told c.pieces.invariant.went.holds
    (piece-of D.answer_spec (D.seen c.args.dispatcher.now) (D.seen c.pieces.dispatcher) c.pieces.invariant.keeps c.args.conn (hub_seen c.pieces.hub) (hub_seen c.serve_piece.new.hub)
    (span (N.seen c.pieces.link) (N.seen c.serve_piece.new.link)) (kept (D.seen c.pieces.dispatcher) (D.seen c.serve_piece.new.dispatcher)) c.pieces.count (Ok (standings.Over c.in-Ok-Over.last)) served.out served.audit served.holds)

pub returns-in-Ok-Over-clause-served : goal.returns-in-Ok-Over-clause-served
returns-in-Ok-Over-clause-served g c =
    let N = g.N.Link in
    let U = g.U.Sink in
    let D = g.D.Dispatch in
    let served = rw c.in-Ok-Over.field-0-is at c.in-Ok-Over.ensures.served in
    Went-then (as_sink (N.seen c.args.link.now)) (as_sink (N.seen c.pieces.link)) (as_sink (N.seen c.serve_piece.new.link)) (U.seen c.args.audit.now) (U.seen c.pieces.audit) (U.seen c.serve_piece.new.audit) _ _ _
    (λ o au p bu so_far piece.
    pieces_over (D.answer_spec (D.seen c.args.dispatcher.now).of) c.lawful.ensures c.requests_are_read.ensures c.args.conn c.args.first (hub_seen c.pieces.hub) (hub_seen c.serve_piece.new.hub)
    (N.seen c.args.link.now) (N.seen c.pieces.link) (N.seen c.serve_piece.new.link) (D.seen c.args.dispatcher.now).run_seen (D.seen c.pieces.dispatcher).run_seen (D.seen c.serve_piece.new.dispatcher).run_seen
    c.pieces.count c.in-Ok-Over.last o au p bu served.out_lasts.told c.pieces.invariant.went.out_lasts.later so_far
    (piece-of D.answer_spec (D.seen c.args.dispatcher.now) (D.seen c.pieces.dispatcher) c.pieces.invariant.keeps c.args.conn (hub_seen c.pieces.hub) (hub_seen c.serve_piece.new.hub)
    (span (N.seen c.pieces.link) (N.seen c.serve_piece.new.link)) (kept (D.seen c.pieces.dispatcher) (D.seen c.serve_piece.new.dispatcher)) c.pieces.count (Ok (standings.Over c.in-Ok-Over.last)) p bu piece))
    c.pieces.invariant.went served

pub returns-in-Err-clause-served : goal.returns-in-Err-clause-served
returns-in-Err-clause-served g c =
    let N = g.N.Link in
    let U = g.U.Sink in
    let D = g.D.Dispatch in
    Went-then (as_sink (N.seen c.args.link.now)) (as_sink (N.seen c.pieces.link)) (as_sink (N.seen c.serve_piece.new.link)) (U.seen c.args.audit.now) (U.seen c.pieces.audit) (U.seen c.serve_piece.new.audit) _ _ _
    (λ o au p bu so_far piece.
    pieces_halt (D.answer_spec (D.seen c.args.dispatcher.now).of) c.lawful.ensures c.requests_are_read.ensures c.args.conn c.args.first (hub_seen c.pieces.hub) (hub_seen c.serve_piece.new.hub)
    (N.seen c.args.link.now) (N.seen c.pieces.link) (N.seen c.serve_piece.new.link) (D.seen c.args.dispatcher.now).run_seen (D.seen c.pieces.dispatcher).run_seen (D.seen c.serve_piece.new.dispatcher).run_seen
    c.pieces.count o au p bu c.in-Err.ensures.served.out_lasts.told so_far c.in-Err.halt
    (piece-of D.answer_spec (D.seen c.args.dispatcher.now) (D.seen c.pieces.dispatcher) c.pieces.invariant.keeps c.args.conn (hub_seen c.pieces.hub) (hub_seen c.serve_piece.new.hub)
    (span (N.seen c.pieces.link) (N.seen c.serve_piece.new.link)) (kept (D.seen c.pieces.dispatcher) (D.seen c.serve_piece.new.dispatcher)) c.pieces.count (Err c.in-Err.halt) p bu piece))
    c.pieces.invariant.went c.in-Err.ensures.served

pub returns-in-Ok-Over-clause-keeps : goal.returns-in-Ok-Over-clause-keeps
returns-in-Ok-Over-clause-keeps g c =
    let D = g.D.Dispatch in
    keeps-then D.answer_spec (D.seen c.args.dispatcher.now) (D.seen c.pieces.dispatcher) (D.seen c.serve_piece.new.dispatcher) c.pieces.invariant.keeps c.in-Ok-Over.ensures.keeps

pub returns-in-Err-clause-keeps : goal.returns-in-Err-clause-keeps
returns-in-Err-clause-keeps g c =
    let D = g.D.Dispatch in
    keeps-then D.answer_spec (D.seen c.args.dispatcher.now) (D.seen c.pieces.dispatcher) (D.seen c.serve_piece.new.dispatcher) c.pieces.invariant.keeps c.in-Err.ensures.keeps
