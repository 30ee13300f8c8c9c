use Rattle.std.proofs.Common.{◌-◌, ◌<◌, ◌^◌, false}
use Rattle.jac_hub.specs.Channel.{LIMIT}
use Rattle.jac_hub.specs.Hub.{hub_seen}
use Rattle.jac_connections.specs.Link.{as_sink}
use Rattle.jac_serve_events.specs.Dispatcher.{MayServe, KeepsDispatcher, kept}
use Rattle.jac_serve_events.specs.Outside.{Went, sinks, span}
use Rattle.jac_connections.proofs.LinkProgress.{LinkProgress, taken_by}
use Rattle.jac_connections.proofs.link.serve_pieces.Given as goal

abbrev pub invariant-pieces : goal.invariant-pieces
invariant-pieces g l =
    let N = g.N.Link in
    let U = g.U.Sink in
    let D = g.D.Dispatch in
    record {
      few : l.first < 2 ^ 63;
      may_serve : MayServe D.answer_spec (D.seen l.dispatcher);
      keeps : KeepsDispatcher D.answer_spec (D.seen l.fn.dispatcher) (D.seen l.dispatcher);
      went : Went (sinks (as_sink (N.seen l.fn.link)) (as_sink (N.seen l.link)) (U.seen l.fn.audit) (U.seen l.audit))
          (LinkProgress (D.answer_spec (D.seen l.fn.dispatcher).of) l.conn l.first (hub_seen l.hub) (span (N.seen l.fn.link) (N.seen l.link)) (kept (D.seen l.fn.dispatcher) (D.seen l.dispatcher)) l.count false);
    }

abbrev pub decreases-pieces : goal.decreases-pieces
decreases-pieces g l = LIMIT - taken_by (hub_seen l.hub) l.conn
