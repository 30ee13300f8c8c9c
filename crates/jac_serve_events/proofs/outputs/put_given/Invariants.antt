use Rattle.std.proofs.Common.{◌+◌, ◌-◌, ◌≤◌, ◌<◌, ◌^◌}
use Rattle.jac_hub.specs.Hub.{hub_seen, puts_left}
use Rattle.jac_serve_events.specs.Dispatcher.{MayServe, KeepsDispatcher, kept}
use Rattle.jac_serve_events.specs.Outside.{Went, sinks}
use Rattle.jac_serve_events.specs.Serve.{PutsSoFar}
use Rattle.jac_serve_events.specs.ReplyWriter.{KeepsRest}
use Rattle.jac_serve_events.proofs.outputs.put_given.Given as goal

abbrev pub invariant-outs : goal.invariant-outs
invariant-outs g l =
    let T = g.T.ReplyWriter in
    let U = g.U.Sink in
    let D = g.D.Dispatch in
    record {
      few : l.served + puts_left (hub_seen l.fn.hub) < 2 ^ 64 - 1;
      fewer : l.so_far.count + puts_left (hub_seen l.hub) ≤ l.served + puts_left (hub_seen l.fn.hub);
      may_serve : MayServe D.answer_spec (D.seen l.dispatcher);
      keeps : KeepsDispatcher D.answer_spec (D.seen l.fn.dispatcher) (D.seen l.dispatcher);
      stays : KeepsRest (T.seen l.fn.writer) (T.seen l.writer);
      went : Went (sinks (T.seen l.fn.writer).sink (T.seen l.writer).sink (U.seen l.fn.audit) (U.seen l.audit))
          (PutsSoFar T.spells (D.answer_spec (D.seen l.fn.dispatcher).of) (hub_seen l.fn.hub) (hub_seen l.hub) (kept (D.seen l.fn.dispatcher) (D.seen l.dispatcher)) l.served l.so_far);
    }

abbrev pub decreases-outs : goal.decreases-outs
decreases-outs g l = puts_left (hub_seen l.hub)
