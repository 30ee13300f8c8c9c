use Rattle.std.proofs.Common.{◌≡◌, ◌-◌, ◌*◌, ◌≤◌, ◌^◌, IsTrue}
use Rattle.jac_io.specs.Linked.{DoorLasts}
use Rattle.jac_serve_events.specs.Dispatcher.{MayServe, KeepsDispatcher, kept}
use Rattle.jac_serve_events.specs.Outside.{WentTo, span}
use Rattle.jac_connections.proofs.DoorProgress.{DoorProgress}
use Rattle.jac_connections.proofs.door.serve_links.Given as goal

abbrev pub invariant-links : goal.invariant-links
invariant-links g l =
    let D = g.D.Door in
    let U = g.U.Sink in
    let K = g.K.Dispatch in
    record {
      few : l.tally.connections ≤ l.most;
      few_replies : l.tally.replies ≤ l.tally.connections * 2 ^ 25;
      may_serve : MayServe K.answer_spec (K.seen l.dispatcher);
      keeps : KeepsDispatcher K.answer_spec (K.seen l.fn.dispatcher) (K.seen l.dispatcher);
      lasts : DoorLasts (D.seen l.fn.door) (D.seen l.door);
      same_port : IsTrue (D.seen l.door).tells → (D.seen l.door).port ≡ (D.seen l.fn.door).port;
      went : WentTo (span (U.seen l.fn.audit) (U.seen l.audit))
          (DoorProgress g.D.Line.Link.seen (K.answer_spec (K.seen l.fn.dispatcher).of) (span (D.seen l.fn.door) (D.seen l.door)) (kept (K.seen l.fn.dispatcher) (K.seen l.dispatcher)) l.tally);
    }

abbrev pub decreases-links : goal.decreases-links
decreases-links g l = l.most - l.tally.connections
