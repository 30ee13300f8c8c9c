use Rattle.std.proofs.Common.{◌≡◌, ◌+◌, ◌*◌, ◌≤◌, ◌<◌, ◌^◌, length}
use Rattle.jac_hub.specs.declared.hub.Turn.TheVariants.{Idle}
use Rattle.jac_hub.specs.Hub.{hub_seen}
use Rattle.jac_value.specs.Parts.{option_now, length_left}
use Rattle.jac_serve_events.specs.Dispatcher.{MayServe, KeepsDispatcher, kept}
use Rattle.jac_serve_events.specs.Outside.{Went, sinks}
use Rattle.jac_serve_events.specs.Serve.{IsFollowing}
use Rattle.jac_serve_events.proofs.ProgressLemmas.{Progress}
use Rattle.jac_serve_events.proofs.serve.serve_events.Given as goal

abbrev pub invariant-lines : goal.invariant-lines
invariant-lines g l =
    let O = g.O.Sink in
    let U = g.U.Sink in
    let D = g.D.Dispatch in
    record {
      short : length l.bytes < 2 ^ 32;
      lines : l.number + length_left (option_now l.left) ≤ length l.bytes + 1;
      fewer : l.served ≤ l.number * 2 ^ 26;
      may_serve : MayServe D.answer_spec (D.seen l.dispatcher);
      keeps : KeepsDispatcher D.answer_spec (D.seen l.fn.dispatcher) (D.seen l.dispatcher);
      idle : (hub_seen l.hub).turn ≡ Idle;
      following : IsFollowing (D.answer_spec (D.seen l.dispatcher).of) (hub_seen l.hub);
      went : Went (sinks (O.seen l.fn.out) (O.seen l.out) (U.seen l.fn.audit) (U.seen l.audit))
          (Progress (D.answer_spec (D.seen l.fn.dispatcher).of) (hub_seen l.hub) (kept (D.seen l.fn.dispatcher) (D.seen l.dispatcher)) l.bytes (option_now l.left) l.number l.served);
    }

abbrev pub decreases-lines : goal.decreases-lines
decreases-lines g l = length_left (option_now l.left)
