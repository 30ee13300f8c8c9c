use Rattle.std.proofs.Common.{◌≡◌, ◌+◌, ◌≤◌, ◌<◌, ◌^◌, length, false}
use Rattle.std.specs.List.{All}
use Rattle.jac_lang.specs.Mirror.{application_of}
use Rattle.jac_events.specs.Lines.{line_of}
use Rattle.jac_value.specs.Parts.{option_now, length_left, parts_left}
use Rattle.jac_calendar_laws.specs.Asking.{IsAsking}
use Rattle.jac_app.specs.Demo.{IsBounded}
use Rattle.jac_serve_events.specs.Dispatcher.{MayServe, KeepsDispatcher, kept}
use Rattle.jac_serve_events.specs.Outside.{WentTo, span}
use Rattle.jac_dispatch.specs.Answered.{answer_spec}
use Rattle.jac_dispatch.specs.Seen.{dispatcher_seen}
use Rattle.jac_app.proofs.DemoLemmas.{Tallying}
use Rattle.jac_app.proofs.demo.tally_events.Given as goal

abbrev pub invariant-lines : goal.invariant-lines
invariant-lines g l =
    let U = g.U.Sink in
    let K = g.K.Keeper in
    record {
      short : length l.bytes < 2 ^ 63;
      fewer : l.summary.asks + length_left (option_now l.left) ≤ length l.bytes + 1;
      bounded : IsBounded l.summary;
      asking : All (λ line. IsAsking (line_of line)) (parts_left 10 (option_now l.left));
      dispatcher : MayServe answer_spec (dispatcher_seen K.seen l.dispatcher);
      eager : l.dispatcher.lazy ≡ false;
      keeps : KeepsDispatcher answer_spec (dispatcher_seen K.seen l.fn.dispatcher) (dispatcher_seen K.seen l.dispatcher);
      went : WentTo (span (U.seen l.fn.audit) (U.seen l.audit))
          (Tallying (application_of l.fn.dispatcher.service.now) (kept (dispatcher_seen K.seen l.fn.dispatcher) (dispatcher_seen K.seen l.dispatcher)) l.bytes (option_now l.left) l.summary);
    }

abbrev pub decreases-lines : goal.decreases-lines
decreases-lines g l = length_left (option_now l.left)
