use Rattle.jac_http.specs.Requests.{IsTaken}
use Rattle.jac_hub.specs.Hub.{hub_seen}
use Rattle.jac_serve_events.specs.Dispatcher.{KeepsDispatcher}
use Rattle.jac_serve_events.specs.Serve.{Handles}
use Rattle.jac_serve_events.proofs.NextLemmas.{next-either, next-seen}
use Rattle.jac_dispatch.specs.Answered.{answer_spec}
use Rattle.jac_dispatch.specs.Seen.{whose, dispatcher_seen}
use Rattle.jac_dispatch.proofs.handler.ask_hub.Goals as goal

pub returns-clause-next : goal.returns-clause-next
returns-clause-next g c =
    let K = g.K.Keeper in
    let before = c.args.dispatcher.now in
    let after = c.next.new.handler in
    next-seen IsTaken before after (λ a. (dispatcher_seen K.seen a).run_seen)
    (λ x conn heard sent y. KeepsDispatcher answer_spec (dispatcher_seen K.seen x) (dispatcher_seen K.seen y)
    × Handles x.spelling (answer_spec (whose x)) (dispatcher_seen K.seen x).run_seen conn heard sent (dispatcher_seen K.seen y).run_seen)
    (Handles before.spelling (answer_spec (whose before)))
    (λ conn heard sent h. h.1) (hub_seen c.args.hub.now) _ _ _ c.next.ensures.next

pub returns-clause-keeps : goal.returns-clause-keeps
returns-clause-keeps g c =
    let K = g.K.Keeper in
    let before = c.args.dispatcher.now in
    let after = c.next.new.handler in
    next-either IsTaken before after
    (λ x conn heard sent y. KeepsDispatcher answer_spec (dispatcher_seen K.seen x) (dispatcher_seen K.seen y)
    × Handles x.spelling (answer_spec (whose x)) (dispatcher_seen K.seen x).run_seen conn heard sent (dispatcher_seen K.seen y).run_seen)
    (KeepsDispatcher answer_spec (dispatcher_seen K.seen before) (dispatcher_seen K.seen after))
    (λ same. record {
      same = λ i. whose (same i);
      store = λ i. (K.seen (same i).keeper.now).store;
      ready = rw same c.requires.ready;
      settled = rw same c.requires.settled;
    })
    (λ conn heard sent h. h.0) (hub_seen c.args.hub.now) _ _ _ c.next.ensures.next
