use Rattle.jac_http.specs.Requests.{IsTaken}
use Rattle.jac_hub.specs.Hub.{hub_seen}
use Rattle.jac_replies.specs.declared.reply.Spelling.TheVariants as spellings
use Rattle.jac_serve_events.specs.Serve.{Handles}
use Rattle.jac_connections.proofs.LinkEvents.{begins}
use Rattle.jac_connections.proofs.link.begin.Goals as goal

pub returns-in-Ok-clause-begun : goal.returns-in-Ok-clause-begun
returns-in-Ok-clause-begun g c =
    let D = g.D.Dispatch in
    (begins IsTaken (Handles spellings.Raw (D.answer_spec (D.seen c.args.dispatcher.now).of)) c.args.conn (hub_seen c.args.hub.now) (hub_seen c.step.new.self) (hub_seen c.next_out-none.new.hub) c.in-Ok.field-0 c.next_out-none.result
    (D.seen c.args.dispatcher.now).run_seen (D.seen c.next_out-none.new.self).run_seen c.requires.new c.in-Ok.ensures c.next_out-none.ensures.next).0

pub returns-in-Ok-clause-still : goal.returns-in-Ok-clause-still
returns-in-Ok-clause-still g c =
    let D = g.D.Dispatch in
    (begins IsTaken (Handles spellings.Raw (D.answer_spec (D.seen c.args.dispatcher.now).of)) c.args.conn (hub_seen c.args.hub.now) (hub_seen c.step.new.self) (hub_seen c.next_out-none.new.hub) c.in-Ok.field-0 c.next_out-none.result
    (D.seen c.args.dispatcher.now).run_seen (D.seen c.next_out-none.new.self).run_seen c.requires.new c.in-Ok.ensures c.next_out-none.ensures.next).1
