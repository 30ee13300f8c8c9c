use Rattle.std.proofs.Common.{arith}
use Rattle.jac_hub.specs.Hub.{hub_seen}
use Rattle.jac_replies.specs.declared.reply.Spelling.TheVariants as spellings
use Rattle.jac_serve_events.specs.AnswerSpec.{hearing}
use Rattle.jac_serve_events.specs.Outside.{sinks}
use Rattle.jac_serve_events.proofs.DispatcherLemmas.{keeps-none}
use Rattle.jac_serve_events.proofs.OutsideLemmas.{Went-none, Went-on}
use Rattle.jac_serve_events.proofs.HubLemmas.{event_whole}
use Rattle.jac_serve_events.proofs.EventLemmas.{step_left, step_kept, event_cut, stopped_answers}
use Rattle.jac_serve_events.proofs.serve.serve_connection.Goals as goal

pub put_given-requires-clause-few : goal.put_given-requires-clause-few
put_given-requires-clause-few g c =
    let D = g.D.Dispatch in
    let x = D.answer_spec (D.seen c.args.dispatcher.now).of in
    let most =
    step_left (hearing x) c.args.event.now c.requires.following.known c.in-Ok.ensures.0 (hub_seen c.args.hub.now) (hub_seen c.take_event.new.hub)
    c.requires.idle c.requires.following.like c.in-Ok.ensures.1 in
    omega (arith, c.requires.few, most)

pub returns-in-Ok-put_given-clause-count : goal.returns-in-Ok-put_given-clause-count
returns-in-Ok-put_given-clause-count g c =
    let D = g.D.Dispatch in
    let x = D.answer_spec (D.seen c.args.dispatcher.now).of in
    let most =
    step_left (hearing x) c.args.event.now c.requires.following.known c.in-Ok.ensures.0 (hub_seen c.args.hub.now) (hub_seen c.take_event.new.hub)
    c.requires.idle c.requires.following.like c.in-Ok.ensures.1 in
    omega (arith, c.in-Ok-put_given.ensures.count, most)

pub returns-in-Ok-put_given-clause-answered : goal.returns-in-Ok-put_given-clause-answered
returns-in-Ok-put_given-clause-answered g c =
    let D = g.D.Dispatch in
    let dispatcher = D.seen c.args.dispatcher.now in
    let x = D.answer_spec dispatcher.of in
    let old = hub_seen c.args.hub.now in
    let stepped = hub_seen c.take_event.new.hub in
    let taken = c.in-Ok.ensures in
    let brought = c.in-Ok-put_given.brought in
    Went-on _ _ _
    (λ out audit puts n known like. (
      step_kept (hearing x) c.args.line c.args.event.now known taken.0 old stepped like taken.1 taken.3,
      brought.closed,
      event_whole spellings.Quoted x c.lawful.ensures c.requests_are_read.ensures n c.args.served brought c.args.event.now known taken.0 old stepped (hub_seen c.put_given.new.hub)
          dispatcher.run_seen (D.seen c.put_given.new.dispatcher).run_seen out audit c.requires.idle like taken.1 taken.2 c.requires.dispatcher.ready puts,
    ))
    c.in-Ok-put_given.ensures.put

pub returns-in-Err-put_given-clause-answered : goal.returns-in-Err-put_given-clause-answered
returns-in-Err-put_given-clause-answered g c =
    let D = g.D.Dispatch in
    let dispatcher = D.seen c.args.dispatcher.now in
    let x = D.answer_spec dispatcher.of in
    let old = hub_seen c.args.hub.now in
    let stepped = hub_seen c.take_event.new.hub in
    let taken = c.in-Ok.ensures in
    let O = g.O.Sink in
    let U = g.U.Sink in
    let s = sinks (O.seen c.args.out.now) (O.seen c.put_given.new.writer) (U.seen c.args.audit.now) (U.seen c.put_given.new.audit) in
    let cut = c.in-Err-put_given.field-0 in
    Went-on _ _ _
    (λ out audit puts n known like. (
      step_kept (hearing x) c.args.line c.args.event.now known taken.0 old stepped like taken.1 taken.3,
      cut,
      event_cut spellings.Quoted x c.lawful.ensures c.requests_are_read.ensures n c.args.served c.args.event.now known taken.0 old stepped
          dispatcher.run_seen (D.seen c.put_given.new.dispatcher).run_seen cut s out audit c.requires.idle like taken.1 c.requires.dispatcher.ready puts,
    ))
    c.in-Err-put_given.ensures.put

pub returns-in-Err-clause-answered : goal.returns-in-Err-clause-answered
returns-in-Err-clause-answered g c =
    let D = g.D.Dispatch in
    let dispatcher = D.seen c.args.dispatcher.now in
    let out = g.O.Sink.seen c.args.out.now in
    let audit = g.U.Sink.seen c.args.audit.now in
    Went-none out audit _
    (stopped_answers (D.answer_spec dispatcher.of) (hub_seen c.args.hub.now) (hub_seen c.take_event.new.hub) dispatcher.run_seen c.args.served c.args.line
    c.args.event.now c.in-Err.stopped (sinks out out audit audit) c.in-Err.ensures)

pub returns-in-Err-clause-keeps : goal.returns-in-Err-clause-keeps
returns-in-Err-clause-keeps g c =
    let D = g.D.Dispatch in
    keeps-none D.answer_spec (D.seen c.args.dispatcher.now) c.requires.dispatcher
