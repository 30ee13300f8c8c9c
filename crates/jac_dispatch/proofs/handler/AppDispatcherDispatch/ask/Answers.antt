use Rattle.std.proofs.Common.{ap, Err, false}
use Rattle.jac_keep.specs.declared.stop.Stop.{Stop}
use Rattle.jac_serve_events.specs.Dispatcher.{kept}
use Rattle.jac_dispatch.specs.declared.answer.RequestSource.TheVariants as ways
use Rattle.jac_dispatch.specs.Answered.{DispatcherOf}
use Rattle.jac_dispatch.specs.Asked.{ask_in, viewer_in}
use Rattle.jac_dispatch.specs.Seen.{whose, dispatcher_seen}
use Rattle.jac_dispatch.proofs.DispatcherLaws.{keeps-made, keeps-failed}
use Rattle.jac_dispatch.proofs.EntryLemmas.{is_made, is_failed}
use Rattle.jac_dispatch.proofs.handler.AppDispatcherDispatch.ask.Goals as goal

pub returns-in-Ok-clause-asked : goal.returns-in-Ok-clause-asked
returns-in-Ok-clause-asked g c =
    let K = g.K.Keeper in
    let of = whose c.args.self.now in
    let k = kept (dispatcher_seen K.seen c.args.self.now) (dispatcher_seen K.seen c.ask_lines.new.dispatcher) in
    let ask = ask_in of.app c.args.viewer c.args.method.now c.args.path.now c.args.query.now c.args.body.now in
    let made = c.in-Ok.ensures.made in
    (made.answer, is_made of.lazy of.app k ways.Line ask false _ _ made c.in-Ok.ensures.told c.in-Ok.ensures.cause.later, made.reply_made, made.audit_made)

pub returns-in-Err-clause-asked : goal.returns-in-Err-clause-asked
returns-in-Err-clause-asked g c =
    let K = g.K.Keeper in
    let of = whose c.args.self.now in
    let k = kept (dispatcher_seen K.seen c.args.self.now) (dispatcher_seen K.seen c.ask_lines.new.dispatcher) in
    let ask = ask_in of.app c.args.viewer c.args.method.now c.args.path.now c.args.query.now c.args.body.now in
    let same = ap (λ (it : DispatcherOf). viewer_in it.app c.args.viewer) c.in-Err.ensures.same in (
      is_failed of.lazy of.app k ask false c.in-Err.stop c.in-Err.ensures.refused c.in-Err.ensures.reading c.in-Err.ensures.told c.requires.ready
          c.in-Err.ensures.cause.later (λ is. c.in-Err.ensures.cause.rose (ap (λ (s : Stop). Err s) is)) c.in-Err.ensures.cached,
      rw same at (rw c.app.ensures.app at c.viewer_in.ensures),
    )

pub returns-in-Ok-clause-keeps : goal.returns-in-Ok-clause-keeps
returns-in-Ok-clause-keeps g c =
    let K = g.K.Keeper in
    keeps-made (dispatcher_seen K.seen c.args.self.now) (dispatcher_seen K.seen c.ask_lines.new.dispatcher) c.in-Ok.ensures.same c.in-Ok.ensures.attached
    c.in-Ok.ensures.settled c.in-Ok.ensures.made.goes_on

pub returns-in-Err-clause-keeps : goal.returns-in-Err-clause-keeps
returns-in-Err-clause-keeps g c =
    let K = g.K.Keeper in
    keeps-failed (dispatcher_seen K.seen c.args.self.now) (dispatcher_seen K.seen c.ask_lines.new.dispatcher) c.in-Err.ensures.same c.in-Err.ensures.attached
    c.in-Err.ensures.settled c.requires.ready c.in-Err.ensures.refused c.in-Err.ensures.told
