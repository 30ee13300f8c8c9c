use Rattle.std.proofs.Common.{ap, Err}
use Rattle.jac_keep.specs.declared.stop.Stop.{Stop}
use Rattle.jac_dispatch.specs.Answered.{DispatcherOf}
use Rattle.jac_dispatch.specs.Asked.{request_in}
use Rattle.jac_dispatch.specs.Seen.{whose, dispatcher_seen}
use Rattle.jac_dispatch.proofs.DispatcherLaws.{keeps-made, keeps-failed}
use Rattle.jac_dispatch.proofs.HandlingLemmas.{request-handled, failed-handled}
use Rattle.jac_dispatch.proofs.handler.answer_request.Goals as goal

pub returns-in-Ok-clause-handled : goal.returns-in-Ok-clause-handled
returns-in-Ok-clause-handled g c =
    let K = g.K.Keeper in
    let dispatcher = c.args.dispatcher.now in
    let of = whose dispatcher in
    request-handled dispatcher.spelling of.lazy of.app of.sessions (dispatcher_seen K.seen dispatcher).run_seen (dispatcher_seen K.seen c.request_lines.new.dispatcher).run_seen
    c.args.conn c.args.request.now _ _ _ c.in-Ok.ensures.made c.in-Ok.ensures.told c.in-Ok.ensures.cause.later c.made.ensures

pub returns-in-Err-clause-handled : goal.returns-in-Err-clause-handled
returns-in-Err-clause-handled g c =
    let K = g.K.Keeper in
    let dispatcher = c.args.dispatcher.now in
    let of = whose dispatcher in
    let same = ap (λ (it : DispatcherOf). (request_in it.app it.sessions c.args.request.now).viewer) c.in-Err.ensures.same in
    failed-handled dispatcher.spelling of.lazy of.app of.sessions (dispatcher_seen K.seen dispatcher).run_seen (dispatcher_seen K.seen c.request_lines.new.dispatcher).run_seen
    c.args.conn c.args.request.now c.in-Err.stop _ _ _
    c.fixed_of.ensures (rw c.as_bytes.ensures at c.is_head.ensures) (rw same at (rw c.app.ensures.app at c.request_viewer.ensures))
    c.in-Err.ensures.refused c.in-Err.ensures.reading c.in-Err.ensures.told c.requires.ready c.in-Err.ensures.cause.later
    (λ is. c.in-Err.ensures.cause.rose (ap (λ (s : Stop). Err s) is)) c.in-Err.ensures.cached

pub returns-in-Ok-clause-keeps : goal.returns-in-Ok-clause-keeps
returns-in-Ok-clause-keeps g c =
    let K = g.K.Keeper in
    keeps-made (dispatcher_seen K.seen c.args.dispatcher.now) (dispatcher_seen K.seen c.request_lines.new.dispatcher) c.in-Ok.ensures.same c.in-Ok.ensures.attached
    c.in-Ok.ensures.settled c.in-Ok.ensures.made.goes_on

pub returns-in-Err-clause-keeps : goal.returns-in-Err-clause-keeps
returns-in-Err-clause-keeps g c =
    let K = g.K.Keeper in
    keeps-failed (dispatcher_seen K.seen c.args.dispatcher.now) (dispatcher_seen K.seen c.request_lines.new.dispatcher) c.in-Err.ensures.same c.in-Err.ensures.attached
    c.in-Err.ensures.settled c.requires.ready c.in-Err.ensures.refused c.in-Err.ensures.told
