use Rattle.jac_serve_events.proofs.DispatcherLemmas.{keeps-none}
use Rattle.jac_dispatch.specs.Answered.{answer_spec}
use Rattle.jac_dispatch.specs.Seen.{whose, dispatcher_seen}
use Rattle.jac_dispatch.proofs.HandlingLemmas.{refused-handled}
use Rattle.jac_dispatch.proofs.handler.AppDispatcherHandler.handle.Goals as goal

pub returns-in-Refused-clause-handled : goal.returns-in-Refused-clause-handled
returns-in-Refused-clause-handled g c =
    let K = g.K.Keeper in
    let a = c.args.self.now in
    let of = whose a in
    rw c.in-Refused.is (
      keeps-none answer_spec (dispatcher_seen K.seen a) c.requires.ready,
      refused-handled a.spelling of.lazy of.app of.sessions (dispatcher_seen K.seen a).run_seen c.args.conn _ _ (rw c.in-Refused.is at c.requires.refusal) c.requires.ready.ready c.answer_refused.ensures,
    )
