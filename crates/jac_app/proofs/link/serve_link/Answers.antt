use Rattle.jac_lang.specs.Mirror.{application_of}
use Rattle.jac_serve_events.specs.RunSeen.{run_counts}
use Rattle.jac_serve_events.specs.Outside.{span}
use Rattle.jac_serve_events.proofs.OutsideLemmas.{Went-on}
use Rattle.jac_dispatch.specs.Answered.{answer_spec_of}
use Rattle.jac_dispatch.proofs.ViewerEntryLaws.{none_settled}
use Rattle.std.proofs.Common.{rules}
use Rattle.jac_connections.specs.Link.{IsLinkServed}
use Rattle.jac_app.proofs.Leaving.{over_dispatcher}
use Rattle.jac_app.proofs.link.serve_link.Goals as goal

pub serve_link-requires-clause-dispatcher : goal.serve_link-requires-clause-dispatcher
serve_link-requires-clause-dispatcher g c = record {
  attached = c.requires.attached;
  ready = c.requires.start;
  settled = none_settled (application_of c.args.service.now) (g.K.Keeper.seen c.args.keeper.now) _ c.none-viewer_caches.ensures;
}

pub returns-clause-served : goal.returns-clause-served
returns-clause-served g c =
    let K = g.K.Keeper in
    let N = g.N.Link in
    let dispatcher = c.serve_link.new.dispatcher in
    Went-on _ _ _
    (λ o a h. (
      dispatcher.viewer_caches.now,
      over_dispatcher K.seen (λ k. IsLinkServed (answer_spec_of c.args.lazy (application_of c.args.service.now) c.args.sessions.now) c.args.conn c.args.first (span (N.seen c.args.link.now) (N.seen c.serve_link.new.link)) k c.serve_link.result o a)
          (K.seen c.args.keeper.now) (run_counts c.args.splits.now c.args.evaluations.now) c.none-viewer_caches.result dispatcher.viewer_caches.now dispatcher.keeper.now c.keeper-1.given.0
          dispatcher.splits.now c.splits-1.given.0 dispatcher.evaluations.now c.evaluations-1.given.0 c.none-viewer_caches.ensures (search rules) (search rules) (search rules) h,
    ))
    c.serve_link.ensures.served
