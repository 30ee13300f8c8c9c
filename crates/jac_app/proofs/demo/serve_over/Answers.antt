use Rattle.jac_lang.specs.Mirror.{application_of}
use Rattle.jac_serve_events.specs.RunSeen.{run_counts}
use Rattle.jac_serve_events.proofs.OutsideLemmas.{WentTo-on}
use Rattle.jac_dispatch.proofs.ViewerEntryLaws.{none_settled}
use Rattle.jac_app.specs.Demo.{demo_script}
use Rattle.std.proofs.Common.{rules}
use Rattle.jac_app.specs.Demo.{Tallies}
use Rattle.jac_app.proofs.Leaving.{over_dispatcher}
use Rattle.jac_app.proofs.demo.serve_over.Goals as goal

pub serve_calendar-requires-clause-dispatcher : goal.serve_calendar-requires-clause-dispatcher
serve_calendar-requires-clause-dispatcher g c = record {
  attached = c.requires.attached;
  ready = c.requires.start;
  settled = none_settled (application_of c.args.service.now) (g.K.Keeper.seen c.args.vault.now) _ c.none-viewer_caches.ensures;
}

pub returns-clause-served : goal.returns-clause-served
returns-clause-served g c =
    let K = g.K.Keeper in
    let dispatcher = c.serve_calendar.new.dispatcher in
    WentTo-on _ _ _
    (λ a h. (
      dispatcher.viewer_caches.now,
      over_dispatcher K.seen (λ k. Tallies (application_of c.args.service.now) k (demo_script c.args.count) c.serve_calendar.result a)
          (K.seen c.args.vault.now) (run_counts c.args.splits.now c.args.evaluations.now) c.none-viewer_caches.result dispatcher.viewer_caches.now dispatcher.keeper.now c.vault-1.given.0
          dispatcher.splits.now c.splits-1.given.0 dispatcher.evaluations.now c.evaluations-1.given.0 c.none-viewer_caches.ensures (search rules) (search rules) (search rules) h,
    ))
    c.serve_calendar.ensures.served
