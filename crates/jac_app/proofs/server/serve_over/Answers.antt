use Rattle.std.proofs.Common.{refl, rules}
use Rattle.jac_lang.specs.Mirror.{application_of}
use Rattle.jac_serve_events.specs.RunSeen.{run_counts}
use Rattle.jac_serve_events.specs.Outside.{span}
use Rattle.jac_serve_events.proofs.OutsideLemmas.{Went-on}
use Rattle.jac_dispatch.proofs.ViewerEntryLaws.{none_settled}
use Rattle.jac_serve_events.specs.Outside.{sinks}
use Rattle.jac_app.specs.Server.{EndsDoor}
use Rattle.jac_app.proofs.Leaving.{over_dispatcher}
use Rattle.jac_app.proofs.server.serve_over.Goals as goal

pub serve_door-requires : goal.serve_door-requires
serve_door-requires g c = record {
  dispatcher = record {
    attached = c.requires.attached;
    ready = c.requires.start;
    settled = none_settled (application_of c.args.served.now.opened.now.service) (g.K.Keeper.seen c.args.vault.now) _ c.none-viewer_caches.ensures;
  };
  lazy = refl;
}

pub returns-clause-served : goal.returns-clause-served
returns-clause-served g c =
    let K = g.K.Keeper in
    let O = g.O.Sink in
    let U = g.U.Sink in
    let D = g.D.Door in
    let served = c.args.served.now in
    let s = sinks (O.seen c.args.out.now) (O.seen c.serve_door.new.out) (U.seen c.args.audit.now) (U.seen c.serve_door.new.audit) in
    let dispatcher = c.serve_door.new.dispatcher in
    Went-on _ _ _
    (λ o a h. (
      dispatcher.viewer_caches.now,
      over_dispatcher K.seen (λ k. EndsDoor g.D.Line.Link.seen (application_of served.opened.now.service) served.opened.now.sessions served.serving.now (span (D.seen c.args.door.now) (D.seen c.serve_door.new.door)) k c.serve_door.result s o a)
          (K.seen c.args.vault.now) (run_counts c.args.splits.now c.args.evaluations.now) c.none-viewer_caches.result dispatcher.viewer_caches.now dispatcher.keeper.now c.vault-1.given.0
          dispatcher.splits.now c.splits-1.given.0 dispatcher.evaluations.now c.evaluations-1.given.0 c.none-viewer_caches.ensures (search rules) (search rules) (search rules) h,
    ))
    c.serve_door.ensures.served
