use Rattle.jac_lang.specs.Mirror.{application_of}
use Rattle.jac_serve_events.specs.RunSeen.{run_counts}
use Rattle.jac_serve_events.specs.Script.{script_of}
use Rattle.jac_serve_events.proofs.OutsideLemmas.{Went-on}
use Rattle.jac_dispatch.specs.Answered.{answer_spec_of}
use Rattle.jac_dispatch.proofs.ViewerEntryLaws.{none_settled}
use Rattle.std.proofs.Common.{rules}
use Rattle.jac_serve_events.specs.Outside.{sinks}
use Rattle.jac_app.specs.Replay.{EndsServed}
use Rattle.jac_app.proofs.Leaving.{over_dispatcher}
use Rattle.jac_app.proofs.replay.serve_over.Goals as goal

pub serve_script-requires-clause-dispatcher : goal.serve_script-requires-clause-dispatcher
serve_script-requires-clause-dispatcher g c = record {
  attached = c.requires.attached;
  ready = c.requires.start;
  settled = none_settled (application_of c.args.served.now.opened.now.service) (g.K.Keeper.seen c.args.vault.now) _ c.none-viewer_caches.ensures;
}

pub returns-clause-served : goal.returns-clause-served
returns-clause-served g c =
    let K = g.K.Keeper in
    let O = g.O.Sink in
    let U = g.U.Sink in
    let served = c.args.served.now in
    let s = sinks (O.seen c.args.out.now) (O.seen c.serve_script.new.out) (U.seen c.args.audit.now) (U.seen c.serve_script.new.audit) in
    let dispatcher = c.serve_script.new.dispatcher in
    Went-on _ _ _
    (λ o a h. (
      dispatcher.viewer_caches.now,
      over_dispatcher K.seen (λ k. EndsServed (answer_spec_of served.lazy (application_of served.opened.now.service) served.opened.now.sessions) k (script_of served.opened.now.events) c.serve_script.result s o a)
          (K.seen c.args.vault.now) (run_counts c.args.splits.now c.args.evaluations.now) c.none-viewer_caches.result dispatcher.viewer_caches.now dispatcher.keeper.now c.vault-1.given.0
          dispatcher.splits.now c.splits-1.given.0 dispatcher.evaluations.now c.evaluations-1.given.0 c.none-viewer_caches.ensures (search rules) (search rules) (search rules) h,
    ))
    c.serve_script.ensures.served
