use Rattle.std.proofs.Common.{inr, refl}
use Rattle.jac_lang.specs.Mirror.{application_of}
use Rattle.jac_serve_events.specs.RunSeen.{run_counts, run_seen_of}
use Rattle.jac_serve_events.specs.Outside.{span}
use Rattle.jac_serve_events.proofs.OutsideLemmas.{WentTo-none, WentTo-on}
use Rattle.jac_app.proofs.DemoLemmas.{tallied_on, tally_unattached}
use Rattle.jac_app.proofs.demo.tally_attached.Goals as goal

pub returns-in-Ok-serve_over-clause-served : goal.returns-in-Ok-serve_over-clause-served
returns-in-Ok-serve_over-clause-served g c =
    let K = g.K.Keeper in
    WentTo-on _ _ _
    (λ a served.
    tallied_on (application_of c.args.service.now) (K.seen c.args.vault.now) (K.seen c.attach.new.vault) (run_counts c.args.counts.now.splits.now c.args.counts.now.evaluations.now) (run_seen_of (K.seen c.serve_over.new.vault) (run_counts c.serve_over.new.splits c.serve_over.new.evaluations))
    c.args.count _ a c.in-Ok.ensures.attaches c.in-Ok-serve_over.ensures.store served)
    c.in-Ok-serve_over.ensures.served

pub returns-in-Err-clause-served : goal.returns-in-Err-clause-served
returns-in-Err-clause-served g c =
    let K = g.K.Keeper in
    WentTo-none (g.U.Sink.seen c.args.audit.now) _
    (tally_unattached (application_of c.args.service.now) (span (run_seen_of (K.seen c.args.vault.now) (run_counts c.args.counts.now.splits.now c.args.counts.now.evaluations.now)) (run_seen_of (K.seen c.attach.new.vault) (run_counts c.args.counts.now.splits.now c.args.counts.now.evaluations.now))) c.args.count c.in-Err.exit_reason c.in-Err.ensures.attaches refl)

pub returns-in-Err-Memory-clause-served : goal.returns-in-Err-Memory-clause-served
returns-in-Err-Memory-clause-served g c =
    let K = g.K.Keeper in
    WentTo-on _ _ _
    (λ a served. inr (
    tallied_on (application_of c.args.service.now) (K.seen c.args.vault.now) (K.seen c.attach.new.vault) (run_counts c.args.counts.now.splits.now c.args.counts.now.evaluations.now) (run_seen_of (K.seen c.serve_over.new.vault) (run_counts c.serve_over.new.splits c.serve_over.new.evaluations))
    c.args.count _ a c.in-Ok.ensures.attaches c.in-Err-Memory.ensures.store served))
    (rw c.in-Err-Memory.field-0-is at c.in-Err-Memory.ensures.served)
