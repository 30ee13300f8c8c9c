use Rattle.jac_lang.specs.Mirror.{application_of}
use Rattle.jac_serve_events.specs.RunSeen.{run_counts, run_seen_of}
use Rattle.jac_serve_events.specs.Outside.{span}
use Rattle.jac_app.proofs.DemoLemmas.{told_whole, told_torn, told_none}
use Rattle.jac_app.proofs.demo.tell_attached.Goals as goal

pub returns-in-Ok-put_summary-clause-told : goal.returns-in-Ok-put_summary-clause-told
returns-in-Ok-put_summary-clause-told g c =
    let O = g.O.Sink in
    let U = g.U.Sink in
    let K = g.K.Keeper in
    told_whole (O.seen c.args.out.now) (O.seen c.put_summary.new.out) (U.seen c.args.audit.now) (U.seen c.tally_attached.new.audit) (application_of c.args.service.now)
    (span (run_seen_of (K.seen c.args.vault.now) (run_counts c.args.counts.now.splits.now c.args.counts.now.evaluations.now)) (run_seen_of (K.seen c.tally_attached.new.vault) (run_counts c.tally_attached.new.counts.splits.now c.tally_attached.new.counts.evaluations.now))) c.args.count c.in-Ok.summary _ c.in-Ok.ensures.served c.in-Ok-put_summary.ensures

pub returns-in-Err-put_summary-clause-told : goal.returns-in-Err-put_summary-clause-told
returns-in-Err-put_summary-clause-told g c =
    let O = g.O.Sink in
    let U = g.U.Sink in
    let K = g.K.Keeper in
    told_torn (O.seen c.args.out.now) (O.seen c.put_summary.new.out) (U.seen c.args.audit.now) (U.seen c.tally_attached.new.audit) (application_of c.args.service.now)
    (span (run_seen_of (K.seen c.args.vault.now) (run_counts c.args.counts.now.splits.now c.args.counts.now.evaluations.now)) (run_seen_of (K.seen c.tally_attached.new.vault) (run_counts c.tally_attached.new.counts.splits.now c.tally_attached.new.counts.evaluations.now))) c.args.count c.in-Ok.summary _ c.in-Ok.ensures.served c.in-Err-put_summary.ensures

pub returns-in-Err-clause-told : goal.returns-in-Err-clause-told
returns-in-Err-clause-told g c =
    let U = g.U.Sink in
    let K = g.K.Keeper in
    told_none (g.O.Sink.seen c.args.out.now) (U.seen c.args.audit.now) (U.seen c.tally_attached.new.audit) (application_of c.args.service.now)
    (span (run_seen_of (K.seen c.args.vault.now) (run_counts c.args.counts.now.splits.now c.args.counts.now.evaluations.now)) (run_seen_of (K.seen c.tally_attached.new.vault) (run_counts c.tally_attached.new.counts.splits.now c.tally_attached.new.counts.evaluations.now))) c.args.count c.in-Err.exit_reason c.in-Err.ensures.served c.in-Err.ensures.cause
