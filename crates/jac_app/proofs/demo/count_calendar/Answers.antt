use Rattle.std.proofs.Common.{inr, None}
use Rattle.jac_lang.specs.Mirror.{application_of}
use Rattle.jac_serve_events.specs.RunSeen.{run_counts, run_seen_of}
use Rattle.jac_serve_events.specs.Outside.{span}
use Rattle.jac_app.proofs.DemoLemmas.{told_behind, unaimed}
use Rattle.jac_command_base.proofs.ExitReasonLemmas.{went_aimed}
use Rattle.jac_app.proofs.demo.count_calendar.Goals as goal

pub returns-in-Ok-clause-ends : goal.returns-in-Ok-clause-ends
returns-in-Ok-clause-ends g c =
    let O = g.O.Sink in
    let U = g.U.Sink in
    let K = g.K.Keeper in
    let before = U.seen c.args.audit.now in
    let aimed = U.seen c.aim.new.self in
    let after = U.seen c.tell_attached.new.audit in
    let out = O.seen c.args.out.now in
    let later = O.seen c.tell_attached.new.out in
    let aims = c.in-Ok.ensures in
    went_aimed out later before aimed after None _ aims _ _
    (λ is_aimed o a h.
    inr (
      is_aimed,
      told_behind out later before aimed after (application_of c.args.service.now) (span (run_seen_of (K.seen c.args.vault.now) (run_counts c.args.counts.now.splits.now c.args.counts.now.evaluations.now)) (run_seen_of (K.seen c.tell_attached.new.vault) (run_counts c.tell_attached.new.counts.splits.now c.tell_attached.new.counts.evaluations.now))) c.args.count c.tell_attached.result o a aims.later h,
    ))
    c.tell_attached.ensures.told

pub returns-in-Err-clause-ends : goal.returns-in-Err-clause-ends
returns-in-Err-clause-ends g c =
    let U = g.U.Sink in
    unaimed (g.O.Sink.seen c.args.out.now) (U.seen c.args.audit.now) (U.seen c.aim.new.self) _ (application_of c.args.service.now) (run_seen_of (g.K.Keeper.seen c.args.vault.now) (run_counts c.args.counts.now.splits.now c.args.counts.now.evaluations.now)) c.args.count c.in-Err.ensures
