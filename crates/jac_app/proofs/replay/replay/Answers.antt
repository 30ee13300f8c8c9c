use Rattle.std.proofs.Common.{refl}
use Rattle.jac_lang.specs.Mirror.{application_of}
use Rattle.jac_serve_events.specs.RunSeen.{run_counts}
use Rattle.jac_serve_events.specs.Outside.{span}
use Rattle.jac_dispatch.proofs.StartLaws.{starts}
use Rattle.jac_command_base.proofs.AskedLemmas.{asks_before}
use Rattle.jac_app.proofs.ReplayLemmas.{few_events, replay_halted, replay_served}
use Rattle.jac_app.proofs.replay.replay.Goals as goal

pub returns-in-Err-clause-ends : goal.returns-in-Err-clause-ends
returns-in-Err-clause-ends g c =
    let F = g.F.Files in
    let U = g.U.Sink in
    let K = g.K.Keeper in
    replay_halted (span (F.seen c.args.files.now) (F.seen c.open_store.new.files)) (g.O.Sink.seen c.args.out.now) (U.seen c.args.audit.now) (U.seen c.open_store.new.audit)
    (K.seen c.args.vault.now) (K.seen c.open_store.new.vault) (run_counts c.args.counts.now.splits.now c.args.counts.now.evaluations.now) c.args.command.now c.in-Err.exit_reason c.in-Err.ensures.opens

pub serve_over-requires-clause-short : goal.serve_over-requires-clause-short
serve_over-requires-clause-short g c =
    let F = g.F.Files in
    let opened = c.in-Ok.opened in
    few_events (span (F.seen c.args.files.now) (F.seen c.open_store.new.files)) c.args.command.now (application_of opened.service) opened.sessions opened.events c.in-Ok.ensures.opens.read

pub serve_over-requires-clause-attached : goal.serve_over-requires-clause-attached
serve_over-requires-clause-attached g c = c.in-Ok.ensures.opens.attaches.0.ok.attached

pub serve_over-requires-clause-start : goal.serve_over-requires-clause-start
serve_over-requires-clause-start g c = λ told. starts (application_of c.in-Ok.opened.service) (g.K.Keeper.seen c.open_store.new.vault).state (c.in-Ok.ensures.opens.attaches.1 told)

pub returns-clause-ends : goal.returns-clause-ends
returns-clause-ends g c =
    let F = g.F.Files in
    let O = g.O.Sink in
    let U = g.U.Sink in
    let K = g.K.Keeper in
    let opened = c.in-Ok.opened in
    replay_served (span (F.seen c.args.files.now) (F.seen c.open_store.new.files)) (O.seen c.args.out.now) (O.seen c.serve_over.new.out) (U.seen c.args.audit.now) (U.seen c.open_store.new.audit)
    (U.seen c.serve_over.new.audit) (K.seen c.args.vault.now) (K.seen c.open_store.new.vault) (K.seen c.serve_over.new.vault) (run_counts c.args.counts.now.splits.now c.args.counts.now.evaluations.now) (run_counts c.serve_over.new.splits c.serve_over.new.evaluations) c.args.command.now
    (application_of opened.service) opened.sessions opened.events c.serve_over.result c.in-Ok.ensures.opens c.serve_over.ensures.store c.serve_over.ensures.served

pub returns-clause-asks : goal.returns-clause-asks
returns-clause-asks g c = asks_before _ _ _ _ (λ done. refl) c.in-Ok.ensures.asks
