use Rattle.std.proofs.Common.{refl}
use Rattle.jac_lang.specs.Mirror.{application_of}
use Rattle.jac_serve_events.specs.RunSeen.{run_counts}
use Rattle.jac_serve_events.specs.Outside.{span}
use Rattle.jac_dispatch.proofs.StartLaws.{starts}
use Rattle.jac_command_base.proofs.AskedLemmas.{asks_before}
use Rattle.jac_app.proofs.ServerLemmas.{server_halted, server_served}
use Rattle.jac_app.proofs.server.serve.Goals as goal

pub returns-in-Err-clause-ends : goal.returns-in-Err-clause-ends
returns-in-Err-clause-ends g c =
    let F = g.F.Files in
    let U = g.U.Sink in
    let K = g.K.Keeper in
    server_halted g.D.Line.Link.seen (span (F.seen c.args.files.now) (F.seen c.open_store.new.files)) (g.O.Sink.seen c.args.out.now) (U.seen c.args.audit.now) (U.seen c.open_store.new.audit)
    (K.seen c.args.vault.now) (K.seen c.open_store.new.vault) (g.D.Door.seen c.args.door.now) (run_counts c.args.counts.now.splits.now c.args.counts.now.evaluations.now) c.args.serving.now c.in-Err.exit_reason c.in-Err.ensures.opens

pub serve_over-requires-clause-attached : goal.serve_over-requires-clause-attached
serve_over-requires-clause-attached g c = c.in-Ok.ensures.opens.attaches.0.ok.attached

pub serve_over-requires-clause-start : goal.serve_over-requires-clause-start
serve_over-requires-clause-start g c = λ told. starts (application_of c.in-Ok.opened.service) (g.K.Keeper.seen c.open_store.new.vault).state (c.in-Ok.ensures.opens.attaches.1 told)

pub returns-clause-ends : goal.returns-clause-ends
returns-clause-ends g c =
    let F = g.F.Files in
    let O = g.O.Sink in
    let U = g.U.Sink in
    let D = g.D.Door in
    let K = g.K.Keeper in
    let opened = c.in-Ok.opened in
    server_served g.D.Line.Link.seen (span (F.seen c.args.files.now) (F.seen c.open_store.new.files)) (O.seen c.args.out.now) (O.seen c.serve_over.new.out) (U.seen c.args.audit.now) (U.seen c.open_store.new.audit)
    (U.seen c.serve_over.new.audit) (K.seen c.args.vault.now) (K.seen c.open_store.new.vault) (K.seen c.serve_over.new.vault) (span (D.seen c.args.door.now) (D.seen c.serve_over.new.door))
    (run_counts c.args.counts.now.splits.now c.args.counts.now.evaluations.now) (run_counts c.serve_over.new.splits c.serve_over.new.evaluations) c.args.serving.now
    (application_of opened.service) opened.sessions opened.events c.serve_over.result c.in-Ok.ensures.opens c.serve_over.ensures.store c.serve_over.ensures.served

pub returns-clause-asks : goal.returns-clause-asks
returns-clause-asks g c = asks_before _ _ _ _ (λ done. refl) c.in-Ok.ensures.asks
