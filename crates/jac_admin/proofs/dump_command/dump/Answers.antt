use Rattle.std.proofs.Common.{refl, inl}
use Rattle.jac_lang.specs.Mirror.{application_of}
use Rattle.jac_world.specs.World.{shown_by}
use Rattle.jac_serve_events.specs.Outside.{span}
use Rattle.jac_command_base.proofs.AskedLemmas.{asks_before, asks_none}
use Rattle.jac_command_base.proofs.ExitReasonLemmas.{idle_ends, still_idle}
use Rattle.jac_admin.proofs.DumpLemmas.{dump_ended, dump_halted}
use Rattle.jac_admin.proofs.dump_command.dump.Goals as goal

pub returns-in-Err-clause-ends : goal.returns-in-Err-clause-ends
returns-in-Err-clause-ends g c =
    let audit = g.U.Sink.seen c.args.audit.now in
    idle_ends (g.O.Sink.seen c.args.out.now) audit _ (inl (tt, still_idle audit (g.K.Keeper.seen c.args.vault.now)))

pub returns-in-Err-open_store-clause-ends : goal.returns-in-Err-open_store-clause-ends
returns-in-Err-open_store-clause-ends g c =
    let F = g.F.Files in
    let U = g.U.Sink in
    let K = g.K.Keeper in
    dump_halted (span (F.seen c.args.files.now) (F.seen c.open_store.new.files)) (g.O.Sink.seen c.args.out.now) (U.seen c.args.audit.now) (U.seen c.open_store.new.audit)
    (span (K.seen c.args.vault.now) (K.seen c.open_store.new.vault)) c.args.command.now c.in-Err-open_store.exit_reason c.in-Err-open_store.ensures.opens

pub dump_attached-requires : goal.dump_attached-requires
dump_attached-requires g c = record { attached = c.in-Ok-open_store.ensures.opens.attaches.0.ok.attached }

pub returns-clause-ends : goal.returns-clause-ends
returns-clause-ends g c =
    let F = g.F.Files in
    let O = g.O.Sink in
    let U = g.U.Sink in
    let K = g.K.Keeper in
    let opened = c.in-Ok-open_store.opened in
    dump_ended (span (F.seen c.args.files.now) (F.seen c.open_store.new.files)) (O.seen c.args.out.now) (O.seen c.dump_attached.new.out) (U.seen c.args.audit.now) (U.seen c.open_store.new.audit)
    (K.seen c.args.vault.now) (K.seen c.open_store.new.vault) (K.seen c.dump_attached.new.vault) c.args.command.now (shown_by c.in-Ok.assignment)
    (application_of opened.service) opened.sessions opened.events c.dump_attached.result
    c.in-Ok-open_store.ensures.opens c.in-Ok.ensures c.dump_attached.ensures.left c.dump_attached.ensures.ends

pub returns-in-Err-clause-asks : goal.returns-in-Err-clause-asks
returns-in-Err-clause-asks g c = asks_none (g.F.Files.seen c.args.files.now) _ _ (λ no. cc)

pub returns-clause-asks : goal.returns-clause-asks
returns-clause-asks g c = asks_before _ _ _ _ (λ done. refl) c.in-Ok-open_store.ensures.asks
