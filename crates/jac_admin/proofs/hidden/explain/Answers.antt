use Rattle.std.proofs.Common.{refl}
use Rattle.jac_lang.specs.Mirror.{application_of}
use Rattle.jac_serve_events.specs.Outside.{span}
use Rattle.jac_command_base.proofs.AskedLemmas.{asks_before}
use Rattle.jac_admin.proofs.ExplainLemmas.{sound_tables, why_ended, why_halted}
use Rattle.jac_admin.proofs.hidden.explain.Goals as goal

pub returns-in-Err-clause-ends : goal.returns-in-Err-clause-ends
returns-in-Err-clause-ends g c =
    let F = g.F.Files in
    let U = g.U.Sink in
    let K = g.K.Keeper in
    why_halted (span (F.seen c.args.files.now) (F.seen c.open_store.new.files)) (g.O.Sink.seen c.args.out.now) (U.seen c.args.audit.now) (U.seen c.open_store.new.audit)
    (span (K.seen c.args.vault.now) (K.seen c.open_store.new.vault)) c.args.command.now c.in-Err.exit_reason c.in-Err.ensures.opens

pub explain_attached-requires-clause-attached : goal.explain_attached-requires-clause-attached
explain_attached-requires-clause-attached g c = c.in-Ok.ensures.opens.attaches.0.ok.attached

pub explain_attached-requires-clause-sound : goal.explain_attached-requires-clause-sound
explain_attached-requires-clause-sound g c told = sound_tables (application_of c.in-Ok.opened.service) (g.K.Keeper.seen c.open_store.new.vault).state (c.in-Ok.ensures.opens.attaches.1 told)

pub returns-clause-ends : goal.returns-clause-ends
returns-clause-ends g c =
    let F = g.F.Files in
    let O = g.O.Sink in
    let U = g.U.Sink in
    let K = g.K.Keeper in
    let opened = c.in-Ok.opened in
    why_ended (span (F.seen c.args.files.now) (F.seen c.open_store.new.files)) (O.seen c.args.out.now) (O.seen c.explain_attached.new.out) (U.seen c.args.audit.now) (U.seen c.open_store.new.audit)
    (K.seen c.args.vault.now) (K.seen c.open_store.new.vault) (K.seen c.explain_attached.new.vault) c.args.command.now
    (application_of opened.service) opened.sessions opened.events c.explain_attached.result
    c.in-Ok.ensures.opens c.explain_attached.ensures.left (rw c.app.ensures.app at c.explain_attached.ensures.ends)

pub returns-clause-asks : goal.returns-clause-asks
returns-clause-asks g c = asks_before _ _ _ _ (λ done. refl) c.in-Ok.ensures.asks
