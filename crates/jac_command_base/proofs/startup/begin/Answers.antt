use Rattle.std.proofs.Common.{refl, inl}
use Rattle.jac_lang.specs.Mirror.{application_of}
use Rattle.jac_serve_events.specs.Outside.{span}
use Rattle.jac_command_base.specs.Startup.{command_in}
use Rattle.jac_command_base.proofs.StartupLemmas.{begins}
use Rattle.jac_command_base.proofs.startup.begin.Goals as goal

pub returns-in-Ok : goal.returns-in-Ok
returns-in-Ok g c =
    let U = g.U.Sink in
    let K = g.K.Keeper in
    begins (command_in c.args.opening) (application_of c.args.service.now) (span (U.seen c.args.audit.now) (U.seen c.aim_audit.new.audit))
    (span (K.seen c.args.vault.now) (K.seen c.attach.new.vault)) c.attach.result
    c.in-Ok.ensures (rw c.db_name.ensures at c.attach.ensures.attaches)

pub returns-in-Err : goal.returns-in-Err
returns-in-Err g c = inl (record { aims = c.in-Err.ensures; still = refl })
