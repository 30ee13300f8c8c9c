use Rattle.std.proofs.Common.{refl, inr}
use Rattle.std.specs.Option.{option_copied}
use Rattle.jac_serve_events.specs.Outside.{span}
use Rattle.jac_command_base.proofs.StartupLemmas.{aim_refused}
use Rattle.jac_command_base.proofs.startup.aim_at.Goals as goal

pub returns-in-Err : goal.returns-in-Err
returns-in-Err g c = inr (refl, refl)

pub returns-in-Ok-aim : goal.returns-in-Ok-aim
returns-in-Ok-aim g c = rw c.in-Ok.ensures at c.in-Ok-aim.ensures

pub returns-in-Err-aim : goal.returns-in-Err-aim
returns-in-Err-aim g c =
    let U = g.U.Sink in
    aim_refused (option_copied c.args.name) (span (U.seen c.args.audit.now) (U.seen c.aim.new.self)) _ (rw c.in-Ok.ensures at c.in-Err-aim.ensures)
