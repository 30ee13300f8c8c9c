use Rattle.std.proofs.Common.{inl, inr, refl}
use Rattle.jac_lang.specs.Mirror.{application_of}
use Rattle.jac_command_base.proofs.ExitReasonLemmas.{idle_ends, still_idle, WentAimed-on}
use Rattle.jac_app.proofs.demo.demo.Goals as goal

pub returns-in-Err-clause-ends : goal.returns-in-Err-clause-ends
returns-in-Err-clause-ends g c =
    let audit = g.U.Sink.seen c.args.audit.now in
    idle_ends (g.O.Sink.seen c.args.out.now) audit _ (inl (c.in-Err.ensures.unopened, record { idle = still_idle audit (g.K.Keeper.seen c.args.vault.now); unsplit = refl }))

pub returns-in-Err-schema-clause-ends : goal.returns-in-Err-schema-clause-ends
returns-in-Err-schema-clause-ends g c =
    let audit = g.U.Sink.seen c.args.audit.now in
    idle_ends (g.O.Sink.seen c.args.out.now) audit _ (inl (inr refl, record { idle = still_idle audit (g.K.Keeper.seen c.args.vault.now); unsplit = refl }))

pub returns-clause-ends : goal.returns-clause-ends
returns-clause-ends g c =
    WentAimed-on _ _ _ (λ o a h. inr (record { app = application_of c.in-Ok.service; calendar = c.in-Ok.ensures.calendar; ends = h })) c.count_calendar.ensures.ends
