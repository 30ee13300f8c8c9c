use Rattle.std.proofs.Common.{sym, refl, inl, inr}
use Rattle.jac_lang.specs.Mirror.{application_of}
use Rattle.jac_command_base.proofs.ExitReasonLemmas.{Closed-on, Closed-none}
use Rattle.jac_admin.specs.Upgrade.{lack_line}
use Rattle.jac_admin.proofs.UpgradeLemmas.{lacking_told}
use Rattle.jac_admin.proofs.upgrade_command.upgrade_store.Goals as goal

pub move_store-requires-clause-extends : goal.move_store-requires-clause-extends
move_store-requires-clause-extends g c = sym (rw (c.app.ensures.app, c.app-2.ensures.app) at c.in-Ok.ensures)

pub returns-in-Ok : goal.returns-in-Ok
returns-in-Ok g c = Closed-on _ _ _ (λ put h. inr (sym (rw (c.app.ensures.app, c.app-2.ensures.app) at c.in-Ok.ensures), h)) c.move_store.ensures

pub returns-in-Err : goal.returns-in-Err
returns-in-Err g c =
    let old = application_of c.args.old.now in
    let fault = c.in-Err.fault in
    Closed-none (g.O.Sink.seen c.args.out.now) _
    (inl (record {
      fault = fault;
      lacks = sym (rw (c.app.ensures.app, c.app-2.ensures.app) at c.in-Err.ensures);
      told = lacking_told c.lacking.result (lack_line old.models fault) (rw c.app-in-Err.ensures.app at c.lacking.ensures);
      no_out = refl;
      still = refl;
    }))
