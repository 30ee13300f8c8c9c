use Rattle.std.proofs.Common.{Some, refl, inl, inr}
use Rattle.jac_lang.specs.Mirror.{application_of}
use Rattle.jac_command_base.specs.declared.exit_reason.ExitReason.TheVariants as exits
use Rattle.jac_command_base.proofs.ExitReasonLemmas.{Closed-on, Closed-none}
use Rattle.jac_admin.proofs.UpgradeLemmas.{unattached_still}
use Rattle.jac_admin.proofs.upgrade_command.move_store.Goals as goal

pub returns-in-Err : goal.returns-in-Err
returns-in-Err g c =
    Closed-none (g.O.Sink.seen c.args.out.now) _
    (inl (record {
      exit_reason = exits.Memory;
      ended = refl;
      attaches = unattached_still (Some c.args.db.now) (application_of c.args.old.now) (g.K.Keeper.seen c.args.vault.now);
      no_out = refl;
    }))

pub move_attached-requires-clause-fit : goal.move_attached-requires-clause-fit
move_attached-requires-clause-fit g c = c.in-Ok-attach.ensures.attaches.1

pub returns-in-Ok-attach : goal.returns-in-Ok-attach
returns-in-Ok-attach g c =
    Closed-on _ _ _ (λ put h. inr (record { opened = g.K.Keeper.seen c.attach.new.vault; attached = c.in-Ok-attach.ensures.attaches; ends = h })) c.move_attached.ensures

pub returns-in-Err-attach : goal.returns-in-Err-attach
returns-in-Err-attach g c =
    Closed-none (g.O.Sink.seen c.args.out.now) _
    (inl (record { exit_reason = c.in-Err-attach.exit_reason; ended = refl; attaches = c.in-Err-attach.ensures.attaches; no_out = refl }))
