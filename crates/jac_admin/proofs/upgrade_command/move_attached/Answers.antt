use Rattle.std.proofs.Common.{ap, refl, inl, inr, Err}
use Rattle.jac_keep.specs.declared.stop.Stop.{Stop}
use Rattle.jac_command_base.proofs.ExitReasonLemmas.{Closed-none}
use Rattle.jac_admin.proofs.upgrade_command.move_attached.Goals as goal

pub returns-in-Ok-put_upgraded : goal.returns-in-Ok-put_upgraded
returns-in-Ok-put_upgraded g c =
    let put = c.in-Ok-put_upgraded.ensures in
    record {
      put = put.put;
      lasts = put.lasts;
      took = put.took;
      holds = inl (record { count = c.in-Ok.count; upgraded = c.in-Ok.ensures.upgraded; puts = put.is_put });
    }

pub returns-in-Err : goal.returns-in-Err
returns-in-Err g c =
    let put = c.in-Err.ensures in
    record {
      put = put.put;
      lasts = put.lasts;
      took = put.took;
      holds = inl (record { count = c.in-Ok.count; upgraded = c.in-Ok.ensures.upgraded; puts = (put.is_put, put.rose) });
    }

pub returns-in-Err-Keeper : goal.returns-in-Err-Keeper
returns-in-Err-Keeper g c =
    let rose = c.in-Err-Keeper.ensures.rose (ap (λ (s : Stop). Err s) c.in-Err-Keeper.field-0-is) in
    Closed-none (g.O.Sink.seen c.args.out.now) _
    (inr (record { left = c.in-Err-Keeper.ensures.left; ended = inl (refl, rose); no_out = refl }))

pub returns-in-Err-Memory : goal.returns-in-Err-Memory
returns-in-Err-Memory g c =
    Closed-none (g.O.Sink.seen c.args.out.now) _
    (inr (record { left = c.in-Err-Memory.ensures.left; ended = inr refl; no_out = refl }))
