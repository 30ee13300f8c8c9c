use Rattle.std.proofs.Common.{ap, refl, inl, inr, Err}
use Rattle.jac_keep.specs.declared.stop.Stop.{Stop}
use Rattle.jac_command_base.proofs.ExitReasonLemmas.{Closed-none}
use Rattle.jac_admin.proofs.hidden.explain_attached.Goals as goal

pub returns-in-Ok-put_text-clause-ends : goal.returns-in-Ok-put_text-clause-ends
returns-in-Ok-put_text-clause-ends g c =
    let put = c.in-Ok-put_text.ensures in
    record {
      put = put.put;
      lasts = put.lasts;
      took = put.took;
      holds = inl (record { text = c.in-Ok.text; explains = c.in-Ok.ensures.text; puts = put.is_put });
    }

pub returns-in-Ok-clause-ends : goal.returns-in-Ok-clause-ends
returns-in-Ok-clause-ends g c =
    let put = c.in-Err.ensures in
    record {
      put = put.put;
      lasts = put.lasts;
      took = put.took;
      holds = inl (record { text = c.in-Ok.text; explains = c.in-Ok.ensures.text; puts = (put.is_put, put.rose) });
    }

pub returns-in-Err-Keeper-clause-ends : goal.returns-in-Err-Keeper-clause-ends
returns-in-Err-Keeper-clause-ends g c =
    let rose = c.in-Err-Keeper.ensures.rose (ap (λ (s : Stop). Err s) c.in-Err-Keeper.field-0-is) in
    Closed-none (g.O.Sink.seen c.args.out.now) _
    (inr (record { left = c.in-Err-Keeper.ensures.left; ended = inl (refl, rose); no_out = refl }))

pub returns-clause-ends : goal.returns-clause-ends
returns-clause-ends g c =
    Closed-none (g.O.Sink.seen c.args.out.now) _
    (inr (record { left = c.in-Err-Memory.ensures.left; ended = inr refl; no_out = refl }))
