use Rattle.std.proofs.Common.{[], refl}
use Rattle.jac_serve_events.proofs.OutsideLemmas.{Lasts-none, Took-none}
use Rattle.jac_serve_events.proofs.outputs.write_out.Goals as goal

pub returns-in-Err-closed-clause-put : goal.returns-in-Err-closed-clause-put
returns-in-Err-closed-clause-put g c =
    let audit = g.U.Sink.seen c.args.audit.now in
    let closed = c.in-Err-closed.ensures.put in
    rw c.in-Closed.is
    (record {
      out = closed.put;
      audit = [];
      out_lasts = closed.lasts;
      audit_lasts = Lasts-none audit;
      out_took = closed.took;
      audit_took = Took-none audit;
      holds = (c.in-Err-closed.ensures.quoted, refl, closed.is_put, refl, closed.rose);
    })
