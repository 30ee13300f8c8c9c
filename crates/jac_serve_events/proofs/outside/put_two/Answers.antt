use Rattle.jac_io.specs.declared.sink.Failed.{Failed}
use Rattle.jac_serve_events.specs.Outside.{span}
use Rattle.jac_serve_events.proofs.OutsideLemmas.{IsPut-then, IsPut-torn}
use Rattle.jac_serve_events.proofs.outside.put_two.Goals as goal

pub returns-in-Ok-put : goal.returns-in-Ok-put
returns-in-Ok-put g c =
    let seen = g.S.Sink.seen in
    IsPut-then Failed (seen c.args.sink.now) (seen c.put.new.sink) (seen c.put-in-Ok.new.sink) c.args.first.now c.args.second.now _ _ c.in-Ok.ensures c.in-Ok-put.ensures

pub returns-in-Err : goal.returns-in-Err
returns-in-Err g c = IsPut-torn Failed (span (g.S.Sink.seen c.args.sink.now) (g.S.Sink.seen c.put.new.sink)) c.args.first.now c.args.second.now _ c.in-Err.ensures

pub returns-in-Err-put : goal.returns-in-Err-put
returns-in-Err-put g c =
    let seen = g.S.Sink.seen in
    IsPut-then Failed (seen c.args.sink.now) (seen c.put.new.sink) (seen c.put-in-Ok.new.sink) c.args.first.now c.args.second.now _ _ c.in-Ok.ensures c.in-Err-put.ensures
