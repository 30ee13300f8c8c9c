use Rattle.jac_serve_events.proofs.OutsideLemmas.{torn_put}
use Rattle.jac_serve_events.proofs.outside.put.Goals as goal

pub returns-in-Err : goal.returns-in-Err
returns-in-Err g c =
    let puts = c.in-Err.ensures in
    let torn = torn_put (g.S.Sink.seen c.put.new.self).tells (g.S.Sink.seen c.args.sink.now).held (g.S.Sink.seen c.put.new.self).held c.args.bytes.now puts.err in
    record { put = torn.0; lasts = puts.lasts; took = torn.1; is_put = torn.2; rose = puts.rose }
