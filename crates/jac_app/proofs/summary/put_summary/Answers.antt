use Rattle.std.proofs.Common.{◌++◌, codes}
use Rattle.jac_io.specs.declared.sink.Failed.{Failed}
use Rattle.jac_app.specs.Demo.{counts_text, sizes_text}
use Rattle.jac_serve_events.specs.Outside.{span}
use Rattle.jac_serve_events.proofs.OutsideLemmas.{IsPut-then, IsPut-torn}
use Rattle.jac_app.proofs.summary.put_summary.Goals as goal

pub returns-in-Ok-put_sizes : goal.returns-in-Ok-put_sizes
returns-in-Ok-put_sizes g c =
    let seen = g.O.Sink.seen in
    let counts = counts_text c.args.summary.now in
    let sizes = sizes_text c.args.summary.now in
    let before = seen c.args.out.now in
    let middle = seen c.put_counts.new.out in
    let behind = seen c.put_sizes.new.out in
    IsPut-then Failed before behind (seen c.put.new.sink) (counts ++ sizes) (codes "\n") _ _
    (IsPut-then Failed before middle behind counts sizes _ _ c.in-Ok.ensures c.in-Ok-put_sizes.ensures) c.put.ensures

pub returns-in-Err-put_sizes : goal.returns-in-Err-put_sizes
returns-in-Err-put_sizes g c =
    let seen = g.O.Sink.seen in
    let counts = counts_text c.args.summary.now in
    let sizes = sizes_text c.args.summary.now in
    let before = seen c.args.out.now in
    let middle = seen c.put_counts.new.out in
    let behind = seen c.put_sizes.new.out in
    IsPut-torn Failed (span before behind) (counts ++ sizes) (codes "\n") _ (IsPut-then Failed before middle behind counts sizes _ _ c.in-Ok.ensures c.in-Err-put_sizes.ensures)

pub returns-in-Err : goal.returns-in-Err
returns-in-Err g c =
    let counts = counts_text c.args.summary.now in
    let sizes = sizes_text c.args.summary.now in
    let out = span (g.O.Sink.seen c.args.out.now) (g.O.Sink.seen c.put_counts.new.out) in
    IsPut-torn Failed out (counts ++ sizes) (codes "\n") _ (IsPut-torn Failed out counts sizes _ c.in-Err.ensures)
