use Rattle.std.proofs.Common.{◌∙◌, ap}
use Rattle.std.specs.BTreeMap.{get}
use Rattle.std.specs.Cmp.Lexicographic.{slice_cmp}
use Rattle.std.specs.Ordering.{nat_cmp}
use Rattle.jac_route.specs.Firsts.{with_first}
use Rattle.jac_route.proofs.FirstLaws.{SetAt, put_before}
use Rattle.jac_route.proofs.firsts.put_first.Goals as goal

pub returns : goal.returns
returns c =
    let f = get (slice_cmp nat_cmp) c.args.firsts.now in
    let g = get (slice_cmp nat_cmp) c.insert.new.self in
    let set : SetAt c.args.view.now.path c.with_first-first.result f g = rw c.in_ok-pattern.ensures at c.in_ok-insert.ensures.updates.0 in
    put_before c.args.view.now.path c.args.number c.args.view.now.method c.with_first-first.result f g set
    (c.with_first-first.ensures ∙ ap (with_first c.args.number c.args.view.now.method) c.first_views.ensures)
