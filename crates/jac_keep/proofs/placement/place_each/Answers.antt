use Rattle.std.proofs.Common.{◌≡◌, ◌∷◌, length, vec_len, ◌∙◌, ap, arith, rules}
use Rattle.std.specs.Vec.Iter.{into_iter_items}
use Rattle.jac_keep.specs.Alterations.{placed_each}
use Rattle.jac_keep.specs.Records.{placed_rows}
use Rattle.jac_keep.proofs.OrderLaws.{ordered-placed}
use Rattle.jac_keep.proofs.placement.place_each.Goals as goal

pub news-preserved : goal.news-preserved
news-preserved c =
    let a = c.in-Some.alteration in
    let rest = into_iter_items c.next.new.self in
    let left : into_iter_items c.news.alteration-iterator ≡ a ∷ rest = search rules in
    let before = rw left at c.news.invariant in
    let is : c.place.new.rows.items ≡ placed_rows a.id a.rows c.news.altered.items = c.place.ensures.placed ∙ ap (λ new. placed_rows a.id new c.news.altered.items) c.into_vec.ensures in
    let count : vec_len c.into_vec.result ≡ length a.rows = c.into_vec.result.ok.0 ∙ ap length c.into_vec.ensures in (
      ap (placed_each rest) is ∙ before.0,
      rw is (ordered-placed a.id a.rows c.news.altered.items before.2.0 before.1),
      before.2.1,
      omega (arith, before.3, c.place.ensures.grown, c.place.ensures.capacity, count),
    )
