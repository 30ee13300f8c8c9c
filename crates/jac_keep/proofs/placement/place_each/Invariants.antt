use Rattle.std.proofs.Common.{◌≡◌, ◌≤◌, ◌+◌, vec_len, vec_capacity}
use Rattle.std.specs.Vec.Iter.{into_iter_items}
use Rattle.jac_keep.specs.Records.{AreOrdered}
use Rattle.jac_keep.specs.Alterations.{AreOwn, placed_each, brought}
use Rattle.jac_keep.proofs.placement.place_each.Given as goal

abbrev pub invariant-news : goal.invariant-news
invariant-news l =
    (placed_each (into_iter_items l.alteration-iterator) l.altered.items ≡ placed_each l.fn.news.items l.fn.rows.items)
    × AreOrdered l.altered.items
    × AreOwn (into_iter_items l.alteration-iterator)
    × (vec_len l.altered + brought (into_iter_items l.alteration-iterator) ≤ vec_capacity l.altered)
