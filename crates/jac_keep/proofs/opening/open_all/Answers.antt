use Rattle.std.proofs.Common.{◌≡◌, ◌+◌, ◌++◌, ◌∷◌, length, ◌∙◌, ap, arith, rules}
use Rattle.std.specs.Vec.Iter.{into_iter_items}
use Rattle.jac_keep.specs.Opened.{rows_in, IsReadyTable}
use Rattle.jac_keep.proofs.OpeningLaws.{both, rows_in-pushed, ready-pushed}
use Rattle.jac_keep.proofs.opening.open_all.Goals as goal

pub tables-preserved : goal.tables-preserved
tables-preserved c =
    let o = c.open-one.result.0 in
    let os = c.tables.all.items in
    let rest = into_iter_items c.next.new.self in
    let left : into_iter_items c.tables.table-iterator ≡ c.in-Some.table ∷ rest = search rules in
    let before = rw left at c.tables.invariant in
    let index : c.len.result ≡ 0 + length os = omega (arith, c.len.ensures, c.tables.all.ok.0) in (
      ap (λ all. rows_in all ++ rest) c.push_reserved.ensures.items ∙ rows_in-pushed os o rest ∙ ap (λ t. rows_in os ++ t ∷ rest) c.open-one.ensures.rows ∙ before.0,
      (λ told.
          let each = both c.tables.ready c.open-one.result.1 told in
          let one : IsReadyTable (0 + length os) c.args.changed.now o = rw index at (c.open-one.ensures.ready each.1) in
          rw c.push_reserved.ensures.items (ready-pushed 0 c.args.changed.now os o (before.1 each.0) one)),
      omega (arith, before.2, c.push_reserved.ensures.len, c.push_reserved.ensures.capacity),
    )
