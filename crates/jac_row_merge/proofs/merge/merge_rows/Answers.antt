use Rattle.std.proofs.Common.{◌≡◌, sym, subst, List, ◌∷◌, ◌++◌, rules}
use Rattle.std.specs.Vec.Iter.{into_iter_items}
use Rattle.jac_rows.specs.declared.row.Row.{Row}
use Rattle.jac_row_merge.specs.Merged.{Shows, AreOfRecord}
use Rattle.jac_row_merge.proofs.Placed.{shows_next, own_next, all-front}
use Rattle.jac_row_merge.proofs.merge.merge_rows.Goals as goal

pub rows-preserved : goal.rows-preserved
rows-preserved c =
    let m = c.rows.merged.items in
    let row = c.in-Some.row in
    let rest = into_iter_items c.next.new.self in
    let left : into_iter_items c.rows.row-iterator ≡ row ∷ rest = search rules in
    let inv = c.rows.invariant in
    let shown : Shows c.args.rows (m ++ (row ∷ rest)) = subst (λ (l : List Row). Shows c.args.rows (m ++ l)) left inv.shown in
    record {
      shown = shows_next c.args.rows m c.put.new.merged.items row rest shown c.in_ok-put.ensures.shown;
      own = λ id own. own_next id m c.put.new.merged.items row rest (c.in_ok-put.ensures.own id) (subst (λ (l : List Row). AreOfRecord id (m ++ l)) left (inv.own id own));
      merged = c.in_ok-put.ensures.merged;
      order = c.in_ok-put.ensures.order;
    }

pub returns-clause-own : goal.returns-clause-own
returns-clause-own c id own =
    subst (AreOfRecord id) (sym c.from_vec.ensures) (all-front (λ (r : Row). r.id ≡ id) c.rows.merged.items (into_iter_items c.rows.row-iterator) (c.rows.invariant.own id own))
