use Rattle.std.proofs.Common.{◌≡◌, ◌≤◌, ◌+◌, ◌++◌, length, take, drop, vec_len, vec_capacity}
use Rattle.std.specs.Vec.Iter.{into_iter_items}
use Rattle.jac_keep.proofs.exchange.exchange.Given as goal

abbrev pub invariant-new : goal.invariant-new
invariant-new l =
    (take l.at l.rows.items ++ into_iter_items l.row-iterator ≡ take l.fn.start l.fn.rows.items ++ l.fn.new.items)
    × (drop l.end l.rows.items ≡ drop l.fn.end l.fn.rows.items)
    × (l.at ≤ l.end)
    × (l.end ≤ vec_len l.rows)
    × (vec_len l.rows + length (into_iter_items l.row-iterator) ≤ vec_len l.fn.rows + vec_len l.fn.new)
    × (vec_capacity l.rows ≡ vec_capacity l.fn.rows)
