use Rattle.std.proofs.Common.{◌≡◌, ◌++◌, ℕ, pos, drop}
use Rattle.jac_value.specs.declared.value.Value.{Value}
use Rattle.jac_value.specs.declared.value.Value.TheVariants as value
use Rattle.jac_shown_rows.specs.RecordIds.{keyed_each}
use Rattle.jac_pruned.proofs.one_sorted.keyed_alike.Given as goal

-- the keyed ids so far, before those that are left, are all
abbrev pub invariant-ids : goal.invariant-ids
invariant-ids l =
    let zero : ℕ → Value = λ j. value.Int (pos 0) in
    l.keyed.items ++ keyed_each zero (drop l.id-index l.ids) ≡ keyed_each zero l.ids
