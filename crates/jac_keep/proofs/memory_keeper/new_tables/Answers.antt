use Rattle.std.proofs.Common.{◌≡◌, ◌∙◌, ◌-◌, arith, ◌++◌, List, length, ap}
use Rattle.jac_rows.specs.declared.row.Row.{Row}
use Rattle.jac_keep.specs.Schema.{empties}
use Rattle.jac_keep.proofs.memory_keeper.new_tables.Goals as goal

pub returns : goal.returns
returns c shapes is =
    let all : c.in_ok-models.models - 0 ≡ c.in_ok-models.models = omega arith in
    c.from_vec.ensures ∙ c.widen.ensures ∙ ap (λ (ts : List (List Row)). ts ++ empties (c.in_ok-models.models - length ts)) c.in_ok-room.ensures.items ∙ ap empties all ∙ ap empties (c.in_ok-models.ensures shapes is)
