use Rattle.std.proofs.Common.{◌≡◌, ◌-◌, ◌<◌, ◌≤◌, ◌++◌, ◌∷◌, [], List, length, sym, ◌∙◌, ap, arith, rules}
use Rattle.jac_rows.specs.declared.row.Row.{Row}
use Rattle.jac_keep.specs.Schema.{empties}
use Rattle.jac_keep.proofs.ReshapingLaws.{widened_step, widened_end}
use Rattle.jac_keep.proofs.opening.widen.Goals as goal

pub models-preserved : goal.models-preserved
models-preserved c =
    let ts = c.models.tables.items in
    let less : length ts < c.args.models = search rules in
    let pushed : c.push_reserved.new.self.items ≡ ts ++ [] ∷ [] =
    c.push_reserved.ensures.items ∙ ap (λ (t : List Row). ts ++ t ∷ []) c.empty.ensures in (
      ap (λ (us : List (List Row)). us ++ empties (c.args.models - length us)) pushed ∙ widened_step ts c.args.models less ∙ c.models.invariant.0,
      omega (arith, c.models.invariant.1, c.push_reserved.ensures.capacity),
    )

pub returns : goal.returns
returns c =
    let past : c.args.models ≤ length c.models.tables.items = search rules in
    sym (widened_end c.models.tables.items c.args.models past) ∙ c.models.invariant.0
