use Rattle.std.proofs.Common.{rules, sym, subst}
use Rattle.jac_row_codec.specs.Reading.{AreCellsSpelled}
use Rattle.jac_row_codec.proofs.Rows.{cells_trail, cells_end}
use Rattle.jac_row_codec.proofs.body.cells.Goals as goal

pub returns-then-not-is_empty-clause-stops : goal.returns-then-not-is_empty-clause-stops
returns-then-not-is_empty-clause-stops c =
    cells_trail c.args.kinds.now c.args.body.now c.kinds.cells.items c.kinds.to_come.now c.kinds.rest.now c.kinds.invariant c.in_default.ensures.cases (search rules)

pub returns-clause-cells : goal.returns-clause-cells
returns-clause-cells c =
    subst (AreCellsSpelled c.args.kinds.now c.args.body.now) (sym c.from_vec.ensures)
    (cells_end c.args.kinds.now c.args.body.now c.kinds.cells.items c.kinds.to_come.now c.kinds.rest.now c.kinds.invariant c.in_default.ensures.cases (search rules))
