use Rattle.std.proofs.Common.{List, subst, sym}
use Rattle.jac_rows.specs.declared.row.Row.{Row}
use Rattle.jac_keep.specs.Indexed.{AreIndexesOf}
use Rattle.jac_keep.proofs.IndexLaws.{indexes_follow}
use Rattle.jac_keep.proofs.together.alter_both.Goals as goal

pub returns-in-Ok-clause-indexed : goal.returns-in-Ok-clause-indexed
returns-in-Ok-clause-indexed c =
    subst (λ (tables : List (List Row)). AreIndexesOf tables c.alter_indexes.new.indexes) (sym c.in-Ok.ensures.ok)
    (indexes_follow c.args.tables.now c.args.changed.now c.args.indexes.now c.alter_indexes.new.indexes c.alter_indexes.ensures)
