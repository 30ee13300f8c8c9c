use Rattle.std.proofs.Common.{◌∙◌, List, ap, subst}
use Rattle.jac_rows.specs.Tables.{rows_of}
use Rattle.jac_rows.specs.declared.row.Row.{Row}
use Rattle.jac_value.specs.Ids.{model_of_id}
use Rattle.jac_keep.specs.Indexed.{index_at, Remains}
use Rattle.jac_keep.proofs.OrderLaws.{ordered_if_rising}
use Rattle.jac_keep.proofs.SoundLaws.{tables_rise}
use Rattle.jac_keep.proofs.together.alter_index.Goals as goal

pub alter_one-requires-clause-ordered : goal.alter_one-requires-clause-ordered
alter_one-requires-clause-ordered c = rw c.rows-rows.ensures (ordered_if_rising _ (tables_rise c.args.tables.now c.id_model.result c.requires.rising))

pub returns-clause-left : goal.returns-clause-left
returns-clause-left c =
    let id = c.args.alteration.now.id in
    subst (λ (rows : List Row). Remains id rows c.args.alteration.now.rows (index_at (model_of_id id) c.args.indexes.now) (index_at (model_of_id id) c.alter_one.new.self))
    (c.rows-rows.ensures ∙ ap (rows_of c.args.tables.now) c.id_model.ensures)
    c.alter_one.ensures.left
