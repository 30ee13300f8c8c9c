use Rattle.std.proofs.Common.{◌∙◌, List, ap, sym, subst}
use Rattle.jac_rows.specs.declared.row.Row.{Row}
use Rattle.jac_value.specs.Ids.{model_of_id}
use Rattle.jac_keep.specs.Indexed.{index_at, Remains}
use Rattle.jac_keep.specs.Records.{AreOrdered}
use Rattle.jac_table_cache.specs.Held.{rows_held}
use Rattle.jac_table_cache.proofs.indexes.alter_index.Goals as goal

pub alter_one-requires-clause-ordered : goal.alter_one-requires-clause-ordered
alter_one-requires-clause-ordered c = subst AreOrdered (sym c.rows_at-rows.ensures) (c.requires.ordered c.id_model.result)

pub returns-clause-left : goal.returns-clause-left
returns-clause-left c =
    let id = c.args.alteration.now.id in
    subst (λ (rows : List Row). Remains id rows c.args.alteration.now.rows (index_at (model_of_id id) c.args.indexes.now) (index_at (model_of_id id) c.alter_one.new.self))
    (c.rows_at-rows.ensures ∙ ap (λ m. rows_held m c.args.tables.now) c.id_model.ensures)
    c.alter_one.ensures.left
