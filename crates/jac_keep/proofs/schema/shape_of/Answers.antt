use Rattle.std.proofs.Common.{refl, sym, ◌∙◌, ap}
use Rattle.std.specs.Option.{option_map}
use Rattle.jac_tree.specs.Mirror.{plain}
use Rattle.jac_keep.specs.Schema.{shapes_by}
use Rattle.jac_keep.proofs.SchemaLaws.{found_shapes, no_schema, no_schema_if}
use Rattle.jac_keep.proofs.schema.shape_of.Goals as goal

pub returns-in_ok-shape-in-Ok-clause-shape : goal.returns-in_ok-shape-in-Ok-clause-shape
returns-in_ok-shape-in-Ok-clause-shape c =
    let reads = c.in-Ok.ensures.reads in
    found_shapes (λ s. shapes_by s.kinds s.nested) c.args.schema.now (plain c.in-Ok.tree) c.in_ok-shape-in-Ok.shape reads.0 ((reads.1 (plain c.in-Ok.tree)).1 refl) c.in_ok-shape-in-Ok.ensures

pub returns-in_ok-shape-in-Ok-clause-none : goal.returns-in_ok-shape-in-Ok-clause-none
returns-in_ok-shape-in-Ok-clause-none c none =
    no_schema c.args.schema.now (plain c.in-Ok.tree) (λ t. (c.in-Ok.ensures.reads.1 t).0)
    (sym (ap (λ found. option_map (λ s. shapes_by s.kinds s.nested) found) none) ∙ c.in_ok-shape-in-Ok.ensures)

pub returns-in-Err-clause-none : goal.returns-in-Err-clause-none
returns-in-Err-clause-none c =
    no_schema_if c.args.schema.now c.in-Err.fault c.without_tree.result c.in-Err.ensures.reads c.without_tree.ensures.spelled
