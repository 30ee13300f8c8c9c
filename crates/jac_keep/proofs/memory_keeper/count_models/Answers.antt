use Rattle.std.proofs.Common.{rules, ◌≡◌, ◌∙◌, ap, sym, length}
use Rattle.jac_keep.specs.Schema.{IsSchema, shapes_by}
use Rattle.jac_keep.proofs.SchemaLaws.{schema_one, length_shapes}
use Rattle.jac_keep.proofs.memory_keeper.count_models.Goals as goal

pub unreachable-requires : goal.unreachable-requires
unreachable-requires c = c.in_ok-shape.ensures.none c.in-None.is c.requires.0 c.requires.1

pub returns : goal.returns
returns c shapes is =
    let kinds = c.in-Some.shape.kinds in
    let nested = c.in-Some.shape.nested in
    let found : IsSchema c.args.schema.now (shapes_by kinds nested) = search rules in
    let same : shapes_by kinds nested ≡ shapes = schema_one c.args.schema.now (shapes_by kinds nested) shapes found is in
    ap length c.as_slice.ensures ∙ sym (length_shapes kinds nested) ∙ ap length same
