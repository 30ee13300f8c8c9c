use Rattle.jac_lang.specs.Mirror.{application_of, expression_of}
use Rattle.jac_shown_rows.proofs.Compared.{field_of_bound}
use Rattle.jac_shown_rows.proofs.comparison.field_if_named.Goals as goal

pub returns : goal.returns
returns c =
    field_of_bound (application_of c.args.app.now).models c.args.name.now c.args.model.now c.args.field.now (expression_of c.args.of.now) c.column_named.result
    (c.is_name.ensures c.if-not-is_name.false) c.column_named.ensures.model c.column_named.ensures.field c.column_named.ensures.place c.column_named.ensures.got
