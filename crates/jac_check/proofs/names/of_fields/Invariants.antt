use Rattle.std.proofs.Common.{◌≡◌, drop}
use Rattle.jac_lang.specs.Mirror.{application_of}
use Rattle.jac_check.specs.Scope.{innermost, meaning_of, named_fields}
use Rattle.jac_check.proofs.names.of_fields.Given as goal

abbrev pub invariant-fields : goal.invariant-fields
invariant-fields l =
    let models = (application_of l.app).models in
    innermost l.found (named_fields models (drop l.field-index l.fields)) l.name ≡ meaning_of (named_fields models l.fields) l.name
