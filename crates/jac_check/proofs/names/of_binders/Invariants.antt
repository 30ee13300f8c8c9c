use Rattle.std.proofs.Common.{◌≡◌}
use Rattle.jac_lang.specs.Mirror.{application_of, binders_of}
use Rattle.jac_check.specs.Scope.{innermost, meaning_of, named_binders}
use Rattle.jac_check.proofs.names.of_binders.Given as goal

abbrev pub invariant-binders : goal.invariant-binders
invariant-binders l =
    let models = (application_of l.app).models in
    innermost l.found (named_binders models (binders_of l.left)) l.name ≡ meaning_of (named_binders models (binders_of l.binders)) l.name
