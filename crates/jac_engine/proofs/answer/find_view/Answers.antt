use Rattle.std.proofs.Common.{ℕ, IfOk, subst}
use Rattle.jac_lang.specs.Mirror.{application_of}
use Rattle.jac_route.specs.Found.{IsWithin}
use Rattle.jac_app_load.proofs.PlaceLaws.{length_pages}
use Rattle.jac_engine.proofs.answer.find_view.Goals as goal

pub returns-clause-within : goal.returns-clause-within
returns-clause-within c =
    subst (λ (k : ℕ). IfOk c.find.result (λ f. IsWithin k f)) (length_pages c.args.app.now.views)
    (c.find.ensures.within (application_of c.args.app.now) c.requires.routes)
