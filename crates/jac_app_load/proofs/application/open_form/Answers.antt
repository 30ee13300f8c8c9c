use Rattle.std.proofs.Common.{◌≡◌, ◌<◌, ◌^◌, sym, subst, ℕ, ◌⊎◌}
use Rattle.jac_lang.specs.Mirror.{application_of}
use Rattle.jac_check.specs.Applications.{first_fault}
use Rattle.jac_forms.specs.Reads.{got}
use Rattle.jac_template.specs.Applications.{Expanded}
use Rattle.jac_app_load.specs.Application.{OpensForm, opened_checked}
use Rattle.jac_app_load.specs.Refusal.{IsStep}
use Rattle.jac_app_load.specs.declared.refusal.Refusal.{Refusal}
use Rattle.jac_app_load.specs.declared.refusal.Refusal.TheVariants as refusals
use Rattle.jac_app_load.proofs.PlaceLaws.{length_pages}
use Rattle.jac_app_load.proofs.OpeningLemmas.{opening_on, template_steps, sited, same_models}
use Rattle.jac_app_load.proofs.application.open_form.Goals as goal

pub returns-in-Ok : goal.returns-in-Ok
returns-in-Ok c =
    let app = application_of c.in-Ok.app in
    opening_on (λ o. o ≡ opened_checked (first_fault app) app) (OpensForm (got (application_of c.args.app)))
    (λ o h. (Expanded.application app, c.in-Ok.ensures.application, h))
    c.open_expanded.result c.open_expanded.ensures

pub returns-in-Err : goal.returns-in-Err
returns-in-Err c =
    let Is = OpensForm (got (application_of c.args.app)) in
    subst (λ (r : Refusal). (r ≡ refusals.Memory) ⊎ IsStep Is r) (sym c.template_refusal.ensures)
    (template_steps (application_of c.args.app) c.in-Err.fault c.in-Err.ensures.fault)

pub expand_app-requires : goal.expand_app-requires
expand_app-requires c = record { few = subst (λ (n : ℕ). n < 2 ^ 32) (length_pages c.args.app.views) c.requires.few_views }

pub open_expanded-requires-clause-sited : goal.open_expanded-requires-clause-sited
open_expanded-requires-clause-sited c = sited (application_of c.args.app) (application_of c.in-Ok.app) c.requires c.in-Ok.ensures.application

pub open_expanded-requires-clause-models : goal.open_expanded-requires-clause-models
open_expanded-requires-clause-models c = same_models (application_of c.args.app) (application_of c.in-Ok.app) c.requires c.in-Ok.ensures.application
