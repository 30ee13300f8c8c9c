use Rattle.std.proofs.Common.{◌≡◌, sym, subst, refl, ◌⊎◌, []}
use Rattle.jac_lang.specs.Mirror.{application_of}
use Rattle.jac_lang.specs.Syntax.{Application}
use Rattle.jac_tree.specs.Mirror.{plain}
use Rattle.jac_forms.specs.Applications.{application_in_tree}
use Rattle.jac_forms.specs.Reads.{Read}
use Rattle.jac_app_load.specs.Application.{Opened, OpensForm, Opens}
use Rattle.jac_app_load.specs.Refusal.{IsStep, IsOpening}
use Rattle.jac_app_load.specs.declared.refusal.Refusal.{Refusal}
use Rattle.jac_app_load.specs.declared.refusal.Refusal.TheVariants as refusals
use Rattle.jac_app_load.proofs.OpeningLemmas.{form_steps, read_is}
use Rattle.jac_app_load.proofs.application.open_tree.Goals as goal

pub returns-in-Ok : goal.returns-in-Ok
returns-in-Ok c =
    let read = application_in_tree [] (plain c.args.tree.now) in
    let is = read_is read (application_of c.in-Ok.app) c.in-Ok.ensures.value in
    subst (λ (form : Read Application). IsOpening (OpensForm form) c.open_form.result) (sym is) c.open_form.ensures

pub returns-in-Err : goal.returns-in-Err
returns-in-Err c =
    let Is = Opens (plain c.args.tree.now) in
    subst (λ (r : Refusal). (r ≡ refusals.Memory) ⊎ IsStep Is r) (sym c.form_refusal.ensures)
    (form_steps Is c.in-Err.fault (λ refuses. subst (λ (form : Read Application). OpensForm form (Opened.no_form c.in-Err.fault)) (sym (c.in-Err.ensures.fault refuses)) refl))
