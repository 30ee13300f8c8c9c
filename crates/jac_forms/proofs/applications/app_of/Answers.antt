use Rattle.std.proofs.Common.{rules, ◌≡◌, ◌<◌, ◌^◌, refl, arith, [], length}
use Rattle.jac_lang.proofs.Places.{length-seen}
use Rattle.jac_lang.specs.Mirror.{page_of_view, pages_of, application_of}
use Rattle.jac_tree.specs.Mirror.{plain}
use Rattle.jac_forms.specs.Applications.{application_in_tree}
use Rattle.jac_forms.specs.Reads.{got}
use Rattle.jac_forms.proofs.Written.{is-written}
use Rattle.jac_forms.proofs.applications.app_of.Goals as goal

pub returns-in_ok-app-in-Some-clause-written : goal.returns-in_ok-app-in-Some-clause-written
returns-in_ok-app-in-Some-clause-written c =
    let app = c.in_ok-app-in-Some.app in
    let value : application_in_tree [] (plain c.args.tree.now) ≡ got (application_of app) = search rules in
    let same : length (pages_of app.views) ≡ length app.views = length-seen page_of_view pages_of refl (λ _ _. refl) app.views in
    let few : length (pages_of app.views) < 2 ^ 32 = omega (arith, same, c.in_ok-app-in-Some.ensures.few) in
    is-written (plain c.args.tree.now) (application_of app) value few
