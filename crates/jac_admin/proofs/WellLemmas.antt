-- An application that bytes spell is well.
use Rattle.std.proofs.Common.{◌≡◌, sym, subst, refl, ℕ, IsTrue, Result, Ok, Err, Option, Some, None, List, []}
use Rattle.jac_lang.specs.Syntax.{Application}
use Rattle.jac_forms.specs.Applications.{application_in_tree}
use Rattle.jac_forms.specs.Reads.{Read, got, refused}
use Rattle.jac_template.specs.Applications.{Expanded}
use Rattle.jac_check.specs.Applications.{first_fault}
use Rattle.jac_check.specs.Well.{is_well}
use Rattle.jac_check.specs.declared.fault.CheckFault.{CheckFault}
use Rattle.jac_check.proofs.Well.{well_where_none}
use Rattle.jac_route.specs.Routes.{Table, table_of}
use Rattle.jac_app_load.specs.Application.{Opened, opened_routed, opened_checked, OpensExpanded, OpensForm, IsApplication}

routed : (routes : Result Table ℕ) (x app : Application) → Opened.application app ≡ opened_routed routes x → app ≡ x
routed (Ok routes) x app h = cc
routed (Err view) x app h = cc

checked : (fault : Option CheckFault) (x app : Application) → first_fault x ≡ fault → Opened.application app ≡ opened_checked fault x → IsTrue (is_well app)
checked (Some fault) x app is h = cc
checked None x app is h = subst (λ (a : Application). IsTrue (is_well a)) (sym (routed (table_of x) x app h)) (well_where_none x is)

expanded : (e : Expanded) (app : Application) → OpensExpanded e (Opened.application app) → IsTrue (is_well app)
expanded (Expanded.fault view fault) app h = cc
expanded (Expanded.application x) app h = checked (first_fault x) x app refl h

formed : (form : Read Application) (app : Application) → OpensForm form (Opened.application app) → IsTrue (is_well app)
formed (refused fault) app h = cc
formed (got x) app h = expanded h.0 app h.2

pub is_well_if_spelled : (bytes : List ℕ) (app : Application) → IsApplication bytes app → IsTrue (is_well app)
is_well_if_spelled bytes app is = formed (application_in_tree [] is.0) app is.2
