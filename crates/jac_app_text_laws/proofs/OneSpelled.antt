-- Bytes spell at most one application.
use Rattle.std.proofs.Common.{◌≡◌, ◌∙◌, sym, subst, ℕ, List, []}
use Rattle.jac_lang.specs.Syntax.{Application}
use Rattle.jac_tree.proofs.Unique.{spells_one}
use Rattle.jac_forms.specs.Applications.{application_in_tree}
use Rattle.jac_forms.specs.Reads.{Read, got, refused}
use Rattle.jac_template.specs.Applications.{Expanded}
use Rattle.jac_template.proofs.OneExpansion.{one_application as one_expansion}
use Rattle.jac_app_load.specs.Application.{Opened, OpensExpanded, OpensForm, Opens, IsApplication}

same_opened : (app other : Application) → Opened.application app ≡ Opened.application other → app ≡ other
same_opened app other same = cc

expanded_opens_one : (e : Expanded) (o p : Opened) → OpensExpanded e o → OpensExpanded e p → o ≡ p
expanded_opens_one (Expanded.fault view fault) o p is is' = is ∙ sym is'
expanded_opens_one (Expanded.application app) o p is is' = is ∙ sym is'

form_opens_one : (r : Read Application) (o p : Opened) → OpensForm r o → OpensForm r p → o ≡ p
form_opens_one (refused fault) o p is is' = is ∙ sym is'
form_opens_one (got app) o p (e, h, is) (f, k, is') =
    expanded_opens_one f o p (subst (λ (z : Expanded). OpensExpanded z o) (one_expansion app e f h k) is) is'

pub one_spelled : (bytes : List ℕ) (app other : Application) → IsApplication bytes app → IsApplication bytes other → app ≡ other
one_spelled bytes app other (t, is, opens) (u, is', opens') =
    let same = spells_one bytes t u is.spelled is'.spelled in
    let moved = subst (λ z. Opens z (Opened.application app)) same opens in
    same_opened app other (form_opens_one (application_in_tree [] u) (Opened.application app) (Opened.application other) moved opens')
