-- When bytes are the text of an application, and when they are refused.
use Rattle.std.specs.Prelude.{◌≡◌, ℕ, List, [], Option, Some, None, Result, Ok, Err}
use Rattle.jac_lang.specs.Syntax.{Application}
use Rattle.jac_tree.specs.Grammar.{Accepted}
use Rattle.jac_tree.specs.Plain.{PlainTree}
use Rattle.jac_tree.specs.Printed.{printed_tree}
use Rattle.jac_forms.specs.Applications.{application_in_tree}
use Rattle.jac_forms.specs.Reads.{Read, got, refused}
use Rattle.jac_forms.specs.declared.fault.FormFault.{FormFault}
use Rattle.jac_template.specs.Applications.{Expanded, ExpandsApplication}
use Rattle.jac_template.specs.Faults.{Fault}
use Rattle.jac_check.specs.Applications.{first_fault}
use Rattle.jac_check.specs.Schema.{schema_tree}
use Rattle.jac_check.specs.declared.fault.CheckFault.{CheckFault}
use Rattle.jac_route.specs.Routes.{Table, table_of}

-- What a tree is opened as: an application, or the first step that it fails.
pub data Opened : Type 0 where
  application : Application → Opened
  no_form : FormFault → Opened
  -- A template of the view with this number has this fault.
  no_template : ℕ → Fault → Opened
  unwell : CheckFault → Opened
  -- The path of the view with this number clashes with an earlier one.
  clash : ℕ → Opened

abbrev pub opened_routed : Result Table ℕ → Application → Opened
opened_routed (Err view) app = Opened.clash view
opened_routed (Ok routes) app = Opened.application app

abbrev pub opened_checked : Option CheckFault → Application → Opened
opened_checked (Some fault) app = Opened.unwell fault
opened_checked None app = opened_routed (table_of app) app

-- An application without templates. Its names and kinds are checked, then its paths.
abbrev pub OpensExpanded : Expanded → Opened → Type 0
OpensExpanded (Expanded.fault view fault) o = o ≡ Opened.no_template view fault
OpensExpanded (Expanded.application app) o = o ≡ opened_checked (first_fault app) app

abbrev pub OpensForm : Read Application → Opened → Type 0
OpensForm (refused fault) o = o ≡ Opened.no_form fault
OpensForm (got app) o = (e : Expanded) × ExpandsApplication app e × OpensExpanded e o

-- The tree, with the templates of its application expanded, is opened as this.
abbrev pub Opens : PlainTree → Opened → Type 0
Opens t o = OpensForm (application_in_tree [] t) o

-- The bytes spell this application.
abbrev pub IsApplication : List ℕ → Application → Type 0
IsApplication bytes app = (t : PlainTree) × Accepted bytes t × Opens t (Opened.application app)

-- The schema under which an application's records are stored.
abbrev pub schema_text : Application → List ℕ
schema_text app = printed_tree (schema_tree app.models)
