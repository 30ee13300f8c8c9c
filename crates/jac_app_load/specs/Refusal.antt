-- Why bytes are refused as an application, and the message.
use Rattle.std.specs.Prelude.{◌≡◌, ℕ, ◌++◌, ◌∷◌, [], ◌⊎◌, if◌then◌else◌, List, Result, Ok, Err, codes, decimal, IsUtf8}
use Rattle.std.specs.Str.{IsValidUpTo}
use Rattle.jac_lang.specs.Syntax.{Application}
use Rattle.jac_tree.specs.Grammar.{Accepted, IsStrayAt, IsDeepAt, IsUnclosedAt}
use Rattle.jac_tree.specs.Plain.{PlainTree}
use Rattle.jac_lang.specs.Mirror.{application_of}
use Rattle.jac_lang.specs.declared.field_kinds.KindName.{KindName}
use Rattle.jac_lang.specs.declared.field_kinds.KindName.TheVariants as kinds
use Rattle.jac_check.specs.declared.fault.CheckCause.{CheckCause}
use Rattle.jac_check.specs.declared.fault.CheckCause.TheVariants as causes
use Rattle.jac_check.specs.declared.fault.CheckFault.{CheckFault}
use Rattle.jac_check.specs.declared.fault.Place.{Place}
use Rattle.jac_check.specs.declared.fault.Place.TheVariants as places
use Rattle.jac_check.specs.declared.fault.Wanted.{Wanted}
use Rattle.jac_check.specs.declared.fault.Wanted.TheVariants as wanted
use Rattle.jac_forms.specs.declared.fault.FormFault.{FormFault}
use Rattle.jac_forms.specs.declared.fault.FormFault.TheVariants as misshapen
use Rattle.jac_forms.specs.declared.fault.Want.{Want}
use Rattle.jac_forms.specs.declared.fault.Want.TheVariants as wants
use Rattle.jac_forms.specs.declared.fault.What.{What}
use Rattle.jac_forms.specs.declared.fault.What.TheVariants as whats
use Rattle.jac_tree.specs.declared.fault.TreeFault.{TreeFault}
use Rattle.jac_tree.specs.declared.fault.TreeFault.TheVariants as faults
use Rattle.jac_lang.specs.declared.application.App.{App}
use Rattle.jac_template.specs.Faults.{fault_in_template, refuses_template}
use Rattle.jac_template.specs.declared.application.ViewFault.{ViewFault}
use Rattle.jac_check.specs.Applications.{is_fault}
use Rattle.jac_template.specs.declared.fault.TemplateFault.{TemplateFault}
use Rattle.jac_template.specs.declared.fault.TemplateFault.TheVariants as untemplated
use Rattle.jac_app_load.specs.Application.{IsApplication, Opened, Opens}
use Rattle.jac_app_load.specs.declared.refusal.Refusal.{Refusal}
use Rattle.jac_app_load.specs.declared.refusal.Refusal.TheVariants as refusals

-- The bytes spell no tree, because of this fault. The length of a file is checked before.
abbrev pub HasTextFault : List ℕ → TreeFault → Type 0
HasTextFault bytes faults.Long = ⊥
HasTextFault bytes (faults.NotUtf8 at) = ¬ (IsUtf8 bytes) × IsValidUpTo bytes at
HasTextFault bytes (faults.Stray at) = IsStrayAt bytes at
HasTextFault bytes (faults.Deep at) = IsDeepAt bytes at
HasTextFault bytes (faults.Unclosed at) = IsUnclosedAt bytes at
HasTextFault bytes faults.Memory = ⊥

-- The first step that failed, if `Is` holds for what was opened.
abbrev pub IsStep : (Opened → Type 0) → Refusal → Type 0
IsStep Is (refusals.Text fault) = ⊥
IsStep Is (refusals.Form fault) = Is (Opened.no_form fault)
IsStep Is (refusals.Template fault) = Is (Opened.no_template fault.view
    (fault_in_template fault.fault))
IsStep Is (refusals.Check fault) = Is (Opened.unwell fault)
IsStep Is (refusals.Clash view) = Is (Opened.clash view)
IsStep Is refusals.Memory = ⊥

-- What was opened, unless memory ran out.
abbrev pub IsOpening : (Opened → Type 0) → Result App Refusal → Type 0
IsOpening Is (Ok app) = Is (Opened.application (application_of app))
IsOpening Is (Err refusal) = (refusal ≡ refusals.Memory) ⊎ IsStep Is refusal

-- The first step that the bytes fail.
abbrev pub HasRefusal : List ℕ → Refusal → Type 0
HasRefusal bytes (refusals.Text fault) = HasTextFault bytes fault
HasRefusal bytes refusal = (t : PlainTree) × Accepted bytes t × IsStep (Opens t) refusal

-- The refusal for a fault of the text. Running out of memory is no fault of the text.
abbrev pub text_refusal : TreeFault → Refusal
text_refusal faults.Memory = refusals.Memory
text_refusal fault = refusals.Text fault

abbrev pub form_refusal : FormFault → Refusal
form_refusal misshapen.Memory = refusals.Memory
form_refusal fault = refusals.Form fault

abbrev pub template_refusal : ViewFault → Refusal
template_refusal fault = if refuses_template fault.fault then refusals.Template fault
    else refusals.Memory

abbrev pub check_refusal : CheckFault → Refusal
check_refusal fault = if is_fault fault.cause then refusals.Check fault else refusals.Memory

-- The line of a fault and its place, counted in bytes from 0.
abbrev pub at_place : List ℕ → ℕ → List ℕ
at_place what at = codes "app: " ++ (what ++ (codes " at " ++ (decimal at ++ 10 ∷ [])))

abbrev pub text_fault : TreeFault → List ℕ
text_fault faults.Long = codes "app: refused\n"
text_fault (faults.NotUtf8 at) = at_place (codes "not UTF-8") at
text_fault (faults.Stray at) = at_place (codes "stray") at
text_fault (faults.Deep at) = at_place (codes "deep") at
text_fault (faults.Unclosed at) = at_place (codes "unclosed") at
text_fault faults.Memory = codes "app: refused\n"

-- The child numbers of a path, each after a point.
abbrev pub more_steps : List ℕ → List ℕ
more_steps [] = []
more_steps (n ∷ ns) = 46 ∷ (decimal n ++ more_steps ns)

abbrev pub path_text : List ℕ → List ℕ
path_text [] = codes "top"
path_text (n ∷ ns) = decimal n ++ more_steps ns

abbrev pub want_word : Want → List ℕ
want_word wants.App = codes "app"
want_word wants.Item = codes "item"
want_word wants.Name = codes "name"
want_word wants.Fields = codes "fields"
want_word wants.Field = codes "field"
want_word wants.Kind = codes "kind"
want_word wants.Group = codes "group"
want_word wants.Guard = codes "guard"
want_word wants.Policy = codes "policy"
want_word wants.Method = codes "method"
want_word wants.Path = codes "path"
want_word wants.Params = codes "params"
want_word wants.Param = codes "param"
want_word wants.Statement = codes "statement"
want_word wants.Set = codes "set"
want_word wants.Cell = codes "cell"
want_word wants.Body = codes "body"
want_word wants.Query = codes "query"
want_word wants.Binder = codes "binder"
want_word wants.Order = codes "order"
want_word wants.Expression = codes "expression"

abbrev pub what_word : What → List ℕ
what_word whats.Models = codes "models"
what_word whats.Fields = codes "fields"
what_word whats.Groups = codes "groups"
what_word whats.Sites = codes "sites"
what_word whats.Binders = codes "binders"

-- The limit of their number.
abbrev pub limit_word : What → List ℕ
limit_word whats.Models = codes "64"
limit_word whats.Fields = codes "32"
limit_word whats.Groups = codes "8"
limit_word whats.Sites = codes "64"
limit_word whats.Binders = codes "3"

abbrev pub form_fault_line : FormFault → List ℕ
form_fault_line (misshapen.Form path want) = codes "app: form at "
    ++ (path_text path ++ (codes ": expected " ++ (want_word want ++ 10 ∷ [])))
form_fault_line (misshapen.TooMany path what have) =
    codes "app: too many "
    ++ (what_word what
    ++ (codes " at "
    ++ (path_text path
    ++ (codes ": " ++ (decimal have ++ (codes ", limit " ++ (limit_word what ++ 10 ∷ [])))))))
form_fault_line misshapen.Memory = []

abbrev pub template_line : ℕ → List ℕ → ℕ → List ℕ
template_line view what at = codes "app: template in view "
    ++ (decimal view ++ (codes ": " ++ (what ++ (codes " at " ++ (decimal at ++ 10 ∷ [])))))

-- The place is the offset of a tag's first byte in the template.
abbrev pub template_fault : ℕ → TemplateFault → List ℕ
template_fault view (untemplated.Unclosed at) = template_line view (codes "unclosed") at
template_fault view (untemplated.Stray at) = template_line view (codes "stray") at
template_fault view (untemplated.Deep at) = template_line view (codes "deep") at
template_fault view (untemplated.Tree at fault) = template_line view (codes "tree") at
template_fault view (untemplated.Form at fault) = template_line view (codes "form") at
template_fault view untemplated.Memory = []

abbrev pub kind_text : KindName → List ℕ
kind_text kinds.Int = codes "int"
kind_text kinds.Text = codes "text"
kind_text kinds.Bool = codes "bool"
kind_text (kinds.Ref model) = codes "ref " ++ model

abbrev pub wanted_text : Wanted → List ℕ
wanted_text (wanted.One kind) = kind_text kind
wanted_text wanted.Ordered = codes "int or text"
wanted_text wanted.Reference = codes "ref"

abbrev pub cause_text : CheckCause → List ℕ
cause_text (causes.UnknownName name) = codes "unknown name " ++ name
cause_text (causes.TwiceNamed name) = name ++ codes " named twice"
cause_text (causes.WrongKind want have) = codes "wrong kind: want "
    ++ (wanted_text want ++ (codes ", have " ++ kind_text have))
cause_text causes.WriteInGet = codes "write in a get view"
cause_text causes.CreateInLoop = codes "create in a loop"
cause_text (causes.LoopWanted name) = name ++ codes " is created in a loop alone"
cause_text causes.ViewerInPublic = codes "viewer in a public value"
cause_text (causes.NotHere name) = name ++ codes " may not stand here"
cause_text causes.Memory = []

-- The line of a cause and its place.
abbrev pub placed_fault : Place → List ℕ → List ℕ
placed_fault places.Viewer cause = codes "app: viewer: " ++ (cause ++ 10 ∷ [])
placed_fault (places.Model name) cause = codes "app: model "
    ++ (name ++ (codes ": " ++ (cause ++ 10 ∷ [])))
placed_fault (places.View view) cause = codes "app: view "
    ++ (decimal view ++ (codes ": " ++ (cause ++ 10 ∷ [])))

abbrev pub check_fault : CheckFault → List ℕ
check_fault fault = placed_fault fault.place (cause_text fault.cause)

-- The line of a refusal.
abbrev pub refusal_text : Refusal → List ℕ
refusal_text (refusals.Text fault) = text_fault fault
refusal_text (refusals.Form fault) = form_fault_line fault
refusal_text (refusals.Template fault) = template_fault fault.view fault.fault
refusal_text (refusals.Check fault) = check_fault fault
refusal_text (refusals.Clash view) = placed_fault (places.View view) (codes "path clashes")
refusal_text refusals.Memory = []

-- The bytes are refused with this line, and are no application.
pub record IsRefusedBy (bytes line : List ℕ) : Type 0 where
  pub refusal : Refusal
  pub has : HasRefusal bytes refusal
  pub told : line ≡ refusal_text refusal
  pub none : (app : Application) → IsApplication bytes app → ⊥
