-- Which faults a template can have.
use Rattle.std.specs.Prelude.{◌≡◌, ℕ, Bool, true, false}
use Rattle.jac_forms.specs.declared.fault.FormFault.{FormFault}
use Rattle.jac_forms.specs.declared.fault.FormFault.TheVariants as forms
use Rattle.jac_forms.specs.Reads.{Read, refused}
use Rattle.jac_tree.specs.declared.fault.TreeFault.{TreeFault}
use Rattle.jac_tree.specs.declared.fault.TreeFault.TheVariants as trees
use Rattle.jac_template.specs.declared.fault.TemplateFault.{TemplateFault}
use Rattle.jac_template.specs.declared.fault.TemplateFault.TheVariants as faults

-- A fault, with the place of the first byte of its tag. Out of memory is no fault of the text.
pub data Fault : Type 0 where
  unclosed : ℕ → Fault
  stray : ℕ → Fault
  deep : ℕ → Fault
  tree : ℕ → TreeFault → Fault
  form : ℕ → FormFault → Fault
  memory : Fault

abbrev pub tree_fault : ℕ → TreeFault → Fault
tree_fault place trees.Memory = Fault.memory
tree_fault place fault = Fault.tree place fault

abbrev pub form_fault : ℕ → FormFault → Fault
form_fault place forms.Memory = Fault.memory
form_fault place fault = Fault.form place fault

-- The expression or query can't be read. The fault is at this place, and has the first fault of
-- reading it.
pub record IsFormless {A : Type 0} (place : ℕ) (read : Read A) (fault : Fault) : Type 0 where
  pub first : FormFault
  pub is_first : read ≡ refused first
  pub told : fault ≡ Fault.form place first

abbrev pub fault_in_template : TemplateFault → Fault
fault_in_template (faults.Unclosed place) = Fault.unclosed place
fault_in_template (faults.Stray place) = Fault.stray place
fault_in_template (faults.Deep place) = Fault.deep place
fault_in_template (faults.Tree place fault) = tree_fault place fault
fault_in_template (faults.Form place fault) = form_fault place fault
fault_in_template faults.Memory = Fault.memory

-- The fault is a reason to refuse the text. Out of memory isn't.
abbrev pub refuses_template : TemplateFault → Bool
refuses_template faults.Memory = false
refuses_template fault = true
