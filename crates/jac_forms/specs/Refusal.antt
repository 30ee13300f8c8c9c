-- What a refusal says.
use Rattle.std.specs.Prelude.{Bool, true, false}
use Rattle.jac_forms.specs.declared.fault.FormFault.{FormFault}
use Rattle.jac_forms.specs.declared.fault.FormFault.TheVariants as faults

-- The fault is a reason to refuse the text. Out of memory isn't.
abbrev pub refuses : FormFault → Bool
refuses faults.Memory = false
refuses fault = true
