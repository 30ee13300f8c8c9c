use Rattle.std.proofs.Common.{◌≡◌, ◌++◌, drop}
use Rattle.std.specs.String.{string_bytes}
use Rattle.jac_app_load.specs.Refusal.{path_text, more_steps}
use Rattle.jac_app_load.proofs.refusal.path_text.Given as goal

-- The steps so far, followed by those of the rest, are the result.
abbrev pub invariant-steps : goal.invariant-steps
invariant-steps l = string_bytes l.text ++ more_steps (drop l.step-index l.rest) ≡ path_text l.path
