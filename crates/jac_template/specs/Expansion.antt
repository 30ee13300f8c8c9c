-- The statements that the text of a template expands to.
use Rattle.std.specs.Prelude.{ℕ, List, []}
use Rattle.jac_lang.specs.Syntax.{Statements}
use Rattle.jac_template.specs.Faults.{Fault}
use Rattle.jac_template.specs.Grammar.{BodyAt, FirstFault}
use Rattle.jac_template.specs.Pieces.{pieces}

-- The statements of a template, or its first fault.
pub data Expansion : Type 0 where
  statements : Statements → Expansion
  fault : Fault → Expansion

abbrev pub Expands : List ℕ → Expansion → Type 0
Expands text (Expansion.statements ss) = BodyAt ss 0 (pieces text) []
Expands text (Expansion.fault f) = FirstFault [] (pieces text) f
