-- The bound `Outside` requires nothing of its members. So what is proved of a function over `O:
-- Outside` is true of the code at `Unknown`, for any files and any inputs.
use Rattle.std.proofs.Common.{ℕ, List, Option}
use seplogic.Ra.Ura.{Ura}
use mir.Syntax.{Dict}
use prog.Model.{Model}
use types.Logic.{Logic}
use contract.Running.{Running}
use denote.RattleType.{RattleType}
use Rattle.jac_host.specs.contracts.outside.Outside.TheBound.{Met}

pub any_outside : {M : Type 1} {𝓤 : Ura M} (𝓛 : Logic 𝓤) (𝓜 : Model 𝓤 𝓛.H) (𝓡 : Running 𝓤 𝓛.H 𝓜) (O : RattleType)
    (methods : Dict) (file : List ℕ → Option (List ℕ)) (inputs : List (List ℕ))
    → Met 𝓛 𝓜 𝓡 𝓡.env O (record { file = file; inputs = inputs }) methods
any_outside 𝓛 𝓜 𝓡 O methods file inputs = record {}
