-- The statuses with which a connection's bytes are refused.
use Rattle.std.specs.Prelude.{◌≡◌, ℕ, ◌<◌, ◌≤◌, ◌==◌, ◌||◌, Bool, true, List, length}
use Rattle.jac_http.specs.declared.taken.Taken.{Taken}
use Rattle.jac_http.specs.declared.taken.Taken.TheVariants.{More, Whole, Refused}
use Rattle.jac_hub.specs.declared.handler.Heard.{Heard}
use Rattle.jac_hub.specs.declared.handler.Heard.TheVariants.{Whole as HeardWhole, Refused as HeardRefused}

-- The statuses of refusals.
abbrev pub is_refusal : ℕ → Bool
is_refusal status = status == 400 || status == 413 || status == 415 || status == 431 || status ==
    501

-- A refusal has one of these statuses.
abbrev pub MayBeHeard : Heard → Type 0
MayBeHeard (HeardWhole request) = Unit {0}
MayBeHeard (HeardRefused status) = is_refusal status ≡ true

-- A request uses at least one of the bytes, and a refusal has one of the statuses.
abbrev pub IsSoundAnswer : List ℕ → Taken → Type 0
IsSoundAnswer bytes More = Unit {0}
IsSoundAnswer bytes (Whole request used) = (0 < used) × (used ≤ length bytes)
IsSoundAnswer bytes (Refused status) = is_refusal status ≡ true
