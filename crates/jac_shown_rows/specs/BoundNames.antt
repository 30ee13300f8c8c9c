-- The value of a name that may not be bound.
use Rattle.std.specs.Prelude.{pos, Option, Some, None}
use Rattle.jac_value.specs.declared.value.Value.{Value}
use Rattle.jac_value.specs.declared.value.Value.TheVariants as value

-- The value of a binding, or 0 if there is none.
abbrev pub bound_or_zero : Option Value → Value
bound_or_zero None = value.Int (pos 0)
bound_or_zero (Some v) = v
