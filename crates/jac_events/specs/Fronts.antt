-- How a quoted text is read from its front: a byte, the end, or a fault.
use Rattle.std.specs.Prelude.{ℕ, ◌<◌, ◌++◌, Option, Some, None, List, [], length}
use Rattle.std.specs.Option.{option_map}
use Rattle.jac_events.specs.Words.{with_byte, read_quoted}
use Rattle.jac_events.specs.declared.quoted.Front.{Front}
use Rattle.jac_events.specs.declared.quoted.Front.TheVariants.{Byte, End, Bad}

-- What is read from a text that begins with this.
abbrev pub front_read : Front → Option (List ℕ × List ℕ)
front_read (Byte b rest) = with_byte b (read_quoted rest.now)
front_read (End rest) = Some ([], rest.now)
front_read Bad = None

-- What follows it is shorter than n.
abbrev pub IsShorter : Front → ℕ → Type 0
IsShorter (Byte b rest) n = length rest.now < n
IsShorter (End rest) n = length rest.now < n
IsShorter Bad n = Unit {0}

-- Content that was read already, followed by what is read from the rest.
abbrev pub with_front : List ℕ → Option (List ℕ × List ℕ) → Option (List ℕ × List ℕ)
with_front before read = option_map (λ p. (before ++ p.0, p.1)) read
