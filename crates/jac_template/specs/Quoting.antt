-- Places in a tag's content: outside of quotes, inside them, or after a backslash there.
use Rattle.std.specs.Prelude.{ℕ, ◌+◌, ◌==◌, Bool, false, if◌then◌else◌, Option, List}
use Rattle.std.specs.Option.{option_map}
use Rattle.jac_template.specs.Pieces.{begins_with, content_length, quoted_length, escaped_length}
use Rattle.jac_template.specs.declared.pieces.Quoting.{Quoting}
use Rattle.jac_template.specs.declared.pieces.Quoting.TheVariants as quotings

abbrev pub ends_here : Quoting → ℕ → List ℕ → Bool
ends_here quotings.Outside mark bytes = begins_with mark 125 bytes
ends_here quotings.Quoted mark bytes = false
ends_here quotings.Escaped mark bytes = false

abbrev pub behind_byte : Quoting → ℕ → Quoting
behind_byte quotings.Outside byte = if byte == 34 then quotings.Quoted else quotings.Outside
behind_byte quotings.Quoted byte = if byte == 34 then quotings.Outside else if byte == 92
    then quotings.Escaped else quotings.Quoted
behind_byte quotings.Escaped byte = quotings.Quoted

-- The number of bytes from such a place to the end of the tag.
abbrev pub length_at : Quoting → ℕ → List ℕ → Option ℕ
length_at quotings.Outside mark bytes = content_length mark bytes
length_at quotings.Quoted mark bytes = quoted_length mark bytes
length_at quotings.Escaped mark bytes = escaped_length mark bytes

-- The length, counted from `n` bytes earlier.
abbrev pub further : ℕ → Option ℕ → Option ℕ
further n found = option_map (λ m. m + n) found
