-- The pairs of names and values in a query string or a form's body.
use Rattle.std.specs.Prelude.{ℕ, List, [], ◌∷◌, if◌then◌else◌, Option, Some, None, map}
use Rattle.std.specs.Str.{bytes_eq}
use Rattle.std.specs.Str.Lossy.{utf8_lossy}
use Rattle.form_urlencoded.specs.Form.{raw_pairs, decode}
use Rattle.jac_route.specs.declared.pairs.Pair.{Pair}

-- The text of an encoded name or value; what isn't UTF-8 becomes U+FFFD.
abbrev pub text_of : List ℕ → List ℕ
text_of bytes = utf8_lossy (decode bytes)

abbrev pub pair_of : List ℕ × List ℕ → Pair
pair_of p = record { name = text_of p.0; value = text_of p.1 }

-- The pairs that the bytes encode, in order (URL Standard, section 5.1).
abbrev pub pairs_in : List ℕ → List Pair
pairs_in bytes = map pair_of (raw_pairs bytes)

-- The value of the first pair of this name.
abbrev pub value_of_name : List ℕ → List Pair → Option (List ℕ)
value_of_name name [] = None
value_of_name name (p ∷ ps) = if bytes_eq p.name name then Some p.value else value_of_name name ps
