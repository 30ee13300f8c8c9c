-- The values that a path gives to the names in a pattern.
use Rattle.std.specs.Prelude.{ℕ, List, [], ◌∷◌, ◌++◌, Option, Some, None}
use Rattle.std.specs.Str.Lossy.{utf8_lossy}
use Rattle.percent_encoding.specs.Percent.{percent_decode}
use Rattle.jac_value.specs.Paths.{segments, segment_name}
use Rattle.jac_route.specs.declared.pairs.Pair.{Pair}

-- The text of a part of a path. Percent escapes are decoded, and what isn't UTF-8 becomes U+FFFD.
abbrev pub part_text : List ℕ → List ℕ
part_text part = utf8_lossy (percent_decode part)

-- A segment `{NAME}` takes the part as the value of NAME. A fixed one takes nothing.
abbrev pub pair_at : Option (List ℕ) → List ℕ → List Pair
pair_at None part = []
pair_at (Some name) part = record { name = name; value = part_text part } ∷ []

-- The pairs of the segments of a pattern and the parts of a path.
abbrev pub pairs_at : List (List ℕ) → List (List ℕ) → List Pair
pairs_at [] parts = []
pairs_at (segment ∷ segments) [] = []
pairs_at (segment ∷ segments) (part ∷ parts) = pair_at (segment_name segment) part ++ pairs_at
    segments parts

-- The pairs of a path that fits the pattern. A path is cut at its slashes before it is decoded.
abbrev pub path_pairs : List ℕ → List ℕ → List Pair
path_pairs pattern path = pairs_at (segments pattern) (segments path)
