-- Where the head of a request ends, and what is read from it (RFC 9112, sections 2 to 5).
use Rattle.std.specs.Prelude.{ℕ, Bool, ◌==◌, ◌&&◌, ◌||◌, not, if◌then◌else◌, Option, Some, None, List, [], ◌∷◌, ◌++◌, map, codes}
use Rattle.std.specs.List.{list_any, ends_with}
use Rattle.httparse.specs.Grammar.{RequestHead}
use Rattle.httparse.specs.Spans.{name_and_value}

-- Neither CR nor LF.
abbrev pub is_written : ℕ → Bool
is_written b = not (b == 13 || b == 10)

-- The bytes end with LF LF or LF CR LF, and one of them is neither CR nor LF.
abbrev pub ends_blank : List ℕ → Bool
ends_blank front = list_any is_written front && (ends_with ◌==◌ front (codes "\n\n") || ends_with
    ◌==◌ front (codes "\n\r\n"))

-- The shortest prefix of `front ++ rest` that is longer than `front` and ends with a blank line.
abbrev pub head_from : List ℕ → List ℕ → Option (List ℕ)
head_from front [] = None
head_from front (b ∷ rest) = if ends_blank (front ++ b ∷ []) then Some (front ++ b ∷ [])
    else head_from (front ++ b ∷ []) rest

-- The bytes up to and including their first blank line.
abbrev pub head_in : List ℕ → Option (List ℕ)
head_in bytes = head_from [] bytes

-- What is read from a head. Headers are pairs of a name and a value.
pub record HeadParts : Type 0 where
  pub method : List ℕ
  pub target : List ℕ
  pub minor : ℕ
  pub headers : List (List ℕ × List ℕ)

abbrev pub parts_of : RequestHead → HeadParts
parts_of head = record {
  method = head.method;
  target = head.target;
  minor = head.minor;
  headers = map name_and_value head.fields;
}
