-- Which bytes are the path of a view, what its segments are, and which names are in it.
use Rattle.std.specs.Prelude.{ℕ, ◌-◌, ◌==◌, ◌&&◌, ◌||◌, not, Bool, true, false, nat_le, nat_lt, if◌then◌else◌, Option, Some, None, List, [], ◌∷◌, length, drop, slice_index, slice_range}
use Rattle.std.specs.Char.{is_ascii_alphanumeric}
use Rattle.std.specs.List.{list_all, slice_split}
use Rattle.jac_value.specs.Names.{is_name}

abbrev pub is_nil : List ℕ → Bool
is_nil [] = true
is_nil (b ∷ bs) = false

-- A letter, a digit, `-`, `_`, `.` or `~`: an unreserved character (RFC 3986, section 2.3).
abbrev pub is_unreserved : ℕ → Bool
is_unreserved c = is_ascii_alphanumeric c || c == 45 || c == 95 || c == 46 || c == 126

abbrev pub is_fixed_segment : List ℕ → Bool
is_fixed_segment part = not (is_nil part) && list_all is_unreserved part

-- The bytes are in braces.
abbrev pub is_braced : List ℕ → Bool
is_braced part = nat_le 2 (length part) && slice_index part 0 == 123 && slice_index part
    (length part - 1) == 125

-- The bytes without the first and the last.
abbrev pub inner : List ℕ → List ℕ
inner part = slice_range part 1 (length part - 1)

-- `{NAME}`.
abbrev pub is_named_segment : List ℕ → Bool
is_named_segment part = is_braced part && is_name (inner part)

abbrev pub is_segment : List ℕ → Bool
is_segment part = is_fixed_segment part || is_named_segment part

-- The name in the segment, if it has one.
abbrev pub segment_name : List ℕ → Option (List ℕ)
segment_name part = if is_named_segment part then Some (inner part) else None

-- The parts of a path between its slashes. The path `/` has none.
abbrev pub segments : List ℕ → List (List ℕ)
segments path = if nat_lt 1 (length path) then slice_split (λ b. b == 47) (drop 1 path) else []

-- The names in the segments, in their order.
abbrev pub names_in : List (List ℕ) → List (List ℕ)
names_in [] = []
names_in (part ∷ parts) = if is_named_segment part then inner part ∷ names_in parts
    else names_in parts

-- `/` alone, or one or more segments, each after a `/`.
abbrev pub is_path : List ℕ → Bool
is_path path = slice_index path 0 == 47 && list_all is_segment (segments path)
