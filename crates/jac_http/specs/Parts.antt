-- What the target and the headers of a request mean (RFC 9112, sections 3 and 6; RFC 6265, section
-- 4.2).
use Rattle.std.specs.Prelude.{ℕ, Bool, false, ◌==◌, ◌&&◌, ◌||◌, not, nat_lt, if◌then◌else◌, Option, Some, None, List, [], ◌∷◌, reverse, length, take, drop, position, codes, ◌+◌}
use Rattle.std.specs.Char.{is_ascii_digit}
use Rattle.std.specs.List.{list_any, list_all, starts_with, slice_split, before_first, after_first, position_or_len}
use Rattle.std.specs.Option.{option_and_then, option_or}
use Rattle.std.specs.Str.{bytes_eq, str_eq_ignore_ascii_case}
use Rattle.std.specs.Str.Parse.{digits_value}
use Rattle.jac_value.specs.Visitors.{is_session_token}

-- The values of the headers with this name, in order. Names are compared without case.
abbrev pub values_of : List ℕ → List (List ℕ × List ℕ) → List (List ℕ)
values_of name [] = []
values_of name (header ∷ headers) =
    if str_eq_ignore_ascii_case header.0 name then header.1 ∷ values_of name headers
    else values_of name headers

-- A space or a tab.
abbrev pub is_blank : ℕ → Bool
is_blank b = b == 32 || b == 9

abbrev pub without_blanks : List ℕ → List ℕ
without_blanks [] = []
without_blanks (b ∷ bytes) = if is_blank b then without_blanks bytes else b ∷ bytes

-- Without the blanks at both ends.
unfoldable pub stripped_of_blanks : List ℕ → List ℕ
stripped_of_blanks bytes = reverse (without_blanks (reverse (without_blanks bytes)))

-- The first value that the function finds.
abbrev pub first_some : (List ℕ → Option (List ℕ)) → List (List ℕ) → Option (List ℕ)
first_some f [] = None
first_some f (x ∷ xs) = option_or (f x) (first_some f xs)

-- One or more digits.
abbrev pub is_number : List ℕ → Bool
is_number value = nat_lt 0 (length value) && list_all is_ascii_digit value

-- The length in the Content-Length headers: 0 if there is no such header, and none if there are two
-- or more, or if the value of the only one isn't a number.
abbrev pub stated_length : List (List ℕ) → Option ℕ
stated_length [] = Some 0
stated_length (value ∷ []) = if is_number value then Some (digits_value 10 value) else None
stated_length (value ∷ second ∷ more) = None

-- The media type, without its parameters, isn't that of a form.
abbrev pub is_no_form : List ℕ → Bool
is_no_form value = not (str_eq_ignore_ascii_case (stripped_of_blanks (before_first
    (λ b. b == 59) value))
    (codes "application/x-www-form-urlencoded"))

-- The first Content-Type isn't that of a form.
abbrev pub has_no_form : List (List ℕ) → Bool
has_no_form [] = false
has_no_form (value ∷ more) = is_no_form value

-- An item of the comma-separated list is `close`.
abbrev pub is_closing : List ℕ → Bool
is_closing value = list_any (λ item. str_eq_ignore_ascii_case (stripped_of_blanks item)
    (codes "close"))
    (slice_split (λ b. b == 44) value)

-- A path, or an address that begins with http://.
abbrev pub is_target : List ℕ → Bool
is_target target = starts_with ◌==◌ target (codes "/") || str_eq_ignore_ascii_case (take 7 target)
    (codes "http://")

-- `/` or `?`.
abbrev pub ends_authority : ℕ → Bool
ends_authority b = b == 47 || b == 63

-- The target from its path on.
abbrev pub behind_authority : List ℕ → List ℕ
behind_authority target =
    if starts_with ◌==◌ target (codes "/") then target
    else drop (position_or_len ends_authority (drop 7 target)) (drop 7 target)

abbrev pub path_or_root : List ℕ → List ℕ
path_or_root [] = codes "/"
path_or_root (b ∷ bytes) = b ∷ bytes

abbrev pub path_of_target : List ℕ → List ℕ
path_of_target target = path_or_root (before_first (λ b. b == 63) (behind_authority target))

abbrev pub query_of : List ℕ → List ℕ
query_of target = after_first (λ b. b == 63) (behind_authority target)

-- The value of a pair `session=VALUE`, split at its first `=`.
abbrev pub session_value : List ℕ → Option (List ℕ)
session_value piece =
    option_and_then (λ at. if bytes_eq (take at piece) (codes "session")
    then Some (drop (at + 1) piece) else None) (position (λ b. b == 61) piece)

-- The value of the first pair `session=VALUE` of a Cookie header.
abbrev pub session_in : List ℕ → Option (List ℕ)
session_in value = first_some (λ piece. session_value (stripped_of_blanks piece)) (slice_split
    (λ b. b == 59)
    value)

-- The token of the Cookie headers: their first `session` value, if it has the form of a token.
abbrev pub token_of : List (List ℕ) → Option (List ℕ)
token_of cookies = option_and_then (λ value. if is_session_token value then Some value else None)
    (first_some session_in cookies)
