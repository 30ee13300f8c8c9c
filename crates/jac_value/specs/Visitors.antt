-- How a viewer is written in lines and cookies: as a session's token, or as a number.
use Rattle.std.specs.Prelude.{ℕ, ◌^◌, ◌&&◌, nat_le, nat_lt, Bool, if◌then◌else◌, Option, Some, None, List, length, codes}
use Rattle.std.specs.Option.{option_map}
use Rattle.std.specs.List.{list_all}
use Rattle.std.specs.Char.{is_ascii_digit}
use Rattle.std.specs.Str.{bytes_eq}
use Rattle.std.specs.Str.Parse.{digits_value}
use Rattle.jac_value.specs.Names.{is_atom_byte}

-- 1 to 128 ASCII letters, digits, `-` and `_`.
abbrev pub is_session_token : List ℕ → Bool
is_session_token word = nat_lt 0 (length word) && nat_le (length word) 128
    && list_all is_atom_byte word

-- The number that 1 to `most` decimal digits write, if it is below the limit.
abbrev pub number_below : ℕ → ℕ → List ℕ → Option ℕ
number_below most limit word =
    if nat_lt 0 (length word) && nat_le (length word) most && list_all is_ascii_digit word && nat_lt
    (digits_value 10 word) limit
    then Some (digits_value 10 word) else None

-- A viewer's number, or `-` for nobody.
abbrev pub viewer_read : List ℕ → Option (Option ℕ)
viewer_read word = if bytes_eq word (codes "-") then Some None
    else option_map (λ n. Some n) (number_below 39 (2 ^ 128) word)
