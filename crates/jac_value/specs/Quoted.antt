-- How bytes are quoted on a line of output.
use Rattle.std.specs.Prelude.{ℕ, ◌+◌, ◌/◌, ◌%◌, ◌==◌, ◌&&◌, nat_lt, nat_le, if◌then◌else◌, List, [], ◌∷◌, ◌++◌, codes}

-- A digit of base 16, in lower case.
abbrev pub hex_digit : ℕ → ℕ
hex_digit n = if nat_lt n 10 then 48 + n else 87 + n

-- `\xHH`.
abbrev pub hex_escape : ℕ → List ℕ
hex_escape b = codes "\\x" ++ hex_digit (b / 16) ∷ (hex_digit (b % 16) ∷ [])

-- LF, CR, backslash and quote have short escapes. Any other byte is `\xHH`, unless it is a space or
-- visible ASCII.
abbrev pub escaped_byte : ℕ → List ℕ
escaped_byte b =
    if b == 10 then codes "\\n" else
    if b == 13 then codes "\\r" else
    if b == 92 then codes "\\\\" else
    if b == 34 then codes "\\\"" else
    if nat_le 32 b && nat_le b 126 then b ∷ [] else
    hex_escape b

-- The escaped bytes, one after another.
abbrev pub all_escaped : List ℕ → List ℕ
all_escaped [] = []
all_escaped (b ∷ bs) = escaped_byte b ++ all_escaped bs

-- The bytes in quotes.
abbrev pub quoted_bytes : List ℕ → List ℕ
quoted_bytes bytes = codes "\"" ++ all_escaped bytes ++ codes "\""
