-- How a word or a quoted text is read from the start of a line's rest.
use Rattle.std.specs.Prelude.{ℕ, ◌+◌, ◌-◌, ◌*◌, ◌==◌, ◌&&◌, nat_le, if◌then◌else◌, Option, Some, None, List, [], ◌∷◌, take, drop, position}
use Rattle.std.specs.Option.{option_map, option_and_then}

-- The word before the first space, and what follows that space.
abbrev pub word_at : List ℕ → Option (List ℕ × List ℕ)
word_at bytes = option_map (λ i. (take i bytes, drop (i + 1) bytes)) (position (λ b. b == 32) bytes)

-- What follows this byte, if it comes first.
abbrev pub after_byte : ℕ → List ℕ → Option (List ℕ)
after_byte b [] = None
after_byte b (c ∷ bytes) = if c == b then Some bytes else None

-- The value of a digit of base 16, in either case.
abbrev pub hex_value : ℕ → Option ℕ
hex_value c =
    if nat_le 48 c && nat_le c 57 then Some (c - 48) else
    if nat_le 65 c && nat_le c 70 then Some (c - 55) else
    if nat_le 97 c && nat_le c 102 then Some (c - 87) else
    None

-- A byte of the content, followed by what is read from the rest.
abbrev pub with_byte : ℕ → Option (List ℕ × List ℕ) → Option (List ℕ × List ℕ)
with_byte b read = option_map (λ p. (b ∷ p.0, p.1)) read

abbrev mutual
  -- The content up to the closing quote, and what follows that quote.
  pub read_quoted : List ℕ → Option (List ℕ × List ℕ)
  read_quoted [] = None
  read_quoted (c ∷ bytes) =
      if c == 34 then Some ([], bytes) else
      if c == 92 then read_escape bytes else
      if c == 10 then None else
      with_byte c (read_quoted bytes)

  -- The same after a backslash: `\n`, `\r`, `\\`, `\"` and `\xHH`.
  pub read_escape : List ℕ → Option (List ℕ × List ℕ)
  read_escape [] = None
  read_escape (c ∷ bytes) =
      if c == 110 then with_byte 10 (read_quoted bytes) else
      if c == 114 then with_byte 13 (read_quoted bytes) else
      if c == 92 then with_byte 92 (read_quoted bytes) else
      if c == 34 then with_byte 34 (read_quoted bytes) else
      if c == 120 then read_hex bytes else
      None

  -- The same after `\x`.
  pub read_hex : List ℕ → Option (List ℕ × List ℕ)
  read_hex [] = None
  read_hex (h ∷ []) = None
  read_hex (h ∷ (l ∷ bytes)) =
      option_and_then (λ high. option_and_then (λ low. with_byte (16 * high + low)
      (read_quoted bytes))
      (hex_value l)) (hex_value h)

-- The content of a quoted text at the front, and what follows it.
abbrev pub quoted_at : List ℕ → Option (List ℕ × List ℕ)
quoted_at bytes = option_and_then read_quoted (after_byte 34 bytes)
