-- Which byte strings are names.
use Rattle.std.specs.Prelude.{ℕ, ◌==◌, ◌&&◌, ◌||◌, not, Bool, nat_le, List, length, slice_index, codes}
use Rattle.std.specs.Char.{is_ascii_alphabetic, is_ascii_alphanumeric}
use Rattle.std.specs.List.{list_all}
use Rattle.std.specs.Str.{bytes_eq}

-- An ASCII letter or digit, `_` or `-`.
abbrev pub is_atom_byte : ℕ → Bool
is_atom_byte b = is_ascii_alphanumeric b || b == 95 || b == 45

-- The reserved words.
abbrev pub is_reserved : List ℕ → Bool
is_reserved a = bytes_eq a (codes "this") || bytes_eq a (codes "viewer") || bytes_eq a
    (codes "true") || bytes_eq a (codes "false")

-- A name has up to 64 bytes, each a letter, a digit, `_` or `-`. It begins with a letter and is no
-- reserved word.
abbrev pub is_name : List ℕ → Bool
is_name a = nat_le (length a) 64 && is_ascii_alphabetic (slice_index a 0) && not (is_reserved a) &&
    list_all is_atom_byte a
