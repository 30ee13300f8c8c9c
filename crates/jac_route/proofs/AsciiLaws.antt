-- Words of ASCII classes are ASCII, so they are UTF-8.
use Rattle.std.proofs.Common.{◌≡◌, ℕ, ◌<◌, true, List, arith}
use Rattle.std.specs.List.{list_all}
use Rattle.std.specs.Str.{IsUtf8}
use Rattle.std.proofs.lemmas.Bool.Decides.{nat_tests}
use Rattle.std.proofs.lemmas.Str.{IsUtf8-from_ascii}
use Rattle.jac_value.specs.Names.{is_atom_byte}
use Rattle.jac_value.proofs.Ascii.{ascii_at}

small_atom_byte : (c : ℕ) → is_atom_byte c ≡ true → c < 128
small_atom_byte c h = grind (arith, nat_tests)

pub utf8_atom : (bytes : List ℕ) → list_all is_atom_byte bytes ≡ true → IsUtf8 bytes
utf8_atom bytes h = IsUtf8-from_ascii bytes (ascii_at is_atom_byte small_atom_byte bytes h)
