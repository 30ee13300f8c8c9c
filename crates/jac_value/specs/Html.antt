-- How a text is escaped for HTML.
use Rattle.std.specs.Prelude.{ℕ, ◌==◌, if◌then◌else◌, List, [], ◌∷◌, codes}
use Rattle.std.specs.List.{flat_map}

-- The five characters with a meaning in HTML are escaped. Every other byte stays as it is.
abbrev pub html_byte : ℕ → List ℕ
html_byte b =
    if b == 38 then codes "&amp;" else
    if b == 60 then codes "&lt;" else
    if b == 62 then codes "&gt;" else
    if b == 34 then codes "&quot;" else
    if b == 39 then codes "&#39;" else
    b ∷ []

abbrev pub html : List ℕ → List ℕ
html bytes = flat_map html_byte bytes
