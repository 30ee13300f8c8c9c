-- Guards and cells that bytes encode, decoded by the tags alone. The functions are total.
use Rattle.std.specs.Prelude.{◌≡◌, ℕ, zero, suc, ◌+◌, ◌*◌, ◌<◌, ◌^◌, ◌==◌, Bool, ⊤, if◌then◌else◌, List, [], ◌∷◌, length, take, drop, fold, slice_index_or, Some, None}
use Rattle.std.specs.List.{AllByRecursion}
use Rattle.std.specs.Int.{w64, cast_signed}
use Rattle.jac_value.specs.declared.value.Value.{Value}
use Rattle.jac_value.specs.declared.value.Value.TheVariants.{Int, Text, Bool as Truth, Ref}
use Rattle.jac_rows.specs.declared.row.Row.{Row}
use Rattle.jac_row_codec.specs.Spelling.{IsGuard, IsCell, IsNarrow}

-- The number of these bytes, the most significant first.
abbrev pub number_in : List ℕ → ℕ
number_in = fold (λ n b. n * 256 + b) 0

abbrev pub sign_in : ℕ → Bool
sign_in b = b == 1

-- At most this many pairs.
abbrev pub guard_pairs : ℕ → List ℕ → List (ℕ × Bool)
guard_pairs zero bytes = []
guard_pairs (suc n) [] = []
guard_pairs (suc n) (b ∷ bs) =
    (number_in (take 16 (b ∷ bs)), sign_in (slice_index_or (drop 16 (b ∷ bs)) 0 0)) ∷ guard_pairs n
    (drop 17 (b ∷ bs))

abbrev pub guard_in : List ℕ → List (ℕ × Bool)
guard_in bytes = guard_pairs (length bytes) bytes

-- The reference after its tag, and the bytes after it.
abbrev pub ref_in : List ℕ → Value × List ℕ
ref_in [] = (Ref None, [])
ref_in (b ∷ bs) = if b == 1 then (Ref (Some (number_in (take 16 bs))), drop 16 bs)
    else (Ref None, bs)

abbrev pub text_in : ℕ → List ℕ → Value × List ℕ
text_in long bytes = (Text (take long bytes), drop long bytes)

-- The value after its tag, and the bytes after it.
abbrev pub tagged_body : ℕ → List ℕ → Value × List ℕ
tagged_body tag bytes =
    if tag == 1 then (Int (cast_signed w64 (number_in (take 8 bytes))), drop 8 bytes)
    else (if tag == 2 then text_in (number_in (take 8 bytes)) (drop 8 bytes)
    else (if tag == 3 then (Truth (sign_in (slice_index_or bytes 0 0)), drop 1 bytes)
    else ref_in bytes))

-- At most this many cells.
abbrev pub some_cells_in : ℕ → List ℕ → List Value
some_cells_in zero bytes = []
some_cells_in (suc n) [] = []
some_cells_in (suc n) (b ∷ bs) = (tagged_body b bs).0 ∷ some_cells_in n (tagged_body b bs).1

abbrev pub cells_in : List ℕ → List Value
cells_in bytes = some_cells_in (length bytes) bytes

-- The row's bytes can be read back, whatever the kinds of its cells.
pub record IsSpelled (r : Row) : Type 0 where
  pub room : r.id < 2 ^ 128
  pub guard : IsGuard r.guard
  pub cells : AllByRecursion IsCell r.cells
  pub narrow : AllByRecursion IsNarrow r.cells
