-- Reading the bytes of guards and cells gives the same guards and cells.
use Rattle.std.proofs.Common.{◌≡◌, refl, sym, ap, ap₂, subst, ◌∙◌, ℕ, zero, suc, ℤ, ◌+◌, ◌*◌, ◌/◌, ◌%◌, ◌^◌, ◌<◌, ◌≤◌, ◌==◌, Bool, true, false, List, [], ◌∷◌, ◌++◌, length, take, drop, fold, append_assoc, append-nil, length-append, Some, None, arith}
use Rattle.std.specs.List.{AllByRecursion}
use Rattle.std.proofs.Math.Nat.{pow-suc, div-div-eq-div-mul, div-one, div-eq_of_lt}
use Rattle.std.proofs.Math.Facts.{Fits-of_z}
use Rattle.std.proofs.lemmas.Nat.{div-add-mod'}
use Rattle.std.proofs.lemmas.Int.{to_z-of_z}
use Rattle.std.proofs.Common.{SFits}
use Rattle.std.specs.Int.{w64, w128, byte_at, bytes_high_first, cast_signed, cast_unsigned}
use Rattle.jac_value.specs.declared.value.Value.{Value}
use Rattle.jac_value.specs.declared.value.Value.TheVariants as values
use Rattle.jac_rows.specs.declared.row.Row.{Row}
use Rattle.jac_row_codec.specs.Spelling.{sign_byte, guard_bytes, cell_bytes, cells_bytes, IsLabel, IsCell, IsGuard, IsNarrow}
use Rattle.jac_sql_spec.proofs.IdOrder.{front_is}
use Rattle.jac_sql_spec.specs.Spelled.{number_in, sign_in, guard_pairs, guard_in, ref_in, text_in, tagged_body, some_cells_in, cells_in}

read_on : (k n v : ℕ) → n / 256 ^ k ≡ v → fold (λ m b. m * 256 + b) v (bytes_high_first k n) ≡ n
read_on zero n v read = sym read ∙ div-one n
read_on (suc k) n v read = read_on k n (v * 256 + byte_at k n) (front_is k n ∙ ap (λ x. x * 256 + byte_at k n) read)

pub number_again : (k n : ℕ) → n < 256 ^ k → number_in (bytes_high_first k n) ≡ n
number_again k n room = read_on k n 0 (div-eq_of_lt room)

long_bytes : (k n : ℕ) → length (bytes_high_first k n) ≡ k
long_bytes zero n = refl
long_bytes (suc k) n = ap suc (long_bytes k n)

take_front : {X : Type 0} (xs ys : List X) → take (length xs) (xs ++ ys) ≡ xs
take_front [] ys = refl
take_front (x ∷ xs) ys = ap (λ l. x ∷ l) (take_front xs ys)

drop_front : {X : Type 0} (xs ys : List X) → drop (length xs) (xs ++ ys) ≡ ys
drop_front [] ys = refl
drop_front (x ∷ xs) ys = drop_front xs ys

bytes_taken : (k n : ℕ) (rest : List ℕ) → take k (bytes_high_first k n ++ rest) ≡ bytes_high_first k n
bytes_taken k n rest = subst (λ j. take j (bytes_high_first k n ++ rest) ≡ bytes_high_first k n) (long_bytes k n) (take_front (bytes_high_first k n) rest)

bytes_dropped : (k n : ℕ) (rest : List ℕ) → drop k (bytes_high_first k n ++ rest) ≡ rest
bytes_dropped k n rest = subst (λ j. drop j (bytes_high_first k n ++ rest) ≡ rest) (long_bytes k n) (drop_front (bytes_high_first k n) rest)

number_front : (k n : ℕ) (rest : List ℕ) → n < 256 ^ k → number_in (take k (bytes_high_first k n ++ rest)) ≡ n
number_front k n rest room = ap number_in (bytes_taken k n rest) ∙ number_again k n room

sign_again : (b : Bool) → sign_in (sign_byte b) ≡ b
sign_again true = refl
sign_again false = refl

-- ---- guards

pair_front : (n m : ℕ) (b : Bool) (rest : List ℕ) → m < 2 ^ 128 → guard_pairs (suc n) (bytes_high_first 16 m ++ (sign_byte b ∷ rest)) ≡ (m, b) ∷ guard_pairs n rest
pair_front n m b rest room =
    let bytes = bytes_high_first 16 m in
    let whole = bytes ++ (sign_byte b ∷ rest) in
    let number : number_in (take 16 whole) ≡ m = number_front 16 m (sign_byte b ∷ rest) (omega (arith, room)) in
    let behind : drop 16 whole ≡ sign_byte b ∷ rest = bytes_dropped 16 m (sign_byte b ∷ rest) in
    let sign : sign_in (Rattle.std.specs.Prelude.slice_index_or (drop 16 whole) 0 0) ≡ b = ap (λ l. sign_in (Rattle.std.specs.Prelude.slice_index_or l 0 0)) behind ∙ sign_again b in
    let last : drop 17 whole ≡ rest = ap (λ l. drop 1 l) behind in
    ap₂ ◌∷◌ (λ i. (number i, sign i)) (ap (guard_pairs n) last)

pairs_again : (n : ℕ) (g : List (ℕ × Bool)) → length g ≤ n → AllByRecursion IsLabel g → guard_pairs n (guard_bytes g) ≡ g
pairs_again zero [] long labels = refl
pairs_again (suc n) [] long labels = refl
pairs_again zero (p ∷ g) long labels = absurd (let e : length (p ∷ g) ≡ suc (length g) = refl in omega (arith, long, e))
pairs_again (suc n) (p ∷ g) long labels =
    let e : length (p ∷ g) ≡ suc (length g) = refl in
    pair_front n p.0 p.1 (guard_bytes g) labels.0 ∙ ap (λ l. p ∷ l) (pairs_again n g (omega (arith, long, e)) labels.1)

long_guard : (g : List (ℕ × Bool)) → length g ≤ length (guard_bytes g)
long_guard [] = omega arith
long_guard (p ∷ g) =
    let e : length (p ∷ g) ≡ suc (length g) = refl in
    let f = length-append (bytes_high_first 16 p.0) (sign_byte p.1 ∷ guard_bytes g) in
    let h : length (sign_byte p.1 ∷ guard_bytes g) ≡ suc (length (guard_bytes g)) = refl in
    let more = long_guard g in
    omega (arith, e, f, h, more)

pub guard_again : (g : List (ℕ × Bool)) → IsGuard g → guard_in (guard_bytes g) ≡ g
guard_again g is = pairs_again (length (guard_bytes g)) g (long_guard g) is.labels

-- ---- cells

abbrev at_front : List ℕ → Value × List ℕ
at_front [] = (values.Ref None, [])
at_front (b ∷ bs) = tagged_body b bs

text_front : (t rest : List ℕ) → text_in (length t) (t ++ rest) ≡ (values.Text t, rest)
text_front t rest = λ i. (values.Text (take_front t rest i), drop_front t rest i)

cell_again : (v : Value) (rest : List ℕ) → IsCell v → IsNarrow v → at_front (cell_bytes v ++ rest) ≡ (v, rest)
cell_again (values.Int i) rest is narrow =
    let room = (Fits-of_z {w = w64} {z = i} is).fits in
    let n = cast_unsigned w64 i in
    let number : number_in (take 8 (bytes_high_first 8 n ++ rest)) ≡ n = number_front 8 n rest (omega (arith, room)) in
    let value : cast_signed w64 (number_in (take 8 (bytes_high_first 8 n ++ rest))) ≡ i = ap (cast_signed w64) number ∙ to_z-of_z w64 i is in
    λ j. (values.Int (value j), bytes_dropped 8 n rest j)
cell_again (values.Text t) rest is narrow =
    let n = length t in
    let grouped : (bytes_high_first 8 n ++ t) ++ rest ≡ bytes_high_first 8 n ++ (t ++ rest) = append_assoc (bytes_high_first 8 n) t rest in
    let number : number_in (take 8 (bytes_high_first 8 n ++ (t ++ rest))) ≡ n = number_front 8 n (t ++ rest) (let room = is.1 in omega (arith, room)) in
    ap (tagged_body 2) grouped ∙ ap₂ text_in number (bytes_dropped 8 n (t ++ rest)) ∙ text_front t rest
cell_again (values.Bool b) rest is narrow = λ j. (values.Bool (sign_again b j), rest)
cell_again (values.Ref None) rest is narrow = refl
cell_again (values.Ref (Some id)) rest is narrow =
    let number : number_in (take 16 (bytes_high_first 16 id ++ rest)) ≡ id = number_front 16 id rest (omega (arith, narrow)) in
    λ j. (values.Ref (Some (number j)), bytes_dropped 16 id rest j)

-- The bytes of a cell aren't empty.
some_bytes : (v : Value) (rest : List ℕ) → 0 < length (cell_bytes v ++ rest)
some_bytes (values.Int i) rest = one_at_least 1 (bytes_high_first 8 (cast_unsigned w64 i) ++ rest)
  where
    one_at_least : (b : ℕ) (bs : List ℕ) → 0 < length (b ∷ bs)
    one_at_least b bs = let e : length (b ∷ bs) ≡ suc (length bs) = refl in omega (arith, e)
some_bytes (values.Text t) rest = let e : length (2 ∷ ((bytes_high_first 8 (length t) ++ t) ++ rest)) ≡ suc (length ((bytes_high_first 8 (length t) ++ t) ++ rest)) = refl in omega (arith, e)
some_bytes (values.Bool b) rest = let e : length (3 ∷ (sign_byte b ∷ rest)) ≡ suc (length (sign_byte b ∷ rest)) = refl in omega (arith, e)
some_bytes (values.Ref None) rest = let e : length (4 ∷ (0 ∷ rest)) ≡ suc (length (0 ∷ rest)) = refl in omega (arith, e)
some_bytes (values.Ref (Some id)) rest = let e : length (4 ∷ (1 ∷ (bytes_high_first 16 id ++ rest))) ≡ suc (length (1 ∷ (bytes_high_first 16 id ++ rest))) = refl in omega (arith, e)

one_cell : (n : ℕ) (bytes : List ℕ) → 0 < length bytes → some_cells_in (suc n) bytes ≡ (at_front bytes).0 ∷ some_cells_in n (at_front bytes).1
one_cell n [] some = absurd (let e : length {A = ℕ} [] ≡ 0 = refl in omega (arith, some, e))
one_cell n (b ∷ bs) some = refl

some_again : (n : ℕ) (vs : List Value) → length vs ≤ n → AllByRecursion IsCell vs → AllByRecursion IsNarrow vs → some_cells_in n (cells_bytes vs) ≡ vs
some_again zero [] long are narrow = refl
some_again (suc n) [] long are narrow = refl
some_again zero (v ∷ vs) long are narrow = absurd (let e : length (v ∷ vs) ≡ suc (length vs) = refl in omega (arith, long, e))
some_again (suc n) (v ∷ vs) long are narrow =
    let e : length (v ∷ vs) ≡ suc (length vs) = refl in
    let front = cell_again v (cells_bytes vs) are.0 narrow.0 in
    one_cell n (cell_bytes v ++ cells_bytes vs) (some_bytes v (cells_bytes vs))
    ∙ ap (λ (p : Value × List ℕ). p.0 ∷ some_cells_in n p.1) front ∙ ap (λ l. v ∷ l) (some_again n vs (omega (arith, long, e)) are.1 narrow.1)

long_cells : (vs : List Value) → length vs ≤ length (cells_bytes vs)
long_cells [] = omega arith
long_cells (v ∷ vs) =
    let e : length (v ∷ vs) ≡ suc (length vs) = refl in
    let f = length-append (cell_bytes v) (cells_bytes vs) in
    let h = ap length (sym (append-nil (cell_bytes v))) in
    let some = some_bytes v [] in
    let more = long_cells vs in
    omega (arith, e, f, h, some, more)

pub cells_again : (vs : List Value) → AllByRecursion IsCell vs → AllByRecursion IsNarrow vs → cells_in (cells_bytes vs) ≡ vs
cells_again vs are narrow = some_again (length (cells_bytes vs)) vs (long_cells vs) are narrow
