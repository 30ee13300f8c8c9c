-- Which parts of a head are text.
use Rattle.std.proofs.Common.{◌≡◌, subst, refl, ℕ, ◌+◌, ◌<◌, ◌≤◌, ◌==◌, Bool, true, false, nat_lt, if◌then◌else◌, List, [], ◌∷◌, length, drop, get_or, codes, arith, Result, Ok, Err}
use Rattle.std.specs.List.{position_or_len, starts_with, before_first}
use Rattle.std.specs.Result.{MatchResult, IsOk}
use Rattle.std.specs.Str.{IsUtf8, IsCharBoundary}
use Rattle.std.proofs.lemmas.Bool.Decides.{nat_tests}
use Rattle.std.proofs.lemmas.List.{drop-drop, drop_all, get_or_past}
use Rattle.std.proofs.lemmas.List.Sums.{prefix_len-le-length, passes_at_first}
use Rattle.std.proofs.lemmas.Str.{IsUtf8-nil, IsUtf8-take, IsUtf8-drop, IsUtf8-from_ascii, IsCharBoundary-end, IsCharBoundary-before_ascii, IsCharBoundary-from_rest}
use Rattle.httparse.specs.Grammar.{is_token_byte, IsToken}
use Rattle.jac_http.specs.Parts.{ends_authority, behind_authority, path_or_root, path_of_target}

token_byte : (b : ℕ) → is_token_byte b ≡ true → b < 128
unfolding is_token_byte
token_byte b e = grind (arith, nat_tests, e)

below_or_past : (bytes : List ℕ) (i : ℕ) (t : Bool) → nat_lt i (length bytes) ≡ t → ((k : ℕ) → k < length bytes → get_or bytes k 0 < 128) → get_or bytes i 0 < 128
below_or_past bytes i true e all = all i (grind (arith, nat_tests, e))
below_or_past bytes i false e all =
    let past : length bytes ≤ i = grind (arith, nat_tests, e) in
    let none = get_or_past bytes i 0 past in
    omega (arith, none)

pub token_utf8 : (bytes : List ℕ) → IsToken bytes → IsUtf8 bytes
token_utf8 bytes token =
    IsUtf8-from_ascii bytes (λ i. below_or_past bytes i _ refl (λ k l. token_byte (get_or bytes k 0) (token.1 k 0 l)))

-- If only ASCII bytes pass, a text may be cut before its first byte that passes.
boundary_by : (p : ℕ → Bool) (xs : List ℕ) (t : Bool) → nat_lt (position_or_len p xs) (length xs) ≡ t → ((b : ℕ) → p b ≡ true → b < 128)
    → IsCharBoundary xs (position_or_len p xs)
boundary_by p xs true e ascii =
    let within : position_or_len p xs < length xs = grind (arith, nat_tests, e) in
    IsCharBoundary-before_ascii xs (position_or_len p xs) within (ascii (get_or xs (position_or_len p xs) 0) (passes_at_first p xs 0 within))
boundary_by p xs false e ascii =
    let most : position_or_len p xs ≤ length xs = prefix_len-le-length _ xs in
    let all : length xs ≡ position_or_len p xs = grind (arith, nat_tests, e, most) in
    subst (λ (n : ℕ). IsCharBoundary xs n) all (IsCharBoundary-end xs)

pub boundary_at : (p : ℕ → Bool) (xs : List ℕ) → ((b : ℕ) → p b ≡ true → b < 128) → IsCharBoundary xs (position_or_len p xs)
boundary_at p xs ascii = boundary_by p xs _ refl ascii

authority_ascii : (b : ℕ) → ends_authority b ≡ true → b < 128
authority_ascii b e = grind (arith, nat_tests, e)

mark_ascii : (b : ℕ) → (b == 63) ≡ true → b < 128
mark_ascii b e = grind (arith, nat_tests, e)

from_path_by : (t : List ℕ) (b : Bool) → nat_lt (length t) 7 ≡ b → IsUtf8 t → IsUtf8 (drop (position_or_len ends_authority (drop 7 t)) (drop 7 t))
from_path_by t true e text =
    let none : drop 7 t ≡ [] = drop_all 7 t (grind (arith, nat_tests, e)) in
    rw none IsUtf8-nil
from_path_by t false e text =
    let at = position_or_len ends_authority (drop 7 t) in
    let long : 7 ≤ length t = grind (arith, nat_tests, e) in
    rw drop-drop (IsUtf8-drop t (7 + at) text (IsCharBoundary-from_rest t 7 at long (boundary_at ends_authority (drop 7 t) authority_ascii)))

behind_by : (t : List ℕ) (b : Bool) → IsUtf8 t → IsUtf8 (if b then t else drop (position_or_len ends_authority (drop 7 t)) (drop 7 t))
behind_by t true text = text
behind_by t false text = from_path_by t _ refl text

root_utf8 : (path : List ℕ) → IsUtf8 path → IsUtf8 (path_or_root path)
unfolding lib.Utf8.encode
root_utf8 [] text = (47 ∷ [], (refl, refl))
root_utf8 (b ∷ bytes) text = text

pub path_utf8 : (t : List ℕ) → IsUtf8 t → IsUtf8 (path_of_target t)
path_utf8 t text =
    let behind : IsUtf8 (behind_authority t) = behind_by t (starts_with ◌==◌ t (codes "/")) text in
    root_utf8 (before_first (λ b. b == 63) (behind_authority t))
    (IsUtf8-take (behind_authority t) (position_or_len (λ b. b == 63) (behind_authority t)) behind (boundary_at (λ b. b == 63) (behind_authority t) mark_ascii))

-- If the bytes are UTF-8, the result is `Ok`.
pub readable : {T E : Type 0} (P : T → Type 0) (Q : E → Type 0) (r : Result T E) (bytes : List ℕ) → MatchResult r P (λ e. (¬ (IsUtf8 bytes)) × Q e) → IsUtf8 bytes → IsOk r
readable P Q (Ok x) bytes cases text = refl
readable P Q (Err e) bytes cases text = absurd (cases.0 text)
