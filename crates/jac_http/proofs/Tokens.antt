-- A token is text.
use Rattle.std.proofs.Common.{◌≡◌, refl, ℕ, zero, suc, ◌<◌, ◌&&◌, nat_lt, nat_le, if◌then◌else◌, Bool, true, false, Option, Some, None, List, [], ◌∷◌, length, get_or, arith}
use Rattle.std.specs.List.{list_all}
use Rattle.std.specs.Option.{option_and_then}
use Rattle.std.specs.Str.{IsUtf8}
use Rattle.std.proofs.lemmas.Bool.Decides.{nat_tests}
use Rattle.std.proofs.lemmas.Str.{IsUtf8-from_ascii}
use Rattle.jac_value.specs.Names.{is_atom_byte}
use Rattle.jac_value.specs.Visitors.{is_session_token}
use Rattle.jac_http.specs.Parts.{token_of, first_some, session_in}

byte_ascii : (b : ℕ) → is_atom_byte b ≡ true → b < 128
byte_ascii b e = grind (arith, nat_tests, e)

both : (a b : Bool) → (a && b) ≡ true → (a ≡ true) × (b ≡ true)
both true true e = (refl, refl)
both true false e = cc
both false b e = cc

bytes_ascii : (value : List ℕ) → list_all is_atom_byte value ≡ true → (i : ℕ) → get_or value i 0 < 128
bytes_ascii [] e i = omega arith
bytes_ascii (b ∷ value) e zero = byte_ascii b (both (is_atom_byte b) (list_all is_atom_byte value) e).0
bytes_ascii (b ∷ value) e (suc i) = bytes_ascii value (both (is_atom_byte b) (list_all is_atom_byte value) e).1 i

token_utf8 : (value : List ℕ) → is_session_token value ≡ true → IsUtf8 value
token_utf8 value e =
    let front = nat_lt 0 (length value) && nat_le (length value) 128 in
    IsUtf8-from_ascii value (bytes_ascii value (both front (list_all is_atom_byte value) e).1)

chosen : (b : Bool) (value token : List ℕ) → is_session_token value ≡ b → Some token ≡ (if b then Some value else None) → IsUtf8 token
chosen true value token is e = let same : token ≡ value = cc in rw same (token_utf8 value is)
chosen false value token is e = absurd (some_none token e)
  where
    some_none : (x : List ℕ) → Some x ≡ None → ⊥
    some_none x e = cc

taken : (o : Option (List ℕ)) (token : List ℕ) → Some token ≡ option_and_then (λ value. if is_session_token value then Some value else None) o → IsUtf8 token
taken None token e = cc
taken (Some value) token e = chosen (is_session_token value) value token refl e

pub text_of_token : (cookies : List (List ℕ)) (token : List ℕ) → Some token ≡ token_of cookies → IsUtf8 token
text_of_token cookies token e = taken (first_some session_in cookies) token e
