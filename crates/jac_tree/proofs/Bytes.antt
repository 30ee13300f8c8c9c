-- Characters and their first bytes.
use Rattle.std.proofs.Common.{◌≡◌, ◌≢◌, ◌⊎◌, inl, inr, ℕ, suc, ◌<◌, ◌≤◌, true, false, List, [], ◌∷◌, length, take, get_or, Some, None, refl, sym, ◌∙◌, ap, subst, arith, append-nil, encode_utf8}
use Rattle.std.proofs.lemmas.Bool.{cases_lt}
use Rattle.std.proofs.lemmas.Bool.Decides.{nat_tests}
use Rattle.std.proofs.lemmas.Str.{encode_ascii, inside_one, length-encode, len_utf8_bounds}
use Rattle.jac_tree.specs.Grammar.{is_white, is_plain_byte, escape_meaning}
use Rattle.jac_value.specs.Names.{is_atom_byte}
use Rattle.jac_tree.proofs.Moves.{are_plain_bytes, both_true}

pub white_small : (b : ℕ) → is_white b ≡ true → b < 128
white_small b w = grind (arith, nat_tests)

pub atom_small : (b : ℕ) → is_atom_byte b ≡ true → b < 128
atom_small b w = grind (arith, nat_tests)

high_white : (b : ℕ) → 128 ≤ b → is_white b ≡ false
high_white b h = grind (arith, nat_tests)

high_atom : (b : ℕ) → 128 ≤ b → is_atom_byte b ≡ false
high_atom b h = grind (arith, nat_tests)

pub plain_other : (b : ℕ) → b ≢ 34 → b ≢ 92 → is_plain_byte b ≡ true
plain_other b n m = grind (arith, nat_tests)

high_escaped : (b : ℕ) → 128 ≤ b → escape_meaning b ≡ None
high_escaped b h = grind (arith, nat_tests)

pub escaped_small : (e x : ℕ) → escape_meaning e ≡ Some x → (e < 128) × (x < 128)
escaped_small e x h = grind (arith, nat_tests)

-- The first byte of a character: the character itself if it is ASCII, or else a byte above ASCII.
pub record First (c : ℕ) : Type 0 where
  pub byte : ℕ
  pub front : take 1 (encode_utf8 c) ≡ byte ∷ []
  pub kind : (byte ≡ c) ⊎ (128 ≤ byte)

first_from : (c : ℕ) (xs : List ℕ) → xs ≡ encode_utf8 c → 128 ≤ c → First c
first_from c [] e big = let n : 0 ≡ length (encode_utf8 c) = ap length e in absurd (omega (arith, n, length-encode c, (len_utf8_bounds c).0))
first_from c (b ∷ xs) e big =
    let some : 0 < length (encode_utf8 c) = omega (arith, length-encode c, (len_utf8_bounds c).0) in
    let high : 128 ≤ b = elim (cases_lt b 128) [
      | inl low ↦ let q : c ≡ b = inside_one c [] (b ∷ xs) 0 (e ∙ sym (append-nil _)) some low in absurd (omega arith)
      | inr h ↦ h
    ] in
    record { byte = b; front = ap (take 1) (sym e); kind = inr high }

pub first_of : (c : ℕ) → First c
first_of c = elim (cases_lt c 128) [
  | inl low ↦ record { byte = c; front = ap (take 1) (encode_ascii c low); kind = inl refl }
  | inr big ↦ first_from c (encode_utf8 c) refl big
]

-- If a character isn't whitespace, neither is its first byte. The same goes for bytes of atoms.
pub first_white : (c : ℕ) (f : First c) → is_white c ≡ false → is_white f.byte ≡ false
first_white c f w = elim f.kind [ inl e ↦ subst (λ z. is_white z ≡ false) (sym e) w | inr h ↦ high_white _ h ]

pub first_atom : (c : ℕ) (f : First c) → is_atom_byte c ≡ false → is_atom_byte f.byte ≡ false
first_atom c f w = elim f.kind [ inl e ↦ subst (λ z. is_atom_byte z ≡ false) (sym e) w | inr h ↦ high_atom _ h ]

pub first_escaped : (c : ℕ) (f : First c) → escape_meaning c ≡ None → escape_meaning f.byte ≡ None
first_escaped c f w = elim f.kind [ inl e ↦ subst (λ z. escape_meaning z ≡ None) (sym e) w | inr h ↦ high_escaped _ h ]

pub first_other : (c n : ℕ) (f : First c) → n < 128 → c ≢ n → f.byte ≢ n
first_other c n f small ne q = elim f.kind [ inl e ↦ ne (sym e ∙ q) | inr h ↦ omega arith ]

-- Bytes above ASCII are plain. Below: each byte of a character is, unless the character is a quote
-- or a backslash.
all_high : (xs : List ℕ) → ((k : ℕ) → k < length xs → 128 ≤ get_or xs k 0) → are_plain_bytes xs ≡ true
all_high [] h = refl
all_high (x ∷ xs) h =
    let high : 128 ≤ x = h 0 (omega arith) in
    both_true _ _ (plain_other x (λ e. omega arith) (λ e. omega arith)) (all_high xs (λ k below. h (suc k) (omega arith)))

pub plain_char : (c : ℕ) → c ≢ 34 → c ≢ 92 → are_plain_bytes (encode_utf8 c) ≡ true
plain_char c n m = elim (cases_lt c 128) [
  | inl low ↦ subst (λ z. are_plain_bytes z ≡ true) (sym (encode_ascii c low)) (both_true _ _ (plain_other c n m) refl)
  | inr big ↦ all_high (encode_utf8 c) (λ k below. elim (cases_lt (get_or (encode_utf8 c) k 0) 128) [
    | inl low ↦ let q : c ≡ get_or (encode_utf8 c) k 0 = inside_one c [] (encode_utf8 c) k (sym (append-nil _)) below low in absurd (omega arith)
    | inr h ↦ h
  ])
]
