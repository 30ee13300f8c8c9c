-- The location of a page.
use Rattle.std.proofs.Common.{◌≡◌, ℕ, ◌<◌, Bool, true, false, ◌&&◌, not, nat_le, if◌then◌else◌, List, [], ◌∷◌, ◌++◌, All, refl, ap}
use Rattle.std.proofs.lemmas.Bool.{agree_below, agree_below_at}
use Rattle.std.proofs.lemmas.List.Elements.{All-head, All-tail}
use Rattle.percent_encoding.specs.AsciiSet.{should_percent_encode}
use Rattle.percent_encoding.specs.Percent.{percent_encode, percent_encode_byte, encode_byte}
use Rattle.percent_encoding.proofs.PercentLemmas.{IsByte}
use Rattle.jac_plain.specs.Requests.{location}
use Rattle.jac_plain.specs.declared.pages.TheConstants.{ESCAPED}

abbrev is_visible : ℕ → Bool
is_visible b = nat_le 0x21 b && nat_le b 0x7E

escaped_bytes : agree_below (should_percent_encode ESCAPED) (λ b. not (is_visible b)) 256 ≡ true
unfolding should_percent_encode
escaped_bytes = refl

chosen : (visible : Bool) (b : ℕ) → (if not visible then percent_encode_byte b else b ∷ []) ≡ (if visible then b ∷ [] else percent_encode_byte b)
chosen true b = refl
chosen false b = refl

one_byte : (b : ℕ) → b < 256 → encode_byte ESCAPED b ≡ (if is_visible b then b ∷ [] else percent_encode_byte b)
one_byte b small = rw (agree_below_at (should_percent_encode ESCAPED) (λ c. not (is_visible c)) 256 b escaped_bytes small) (chosen (is_visible b) b)

pub location_escapes : (bytes : List ℕ) → All IsByte bytes → percent_encode ESCAPED bytes ≡ location bytes
unfolding percent_encode
location_escapes [] small = refl
location_escapes (b ∷ bytes) small =
    rw (one_byte b (All-head IsByte b bytes small)) (ap (λ xs. (if is_visible b then b ∷ [] else percent_encode_byte b) ++ xs) (location_escapes bytes (All-tail IsByte b bytes small)))
