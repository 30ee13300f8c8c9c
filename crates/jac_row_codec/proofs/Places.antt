-- From how many bytes are left after the longest beginning to its length.
use Rattle.std.proofs.Common.{◌≡◌, refl, sym, ap, subst, ◌∙◌, ℕ, zero, suc, ◌+◌, ◌-◌, ◌<◌, ◌≤◌, List, [], ◌∷◌, ◌++◌, length, take, append_assoc, arith}
use Rattle.std.proofs.lemmas.List.{length-append, take_at}
use Rattle.jac_row_codec.specs.Faults.{GoesOn, IsFault}
use Rattle.jac_row_codec.specs.Reading.{Stops}

-- A longer beginning has the next byte.
next_byte : (front rest : List ℕ) (n : ℕ) → length front < n → n ≤ length (front ++ rest) → (b : ℕ) × (more : List ℕ) × (tail : List ℕ) × (rest ≡ b ∷ more) × (take n (front ++ rest) ≡ (front ++ b ∷ []) ++ tail)
next_byte [] [] n over within = absurd (let w : n ≤ 0 = within in omega (arith, over, w))
next_byte [] (b ∷ bs) zero over within = absurd (omega (arith, over))
next_byte [] (b ∷ bs) (suc n) over within = (b, bs, take n bs, refl, refl)
next_byte (x ∷ front) rest zero over within = absurd (omega (arith, over))
next_byte (x ∷ front) rest (suc n) over within =
    let under : suc (length front) < suc n = over in
    let room : suc n ≤ suc (length (front ++ rest)) = within in
    let r = next_byte front rest n (omega (arith, under)) (omega (arith, room)) in
    (r.0, r.1, r.2, r.3, ap (λ l. x ∷ l) r.4)

pub fault_at : (L : List ℕ → Type 0) (bytes : List ℕ) (left : ℕ) → Stops L bytes left → IsFault L bytes (length bytes - left)
fault_at L bytes left s =
    let total : length bytes ≡ length s.front + length s.rest = ap length s.split ∙ length-append s.front s.rest in
    let long = s.long in
    let at : length bytes - left ≡ length s.front = omega (arith, total, long) in
    let cut : take (length bytes - left) bytes ≡ s.front = ap (λ n. take n bytes) at ∙ (ap (λ b. take (length s.front) b) s.split ∙ take_at s.front s.rest (length s.front) refl) in
    record {
      wrong = s.wrong;
      within = omega arith;
      front = subst (λ f. GoesOn L f) (sym cut) s.goes;
      longest = λ n over inside goes.
          let r = next_byte s.front s.rest n (omega (arith, over, at)) (subst (λ b. n ≤ length b) s.split inside) in
          let same : take n bytes ≡ (s.front ++ r.0 ∷ []) ++ r.2 = ap (λ b. take n b) s.split ∙ r.4 in
          s.no_longer r.0 r.1 r.3 (r.2 ++ goes.0, subst L (ap (λ x. x ++ goes.0) same ∙ append_assoc (s.front ++ r.0 ∷ []) r.2 goes.0) goes.1);
    }

pub left_within : (L : List ℕ → Type 0) (bytes : List ℕ) (left : ℕ) → Stops L bytes left → left ≤ length bytes
left_within L bytes left s =
    let total : length bytes ≡ length s.front + length s.rest = ap length s.split ∙ length-append s.front s.rest in
    let long = s.long in
    omega (arith, total, long)
