-- Readers that stop: what holds of the bytes from here on holds of all bytes.
use Rattle.std.proofs.Common.{◌≡◌, refl, sym, ap, subst, ◌∙◌, ℕ, List, [], ◌∷◌, ◌++◌, length, append_assoc, ◌↔◌, ◌⊎◌, inl, inr}
use Rattle.jac_row_codec.specs.Faults.{GoesOn}
use Rattle.jac_row_codec.specs.Reading.{Stops, Led}

-- The bytes end too early.
pub stops_at_end : (L : List ℕ → Type 0) → GoesOn L [] → ¬ (L []) → Stops L [] 0
stops_at_end L goes wrong = record { front = []; rest = []; split = refl; long = refl; goes = goes; wrong = wrong; no_longer = λ b more e h. cc }

-- No right spelling begins with the first byte.
pub stops_here : (L : List ℕ → Type 0) (b : ℕ) (bs : List ℕ) → GoesOn L [] → ¬ (GoesOn L (b ∷ [])) → Stops L (b ∷ bs) (length (b ∷ bs))
stops_here L b bs goes never = record {
  front = [];
  rest = b ∷ bs;
  split = refl;
  long = refl;
  goes = goes;
  wrong = λ is. never (bs, is);
  no_longer = λ c more e h. let same : c ≡ b = cc in never (subst (λ x. GoesOn L (x ∷ [])) same h);
}

-- Every right spelling begins with these bytes.
pub stops_behind : (L M : List ℕ → Type 0) (lead bs : List ℕ) (n : ℕ) → ((t : List ℕ) → L (lead ++ t) ↔ M t) → Stops M bs n → Stops L (lead ++ bs) n
stops_behind L M lead bs n same s = record {
  front = lead ++ s.front;
  rest = s.rest;
  split = ap (λ x. lead ++ x) s.split ∙ sym (append_assoc lead s.front s.rest);
  long = s.long;
  goes = (s.goes.0, subst L (sym (append_assoc lead s.front s.goes.0)) ((same (s.front ++ s.goes.0)).1 s.goes.1));
  wrong = λ is. s.wrong ((same bs).0 is);
  no_longer = λ b more e h. s.no_longer b more e (
    h.0,
    (same ((s.front ++ b ∷ []) ++ h.0)).0
        (subst L (ap (λ x. x ++ h.0) (append_assoc lead s.front (b ∷ [])) ∙ append_assoc lead (s.front ++ b ∷ []) h.0) h.1),
  );
}

-- Of two beginnings of the same bytes, one begins with the other.
pub overlap : (a b c d : List ℕ) → a ++ b ≡ c ++ d → ((m : List ℕ) × (c ≡ a ++ m)) ⊎ ((m : List ℕ) × (a ≡ c ++ m))
overlap [] b c d e = inl (c, refl)
overlap (x ∷ a) b [] d e = inr (x ∷ a, refl)
overlap (x ∷ a) b (y ∷ c) d e =
    let head : x ≡ y = cc in
    let tail : a ++ b ≡ c ++ d = cc in
    elim (overlap a b c d tail) [
      | inl w ↦ inl (w.0, ap (λ z. z ∷ c) (sym head) ∙ ap (λ l. x ∷ l) w.1)
      | inr w ↦ inr (w.0, ap (λ z. z ∷ a) head ∙ ap (λ l. y ∷ l) w.1)
    ]

-- Each right spelling begins with a word, and each word can go on to a right spelling.
pub stops_refined : {X : Type 0} (Is : X → Type 0) (spell : X → List ℕ) (L : List ℕ → Type 0)
    → ((t : List ℕ) → L t → Led Is spell t) → ((x : X) → Is x → GoesOn L (spell x))
    → (bytes : List ℕ) (n : ℕ) → Stops (Led Is spell) bytes n → Stops L bytes n
stops_refined Is spell L begins goes_on bytes n s =
    let led = s.goes.1 in
    let on = goes_on led.thing led.is in
    let further : GoesOn L s.front =
    elim (overlap s.front s.goes.0 (spell led.thing) led.after led.split) [
      | inl w ↦ (w.0 ++ on.0, subst L (ap (λ x. x ++ on.0) w.1 ∙ append_assoc s.front w.0 on.0) on.1)
      | inr w ↦ absurd (s.wrong (record {
        thing = led.thing;
        is = led.is;
        after = w.0 ++ s.rest;
        split = s.split ∙ (ap (λ x. x ++ s.rest) w.1 ∙ append_assoc (spell led.thing) w.0 s.rest);
      }))
    ] in
    record {
      front = s.front;
      rest = s.rest;
      split = s.split;
      long = s.long;
      goes = further;
      wrong = λ is. s.wrong (begins bytes is);
      no_longer = λ b more e h. s.no_longer b more e (h.0, begins ((s.front ++ b ∷ []) ++ h.0) h.1);
    }
