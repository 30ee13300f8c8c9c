-- Texts, byte by byte.
use Rattle.std.proofs.Common.{◌≡◌, refl, sym, ap, subst, ◌∙◌, ℕ, zero, suc, ◌+◌, ◌-◌, ◌*◌, ◌/◌, ◌<◌, ◌≤◌, true, List, [], ◌∷◌, ◌++◌, length, append-nil, ◌↔◌, ◌⊎◌, inl, inr, arith, lt-ltb, le-ltb, le-leb, eq-eqb, ne_eqb}
use Rattle.std.specs.Prelude.{replicate, ⊤}
use Rattle.std.proofs.lemmas.Bool.{cases_lt, cases_eq, and_parts}
use Rattle.std.proofs.lemmas.Bool.Decides.{nat_tests}
use Rattle.std.proofs.lemmas.List.{nil_from_length}
use Rattle.std.proofs.lemmas.Str.{encode_ascii, IsUtf8-nil}
use Rattle.std.specs.Str.{IsUtf8, continuation_len}
use lib.Utf8.{scalar, scalars, encode, encodes, next, low_scalar, scalar_cases}
use Rattle.jac_row_codec.specs.Faults.{GoesOn}
use Rattle.jac_row_codec.specs.Reading.{Stops, IsBetween, TextsOf, IsTextBefore, is_lead, least_second, most_second, EndsCharacter, IsTextLeft, LeftOf, CanEnd, IsBehindByte, TextSoFar}
use Rattle.jac_row_codec.specs.declared.text.Unread.{Unread}
use Rattle.jac_row_codec.proofs.Stops.{stops_at_end, stops_here, stops_behind}
use Rattle.jac_row_codec.proofs.Cells.{zeros_are}

-- Characters as bytes.

two : (c : ℕ) → 128 ≤ c → c < 2048 → encode c ≡ (192 + c / 64) ∷ next c ∷ []
unfolding encode
two c l h = rw (le-ltb c 128 l, lt-ltb c 2048 h)

three : (c : ℕ) → 2048 ≤ c → c < 65536 → encode c ≡ (224 + c / 4096) ∷ next (c / 64) ∷ next c ∷ []
unfolding encode
three c l h = rw (le-ltb c 128 (omega arith), le-ltb c 2048 l, lt-ltb c 65536 h)

four : (c : ℕ) → 65536 ≤ c → encode c ≡ (240 + c / 262144) ∷ next (c / 4096) ∷ next (c / 64) ∷ next c ∷ []
unfolding encode
four c l = rw (le-ltb c 128 (omega arith), le-ltb c 2048 (omega arith), le-ltb c 65536 l)

high_scalar : (c : ℕ) → 57344 ≤ c → c < 1114112 → scalar c ≡ true
high_scalar c l h = rw (le-ltb c 55296 (omega arith), le-leb 57344 c l, lt-ltb c 1114112 h)

-- The bounds after a first byte, as numbers.

pub least_is : (z : ℕ) → ((z ≡ 0xE0) × (least_second z ≡ 0xA0)) ⊎ (((z ≡ 0xF0) × (least_second z ≡ 0x90)) ⊎ ((z ≡ 0xE0 → ⊥) × (z ≡ 0xF0 → ⊥) × (least_second z ≡ 0x80)))
least_is z =
    elim (cases_eq z 0xE0) [
      | inl e ↦ inl (e, rw (eq-eqb z 0xE0 e))
      | inr n ↦ elim (cases_eq z 0xF0) [ inl e ↦ inr (inl (e, rw (ne_eqb z 0xE0 n, eq-eqb z 0xF0 e))) | inr m ↦ inr (inr (n, m, rw (ne_eqb z 0xE0 n, ne_eqb z 0xF0 m))) ]
    ]

pub most_is : (z : ℕ) → ((z ≡ 0xED) × (most_second z ≡ 0x9F)) ⊎ (((z ≡ 0xF4) × (most_second z ≡ 0x8F)) ⊎ ((z ≡ 0xED → ⊥) × (z ≡ 0xF4 → ⊥) × (most_second z ≡ 0xBF)))
most_is z =
    elim (cases_eq z 0xED) [
      | inl e ↦ inl (e, rw (eq-eqb z 0xED e))
      | inr n ↦ elim (cases_eq z 0xF4) [ inl e ↦ inr (inl (e, rw (ne_eqb z 0xED n, eq-eqb z 0xF4 e))) | inr m ↦ inr (inr (n, m, rw (ne_eqb z 0xED n, ne_eqb z 0xF4 m))) ]
    ]

len_zero : (b : ℕ) → b < 128 → continuation_len b ≡ 0
len_zero b h = rw (lt-ltb b 128 h)

len_one : (b : ℕ) → 128 ≤ b → b < 224 → continuation_len b ≡ 1
len_one b l h = rw (le-ltb b 128 l, lt-ltb b 224 h)

len_two : (b : ℕ) → 224 ≤ b → b < 240 → continuation_len b ≡ 2
len_two b l h = rw (le-ltb b 128 (omega arith), le-ltb b 224 l, lt-ltb b 240 h)

len_three : (b : ℕ) → 240 ≤ b → continuation_len b ≡ 3
len_three b l = rw (le-ltb b 128 (omega arith), le-ltb b 224 (omega arith), le-ltb b 240 l)

lead_low : (b : ℕ) → b < 128 → is_lead b ≡ true
lead_low b h = grind (arith, nat_tests, h)

lead_high : (b : ℕ) → 0xC2 ≤ b → b ≤ 0xF4 → is_lead b ≡ true
lead_high b l h = grind (arith, nat_tests, l, h)

lead_from : (b : ℕ) → is_lead b ≡ true → 128 ≤ b → (0xC2 ≤ b) × (b ≤ 0xF4)
lead_from b is l = (grind (arith, nat_tests, is, l), grind (arith, nat_tests, is, l))

-- A first byte, and the bytes that end its character.

abbrev pub FirstAndEnd : List ℕ → Type 0
FirstAndEnd [] = ⊤
FirstAndEnd (b ∷ bs) = (is_lead b ≡ true) × EndsCharacter (continuation_len b) (least_second b) (most_second b) bs

char_first : (c : ℕ) (rest : List ℕ) → scalar c ≡ true → IsUtf8 rest → FirstAndEnd (encode c ++ rest)
char_first c rest ok u =
    let range = scalar_cases c ok in
    elim (cases_lt c 128) [
      | inl a ↦ subst (λ l. FirstAndEnd (l ++ rest)) (sym (encode_ascii c a)) (lead_low c a, subst (λ n. EndsCharacter n (least_second c) (most_second c) rest) (sym (len_zero c a)) u)
      | inr a ↦ elim (cases_lt c 2048) [
        | inl b ↦
            let x = 192 + c / 64 in
            let l = least_is x in
            let m = most_is x in
            subst (λ l. FirstAndEnd (l ++ rest)) (sym (two c a b)) (
              lead_high x (omega arith) (omega arith),
              subst (λ n. EndsCharacter n (least_second x) (most_second x) (next c ∷ rest)) (sym (len_one x (omega arith) (omega arith)))
                  (record { from = omega arith; to = omega arith }, u),
            )
        | inr b ↦ elim (cases_lt c 65536) [
          | inl d ↦
              let x = 224 + c / 4096 in
              let l = least_is x in
              let m = most_is x in
              subst (λ l. FirstAndEnd (l ++ rest)) (sym (three c b d)) (
                lead_high x (omega arith) (omega arith),
                subst (λ n. EndsCharacter n (least_second x) (most_second x) (next (c / 64) ∷ next c ∷ rest)) (sym (len_two x (omega arith) (omega arith)))
                    (record { from = omega arith; to = omega arith }, (record { from = omega arith; to = omega arith }, u)),
              )
          | inr d ↦
              let x = 240 + c / 262144 in
              let l = least_is x in
              let m = most_is x in
              subst (λ l. FirstAndEnd (l ++ rest)) (sym (four c d)) (
                lead_high x (omega arith) (omega arith),
                subst (λ n. EndsCharacter n (least_second x) (most_second x) (next (c / 4096) ∷ next (c / 64) ∷ next c ∷ rest)) (sym (len_three x (omega arith)))
                    (record { from = omega arith; to = omega arith }, (record { from = omega arith; to = omega arith }, (record { from = omega arith; to = omega arith }, u))),
              )
        ]
      ]
    ]

first_of : (t cs : List ℕ) → scalars cs ≡ true → encodes cs ≡ t → FirstAndEnd t
first_of t [] ok e = subst FirstAndEnd e tt
first_of t (c ∷ cs) ok e = let parts = and_parts (scalar c) (scalars cs) ok in subst FirstAndEnd e (char_first c (encodes cs) parts.0 (cs, (parts.1, refl)))

pub first_from : (b : ℕ) (bs : List ℕ) → IsUtf8 (b ∷ bs) → FirstAndEnd (b ∷ bs)
first_from b bs u = first_of (b ∷ bs) u.0 u.1.0 u.1.1

cons : (c : ℕ) (front bs : List ℕ) → scalar c ≡ true → encode c ≡ front → IsUtf8 bs → IsUtf8 (front ++ bs)
cons c front bs ok e u = (c ∷ u.0, (rw ok u.1.0, λ i. e i ++ u.1.1 i))

cons_two : (x y : ℕ) (bs : List ℕ) → (0xC2 ≤ x) × (x < 0xE0) → (0x80 ≤ y) × (y ≤ 0xBF) → IsUtf8 bs → IsUtf8 (x ∷ y ∷ bs)
cons_two x y bs h f =
    let c = (x - 192) * 64 + (y - 128) in
    let p : 192 + c / 64 ≡ x = omega arith in
    let q : next c ≡ y = omega arith in
    cons c (x ∷ y ∷ []) bs (low_scalar c (omega arith)) (two c (omega arith) (omega arith) ∙ (λ k. p k ∷ q k ∷ []))

second_continues : (x y : ℕ) → IsBetween (least_second x) (most_second x) y → (0x80 ≤ y) × (y ≤ 0xBF)
second_continues x y f = let from = f.from in let to = f.to in omega (arith, least_is x, most_is x)

three_bytes : (x y z : ℕ) → 224 ≤ x → (0x80 ≤ y) × (y ≤ 0xBF) → (0x80 ≤ z) × (z ≤ 0xBF)
    → let c = (x - 224) * 4096 + (y - 128) * 64 + (z - 128) in (224 + c / 4096 ≡ x) × (next (c / 64) ≡ y) × (next c ≡ z)
three_bytes x y z h f g = (omega arith, omega arith, omega arith)

four_bytes : (x y z w : ℕ) → 240 ≤ x → (0x80 ≤ y) × (y ≤ 0xBF) → (0x80 ≤ z) × (z ≤ 0xBF) → (0x80 ≤ w) × (w ≤ 0xBF)
    → let c = (x - 240) * 262144 + (y - 128) * 4096 + (z - 128) * 64 + (w - 128) in (240 + c / 262144 ≡ x) × (next (c / 4096) ≡ y) × (next (c / 64) ≡ z) × (next c ≡ w)
four_bytes x y z w h f g j =
    let e : ((x - 240) * 262144 + (y - 128) * 4096 + (z - 128) * 64 + (w - 128)) / 64 ≡ (x - 240) * 4096 + (y - 128) * 64 + (z - 128) = omega arith in
    (omega arith, omega arith, rw e (omega arith), omega arith)

cons_three : (x y z : ℕ) (bs : List ℕ) → (0xE0 ≤ x) × (x < 0xF0) → (least_second x ≤ y) × (y ≤ most_second x) → (0x80 ≤ y) × (y ≤ 0xBF) → (0x80 ≤ z) × (z ≤ 0xBF) → IsUtf8 bs → IsUtf8 (x ∷ y ∷ z ∷ bs)
cons_three x y z bs h f i g =
    let c = (x - 224) * 4096 + (y - 128) * 64 + (z - 128) in
    let bytes = three_bytes x y z h.0 i g in
    let p = bytes.0 in
    let q = bytes.1 in
    let r = bytes.2 in
    let l = least_is x in
    let m = most_is x in
    let ok : scalar c ≡ true = elim (cases_lt c 55296) [ inl a ↦ low_scalar c a | inr a ↦ high_scalar c (omega arith) (omega arith) ] in
    cons c (x ∷ y ∷ z ∷ []) bs ok (three c (omega arith) (omega arith) ∙ (λ k. p k ∷ q k ∷ r k ∷ []))

cons_four : (x y z w : ℕ) (bs : List ℕ) → (0xF0 ≤ x) × (x ≤ 0xF4) → (least_second x ≤ y) × (y ≤ most_second x) → (0x80 ≤ y) × (y ≤ 0xBF) → (0x80 ≤ z) × (z ≤ 0xBF) → (0x80 ≤ w) × (w ≤ 0xBF) → IsUtf8 bs → IsUtf8 (x ∷ y ∷ z ∷ w ∷ bs)
cons_four x y z w bs h f i g j =
    let c = (x - 240) * 262144 + (y - 128) * 4096 + (z - 128) * 64 + (w - 128) in
    let bytes = four_bytes x y z w h.0 i g j in
    let p = bytes.0 in
    let q = bytes.1 in
    let r = bytes.2 in
    let t = bytes.3 in
    let l = least_is x in
    let m = most_is x in
    cons c (x ∷ y ∷ z ∷ w ∷ []) bs (high_scalar c (omega arith) (omega arith)) (four c (omega arith) ∙ (λ k. p k ∷ q k ∷ r k ∷ t k ∷ []))

bounds : (low high b : ℕ) → IsBetween low high b → (low ≤ b) × (b ≤ high)
bounds low high b is = (is.from, is.to)

ends_one : (x : ℕ) (bs : List ℕ) → (0xC2 ≤ x) × (x < 0xE0) → EndsCharacter 1 (least_second x) (most_second x) bs → IsUtf8 (x ∷ bs)
ends_one x [] h e = absurd e
ends_one x (y ∷ bs) h e = cons_two x y bs h (second_continues x y e.0) e.1

ends_two : (x : ℕ) (bs : List ℕ) → (0xE0 ≤ x) × (x < 0xF0) → EndsCharacter 2 (least_second x) (most_second x) bs → IsUtf8 (x ∷ bs)
ends_two x [] h e = absurd e
ends_two x (y ∷ []) h e = absurd e.1
ends_two x (y ∷ z ∷ bs) h e = cons_three x y z bs h (bounds _ _ y e.0) (second_continues x y e.0) (bounds 0x80 0xBF z e.1.0) e.1.1

ends_three : (x : ℕ) (bs : List ℕ) → (0xF0 ≤ x) × (x ≤ 0xF4) → EndsCharacter 3 (least_second x) (most_second x) bs → IsUtf8 (x ∷ bs)
ends_three x [] h e = absurd e
ends_three x (y ∷ []) h e = absurd e.1
ends_three x (y ∷ z ∷ []) h e = absurd e.1.1
ends_three x (y ∷ z ∷ w ∷ bs) h e = cons_four x y z w bs h (bounds _ _ y e.0) (second_continues x y e.0) (bounds 0x80 0xBF z e.1.0) (bounds 0x80 0xBF w e.1.1.0) e.1.1.1

pub first_to : (b : ℕ) (bs : List ℕ) → FirstAndEnd (b ∷ bs) → IsUtf8 (b ∷ bs)
first_to b bs f =
    elim (cases_lt b 128) [
      | inl a ↦ let u : IsUtf8 bs = subst (λ n. EndsCharacter n (least_second b) (most_second b) bs) (len_zero b a) f.1 in cons b (b ∷ []) bs (low_scalar b (omega arith)) (encode_ascii b a) u
      | inr a ↦
          let range = lead_from b f.0 a in
          elim (cases_lt b 224) [
            | inl h ↦ ends_one b bs (range.0, h) (subst (λ n. EndsCharacter n (least_second b) (most_second b) bs) (len_one b a h) f.1)
            | inr l ↦ elim (cases_lt b 240) [
              | inl h ↦ ends_two b bs (l, h) (subst (λ n. EndsCharacter n (least_second b) (most_second b) bs) (len_two b l h) f.1)
              | inr k ↦ ends_three b bs (k, range.1) (subst (λ n. EndsCharacter n (least_second b) (most_second b) bs) (len_three b k) f.1)
            ]
          ]
    ]

-- A byte that begins a character.

one_more_long : (left : ℕ) (bs : List ℕ) → 0 < left → length bs ≡ left - 1 → suc (length bs) ≡ left
one_more_long left bs some long = omega (arith, some, long)

one_less_long : (left : ℕ) (bs : List ℕ) → suc (length bs) ≡ left → length bs ≡ left - 1
one_less_long left bs long = omega (arith, long)

ends_closed : (inside low high : ℕ) (text : List ℕ) → inside ≡ 0 → EndsCharacter inside low high text ↔ IsUtf8 text
ends_closed zero low high text none = ((λ h. h), (λ h. h))
ends_closed (suc n) low high text none = absurd (omega (arith, none))

ends_long : (inside low high : ℕ) (text : List ℕ) → EndsCharacter inside low high text → inside ≤ length text
ends_long zero low high text h = omega arith
ends_long (suc n) low high [] h = absurd h
ends_long (suc n) low high (b ∷ bs) h = let more = ends_long n 0x80 0xBF bs h.1 in omega (arith, more)

least_below_most : (b : ℕ) → least_second b ≤ most_second b
least_below_most b = omega (arith, least_is b, most_is b)

pub behind_lead : (u : Unread) (b : ℕ) → 0 < u.left → u.inside ≡ 0 → is_lead b ≡ true → continuation_len b ≤ u.left - 1
    → IsBehindByte u b (record { left = u.left - 1; inside = continuation_len b; low = least_second b; high = most_second b })
behind_lead u b some closed lead room = record {
  same = λ text. let all = ends_closed u.inside u.low u.high (b ∷ text) closed in (
    (λ h. ((first_from b text (all.0 h.0)).1, one_less_long u.left text h.1)),
    (λ h. (all.1 (first_to b text (lead, h.0)), one_more_long u.left text some h.1)),
  );
  can_end = record { room = room; bounds = least_below_most b };
  fewer = omega (arith, some);
}

pub never_lead : (u : Unread) (b : ℕ) → u.inside ≡ 0 → ¬ ((is_lead b ≡ true) × (continuation_len b ≤ u.left - 1)) → (text : List ℕ) → ¬ (IsTextLeft u (b ∷ text))
never_lead u b closed out text is =
    let first = first_from b text ((ends_closed u.inside u.low u.high (b ∷ text) closed).0 is.0) in
    let long = ends_long (continuation_len b) (least_second b) (most_second b) text first.1 in
    let short = one_less_long u.left text is.1 in
    out (first.0, omega (arith, long, short))

-- A text, byte by byte.

some_end : (inside low high left : ℕ) → inside ≤ left → low ≤ high → (text : List ℕ) × EndsCharacter inside low high text × (length text ≡ left)
some_end zero low high left room bounds = let zeros = zeros_are left in (replicate left 0, zeros.0, zeros.1)
some_end (suc n) low high zero room bounds = absurd (omega (arith, room))
some_end (suc n) low high (suc left) room bounds =
    let r = some_end n 0x80 0xBF left (omega (arith, room)) (omega arith) in
    (low ∷ r.0, (record { from = omega arith; to = bounds }, r.1), ap suc r.2)

left_goes : (u : Unread) → CanEnd u → GoesOn (LeftOf u) []
left_goes u can =
    let r = some_end u.inside u.low u.high u.left can.room can.bounds in
    (r.0, record { thing = r.0; is = (r.1, r.2); after = []; split = sym (append-nil r.0) })

-- The text that is left isn't empty.
left_first : (u : Unread) (b : ℕ) (bs text after : List ℕ) → 0 < u.left → IsTextLeft u text → b ∷ bs ≡ text ++ after → (more : List ℕ) × IsTextLeft u (b ∷ more) × (bs ≡ more ++ after)
left_first u b bs [] after some is split = absurd (let e : 0 ≡ u.left = is.1 in omega (arith, e, some))
left_first u b bs (c ∷ text) after some is split =
    let head : c ≡ b = cc in
    (text, subst (λ x. IsTextLeft u (x ∷ text)) head is, cc)

led_same : (u next : Unread) (b : ℕ) → 0 < u.left → IsBehindByte u b next → (t : List ℕ) → LeftOf u (b ∷ t) ↔ LeftOf next t
led_same u next b some behind t = (
  (λ l. let f = left_first u b t l.thing l.after some l.is l.split in record { thing = f.0; is = (behind.same f.0).0 f.1; after = l.after; split = f.2 }),
  (λ l. record { thing = b ∷ l.thing; is = (behind.same l.thing).1 l.is; after = l.after; split = ap (λ x. b ∷ x) l.split }),
)

pub text_start : (long : ℕ) (bytes : List ℕ) → TextSoFar long bytes (record { left = long; inside = 0; low = 0x80; high = 0xBF }) bytes
text_start long bytes = record {
  can_end = record { room = omega arith; bounds = omega arith };
  spelled = λ text after is split. record { text = text; is = is; split = split };
  stops = λ n s. s;
}

pub text_step : (long : ℕ) (bytes : List ℕ) (u next : Unread) (b : ℕ) (rest after : List ℕ) → TextSoFar long bytes u rest → rest ≡ b ∷ after → 0 < u.left → IsBehindByte u b next → TextSoFar long bytes next after
text_step long bytes u next b rest after so_far split some behind = record {
  can_end = behind.can_end;
  spelled = λ text tail is e. so_far.spelled (b ∷ text) tail ((behind.same text).1 is) (split ∙ ap (λ x. b ∷ x) e);
  stops = λ n s. so_far.stops n (subst (λ x. Stops (LeftOf u) x n) (sym split) (stops_behind (LeftOf u) (LeftOf next) (b ∷ []) after n (led_same u next b some behind) s));
}

pub text_short : (long : ℕ) (bytes : List ℕ) (u : Unread) (rest : List ℕ) → TextSoFar long bytes u rest → 0 < u.left → length rest ≡ 0 → Stops (TextsOf long) bytes 0
text_short long bytes u rest so_far some none = so_far.stops 0 (subst (λ x. Stops (LeftOf u) x 0) (sym (nil_from_length rest none))
    (stops_at_end (LeftOf u) (left_goes u so_far.can_end) (λ l. empty l.thing l.after l.is l.split)))
  where
    empty : (text after : List ℕ) → IsTextLeft u text → ¬ ([] ≡ text ++ after)
    empty [] after is e = let long : 0 ≡ u.left = is.1 in omega (arith, long, some)
    empty (b ∷ text) after is e = cc

pub text_out : (long : ℕ) (bytes : List ℕ) (u : Unread) (b : ℕ) (rest after : List ℕ) → TextSoFar long bytes u rest → rest ≡ b ∷ after → 0 < u.left → ((text : List ℕ) → ¬ (IsTextLeft u (b ∷ text))) → Stops (TextsOf long) bytes (length rest)
text_out long bytes u b rest after so_far split some never = so_far.stops (length rest) (subst (λ x. Stops (LeftOf u) x (length x)) (sym split)
    (stops_here (LeftOf u) b after (left_goes u so_far.can_end)
    (λ goes. let l = goes.1 in let f = left_first u b goes.0 l.thing l.after some l.is l.split in never f.0 f.1)))

pub text_end : (long : ℕ) (bytes : List ℕ) (u : Unread) (rest : List ℕ) → TextSoFar long bytes u rest → u.left ≡ 0 → IsTextBefore long bytes rest
text_end long bytes u rest so_far none =
    let room = so_far.can_end.room in
    let closed : u.inside ≡ 0 = omega (arith, room, none) in
    so_far.spelled [] rest ((ends_closed u.inside u.low u.high [] closed).1 IsUtf8-nil, sym none) refl
