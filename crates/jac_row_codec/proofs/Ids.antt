-- An id by its bytes: eight, six, one and one.
use Rattle.std.proofs.Common.{◌≡◌, refl, sym, ap, subst, ◌∙◌, ℕ, zero, suc, ◌+◌, ◌*◌, ◌/◌, ◌%◌, ◌^◌, ◌<◌, ◌≤◌, Bool, true, false, List, [], ◌∷◌, ◌++◌, length, append_assoc, append-nil, ◌↔◌, ◌⊎◌, inl, inr, ◌==◌, if◌then◌else◌, arith}
use Rattle.std.proofs.Math.Nat.{pow-suc, div-div-eq-div-mul, div-one, mul-add-div_right}
use Rattle.std.proofs.lemmas.Nat.{pow-add, div-mul-add, div-add-mod'}
use Rattle.std.proofs.lemmas.Bool.Decides.{nat_tests}
use Rattle.std.proofs.lemmas.List.{nil_from_length}
use Rattle.std.specs.Int.{byte_at, bytes_high_first}
use Rattle.jac_row_codec.specs.Faults.{GoesOn, IsIdOf}
use Rattle.jac_row_codec.specs.Reading.{Stops, StopsBy, IsStopOfBytes, Led, IsBetween, Numbers, IsNumber, IsOfModel, IdsOf, IsLastByte, LastsOf, IsIdIn, IsBehindOf, BehindOf, most_top, most_middle, least_next}
use Rattle.jac_value.specs.Ids.{is_id_of}
use Rattle.jac_row_codec.specs.declared.stop.Stop.{Stop}
use Rattle.jac_row_codec.specs.declared.stop.Stop.TheVariants as stops
use Rattle.jac_row_codec.proofs.Numbers.{byte_is, power_pos, one_number, one_spelled}
use Rattle.jac_row_codec.proofs.Cells.{by_refined, by_behind}
use Rattle.jac_row_codec.proofs.IdParts.{IsFront, AreIdParts, id_parts, whole_id}

-- Bytes after bytes.
by_powers : (j k n : ℕ) → n / 256 ^ (j + k) ≡ n / 256 ^ k / 256 ^ j
by_powers j k n =
    let same : j + k ≡ k + j = omega arith in
    ap (λ p. n / 256 ^ p) same ∙ (ap (λ p. n / p) (pow-add 256 k j) ∙ sym (div-div-eq-div-mul n (256 ^ k) (256 ^ j)))

pub apart : (j k n : ℕ) → bytes_high_first (j + k) n ≡ bytes_high_first j (n / 256 ^ k) ++ bytes_high_first k n
apart zero k n = let same : 0 + k ≡ k = omega arith in ap (λ i. bytes_high_first i n) same
apart (suc j) k n =
    let first : byte_at (j + k) n ≡ byte_at j (n / 256 ^ k) = byte_is (j + k) n ∙ (ap (λ x. x % 256) (by_powers j k n) ∙ sym (byte_is j (n / 256 ^ k))) in
    let longer : suc j + k ≡ suc (j + k) = omega arith in
    ap (λ i. bytes_high_first i n) longer ∙ (ap (λ b. b ∷ bytes_high_first (j + k) n) first ∙ ap (λ l. byte_at j (n / 256 ^ k) ∷ l) (apart j k n))

-- The last bytes of a number don't depend on what is above them.
pub low_only : (k q r : ℕ) → bytes_high_first k (q * 256 ^ k + r) ≡ bytes_high_first k r
low_only zero q r = refl
low_only (suc k) q r =
    let power : q * 256 ^ suc k ≡ q * 256 * 256 ^ k = ap (λ p. q * p) (pow-suc 256 k) ∙ omega arith in
    let high : (q * 256 * 256 ^ k + r) / 256 ^ k ≡ q * 256 + r / 256 ^ k = mul-add-div_right (power_pos k) (q * 256) r in
    let byte : byte_at k (q * 256 * 256 ^ k + r) ≡ byte_at k r = byte_is k (q * 256 * 256 ^ k + r) ∙ (ap (λ x. x % 256) high ∙ (omega arith ∙ sym (byte_is k r))) in
    ap (λ x. bytes_high_first (suc k) (x + r)) power
    ∙ (ap (λ b. b ∷ bytes_high_first k (q * 256 * 256 ^ k + r)) byte ∙ ap (λ l. byte_at k r ∷ l) (low_only k (q * 256) r))

-- What remains to be read after some bytes.
pub derived_by : (Is : ℕ → Type 0) (j k value x : ℕ) → x < 256 ^ j → (t : List ℕ) → BehindOf Is (j + k) value (bytes_high_first j x ++ t) ↔ BehindOf Is k (value * 256 ^ j + x) t
derived_by Is j k value x small t =
    let high : (value * 256 ^ j + x) / 256 ^ j ≡ value = div-mul-add value (256 ^ j) x small in (
      (λ l. let n = l.thing in
          let same : (value * 256 ^ j + x) / 256 ^ j ≡ n / 256 ^ k / 256 ^ j = high ∙ (sym l.is.read ∙ by_powers j k n) in
          let e : bytes_high_first j (value * 256 ^ j + x) ++ t ≡ bytes_high_first j (n / 256 ^ k) ++ (bytes_high_first k n ++ l.after) =
          ap (λ b. b ++ t) (low_only j value x) ∙ (l.split ∙ (ap (λ b. b ++ l.after) (apart j k n) ∙ append_assoc (bytes_high_first j (n / 256 ^ k)) (bytes_high_first k n) l.after)) in
          let one = one_number j (value * 256 ^ j + x) (n / 256 ^ k) t (bytes_high_first k n ++ l.after) same e in
          record { thing = n; is = record { is = l.is.is; read = sym one.0 }; after = l.after; split = one.1 }),
      (λ l. let n = l.thing in
          let front : bytes_high_first j x ≡ bytes_high_first j (n / 256 ^ k) = sym (low_only j value x) ∙ ap (λ y. bytes_high_first j y) (sym l.is.read) in
          record {
            thing = n;
            is = record { is = l.is.is; read = by_powers j k n ∙ (ap (λ y. y / 256 ^ j) l.is.read ∙ high) };
            after = l.after;
            split = ap (λ b. bytes_high_first j x ++ b) l.split ∙ (sym (append_assoc (bytes_high_first j x) (bytes_high_first k n) l.after)
                ∙ ap (λ b. b ++ l.after) (ap (λ b. b ++ bytes_high_first k n) front ∙ sym (apart j k n)));
          }),
    )

-- The next bytes are a number of this range. Each number of the range can go on to a right
-- spelling, and no other can.
pub refined : (Is : ℕ → Type 0) (j k value low high : ℕ) → high < 256 ^ j → ((n : ℕ) → Is n → n / 256 ^ (j + k) ≡ value → IsBetween low high (n / 256 ^ k % 256 ^ j))
    → ((x : ℕ) → IsBetween low high x → (n : ℕ) × Is n × (n / 256 ^ k ≡ value * 256 ^ j + x))
    → (bytes : List ℕ) (e : Stop) → StopsBy (Numbers low high j) bytes e → StopsBy (BehindOf Is (j + k) value) bytes e
refined Is j k value low high wide within some = by_refined (IsBetween low high) (bytes_high_first j) (BehindOf Is (j + k) value)
    (λ t l. let n = l.thing in
    let whole : n / 256 ^ k / 256 ^ j * 256 ^ j + n / 256 ^ k % 256 ^ j ≡ n / 256 ^ k = div-add-mod' (n / 256 ^ k) (256 ^ j) in
    let front : bytes_high_first j (n / 256 ^ k) ≡ bytes_high_first j (n / 256 ^ k % 256 ^ j) = ap (λ y. bytes_high_first j y) (sym whole) ∙ low_only j (n / 256 ^ k / 256 ^ j) (n / 256 ^ k % 256 ^ j) in
    record {
      thing = n / 256 ^ k % 256 ^ j;
      is = within n l.is.is l.is.read;
      after = bytes_high_first k n ++ l.after;
      split = l.split ∙ (ap (λ b. b ++ l.after) (apart j k n) ∙ (append_assoc (bytes_high_first j (n / 256 ^ k)) (bytes_high_first k n) l.after
          ∙ ap (λ b. b ++ (bytes_high_first k n ++ l.after)) front));
    })
    (λ x between. let one = some x between in
    let to = between.to in
    let small : x < 256 ^ j = omega (arith, to, wide) in
    let n = one.0 in
    let front : bytes_high_first j x ≡ bytes_high_first j (n / 256 ^ k) = sym (low_only j value x) ∙ ap (λ y. bytes_high_first j y) (sym one.2) in (
      bytes_high_first k n,
      record {
        thing = n;
        is = record { is = one.1; read = by_powers j k n ∙ (ap (λ y. y / 256 ^ j) one.2 ∙ div-mul-add value (256 ^ j) x small) };
        after = [];
        split = ap (λ b. b ++ bytes_high_first k n) front ∙ (sym (apart j k n) ∙ sym (append-nil (bytes_high_first (j + k) n)));
      },
    ))

joined : (j k value x n : ℕ) → n / 256 ^ k ≡ value * 256 ^ j + x → bytes_high_first j x ++ bytes_high_first k n ≡ bytes_high_first (j + k) n
joined j k value x n read = ap (λ b. b ++ bytes_high_first k n) (sym (low_only j value x) ∙ ap (λ y. bytes_high_first j y) (sym read)) ∙ sym (apart j k n)

-- A part of the id has been read.
pub record IsHalf (m left value : ℕ) (bytes rest : List ℕ) : Type 0 where
  pub spelled : (n : ℕ) (after : List ℕ) → n / 256 ^ left ≡ value → rest ≡ bytes_high_first left n ++ after → bytes ≡ bytes_high_first 16 n ++ after
  pub stops : (e : Stop) → StopsBy (BehindOf (IsOfModel m) left value) rest e → StopsBy (IdsOf m) bytes e

pub half_start : (m : ℕ) (bytes : List ℕ) → IsHalf m 16 0 bytes bytes
half_start m bytes = record {
  spelled = λ n after read is. is;
  stops = by_behind (IdsOf m) (BehindOf (IsOfModel m) 16 0) [] bytes bytes refl
      (λ t. (
        (λ l. record { thing = l.thing; is = record { is = l.is; read = let to = (id_parts l.thing m l.is).to in omega (arith, to) }; after = l.after; split = l.split }),
        (λ l. record { thing = l.thing; is = l.is.is; after = l.after; split = l.split }),
      ));
}

pub half_step : (m j k value x low high : ℕ) (bytes rest after : List ℕ) → high < 256 ^ j → IsHalf m (j + k) value bytes rest → IsNumber low high j rest x after → IsHalf m k (value * 256 ^ j + x) bytes after
half_step m j k value x low high bytes rest after wide half number =
    let to = number.between.to in
    let small : x < 256 ^ j = omega (arith, to, wide) in
    record {
      spelled = λ n more read is.
          half.spelled n more (by_powers j k n ∙ (ap (λ y. y / 256 ^ j) read ∙ div-mul-add value (256 ^ j) x small))
          (number.split ∙ (ap (λ l. bytes_high_first j x ++ l) is ∙ (sym (append_assoc (bytes_high_first j x) (bytes_high_first k n) more) ∙ ap (λ l. l ++ more) (joined j k value x n read))));
      stops = λ e s. half.stops e (by_behind (BehindOf (IsOfModel m) (j + k) value) (BehindOf (IsOfModel m) k (value * 256 ^ j + x)) (bytes_high_first j x) rest after number.split
          (derived_by (IsOfModel m) j k value x small) e s);
    }

-- The four steps.

front_by : (top middle : ℕ) (b : Bool) → (top == 0) ≡ b → top ≤ most_top → middle ≤ if◌then◌else◌ {A = ℕ} b 0xF_FFFF_FFFF 0xFFFF_FFFF_FFFF → IsFront (top * 0x1_0000_0000_0000 + middle)
front_by top middle true e to less = let none : top ≡ 0 = grind (arith, nat_tests, e) in inl (omega (arith, none, less))
front_by top middle false e to less = let some : 0 < top = grind (arith, nat_tests, e) in inr (omega (arith, some), omega (arith, to, less))

pub front_is : (top middle : ℕ) → top ≤ most_top → middle ≤ most_middle top → IsFront (top * 0x1_0000_0000_0000 + middle)
front_is top middle to less = front_by top middle (top == 0) refl to less

middle_by : (z : ℕ) (b : Bool) → (z / 0x1_0000_0000_0000 == 0) ≡ b → IsFront z → z % 0x1_0000_0000_0000 ≤ if◌then◌else◌ {A = ℕ} b 0xF_FFFF_FFFF 0xFFFF_FFFF_FFFF
middle_by z true e (inl few) = omega (arith, few)
middle_by z true e (inr big) = let none : z / 0x1_0000_0000_0000 ≡ 0 = grind (arith, nat_tests, e) in let low = big.0 in absurd (omega (arith, none, low))
middle_by z false e front = omega arith

middle_is : (z : ℕ) → IsFront z → z % 0x1_0000_0000_0000 ≤ most_middle (z / 0x1_0000_0000_0000)
middle_is z front = middle_by z (z / 0x1_0000_0000_0000 == 0) refl front

top_is : (z : ℕ) → IsFront z → z / 0x1_0000_0000_0000 ≤ most_top
top_is z (inl few) = omega (arith, few)
top_is z (inr big) = let high = big.1 in omega (arith, high)

most_fits : (b : Bool) → if◌then◌else◌ {A = ℕ} b 0xF_FFFF_FFFF 0xFFFF_FFFF_FFFF < 256 ^ 6
most_fits true = omega arith
most_fits false = omega arith

pub least_fits : (b : Bool) → if◌then◌else◌ {A = ℕ} b 16 0 ≤ 255
least_fits true = omega arith
least_fits false = omega arith

-- An id with the least bytes for those that aren't read yet.
some_id : (m z x : ℕ) → m < 64 → IsFront z → least_next z ≤ x → x < 256 → is_id_of ((z * 256 + x) * 256 + m) m ≡ true
some_id m z x small front least fits = whole_id z x m m least fits (omega (arith, small)) (omega (arith, small)) front small

pub top_stops : (m : ℕ) → m < 64 → (bytes : List ℕ) (e : Stop) → StopsBy (Numbers 0 0xFF_FFFF_FFFF 8) bytes e → StopsBy (IdsOf m) bytes e
top_stops m small bytes e s = (half_start m bytes).stops e (refined (IsOfModel m) 8 8 0 0 0xFF_FFFF_FFFF (omega arith)
    (λ n is read. let top = top_is (n / 0x1_0000) (id_parts n m is).front in record { from = omega arith; to = omega (arith, top) })
    (λ x between. let to = between.to in
    let z = x * 0x1_0000_0000_0000 + 0 in
    let n = (z * 256 + 255) * 256 + m in
    (n, some_id m z 255 small (front_is x 0 to (omega arith)) (least_fits (z % 0x10_0000_0000 == 0)) (omega arith), omega (arith, small)))
    bytes e s)

half_top : (m top : ℕ) (bytes rest : List ℕ) → IsNumber 0 0xFF_FFFF_FFFF 8 bytes top rest → IsHalf m 8 top bytes rest
half_top m top bytes rest number =
    let same : 0 * 256 ^ 8 + top ≡ top = omega arith in
    subst (λ v. IsHalf m 8 v bytes rest) same (half_step m 8 8 0 top 0 0xFF_FFFF_FFFF bytes bytes rest (omega arith) (half_start m bytes) number)

pub middle_stops : (m top : ℕ) → m < 64 → (bytes rest : List ℕ) → IsNumber 0 0xFF_FFFF_FFFF 8 bytes top rest → (e : Stop) → StopsBy (Numbers 0 (most_middle top) 6) rest e → StopsBy (IdsOf m) bytes e
middle_stops m top small bytes rest number e s = (half_top m top bytes rest number).stops e (refined (IsOfModel m) 6 2 top 0 (most_middle top) (most_fits (top == 0))
    (λ n is read. let middle = middle_is (n / 0x1_0000) (id_parts n m is).front in
    let same : n / 0x1_0000 / 0x1_0000_0000_0000 ≡ top = omega (arith, read) in
    record { from = omega arith; to = subst (λ t. n / 0x1_0000 % 0x1_0000_0000_0000 ≤ most_middle t) same middle })
    (λ x between. let to = number.between.to in
    let z = top * 0x1_0000_0000_0000 + x in
    let n = (z * 256 + 255) * 256 + m in
    (n, some_id m z 255 small (front_is top x to between.to) (least_fits (z % 0x10_0000_0000 == 0)) (omega arith), omega (arith, small)))
    rest e s)

half_middle : (m top middle : ℕ) (bytes rest after : List ℕ) → IsNumber 0 0xFF_FFFF_FFFF 8 bytes top rest → IsNumber 0 (most_middle top) 6 rest middle after
    → IsHalf m 2 (top * 0x1_0000_0000_0000 + middle) bytes after
half_middle m top middle bytes rest after number more =
    half_step m 6 2 top middle 0 (most_middle top) bytes rest after (most_fits (top == 0)) (half_top m top bytes rest number) more

pub next_stops : (m top middle : ℕ) → m < 64 → (bytes rest after : List ℕ) → IsNumber 0 0xFF_FFFF_FFFF 8 bytes top rest → IsNumber 0 (most_middle top) 6 rest middle after
    → (e : Stop) → StopsBy (Numbers (least_next (top * 0x1_0000_0000_0000 + middle)) 255 1) after e → StopsBy (IdsOf m) bytes e
next_stops m top middle small bytes rest after number more e s =
    let z = top * 0x1_0000_0000_0000 + middle in
    let front = front_is top middle number.between.to more.between.to in
    (half_middle m top middle bytes rest after number more).stops e (refined (IsOfModel m) 1 1 z (least_next z) 255 (omega arith)
    (λ n is read. let next = (id_parts n m is).next in
    let same : n / 0x1_0000 ≡ z = omega (arith, read) in
    record { from = subst (λ y. least_next y ≤ n / 256 % 256) same next; to = omega arith })
    (λ x between. let to = between.to in
    let n = (z * 256 + x) * 256 + m in
    (n, some_id m z x small front between.from (omega (arith, to)), omega (arith, small)))
    after e s)

half_next : (m top middle next : ℕ) (bytes rest after then' : List ℕ) → IsNumber 0 0xFF_FFFF_FFFF 8 bytes top rest → IsNumber 0 (most_middle top) 6 rest middle after
    → IsNumber (least_next (top * 0x1_0000_0000_0000 + middle)) 255 1 after next then' → IsHalf m 1 ((top * 0x1_0000_0000_0000 + middle) * 256 + next) bytes then'
half_next m top middle next bytes rest after then' number more last =
    half_step m 1 1 (top * 0x1_0000_0000_0000 + middle) next (least_next (top * 0x1_0000_0000_0000 + middle)) 255 bytes after then' (omega arith) (half_middle m top middle bytes rest after number more) last

one_last : (v b : ℕ) → b < 256 → bytes_high_first 1 (v * 256 + b) ≡ b ∷ []
one_last v b small = let e : byte_at 0 (v * 256 + b) ≡ b = byte_is 0 (v * 256 + b) ∙ omega (arith, small) in ap (λ x. x ∷ []) e

last_same : (m z x : ℕ) → m < 64 → IsFront z → least_next z ≤ x → x < 256 → (t : List ℕ) → BehindOf (IsOfModel m) 1 (z * 256 + x) t ↔ LastsOf m t
last_same m z x small front least fits t = (
  (λ l. let n = l.thing in
      let read : n / 256 ≡ z * 256 + x = l.is.read in
      let of = (id_parts n m l.is.is).of in
      record { thing = n % 256; is = (omega arith, omega (arith, of)); after = l.after; split = l.split ∙ ap (λ b. (b ∷ []) ++ l.after) (byte_is 0 n ∙ omega arith) }),
  (λ l. let b = l.thing in
      let byte = l.is.0 in
      record {
        thing = (z * 256 + x) * 256 + b;
        is = record { is = whole_id z x b m least fits byte l.is.1 front small; read = omega (arith, byte) };
        after = l.after;
        split = l.split ∙ ap (λ y. y ++ l.after) (sym (one_last (z * 256 + x) b byte));
      }),
)

pub low_stops : (m top middle next : ℕ) → m < 64 → (bytes rest after then' : List ℕ) → IsNumber 0 0xFF_FFFF_FFFF 8 bytes top rest → IsNumber 0 (most_middle top) 6 rest middle after
    → IsNumber (least_next (top * 0x1_0000_0000_0000 + middle)) 255 1 after next then' → (e : Stop) → StopsBy (LastsOf m) then' e → StopsBy (IdsOf m) bytes e
low_stops m top middle next small bytes rest after then' number more last e s =
    let z = top * 0x1_0000_0000_0000 + middle in
    let to = last.between.to in
    let fits : next < 256 = omega (arith, to) in
    (half_next m top middle next bytes rest after then' number more last).stops e
    (by_behind (BehindOf (IsOfModel m) 1 (z * 256 + next)) (LastsOf m) [] then' then' refl
    (last_same m z next small (front_is top middle number.between.to more.between.to) last.between.from fits) e s)

pub id_read : (m top middle next b : ℕ) → m < 64 → (bytes rest after then' end : List ℕ) → IsNumber 0 0xFF_FFFF_FFFF 8 bytes top rest → IsNumber 0 (most_middle top) 6 rest middle after
    → IsNumber (least_next (top * 0x1_0000_0000_0000 + middle)) 255 1 after next then' → IsLastByte m b → then' ≡ b ∷ end
    → IsIdIn m bytes (((top * 0x1_0000_0000_0000 + middle) * 256 + next) * 256 + b) end
id_read m top middle next b small bytes rest after then' end number more last is split =
    let z = top * 0x1_0000_0000_0000 + middle in
    let to = last.between.to in
    let byte = is.0 in
    record {
      of_model = whole_id z next b m last.between.from (omega (arith, to)) byte is.1 (front_is top middle number.between.to more.between.to) small;
      split = (half_next m top middle next bytes rest after then' number more last).spelled ((z * 256 + next) * 256 + b) end (omega (arith, byte))
          (split ∙ ap (λ y. y ++ end) (sym (one_last (z * 256 + next) b byte)));
    }

-- An id alone.

alone : (m id : ℕ) (bytes : List ℕ) → IsIdOf bytes m id → bytes ≡ bytes_high_first 16 id ++ []
alone m id bytes is = is.spelled ∙ sym (append-nil (bytes_high_first 16 id))

pub read_alone : (m number : ℕ) (bytes rest : List ℕ) → IsIdIn m bytes number rest → length rest ≡ 0 → IsIdOf bytes m number
read_alone m number bytes rest read none = record {
  of_model = read.of_model;
  spelled = read.split ∙ (ap (λ l. bytes_high_first 16 number ++ l) (nil_from_length rest none) ∙ append-nil (bytes_high_first 16 number));
}

pub not_alone : (m id number : ℕ) (bytes rest : List ℕ) → IsIdOf bytes m id → IsIdIn m bytes number rest → ¬ (length rest ≡ 0) → ⊥
not_alone m id number bytes rest is read some =
    let room = id_parts id m is.of_model in
    let space = id_parts number m read.of_model in
    let fits = room.to in
    let fit = space.to in
    let same = one_spelled 16 id number [] rest (omega (arith, fits)) (omega (arith, fit)) (sym (alone m id bytes is) ∙ read.split) in
    some (ap length (sym same.1))

pub never_id : (m id : ℕ) (bytes : List ℕ) (e : Stop) → IsIdOf bytes m id → StopsBy (IdsOf m) bytes e → IsStopOfBytes e → ⊥
never_id m id bytes (stops.Left left) is stop of_bytes = stop.wrong (record { thing = id; is = is.of_model; after = []; split = alone m id bytes is })
never_id m id bytes stops.Memory is stop of_bytes = of_bytes
