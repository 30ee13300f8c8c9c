-- Cells of a kind: each field of a spelling leads on to the next.
use Rattle.std.proofs.Common.{◌≡◌, refl, sym, ap, subst, ◌∙◌, ℕ, zero, suc, ◌+◌, ◌*◌, ◌/◌, ◌%◌, ◌^◌, ◌<◌, ◌≤◌, Bool, true, false, List, [], ◌∷◌, ◌++◌, length, append_assoc, append-nil, ◌↔◌, ◌==◌, if◌then◌else◌, nat_lt, Some, None, inl, arith, rules}
use Rattle.std.proofs.lemmas.Nat.{div-mul-add, mod-mul-add}
use Rattle.std.proofs.lemmas.List.{nil_from_length, length-replicate}
use Rattle.std.proofs.lemmas.Str.{IsUtf8-from_ascii}
use Rattle.std.specs.Prelude.{slice_index, replicate}
use Rattle.std.proofs.lemmas.Bool.Decides.{nat_tests}
use Rattle.std.proofs.lemmas.Int.{of_z-to_z}
use Rattle.std.proofs.Math.Facts.{sfits_to_z, Fits-of_z}
use Rattle.std.specs.Int.{w64, bytes_high_first, cast_signed, cast_unsigned}
use Rattle.jac_value.specs.Ids.{is_id_of}
use Rattle.jac_value.specs.Values.{has_kind, default_value}
use Rattle.jac_value.specs.declared.value.Kind.{Kind}
use Rattle.jac_value.specs.declared.value.Kind.TheVariants as kinds
use Rattle.jac_value.specs.declared.value.Value.{Value}
use Rattle.jac_value.specs.declared.value.Value.TheVariants as values
use Rattle.jac_row_codec.specs.Spelling.{cell_bytes, sign_byte}
use Rattle.jac_row_codec.specs.Faults.{GoesOn, IsIdOf}
use Rattle.jac_row_codec.specs.Reading.{Stops, StopsBy, IsStopOfBytes, Led, IsBetween, Numbers, IsNumber, IsOf, CellsOf, IsCellOf, tag_of, text_body, BodiesOf, IsBodyOf, sign_bytes, Signs, IdsOf, IsLastByte, LastsOf, IsText, TextsOf, IsIdIn, IsTextIn, most_sign}
use Rattle.jac_row_codec.specs.declared.stop.Stop.{Stop}
use Rattle.jac_row_codec.specs.declared.stop.Stop.TheVariants as stops
use Rattle.jac_row_codec.proofs.Stops.{stops_at_end, stops_here, stops_behind, stops_refined}
use Rattle.jac_row_codec.proofs.Numbers.{one_spelled}
use Rattle.jac_row_codec.proofs.IdParts.{id_parts, whole_id}

pub lifted : (L M : List ℕ → Type 0) (bytes bs : List ℕ) → ((n : ℕ) → Stops M bs n → Stops L bytes n) → (e : Stop) → StopsBy M bs e → StopsBy L bytes e
lifted L M bytes bs f (stops.Left n) s = f n s
lifted L M bytes bs f stops.Memory s = tt

-- Each right spelling begins with a word, and each word can go on to a right spelling.
pub by_refined : {X : Type 0} (Is : X → Type 0) (spell : X → List ℕ) (L : List ℕ → Type 0) → ((t : List ℕ) → L t → Led Is spell t) → ((x : X) → Is x → GoesOn L (spell x))
    → (bytes : List ℕ) (e : Stop) → StopsBy (Led Is spell) bytes e → StopsBy L bytes e
by_refined Is spell L begins goes bytes e s = lifted L (Led Is spell) bytes bytes (λ n t. stops_refined Is spell L begins goes bytes n t) e s

pub by_behind : (L M : List ℕ → Type 0) (lead bytes rest : List ℕ) → bytes ≡ lead ++ rest → ((t : List ℕ) → L (lead ++ t) ↔ M t) → (e : Stop) → StopsBy M rest e → StopsBy L bytes e
by_behind L M lead bytes rest split same e s = lifted L M bytes rest (λ n t. subst (λ b. Stops L b n) (sym split) (stops_behind L M lead rest n same t)) e s

-- A tag.

tagged : (k : Kind) (v : Value) → has_kind k v ≡ true → cell_bytes v ≡ tag_of k ∷ text_body v
tagged kinds.Int (values.Int i) e = refl
tagged kinds.Text (values.Text t) e = refl
tagged kinds.Bool (values.Bool b) e = refl
tagged (kinds.Ref m) (values.Ref None) e = refl
tagged (kinds.Ref m) (values.Ref (Some id)) e = refl
tagged k v e = cc

pub default_is : (k : Kind) → IsOf k (default_value k)
default_is kinds.Int = record { fit = refl; valid = search rules }
default_is kinds.Text = record { fit = refl; valid = search rules }
default_is kinds.Bool = record { fit = refl; valid = tt }
default_is (kinds.Ref m) = record { fit = refl; valid = tt }

tag_itself : (k : Kind) → bytes_high_first 1 (tag_of k) ≡ tag_of k ∷ []
tag_itself kinds.Int = refl
tag_itself kinds.Text = refl
tag_itself kinds.Bool = refl
tag_itself (kinds.Ref m) = refl

pub tag_stops : (k : Kind) (bytes : List ℕ) (e : Stop) → StopsBy (Numbers (tag_of k) (tag_of k) 1) bytes e → StopsBy (CellsOf k) bytes e
tag_stops k = by_refined (IsBetween (tag_of k) (tag_of k)) (bytes_high_first 1) (CellsOf k)
    (λ t l. record {
      thing = tag_of k;
      is = record { from = omega arith; to = omega arith };
      after = text_body l.thing ++ l.after;
      split = l.split ∙ (ap (λ x. x ++ l.after) (tagged k l.thing l.is.fit) ∙ ap (λ x. x ++ (text_body l.thing ++ l.after)) (sym (tag_itself k)));
    })
    (λ x between.
    let from = between.from in let to = between.to in
    let is : x ≡ tag_of k = omega (arith, from, to) in
    let v = default_value k in (
      text_body v,
      record {
        thing = v;
        is = default_is k;
        after = [];
        split = ap (λ y. bytes_high_first 1 y ++ text_body v) is ∙ (ap (λ y. y ++ text_body v) (tag_itself k) ∙ (sym (tagged k v (default_is k).fit) ∙ sym (append-nil (cell_bytes v))));
      },
    ))

tag_split : (k : Kind) (bytes rest : List ℕ) (n : ℕ) → IsNumber (tag_of k) (tag_of k) 1 bytes n rest → bytes ≡ tag_of k ∷ rest
tag_split k bytes rest n number =
    let from = number.between.from in let to = number.between.to in
    let is : n ≡ tag_of k = omega (arith, from, to) in
    number.split ∙ (ap (λ y. bytes_high_first 1 y ++ rest) is ∙ ap (λ y. y ++ rest) (tag_itself k))

pub body_stops : (k : Kind) (bytes rest : List ℕ) (n : ℕ) → IsNumber (tag_of k) (tag_of k) 1 bytes n rest → (e : Stop) → StopsBy (BodiesOf k) rest e → StopsBy (CellsOf k) bytes e
body_stops k bytes rest n number = by_behind (CellsOf k) (BodiesOf k) (tag_of k ∷ []) bytes rest (tag_split k bytes rest n number)
    (λ t. (
      (λ l. let whole : tag_of k ∷ t ≡ tag_of k ∷ (text_body l.thing ++ l.after) = l.split ∙ ap (λ x. x ++ l.after) (tagged k l.thing l.is.fit) in
          record { thing = l.thing; is = l.is; after = l.after; split = cc }),
      (λ l. record { thing = l.thing; is = l.is; after = l.after; split = ap (λ x. tag_of k ∷ x) l.split ∙ ap (λ x. x ++ l.after) (sym (tagged k l.thing l.is.fit)) }),
    ))

pub cell_read : (k : Kind) (bytes rest after : List ℕ) (n : ℕ) (v : Value) → IsNumber (tag_of k) (tag_of k) 1 bytes n rest → IsBodyOf k rest v after → IsCellOf k bytes v after
cell_read k bytes rest after n v number read = record {
  of_kind = read.of_kind;
  split = tag_split k bytes rest n number ∙ (ap (λ x. tag_of k ∷ x) read.split ∙ ap (λ x. x ++ after) (sym (tagged k v read.of_kind.fit)));
}

-- An integer.

begin_int : (t : List ℕ) (v : Value) (after : List ℕ) → IsOf kinds.Int v → t ≡ text_body v ++ after → Numbers 0 0xFFFF_FFFF_FFFF_FFFF 8 t
begin_int t (values.Int i) after is split =
    let room = (Fits-of_z {w = w64} {z = i} is.valid).fits in
    record { thing = cast_unsigned w64 i; is = record { from = omega arith; to = omega (arith, room) }; after = after; split = split }
begin_int t (values.Text s) after is split = let e : false ≡ true = is.fit in cc
begin_int t (values.Bool b) after is split = let e : false ≡ true = is.fit in cc
begin_int t (values.Ref id) after is split = let e : false ≡ true = is.fit in cc

int_of : (x : ℕ) → x ≤ 0xFFFF_FFFF_FFFF_FFFF → IsOf kinds.Int (values.Int (cast_signed w64 x))
int_of x to = record { fit = refl; valid = sfits_to_z {w = w64} (record { fits = omega (arith, to) }) }

int_back : (x : ℕ) → x ≤ 0xFFFF_FFFF_FFFF_FFFF → cast_unsigned w64 (cast_signed w64 x) ≡ x
int_back x to = of_z-to_z w64 x (omega (arith, to))

pub int_stops : (bytes : List ℕ) (e : Stop) → StopsBy (Numbers 0 0xFFFF_FFFF_FFFF_FFFF 8) bytes e → StopsBy (BodiesOf kinds.Int) bytes e
int_stops = by_refined (IsBetween 0 0xFFFF_FFFF_FFFF_FFFF) (bytes_high_first 8) (BodiesOf kinds.Int)
    (λ t l. begin_int t l.thing l.after l.is l.split)
    (λ x between. (
      [],
      record {
        thing = values.Int (cast_signed w64 x);
        is = int_of x between.to;
        after = [];
        split = ap (λ y. bytes_high_first 8 y ++ []) (sym (int_back x between.to));
      },
    ))

pub int_read : (bytes rest : List ℕ) (n : ℕ) → IsNumber 0 0xFFFF_FFFF_FFFF_FFFF 8 bytes n rest → IsBodyOf kinds.Int bytes (values.Int (cast_signed w64 n)) rest
int_read bytes rest n number = record {
  of_kind = int_of n number.between.to;
  split = number.split ∙ ap (λ y. bytes_high_first 8 y ++ rest) (sym (int_back n number.between.to));
}

-- A truth value.

pub sign_number : (b : Bool) → IsBetween 0 1 (sign_byte b) × (bytes_high_first 1 (sign_byte b) ≡ sign_byte b ∷ [])
sign_number true = (record { from = omega arith; to = omega arith }, refl)
sign_number false = (record { from = omega arith; to = omega arith }, refl)

sign_of : (x : ℕ) → x ≤ 1 → bytes_high_first 1 x ≡ sign_bytes (x == 1)
sign_of zero to = refl
sign_of (suc zero) to = refl
sign_of (suc (suc x)) to = absurd (omega (arith, to))

pub sign_stops : (bytes : List ℕ) (e : Stop) → StopsBy (Numbers 0 1 1) bytes e → StopsBy Signs bytes e
sign_stops = by_refined (IsBetween 0 1) (bytes_high_first 1) Signs
    (λ t l. record { thing = sign_byte l.thing; is = (sign_number l.thing).0; after = l.after; split = l.split ∙ ap (λ y. y ++ l.after) (sym (sign_number l.thing).1) })
    (λ x between. ([], record { thing = x == 1; is = tt; after = []; split = ap (λ y. y ++ []) (sign_of x between.to) }))

pub sign_read : (bytes rest : List ℕ) (n : ℕ) → IsNumber 0 1 1 bytes n rest → bytes ≡ sign_bytes (n == 1) ++ rest
sign_read bytes rest n number = number.split ∙ ap (λ y. y ++ rest) (sign_of n number.between.to)

begin_truth : (t : List ℕ) (v : Value) (after : List ℕ) → IsOf kinds.Bool v → t ≡ text_body v ++ after → Signs t
begin_truth t (values.Bool b) after is split = record { thing = b; is = tt; after = after; split = split }
begin_truth t (values.Int i) after is split = let e : false ≡ true = is.fit in cc
begin_truth t (values.Text s) after is split = let e : false ≡ true = is.fit in cc
begin_truth t (values.Ref id) after is split = let e : false ≡ true = is.fit in cc

truth_is : (b : Bool) → IsOf kinds.Bool (values.Bool b)
truth_is b = record { fit = refl; valid = tt }

pub truth_stops : (bytes : List ℕ) (e : Stop) → StopsBy Signs bytes e → StopsBy (BodiesOf kinds.Bool) bytes e
truth_stops bytes = by_behind (BodiesOf kinds.Bool) Signs [] bytes bytes refl
    (λ t. ((λ l. begin_truth t l.thing l.after l.is l.split), (λ l. record { thing = values.Bool l.thing; is = truth_is l.thing; after = l.after; split = l.split })))

pub truth_read : (bytes rest : List ℕ) (b : Bool) → bytes ≡ sign_bytes b ++ rest → IsBodyOf kinds.Bool bytes (values.Bool b) rest
truth_read bytes rest b split = record { of_kind = truth_is b; split = split }

-- The last byte of an id.

last_goes : (m : ℕ) → m < 64 → GoesOn (LastsOf m) []
last_goes m small = (m ∷ [], record { thing = m; is = (omega (arith, small), omega (arith, small)); after = []; split = refl })

pub last_short : (m : ℕ) (bytes : List ℕ) → m < 64 → length bytes ≡ 0 → Stops (LastsOf m) bytes 0
last_short m bytes small none = subst (λ b. Stops (LastsOf m) b 0) (sym (nil_from_length bytes none))
    (stops_at_end (LastsOf m) (last_goes m small) (λ l. let e : [] ≡ l.thing ∷ l.after = l.split in cc))

last_never : (m b : ℕ) → ¬ (b % 64 ≡ m) → ¬ (GoesOn (LastsOf m) (b ∷ []))
last_never m b other goes =
    let e : b ∷ goes.0 ≡ goes.1.thing ∷ goes.1.after = goes.1.split in
    let same : goes.1.thing ≡ b = cc in
    other (subst (λ x. x % 64 ≡ m) same goes.1.is.1)

pub last_out : (m b : ℕ) (bytes rest : List ℕ) → m < 64 → bytes ≡ b ∷ rest → ¬ (b % 64 ≡ m) → Stops (LastsOf m) bytes (length bytes)
last_out m b bytes rest small split other = subst (λ x. Stops (LastsOf m) x (length x)) (sym split) (stops_here (LastsOf m) b rest (last_goes m small) (last_never m b other))

-- A reference. No model from 64 on has ids.

one_if : (m : ℕ) → m < 64 → most_sign m ≡ 1
one_if m small = let e : nat_lt m 64 ≡ true = grind (arith, nat_tests, small) in rw e refl

most_of : (b : Bool) (n : ℕ) → n ≤ if◌then◌else◌ {A = ℕ} b 1 0 → 0 < n → b ≡ true
most_of true n to some = refl
most_of false n to some = absurd (omega (arith, to, some))

most_at : (b : Bool) → if◌then◌else◌ {A = ℕ} b 1 0 ≤ 1
most_at true = omega arith
most_at false = omega arith

pub has_ids : (m n : ℕ) (bytes rest : List ℕ) → IsNumber 0 (most_sign m) 1 bytes n rest → ¬ (n ≡ 0) → m < 64
has_ids m n bytes rest number some =
    let e = most_of (nat_lt m 64) n number.between.to (grind (arith, some)) in grind (arith, nat_tests, e)

begin_ref : (m : ℕ) (t : List ℕ) (v : Value) (after : List ℕ) → IsOf (kinds.Ref m) v → t ≡ text_body v ++ after → Numbers 0 (most_sign m) 1 t
begin_ref m t (values.Ref None) after is split = record { thing = 0; is = record { from = omega arith; to = omega arith }; after = after; split = split }
begin_ref m t (values.Ref (Some id)) after is split =
    let of = (id_parts id m is.fit).of in
    let small : m < 64 = omega (arith, of) in
    let one = one_if m small in
    record { thing = 1; is = record { from = omega arith; to = omega (arith, one) }; after = bytes_high_first 16 id ++ after; split = split }
begin_ref m t (values.Int i) after is split = let e : false ≡ true = is.fit in cc
begin_ref m t (values.Text s) after is split = let e : false ≡ true = is.fit in cc
begin_ref m t (values.Bool b) after is split = let e : false ≡ true = is.fit in cc

first_id : (m : ℕ) → m < 64 → is_id_of (4096 + m) m ≡ true
first_id m small = whole_id 0 16 m m (omega arith) (omega arith) (omega (arith, small)) (omega (arith, small)) (inl (omega arith)) small

ref_goes : (m x : ℕ) → x ≤ most_sign m → GoesOn (BodiesOf (kinds.Ref m)) (bytes_high_first 1 x)
ref_goes m zero to = ([], record { thing = values.Ref None; is = record { fit = refl; valid = tt }; after = []; split = refl })
ref_goes m (suc zero) to =
    let e = most_of (nat_lt m 64) 1 to (omega arith) in
    let small : m < 64 = grind (arith, nat_tests, e) in
    (bytes_high_first 16 (4096 + m), record { thing = values.Ref (Some (4096 + m)); is = record { fit = first_id m small; valid = tt }; after = []; split = sym (append-nil (1 ∷ bytes_high_first 16 (4096 + m))) })
ref_goes m (suc (suc x)) to = let most = most_at (nat_lt m 64) in absurd (omega (arith, to, most))

pub ref_stops : (m : ℕ) (bytes : List ℕ) (e : Stop) → StopsBy (Numbers 0 (most_sign m) 1) bytes e → StopsBy (BodiesOf (kinds.Ref m)) bytes e
ref_stops m = by_refined (IsBetween 0 (most_sign m)) (bytes_high_first 1) (BodiesOf (kinds.Ref m))
    (λ t l. begin_ref m t l.thing l.after l.is l.split)
    (λ x between. ref_goes m x between.to)

is_one : (m n : ℕ) → n ≤ most_sign m → ¬ (n ≡ 0) → n ≡ 1
is_one m n to some = let most = most_at (nat_lt m 64) in grind (arith, to, most, some)

some_split : (m n : ℕ) (bytes rest : List ℕ) → IsNumber 0 (most_sign m) 1 bytes n rest → ¬ (n ≡ 0) → bytes ≡ 1 ∷ rest
some_split m n bytes rest number some = number.split ∙ ap (λ x. bytes_high_first 1 x ++ rest) (is_one m n number.between.to some)

end_ref : (m : ℕ) (t : List ℕ) (v : Value) (after : List ℕ) → IsOf (kinds.Ref m) v → 1 ∷ t ≡ text_body v ++ after → IdsOf m t
end_ref m t (values.Ref None) after is split = let e : ◌≡◌ {A = ℕ} 1 0 = cc in absurd (omega (arith, e))
end_ref m t (values.Ref (Some id)) after is split =
    let whole : 1 ∷ t ≡ 1 ∷ (bytes_high_first 16 id ++ after) = split in
    record { thing = id; is = is.fit; after = after; split = cc }
end_ref m t (values.Int i) after is split = let e : false ≡ true = is.fit in cc
end_ref m t (values.Text s) after is split = let e : false ≡ true = is.fit in cc
end_ref m t (values.Bool b) after is split = let e : false ≡ true = is.fit in cc

pub ids_stop : (m n : ℕ) (bytes rest : List ℕ) → IsNumber 0 (most_sign m) 1 bytes n rest → ¬ (n ≡ 0) → (e : Stop) → StopsBy (IdsOf m) rest e → StopsBy (BodiesOf (kinds.Ref m)) bytes e
ids_stop m n bytes rest number some = by_behind (BodiesOf (kinds.Ref m)) (IdsOf m) (1 ∷ []) bytes rest (some_split m n bytes rest number some)
    (λ t. (
      (λ l. end_ref m t l.thing l.after l.is l.split),
      (λ l. record { thing = values.Ref (Some l.thing); is = record { fit = l.is; valid = tt }; after = l.after; split = ap (λ x. 1 ∷ x) l.split }),
    ))

pub none_read : (m n : ℕ) (bytes rest : List ℕ) → IsNumber 0 (most_sign m) 1 bytes n rest → n ≡ 0 → IsBodyOf (kinds.Ref m) bytes (values.Ref None) rest
none_read m n bytes rest number none = record { of_kind = record { fit = refl; valid = tt }; split = number.split ∙ ap (λ x. bytes_high_first 1 x ++ rest) none }

pub some_read : (m n id : ℕ) (bytes rest after : List ℕ) → IsNumber 0 (most_sign m) 1 bytes n rest → ¬ (n ≡ 0) → IsIdIn m rest id after → IsBodyOf (kinds.Ref m) bytes (values.Ref (Some id)) after
some_read m n id bytes rest after number some read = record {
  of_kind = record { fit = read.of_model; valid = tt };
  split = some_split m n bytes rest number some ∙ ap (λ x. 1 ∷ x) read.split;
}

-- A text after its length.

zero_at : (n i : ℕ) → slice_index (replicate n 0) i < 128
zero_at zero i = omega arith
zero_at (suc n) zero = omega arith
zero_at (suc n) (suc i) = zero_at n i

pub zeros_are : (n : ℕ) → IsText n (replicate n 0)
zeros_are n = (IsUtf8-from_ascii (replicate n 0) (λ i. zero_at n i), length-replicate n 0)

begin_text : (t : List ℕ) (v : Value) (after : List ℕ) → IsOf kinds.Text v → t ≡ text_body v ++ after → Numbers 0 0xFFFF_FFFF_FFFF_FFFF 8 t
begin_text t (values.Text s) after is split =
    let room : length s < 2 ^ 64 = is.valid.1 in
    record { thing = length s; is = record { from = omega arith; to = omega (arith, room) }; after = s ++ after; split = split }
begin_text t (values.Int i) after is split = let e : false ≡ true = is.fit in cc
begin_text t (values.Bool b) after is split = let e : false ≡ true = is.fit in cc
begin_text t (values.Ref id) after is split = let e : false ≡ true = is.fit in cc

text_is : (n : ℕ) (s : List ℕ) → n ≤ 0xFFFF_FFFF_FFFF_FFFF → IsText n s → IsOf kinds.Text (values.Text s)
text_is n s to is = let long = is.1 in record { fit = refl; valid = (is.0, omega (arith, to, long)) }

text_spelled : (n : ℕ) (s after : List ℕ) → length s ≡ n → bytes_high_first 8 n ++ (s ++ after) ≡ text_body (values.Text s) ++ after
text_spelled n s after long = ap (λ k. bytes_high_first 8 k ++ (s ++ after)) (sym long) ∙ sym (append_assoc (bytes_high_first 8 (length s)) s after)

pub long_stops : (bytes : List ℕ) (e : Stop) → StopsBy (Numbers 0 0xFFFF_FFFF_FFFF_FFFF 8) bytes e → StopsBy (BodiesOf kinds.Text) bytes e
long_stops = by_refined (IsBetween 0 0xFFFF_FFFF_FFFF_FFFF) (bytes_high_first 8) (BodiesOf kinds.Text)
    (λ t l. begin_text t l.thing l.after l.is l.split)
    (λ n between. (
      replicate n 0,
      record {
        thing = values.Text (replicate n 0);
        is = text_is n (replicate n 0) between.to (zeros_are n);
        after = [];
        split = ap (λ x. bytes_high_first 8 n ++ x) (sym (append-nil (replicate n 0))) ∙ text_spelled n (replicate n 0) [] (zeros_are n).1;
      },
    ))

end_text : (n : ℕ) (t : List ℕ) (v : Value) (after : List ℕ) → n ≤ 0xFFFF_FFFF_FFFF_FFFF → IsOf kinds.Text v → bytes_high_first 8 n ++ t ≡ text_body v ++ after → TextsOf n t
end_text n t (values.Text s) after to is split =
    let room : length s < 2 ^ 64 = is.valid.1 in
    let same = one_spelled 8 n (length s) t (s ++ after) (omega (arith, to)) (omega (arith, room)) (split ∙ append_assoc (bytes_high_first 8 (length s)) s after) in
    record { thing = s; is = (is.valid.0, sym same.0); after = after; split = same.1 }
end_text n t (values.Int i) after to is split = let e : false ≡ true = is.fit in cc
end_text n t (values.Bool b) after to is split = let e : false ≡ true = is.fit in cc
end_text n t (values.Ref id) after to is split = let e : false ≡ true = is.fit in cc

pub text_stops : (n : ℕ) (bytes rest : List ℕ) → IsNumber 0 0xFFFF_FFFF_FFFF_FFFF 8 bytes n rest → (e : Stop) → StopsBy (TextsOf n) rest e → StopsBy (BodiesOf kinds.Text) bytes e
text_stops n bytes rest number = by_behind (BodiesOf kinds.Text) (TextsOf n) (bytes_high_first 8 n) bytes rest number.split
    (λ t. (
      (λ l. end_text n t l.thing l.after number.between.to l.is l.split),
      (λ l. record {
        thing = values.Text l.thing;
        is = text_is n l.thing number.between.to l.is;
        after = l.after;
        split = ap (λ x. bytes_high_first 8 n ++ x) l.split ∙ text_spelled n l.thing l.after l.is.1;
      }),
    ))

pub text_read : (n : ℕ) (bytes rest s after : List ℕ) → IsNumber 0 0xFFFF_FFFF_FFFF_FFFF 8 bytes n rest → IsTextIn n rest s after → IsBodyOf kinds.Text bytes (values.Text s) after
text_read n bytes rest s after number read = record {
  of_kind = text_is n s number.between.to read.valid;
  split = number.split ∙ (ap (λ x. bytes_high_first 8 n ++ x) read.split ∙ text_spelled n s after read.valid.1);
}
