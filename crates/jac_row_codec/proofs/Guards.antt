-- Guards, pair by pair.
use Rattle.std.proofs.Common.{◌≡◌, refl, sym, ap, subst, ◌∙◌, ℕ, suc, ◌+◌, ◌-◌, ◌^◌, ◌<◌, ◌≤◌, Bool, true, List, [], ◌∷◌, ◌++◌, length, append_assoc, append-nil, ◌↔◌, Option, Some, None, arith}
use Rattle.std.proofs.lemmas.List.{nil_from_length, length-append}
use Rattle.std.specs.Int.{byte_at, bytes_high_first}
use Rattle.std.specs.Option.{SomeIff}
use Rattle.jac_world.specs.World.{IsRising, StartsAboveBy}
use Rattle.jac_row_codec.specs.Spelling.{IsGuard, guard_bytes, sign_byte, SpellsGuard}
use Rattle.jac_row_codec.specs.Faults.{GoesOn}
use Rattle.jac_row_codec.specs.Reading.{Stops, StopsBy, IsBetween, Numbers, IsNumber, IsTruth, sign_bytes, Signs, StartsFrom, next_low, IsGuardFrom, SpellsFrom, GuardSoFar, IsSpelledGuard, IsPairIn}
use Rattle.jac_row_codec.specs.declared.stop.Stop.{Stop}
use Rattle.jac_row_codec.proofs.Stops.{stops_here, stops_behind}
use Rattle.jac_row_codec.proofs.Numbers.{one_spelled}
use Rattle.jac_row_codec.proofs.Cells.{by_refined, by_behind, lifted}
use Rattle.jac_row_codec.proofs.Rows.{head_of, tail_of, truth_once}

-- The first label is greater than the one before it.
above : (k : ℕ) (g : List (ℕ × Bool)) → StartsFrom (k + 1) g → StartsAboveBy (λ p. p.0) k g
above k [] from = tt
above k (p ∷ ps) from = let f : k + 1 ≤ p.0 = from in omega (arith, f)

from_above : (k : ℕ) (g : List (ℕ × Bool)) → StartsAboveBy (λ p. p.0) k g → StartsFrom (k + 1) g
from_above k [] from = tt
from_above k (p ∷ ps) from = let f : k < p.0 = from in omega (arith, f)

none_from : (low : ℕ) → IsGuardFrom low []
none_from low = record { guard = record { rising = tt; labels = tt }; from = tt }

more_from : (low k : ℕ) (b : Bool) (g : List (ℕ × Bool)) → IsBetween low (2 ^ 128 - 1) k → IsGuardFrom (k + 1) g → IsGuardFrom low ((k, b) ∷ g)
more_from low k b g between is =
    let from = between.from in let to = between.to in
    record { guard = record { rising = (above k g is.from, is.guard.rising); labels = (omega (arith, to), is.guard.labels) }; from = from }

tail_from : (low : ℕ) (p : ℕ × Bool) (g : List (ℕ × Bool)) → IsGuardFrom low (p ∷ g) → IsBetween low (2 ^ 128 - 1) p.0 × IsGuardFrom (p.0 + 1) g
tail_from low p g is =
    let room : p.0 < 2 ^ 128 = is.guard.labels.0 in
    let from : low ≤ p.0 = is.from in
    (record { from = from; to = omega (arith, room) }, record { guard = record { rising = is.guard.rising.1; labels = is.guard.labels.1 }; from = from_above p.0 g is.guard.rising.0 })

-- The bytes of a label aren't empty.
no_bytes : (k : ℕ) (t : List ℕ) → ¬ (bytes_high_first 16 k ++ t ≡ [])
no_bytes k t e = let f : byte_at 15 k ∷ (bytes_high_first 15 k ++ t) ≡ [] = e in cc

-- At least one pair of a guard. The labels are `low` or more.
abbrev pub SomeFrom : ℕ → List ℕ → Type 0
SomeFrom low bytes = (p : ℕ × Bool) × (g : List (ℕ × Bool)) × IsGuardFrom low (p ∷ g) × (bytes ≡ guard_bytes (p ∷ g))

label_goes : (low k : ℕ) → IsBetween low (2 ^ 128 - 1) k → GoesOn (SomeFrom low) (bytes_high_first 16 k)
label_goes low k between = (1 ∷ [], ((k, true), [], more_from low k true [] between (none_from (k + 1)), refl))

some_stops : (low : ℕ) (bytes : List ℕ) (e : Stop) → StopsBy (Numbers low (2 ^ 128 - 1) 16) bytes e → StopsBy (SomeFrom low) bytes e
some_stops low = by_refined (IsBetween low (2 ^ 128 - 1)) (bytes_high_first 16) (SomeFrom low)
    (λ t s. record { thing = s.0.0; is = (tail_from low s.0 s.1 s.2).0; after = sign_byte s.0.1 ∷ guard_bytes s.1; split = s.3 })
    (λ k between. label_goes low k between)

-- If bytes are left, there is a pair.
some_of : (low b : ℕ) (bs : List ℕ) (g : List (ℕ × Bool)) → IsGuardFrom low g → b ∷ bs ≡ guard_bytes g → SomeFrom low (b ∷ bs)
some_of low b bs [] is e = cc
some_of low b bs (p ∷ ps) is e = (p, ps, is, e)

widened : (low n : ℕ) (bytes : List ℕ) → 0 < length bytes → Stops (SomeFrom low) bytes n → Stops (SpellsFrom low) bytes n
widened low n [] some s = absurd (let f : 0 < 0 = some in omega (arith, f))
widened low n (b ∷ bs) some s = record {
  front = s.front;
  rest = s.rest;
  split = s.split;
  long = s.long;
  goes = (s.goes.0, (s.goes.1.0 ∷ s.goes.1.1, s.goes.1.2, s.goes.1.3));
  wrong = λ is. s.wrong (some_of low b bs is.0 is.1 is.2);
  no_longer = λ c more e h. s.no_longer c more e (h.0, longer s.front c h.0 low h.1);
}
  where
    longer : (front : List ℕ) (c : ℕ) (more : List ℕ) (low : ℕ) → SpellsFrom low ((front ++ c ∷ []) ++ more) → SomeFrom low ((front ++ c ∷ []) ++ more)
    longer [] c more low is = some_of low c more is.0 is.1 is.2
    longer (x ∷ front) c more low is = some_of low x ((front ++ c ∷ []) ++ more) is.0 is.1 is.2

-- No label can be read.

pub label_stops : (low : ℕ) (bytes : List ℕ) → 0 < length bytes → (e : Stop) → StopsBy (Numbers low (2 ^ 128 - 1) 16) bytes e → StopsBy (SpellsFrom low) bytes e
label_stops low bytes some e s = lifted (SpellsFrom low) (SomeFrom low) bytes bytes (λ n t. widened low n bytes some t) e (some_stops low bytes e s)

-- The sign of a label, and the rest of the guard.
abbrev pub SignThen : ℕ → List ℕ → Type 0
SignThen low bytes = (b : Bool) × (g : List (ℕ × Bool)) × IsGuardFrom low g × (bytes ≡ sign_byte b ∷ guard_bytes g)

room_of : (low k : ℕ) → IsBetween low (2 ^ 128 - 1) k → k < 256 ^ 16
room_of low k between = let to = between.to in omega (arith, to)

signs_behind : (low k : ℕ) (t : List ℕ) (g : List (ℕ × Bool)) → IsBetween low (2 ^ 128 - 1) k → IsGuardFrom low g → bytes_high_first 16 k ++ t ≡ guard_bytes g → SignThen (k + 1) t
signs_behind low k t [] between is e = absurd (no_bytes k t e)
signs_behind low k t (p ∷ ps) between is e =
    let parts = tail_from low p ps is in
    let one = one_spelled 16 k p.0 t (sign_byte p.1 ∷ guard_bytes ps) (room_of low k between) (room_of low p.0 parts.0) e in
    (p.1, ps, subst (λ x. IsGuardFrom (x + 1) ps) (sym one.0) parts.1, one.1)

sign_follows : (low k : ℕ) → IsBetween low (2 ^ 128 - 1) k → (t : List ℕ) → SpellsFrom low (bytes_high_first 16 k ++ t) ↔ SignThen (k + 1) t
sign_follows low k between t = (
  (λ s. signs_behind low k t s.0 between s.1 s.2),
  (λ s. ((k, s.0) ∷ s.1, more_from low k s.0 s.1 between s.2, ap (λ x. bytes_high_first 16 k ++ x) s.3)),
)

sign_refined : (low : ℕ) (bytes : List ℕ) (e : Stop) → StopsBy Signs bytes e → StopsBy (SignThen low) bytes e
sign_refined low = by_refined IsTruth sign_bytes (SignThen low)
    (λ t s. record { thing = s.0; is = tt; after = guard_bytes s.1; split = s.3 })
    (λ b is. ([], (b, [], none_from low, refl)))

pub pair_stops : (low k : ℕ) (bytes rest : List ℕ) → IsNumber low (2 ^ 128 - 1) 16 bytes k rest → (e : Stop) → StopsBy Signs rest e → StopsBy (SpellsFrom low) bytes e
pair_stops low k bytes rest number e s =
    by_behind (SpellsFrom low) (SignThen (k + 1)) (bytes_high_first 16 k) bytes rest number.split (sign_follows low k number.between) e (sign_refined (k + 1) rest e s)

pub pair_read : (low k : ℕ) (b : Bool) (bytes rest after : List ℕ) → IsNumber low (2 ^ 128 - 1) 16 bytes k rest → rest ≡ sign_bytes b ++ after → IsPairIn low bytes (k, b) after
pair_read low k b bytes rest after number split = record { between = number.between; split = number.split ∙ ap (λ x. bytes_high_first 16 k ++ x) split }

-- After the greatest label there is no pair.

none_behind : (b : ℕ) (more : List ℕ) (g : List (ℕ × Bool)) → IsGuardFrom (2 ^ 128) g → ¬ (b ∷ more ≡ guard_bytes g)
none_behind b more [] is e = cc
none_behind b more (p ∷ ps) is e = let between = (tail_from (2 ^ 128) p ps is).0 in let from = between.from in let to = between.to in omega (arith, from, to)

full_stops : (bytes : List ℕ) → 0 < length bytes → Stops (SpellsFrom (2 ^ 128)) bytes (length bytes)
full_stops [] some = absurd (let f : 0 < 0 = some in omega (arith, f))
full_stops (b ∷ bs) some = stops_here (SpellsFrom (2 ^ 128)) b bs ([], ([], none_from (2 ^ 128), refl)) (λ goes. none_behind b goes.0 goes.1.0 goes.1.1 goes.1.2)

pub greatest_stops : (low : Option ℕ) (bytes : List ℕ) → low ≡ None → 0 < length bytes → Stops (SpellsFrom (next_low low)) bytes (length bytes)
greatest_stops None bytes none some = full_stops bytes some
greatest_stops (Some low) bytes none some = cc

-- A guard, pair by pair.

spells_all : (t : List ℕ) → SpellsGuard t ↔ SpellsFrom 0 t
spells_all t = ((λ s. (s.0, record { guard = s.1; from = from_zero s.0 }, s.2)), (λ s. (s.0, s.1.guard, s.2)))
  where
    from_zero : (g : List (ℕ × Bool)) → StartsFrom 0 g
    from_zero [] = tt
    from_zero (p ∷ ps) = omega arith

pub guard_start : (jvars : List ℕ) → GuardSoFar jvars [] 0 jvars
guard_start jvars = record {
  spelled = λ g is e. (is.guard, e);
  stops = λ n s. stops_behind SpellsGuard (SpellsFrom 0) [] jvars n spells_all s;
}

same_sign : (low : ℕ) (b : Bool) (t : List ℕ) → SignThen low (sign_byte b ∷ t) ↔ SpellsFrom low t
same_sign low b t = ((λ s. (s.1, s.2, tail_of _ _ _ _ s.3)), (λ s. (b, s.0, s.1, ap (λ x. sign_byte b ∷ x) s.2)))

pub guard_step : (jvars : List ℕ) (made : List (ℕ × Bool)) (low k : ℕ) (b : Bool) (rest after : List ℕ)
    → GuardSoFar jvars made low rest → IsPairIn low rest (k, b) after → GuardSoFar jvars (made ++ (k, b) ∷ []) (k + 1) after
guard_step jvars made low k b rest after so_far read = record {
  spelled = λ g is e.
      subst (λ l. IsGuard l × (jvars ≡ guard_bytes l)) (sym (append_assoc made ((k, b) ∷ []) g))
      (so_far.spelled ((k, b) ∷ g) (more_from low k b g read.between is) (read.split ∙ ap (λ x. bytes_high_first 16 k ++ (sign_byte b ∷ x)) e));
  stops = λ n s. so_far.stops n (subst (λ x. Stops (SpellsFrom low) x n) (sym read.split)
      (stops_behind (SpellsFrom low) (SignThen (k + 1)) (bytes_high_first 16 k) (sign_byte b ∷ after) n (sign_follows low k read.between)
      (stops_behind (SignThen (k + 1)) (SpellsFrom (k + 1)) (sign_byte b ∷ []) after n (same_sign (k + 1) b) s)));
}

-- The least label that may come next.
pub next_is : (k : ℕ) (low : Option ℕ) → k < 2 ^ 128 → SomeIff low (k + 1 < 2 ^ 128) (k + 1) → next_low low ≡ k + 1
next_is k None fits is = omega (arith, fits, is)
next_is k (Some low) fits is = is.1

pub guard_goes_on : (jvars : List ℕ) (made : List (ℕ × Bool)) (low next : Option ℕ) (k : ℕ) (b : Bool) (rest after : List ℕ)
    → GuardSoFar jvars made (next_low low) rest → IsPairIn (next_low low) rest (k, b) after → SomeIff next (k + 1 < 2 ^ 128) (k + 1) → GuardSoFar jvars (made ++ (k, b) ∷ []) (next_low next) after
guard_goes_on jvars made low next k b rest after so_far read is =
    let to = read.between.to in
    subst (λ n. GuardSoFar jvars (made ++ (k, b) ∷ []) n after) (sym (next_is k next (omega (arith, to)) is)) (guard_step jvars made (next_low low) k b rest after so_far read)

pub guard_stop : (jvars : List ℕ) (made : List (ℕ × Bool)) (low : ℕ) (rest : List ℕ) → GuardSoFar jvars made low rest → (e : Stop) → StopsBy (SpellsFrom low) rest e → StopsBy SpellsGuard jvars e
guard_stop jvars made low rest so_far e s = lifted SpellsGuard (SpellsFrom low) jvars rest so_far.stops e s

pub guard_end : (jvars : List ℕ) (made : List (ℕ × Bool)) (low : ℕ) (rest : List ℕ) → GuardSoFar jvars made low rest → length rest ≡ 0 → IsSpelledGuard jvars made
guard_end jvars made low rest so_far none =
    let done = so_far.spelled [] (none_from low) (nil_from_length rest none) in
    let same = append-nil made in
    record { guard = subst IsGuard same done.0; spelled = done.1 ∙ ap guard_bytes same }

pub pair_shorter : (low : ℕ) (bytes : List ℕ) (pair : ℕ × Bool) (after : List ℕ) → IsPairIn low bytes pair after → length after < length bytes
pair_shorter low bytes pair after read =
    let total : length bytes ≡ length (bytes_high_first 16 pair.0) + suc (length after) = ap length read.split ∙ length-append (bytes_high_first 16 pair.0) (sign_byte pair.1 ∷ after) in
    omega (arith, total)

pub guard_rises : (jvars : List ℕ) (g : List (ℕ × Bool)) → IsSpelledGuard jvars g → IsRising g
guard_rises jvars g is = is.guard.rising

-- A guard is spelled in one way only.

pub guard_once : (g h : List (ℕ × Bool)) → IsGuard g → IsGuard h → guard_bytes g ≡ guard_bytes h → g ≡ h
guard_once [] [] is also e = refl
guard_once [] (q ∷ h) is also e = absurd (no_bytes q.0 (sign_byte q.1 ∷ guard_bytes h) (sym e))
guard_once (p ∷ g) [] is also e = absurd (no_bytes p.0 (sign_byte p.1 ∷ guard_bytes g) e)
guard_once (p ∷ g) (q ∷ h) is also e =
    let one = one_spelled 16 p.0 q.0 (sign_byte p.1 ∷ guard_bytes g) (sign_byte q.1 ∷ guard_bytes h) (room_in p.0 is.labels.0) (room_in q.0 also.labels.0) e in
    let sign = truth_once p.1 q.1 (head_of _ _ _ _ one.1) in
    let rest = guard_once g h (record { rising = is.rising.1; labels = is.labels.1 }) (record { rising = also.rising.1; labels = also.labels.1 }) (tail_of _ _ _ _ one.1) in
    λ i. (one.0 i, sign i) ∷ rest i
  where
    room_in : (k : ℕ) → k < 2 ^ 128 → k < 256 ^ 16
    room_in k room = omega (arith, room)
