-- The state of a connection after entries and more bytes.
use Rattle.std.proofs.Common.{◌≡◌, ap, sym, subst, refl, ℕ, zero, suc, ◌≤◌, ◌||◌, nat_le, Bool, true, false, List, [], ◌∷◌, ◌++◌, take, length, append_assoc, length-append, arith, inl, inr, ◌⊎◌}
use Rattle.std.proofs.lemmas.Bool.Decides.{nat_tests}
use Rattle.std.proofs.lemmas.List.{take-append-le}
use Rattle.jac_http.specs.Reading.{IsReading}
use Rattle.jac_hub.specs.Hearing.{Subject, Entry, Hearing}
use Rattle.jac_hub.specs.Heard.{Connection, with_bytes, with_entry, is_closed, bytes_counted, StandAt, IsNextIn, IsReadThrough, IsNextEntry, AreBrought}
use Rattle.jac_hub.specs.Channel.{LIMIT}
use Rattle.jac_hub.proofs.Reading.{stand-longer, stands-longer}
use Rattle.jac_hub.proofs.Standing.{with_entries, AreOf}

-- The first n elements of a list begin the first n of a longer list.
take_more : (n : ℕ) (xs ys : List ℕ) → (extra : List ℕ) × (take n (xs ++ ys) ≡ take n xs ++ extra)
take_more zero xs ys = ([], refl)
take_more (suc n) [] ys = (take (suc n) ys, refl)
take_more (suc n) (x ∷ xs) ys = let r = take_more n xs ys in (r.0, ap (λ (l : List ℕ). x ∷ l) r.1)

pub counted-longer : {I : Type 0} (one : Connection I) (bytes : List ℕ) → (extra : List ℕ) × (bytes_counted (with_bytes bytes one) ≡ bytes_counted one ++ extra)
counted-longer one bytes = take_more LIMIT one.bytes bytes

-- If a connection has all bytes that count, more bytes add none.
pub counted-full : {I : Type 0} (one : Connection I) (bytes : List ℕ) → LIMIT ≤ length one.bytes → bytes_counted (with_bytes bytes one) ≡ bytes_counted one
counted-full one bytes full = take-append-le LIMIT one.bytes bytes full

closed_more : (b : Bool) (l n m : ℕ) → n ≤ m → (b || nat_le l n) ≡ true → (b || nat_le l m) ≡ true
closed_more true l n m h e = refl
closed_more false l n m h e = grind (arith, nat_tests)

pub closed-longer : {I : Type 0} (one : Connection I) (bytes : List ℕ) → is_closed one ≡ true → is_closed (with_bytes bytes one) ≡ true
closed-longer one bytes e =
    let less : length one.bytes ≤ length (one.bytes ++ bytes) = omega (arith, length-append one.bytes bytes) in
    closed_more one.ended LIMIT (length one.bytes) (length (one.bytes ++ bytes)) less e

closed_by : (b : Bool) (l n : ℕ) → (b || nat_le l n) ≡ true → (b ≡ true) ⊎ (l ≤ n)
closed_by true l n e = inl refl
closed_by false l n e = inr (grind (arith, nat_tests))

pub closed-cause : {I : Type 0} (one : Connection I) → is_closed one ≡ true → (one.ended ≡ true) ⊎ (LIMIT ≤ length one.bytes)
closed-cause one e = closed_by one.ended LIMIT (length one.bytes) e

pub entries-append : {I A : Type 0} (h : Hearing I A) (xs ys : List (Entry I A)) (one : Connection I) → with_entries h (xs ++ ys) one ≡ with_entries h ys (with_entries h xs one)
entries-append h [] ys one = refl
entries-append h (x ∷ xs) ys one = entries-append h xs ys (with_entry h x one)

pub entries-bytes : {I A : Type 0} (h : Hearing I A) (log : List (Entry I A)) (bytes : List ℕ) (one : Connection I) → with_entries h log (with_bytes bytes one) ≡ with_bytes bytes (with_entries h log one)
entries-bytes h [] bytes one = refl
entries-bytes h (entry ∷ log) bytes one = entries-bytes h log bytes (with_entry h entry one)

pub bytes-twice : {I : Type 0} (one : Connection I) (xs ys : List ℕ) → with_bytes ys (with_bytes xs one) ≡ with_bytes (xs ++ ys) one
bytes-twice one xs ys = λ i. record one { bytes = append_assoc one.bytes xs ys i }

pub of-append : {I A : Type 0} (c : ℕ) (xs ys : List (Entry I A)) → AreOf c xs → AreOf c ys → AreOf c (xs ++ ys)
of-append c [] ys a b = b
of-append c (x ∷ xs) ys a b = (a.0, of-append c xs ys a.1 b)

-- After an event's entries, one of them has closed the connection, or its bytes are read through.
pub brought-end : {I A : Type 0} (h : Hearing I A) (n c : ℕ) (one : Connection I) (log : List (Entry I A)) → AreBrought h n c one log
    → ((with_entries h log one).ended ≡ true) ⊎ IsReadThrough h (with_entries h log one)
brought-end h n c one [] brought = brought
brought-end h n c one (entry ∷ log) brought = brought-end h n c (with_entry h entry one) log brought.1

-- The next subject stays the next when more bytes come.
next_in-longer : {I A : Type 0} (h : Hearing I A) → IsReading h.reads → (one : Connection I) (s : Subject I) (bytes : List ℕ) → IsNextIn h one s → IsNextIn h (with_bytes bytes one) s
next_in-longer h law one s bytes (from, to, behind, stands) =
    let longer = counted-longer one bytes in
    let moved : StandAt h one.heard (bytes_counted (with_bytes bytes one)) (from ++ longer.0) =
    subst (λ (b : List ℕ). StandAt h one.heard b (from ++ longer.0)) (sym longer.1) (stand-longer h law one.heard (bytes_counted one) from longer.0 behind) in
    (from ++ longer.0, to ++ longer.0, moved, stands-longer h law s from to longer.0 stands)

pub next-longer : {I A : Type 0} (h : Hearing I A) → IsReading h.reads → (n c : ℕ) (one : Connection I) (entry : Entry I A) (bytes : List ℕ)
    → IsNextEntry h n c one entry → IsNextEntry h n c (with_bytes bytes one) entry
next-longer h law n c one entry bytes next = record {
  place = next.place;
  source = next.source;
  open_still = next.open_still;
  subject = next_in-longer h law one entry.subject bytes next.subject;
}

-- The entries before a cut and those after it are brought without the cut.
pub brought-joined : {I A : Type 0} (h : Hearing I A) → IsReading h.reads → (n c : ℕ) (one : Connection I) (front back : List (Entry I A)) (bytes : List ℕ)
    → AreBrought h n c one front → AreBrought h n c (with_bytes bytes (with_entries h front one)) back
    → AreBrought h n c (with_bytes bytes one) (front ++ back)
brought-joined h law n c one [] back bytes first second = second
brought-joined h law n c one (entry ∷ front) back bytes first second =
    (next-longer h law n c one entry bytes first.0, brought-joined h law n c (with_entry h entry one) front back bytes first.1 second)

-- If the connection was closed before the second piece, the joined piece brings nothing more than
-- the first.
pub closed-spent : {I A : Type 0} (h : Hearing I A) (one : Connection I) (bytes : List ℕ) → is_closed one ≡ true → (one.ended ≡ true) ⊎ IsReadThrough h one
    → (one.ended ≡ true) ⊎ IsReadThrough h (with_bytes bytes one)
closed-spent h one bytes closed (inl ended) = inl ended
closed-spent h one bytes closed (inr read) = by (closed-cause one closed)
  where
    by : (one.ended ≡ true) ⊎ (LIMIT ≤ length one.bytes) → (one.ended ≡ true) ⊎ IsReadThrough h (with_bytes bytes one)
    by (inl ended) = inl ended
    by (inr full) =
        inr (read.0, subst (λ (b : List ℕ). StandAt h one.heard b read.0) (sym (counted-full one bytes full)) read.1, read.2)
