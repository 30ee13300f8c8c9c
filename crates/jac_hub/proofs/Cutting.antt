-- A piece that is cut in two brings the same entries.
use Rattle.std.proofs.Common.{◌≡◌, ◌∙◌, ap, sym, subst, refl, ℕ, ◌+◌, ◌-◌, Bool, true, false, Option, Some, None, List, [], ◌∷◌, ◌++◌, map, append_assoc, arith, inl, inr}
use Rattle.std.proofs.lemmas.List.{map-append}
use Rattle.std.specs.Option.{option_map}
use Rattle.jac_events.specs.declared.event.Event.{Event}
use Rattle.jac_events.specs.declared.event.Event.TheVariants.{Ask, Begin, Piece, Finish}
use Rattle.jac_http.specs.Reading.{IsReading}
use Rattle.jac_hub.specs.Hearing.{Source, asked, connection, Subject, whole, Entry, Hearing}
use Rattle.jac_hub.specs.Heard.{Connection, Connections, set_at, with_bytes, with_entry, connections_after, after_entries, after_event, after_both, is_closed, IsNextEntry, AreBrought, PieceBrings, IsBroughtBy, IsHeardFrom}
use Rattle.jac_hub.specs.Alike.{content, IsHeardAlike}
use Rattle.jac_hub.proofs.Standing.{with_entries, set-same, set-set, AreOf, after-one, brought-of}
use Rattle.jac_hub.proofs.Longer.{entries-append, entries-bytes, bytes-twice, of-append, brought-end, brought-joined, closed-longer, closed-spent}

-- The entry, with the place of its event one less.
abbrev pub earlier : {I A : Type 0} → Entry I A → Entry I A
earlier entry = record entry { place = entry.place - 1 }

pub content-earlier : {I A : Type 0} (log : List (Entry I A)) → map content (map earlier log) ≡ map content log
content-earlier [] = refl
content-earlier {I = I} {A = A} (entry ∷ log) = ap (λ (l : List (Source × Subject I × A)). content entry ∷ l) (content-earlier log)

earlier_by : {I A : Type 0} (h : Hearing I A) (s : Source) (entry : Entry I A) (known : Connections I) → connections_after h s (earlier entry) known ≡ connections_after h s entry known
earlier_by h asked entry known = refl
earlier_by h (connection c) entry known = refl

pub after-earlier : {I A : Type 0} (h : Hearing I A) (log : List (Entry I A)) (known : Connections I) → after_entries h (map earlier log) known ≡ after_entries h log known
after-earlier h [] known = refl
after-earlier h (entry ∷ log) known =
    ap (after_entries h (map earlier log)) (earlier_by h entry.source entry known) ∙ after-earlier h log (connections_after h entry.source entry known)

next_earlier : {I A : Type 0} (h : Hearing I A) (n c : ℕ) (one : Connection I) (entry : Entry I A) → IsNextEntry h (n + 1) c one entry → IsNextEntry h n c one (earlier entry)
next_earlier h n c one entry next = record {
  place = omega (arith, next.place);
  source = next.source;
  open_still = next.open_still;
  subject = next.subject;
}

pub brought-earlier : {I A : Type 0} (h : Hearing I A) (n c : ℕ) (one : Connection I) (log : List (Entry I A)) → AreBrought h (n + 1) c one log → AreBrought h n c one (map earlier log)
brought-earlier h n c one [] brought = brought
brought-earlier h n c one (entry ∷ log) brought = (next_earlier h n c one entry brought.0, brought-earlier h n c (with_entry h entry one) log brought.1)

piece_earlier : {I A : Type 0} (h : Hearing I A) (n c : ℕ) (bytes : List ℕ) (before : Option (Connection I)) (log : List (Entry I A))
    → PieceBrings h (n + 1) c bytes before log → PieceBrings h n c bytes before (map earlier log)
piece_earlier h n c bytes None log nothing = ap (map earlier) nothing
piece_earlier h n c bytes (Some one) log (inl (shut, nothing)) = inl (shut, ap (map earlier) nothing)
piece_earlier h n c bytes (Some one) log (inr (open_still, brought)) = inr (open_still, brought-earlier h n c (with_bytes bytes one) log brought)

asked_earlier : {I A : Type 0} (n : ℕ) (subject : Subject I) (log : List (Entry I A))
    → (answer : A) × (log ≡ record { place = n + 1; source = asked; subject = subject; answer = answer } ∷ [])
    → (answer : A) × (map earlier log ≡ record { place = n; source = asked; subject = subject; answer = answer } ∷ [])
asked_earlier {I = I} {A = A} n subject log (answer, one) =
    let less : (n + 1) - 1 ≡ n = omega arith in
    (answer, ap (map earlier) one ∙ ap (λ (p : ℕ). record { place = p; source = asked; subject = subject; answer = answer } ∷ []) less)

brought_by_earlier : {I A : Type 0} (h : Hearing I A) (n : ℕ) (event : Event) (known : Connections I) (log : List (Entry I A))
    → IsBroughtBy h (n + 1) event known log → IsBroughtBy h n event known (map earlier log)
brought_by_earlier h n (Ask viewer method path query body) known log brought =
    asked_earlier n (whole (h.asks viewer method path query body) false) log brought
brought_by_earlier h n (Begin c) known log brought = ap (map earlier) brought
brought_by_earlier h n (Piece c bytes) known log brought = piece_earlier h n c bytes (known c) log brought
brought_by_earlier h n (Finish c) known log brought = ap (map earlier) brought

-- If events are numbered from n instead of n + 1, each entry's place is one less.
pub heard-earlier : {I A : Type 0} (h : Hearing I A) (events : List Event) (known : Connections I) (n : ℕ) (log : List (Entry I A))
    → IsHeardFrom h known (n + 1) events log → IsHeardFrom h known n events (map earlier log)
heard-earlier h [] known n log heard = ap (map earlier) heard
heard-earlier {I = I} {A = A} h (event ∷ events) known n log (mine, rest, split, brought, others) =
    let moved : IsHeardFrom h (after_both h event (map earlier mine) known) (n + 1) events (map earlier rest) =
    subst (λ (l : Connections I). IsHeardFrom h l (n + 1) events (map earlier rest)) (sym (after-earlier h mine (after_event event known)))
    (heard-earlier h events (after_both h event mine known) (n + 1) rest others) in
    (map earlier mine, map earlier rest, ap (map earlier) split ∙ map-append earlier mine rest, brought_by_earlier h n event known mine brought, moved)

-- The joined piece brings the entries of both, and leaves the connections as both do.
record IsJoined {I A : Type 0} (h : Hearing I A) (n c : ℕ) (xs ys : List ℕ) (known : Connections I) (first second : List (Entry I A)) : Type 0 where
  pub brought : PieceBrings h n c (xs ++ ys) (known c) (first ++ map earlier second)
  pub left : after_both h (Piece c (xs ++ ys)) (first ++ map earlier second) known ≡ after_both h (Piece c ys) second (after_both h (Piece c xs) first known)

-- The connections after both pieces, if the connection has begun.
joined_known : {I A : Type 0} (h : Hearing I A) (c : ℕ) (xs ys : List ℕ) (one : Connection I) (known : Connections I) (first second : List (Entry I A)) → known c ≡ Some one → AreOf c first → AreOf c second
    → AreOf c (map earlier second)
    → after_both h (Piece c (xs ++ ys)) (first ++ map earlier second) known ≡ after_both h (Piece c ys) second (after_both h (Piece c xs) first known)
joined_known {I = I} {A = A} h c xs ys one known first second is of_first of_second of_earlier =
    let P : Option (Connection I) → Connections I = λ o. set_at c o known in
    let once : after_both h (Piece c xs) first known ≡ set_at c (Some (with_entries h first (with_bytes xs one))) known =
    ap (λ (o : Option (Connection I)). after_entries h first (set_at c (option_map (with_bytes xs) o) known)) is
    ∙ after-one h c first (with_bytes xs one) known of_first in
    let mid : Connection I = with_entries h first (with_bytes xs one) in
    let two : after_both h (Piece c ys) second (P (Some mid)) ≡ P (Some (with_entries h second (with_bytes ys mid))) =
    ap (λ (o : Option (Connection I)). after_entries h second (set_at c (option_map (with_bytes ys) o) (P (Some mid)))) (set-same c (Some mid) known)
    ∙ ap (after_entries h second) (set-set c (Some (with_bytes ys mid)) (Some mid) known)
    ∙ after-one h c second (with_bytes ys mid) known of_second in
    let joined : after_both h (Piece c (xs ++ ys)) (first ++ map earlier second) known ≡ P (Some (with_entries h (first ++ map earlier second) (with_bytes (xs ++ ys) one))) =
    ap (λ (o : Option (Connection I)). after_entries h (first ++ map earlier second) (set_at c (option_map (with_bytes (xs ++ ys)) o) known)) is
    ∙ after-one h c (first ++ map earlier second) (with_bytes (xs ++ ys) one) known (of-append c first (map earlier second) of_first of_earlier) in
    let same : with_entries h (first ++ map earlier second) (with_bytes (xs ++ ys) one) ≡ with_entries h second (with_bytes ys mid) =
    entries-append h first (map earlier second) (with_bytes (xs ++ ys) one)
    ∙ entries_earlier second (with_entries h first (with_bytes (xs ++ ys) one))
    ∙ ap (λ (l : Connection I). with_entries h second (with_entries h first l)) (sym (bytes-twice one xs ys))
    ∙ ap (with_entries h second) (entries-bytes h first ys (with_bytes xs one)) in
    joined ∙ ap (λ (l : Connection I). P (Some l)) same ∙ sym two ∙ sym (ap (after_both h (Piece c ys) second) once)
  where
    entries_earlier : (log : List (Entry I A)) (l : Connection I) → with_entries h (map earlier log) l ≡ with_entries h log l
    entries_earlier [] l = refl
    entries_earlier (entry ∷ log) l = entries_earlier log (with_entry h entry l)

earlier_of : {I A : Type 0} (c : ℕ) (log : List (Entry I A)) → AreOf c log → AreOf c (map earlier log)
earlier_of c [] all = tt
earlier_of c (entry ∷ log) all = (all.0, earlier_of c log all.1)

-- If the connection hasn't begun, neither piece brings anything.
joined_none : {I A : Type 0} (h : Hearing I A) (n c : ℕ) (xs ys : List ℕ) (known : Connections I) → known c ≡ None → IsJoined h n c xs ys known [] []
joined_none {I = I} {A = A} h n c xs ys known is =
    let after : (bytes : List ℕ) → after_both h (Piece c bytes) [] known ≡ set_at c None known =
    λ bytes. ap (λ (o : Option (Connection I)). set_at c (option_map (with_bytes bytes) o) known) is in
    record {
      brought = subst (λ (o : Option (Connection I)). PieceBrings h n c (xs ++ ys) o []) (sym is) refl;
      left =
          after (xs ++ ys)
          ∙ sym (
          ap (after_both h (Piece c ys) []) (after xs)
          ∙ ap (λ (o : Option (Connection I)). set_at c (option_map (with_bytes ys) o) (set_at c None known)) (set-same c None known)
          ∙ set-set c None None known);
    }

true_false : (b : Bool) → b ≡ true → b ≡ false → ⊥
true_false b e f = cc

-- A connection that was closed before both pieces.
joined_closed : {I A : Type 0} (h : Hearing I A) (n c : ℕ) (xs ys : List ℕ) (one : Connection I) (known : Connections I) → known c ≡ Some one → is_closed one ≡ true → IsJoined h n c xs ys known [] []
joined_closed {I = I} {A = A} h n c xs ys one known is closed = record {
  brought = subst (λ (o : Option (Connection I)). PieceBrings h n c (xs ++ ys) o []) (sym is) (inl (closed, refl));
  left = joined_known h c xs ys one known [] [] is tt tt tt;
}

-- A connection that was open before both pieces.
joined_open : {I A : Type 0} (h : Hearing I A) (n c : ℕ) (xs ys : List ℕ) (one : Connection I) (known : Connections I) (first second : List (Entry I A)) → known c ≡ Some one → is_closed one ≡ false
    → AreOf c first → AreOf c second
    → AreBrought h n c (with_bytes ys (with_bytes xs one)) (first ++ map earlier second) → IsJoined h n c xs ys known first second
joined_open {I = I} {A = A} h n c xs ys one known first second is open_still of_first of_second brought = record {
  brought =
      subst (λ (o : Option (Connection I)). PieceBrings h n c (xs ++ ys) o (first ++ map earlier second)) (sym is)
      (inr (open_still, subst (λ (l : Connection I). AreBrought h n c l (first ++ map earlier second)) (bytes-twice one xs ys) brought));
  left = joined_known h c xs ys one known first second is of_first of_second (earlier_of c second of_second);
}

after_first : {I A : Type 0} (h : Hearing I A) (c : ℕ) (xs : List ℕ) (one : Connection I) (known : Connections I) (first : List (Entry I A)) → known c ≡ Some one → AreOf c first
    → after_both h (Piece c xs) first known c ≡ Some (with_entries h first (with_bytes xs one))
after_first {I = I} {A = A} h c xs one known first is of_first =
    ap (λ (o : Option (Connection I)). after_entries h first (set_at c (option_map (with_bytes xs) o) known) c) is
    ∙ ap (λ (l : Connections I). l c) (after-one h c first (with_bytes xs one) known of_first)
    ∙ set-same c (Some (with_entries h first (with_bytes xs one))) known

second_open : {I A : Type 0} (h : Hearing I A) → IsReading h.reads → (n c : ℕ) (xs ys : List ℕ) (one : Connection I) (known : Connections I) (first second : List (Entry I A))
    → known c ≡ Some one → is_closed one ≡ false → AreBrought h n c (with_bytes xs one) first
    → PieceBrings h (n + 1) c ys (Some (with_entries h first (with_bytes xs one))) second
    → IsJoined h n c xs ys known first second
second_open {I = I} {A = A} h law n c xs ys one known first second is open_still brought (inl (closed, nothing)) =
    let mid : Connection I = with_entries h first (with_bytes xs one) in
    let spent : AreBrought h n c (with_bytes ys mid) [] = closed-spent h mid ys closed (brought-end h n c (with_bytes xs one) first brought) in
    subst (λ (s : List (Entry I A)). IsJoined h n c xs ys known first s) (sym nothing)
    (joined_open h n c xs ys one known first [] is open_still (brought-of h n c (with_bytes xs one) first brought) tt
    (brought-joined h law n c (with_bytes xs one) first [] ys brought spent))
second_open {I = I} {A = A} h law n c xs ys one known first second is open_still brought (inr (open_between, others)) =
    let mid : Connection I = with_entries h first (with_bytes xs one) in
    joined_open h n c xs ys one known first second is open_still (brought-of h n c (with_bytes xs one) first brought)
    (brought-of h (n + 1) c (with_bytes ys mid) second others)
    (brought-joined h law n c (with_bytes xs one) first (map earlier second) ys brought (brought-earlier h n c (with_bytes ys mid) second others))

second_closed : {I A : Type 0} (h : Hearing I A) (n c : ℕ) (xs ys : List ℕ) (one : Connection I) (known : Connections I) (second : List (Entry I A))
    → known c ≡ Some one → is_closed one ≡ true
    → PieceBrings h (n + 1) c ys (Some (with_bytes xs one)) second
    → IsJoined h n c xs ys known [] second
second_closed {I = I} {A = A} h n c xs ys one known second is closed (inl (still, nothing)) =
    subst (λ (s : List (Entry I A)). IsJoined h n c xs ys known [] s) (sym nothing) (joined_closed h n c xs ys one known is closed)
second_closed h n c xs ys one known second is closed (inr (open_between, others)) =
    absurd (true_false (is_closed (with_bytes xs one)) (closed-longer one xs closed) open_between)

both : {I A : Type 0} (h : Hearing I A) → IsReading h.reads → (n c : ℕ) (xs ys : List ℕ) (before : Option (Connection I)) (known : Connections I) (first second : List (Entry I A))
    → known c ≡ before → PieceBrings h n c xs before first
    → PieceBrings h (n + 1) c ys (after_both h (Piece c xs) first known c) second
    → IsJoined h n c xs ys known first second
both {I = I} {A = A} h law n c xs ys None known first second is nothing later =
    let at : after_both h (Piece c xs) first known c ≡ None =
    ap (λ (f : List (Entry I A)). after_both h (Piece c xs) f known c) nothing
    ∙ ap (λ (o : Option (Connection I)). set_at c (option_map (with_bytes xs) o) known c) is
    ∙ set-same c None known in
    let none : second ≡ [] = subst (λ (o : Option (Connection I)). PieceBrings h (n + 1) c ys o second) at later in
    subst (λ (f : List (Entry I A)). IsJoined h n c xs ys known f second) (sym nothing)
    (subst (λ (s : List (Entry I A)). IsJoined h n c xs ys known [] s) (sym none) (joined_none h n c xs ys known is))
both {I = I} {A = A} h law n c xs ys (Some one) known first second is (inl (closed, nothing)) later =
    let at : after_both h (Piece c xs) first known c ≡ Some (with_bytes xs one) =
    ap (λ (f : List (Entry I A)). after_both h (Piece c xs) f known c) nothing ∙ after_first h c xs one known [] is tt in
    subst (λ (f : List (Entry I A)). IsJoined h n c xs ys known f second) (sym nothing)
    (second_closed h n c xs ys one known second is closed (subst (λ (o : Option (Connection I)). PieceBrings h (n + 1) c ys o second) at later))
both {I = I} {A = A} h law n c xs ys (Some one) known first second is (inr (open_still, brought)) later =
    second_open h law n c xs ys one known first second is open_still brought
    (subst (λ (o : Option (Connection I)). PieceBrings h (n + 1) c ys o second)
    (after_first h c xs one known first is (brought-of h n c (with_bytes xs one) first brought)) later)

joined_here : {I A : Type 0} (h : Hearing I A) → IsReading h.reads → (c : ℕ) (xs ys : List ℕ) (events : List Event) (known : Connections I) (n : ℕ) (log : List (Entry I A))
    → IsHeardFrom h known n (Piece c xs ∷ (Piece c ys ∷ events)) log → IsHeardAlike h known n (Piece c (xs ++ ys) ∷ events) log
joined_here {I = I} {A = A} h law c xs ys events known n log (first, after, split, brought, (second, rest, split', brought', others)) =
    let j : IsJoined h n c xs ys known first second = both h law n c xs ys (known c) known first second refl brought brought' in
    let moved : IsHeardFrom h (after_both h (Piece c (xs ++ ys)) (first ++ map earlier second) known) (n + 1) events (map earlier rest) =
    subst (λ (l : Connections I). IsHeardFrom h l (n + 1) events (map earlier rest)) (sym j.left) (heard-earlier h events _ (n + 1) rest others) in
    let same : map content ((first ++ map earlier second) ++ map earlier rest) ≡ map content log =
    map-append content (first ++ map earlier second) (map earlier rest)
    ∙ ap (λ (l : List (Source × Subject I × A)). l ++ map content (map earlier rest)) (map-append content first (map earlier second))
    ∙ ap (λ (l : List (Source × Subject I × A)). (map content first ++ l) ++ map content (map earlier rest)) (content-earlier second)
    ∙ ap (λ (l : List (Source × Subject I × A)). (map content first ++ map content second) ++ l) (content-earlier rest)
    ∙ append_assoc (map content first) (map content second) (map content rest)
    ∙ ap (λ (l : List (Source × Subject I × A)). map content first ++ l) (sym (map-append content second rest))
    ∙ sym (map-append content first (second ++ rest))
    ∙ ap (λ (l : List (Entry I A)). map content (first ++ l)) (sym split')
    ∙ ap (map content) (sym split) in
    record {
      other = (first ++ map earlier second) ++ map earlier rest;
      heard = (first ++ map earlier second, map earlier rest, refl, j.brought, moved);
      alike = same;
    }

-- Two pieces in a row of one connection bring what the joined piece brings, wherever they are among
-- the events.
pub pieces-joined : {I A : Type 0} (h : Hearing I A) → IsReading h.reads → (c : ℕ) (xs ys : List ℕ) (front events : List Event) (known : Connections I) (n : ℕ) (log : List (Entry I A))
    → IsHeardFrom h known n (front ++ Piece c xs ∷ (Piece c ys ∷ events)) log → IsHeardAlike h known n (front ++ Piece c (xs ++ ys) ∷ events) log
pieces-joined h law c xs ys [] events known n log heard = joined_here h law c xs ys events known n log heard
pieces-joined {I = I} {A = A} h law c xs ys (event ∷ front) events known n log (mine, rest, split, brought, others) =
    let r = pieces-joined h law c xs ys front events (after_both h event mine known) (n + 1) rest others in
    record {
      other = mine ++ r.other;
      heard = (mine, r.other, refl, brought, r.heard);
      alike =
          map-append content mine r.other
          ∙ ap (λ (l : List (Source × Subject I × A)). map content mine ++ l) r.alike
          ∙ sym (map-append content mine rest)
          ∙ ap (map content) (sym split);
    }
