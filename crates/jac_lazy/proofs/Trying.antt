-- Rounds that try the live labels fill up any labels.
use Rattle.std.proofs.Common.{◌≡◌, ◌∙◌, ◌⊎◌, inl, inr, sym, refl, ap, subst, arith, ℕ, zero, suc, ◌+◌, ◌<◌, ◌≤◌, ◌==◌, ◌&&◌, ◌||◌, not, Bool, true, false, true≢false, if◌then◌else◌, List, [], ◌∷◌, ◌++◌, length, Option}
use Rattle.std.specs.List.{list_all}
use Rattle.std.proofs.lemmas.Bool.{and_parts, or_left, or_right}
use Rattle.std.proofs.lemmas.Bool.Decides.{nat_tests, Decides-eqb}
use Rattle.jac_world.specs.World.{shown_by, with_number}
use Rattle.jac_world.proofs.Inserting.{shown-inserted}
use Rattle.jac_lang.specs.Syntax.{Application}
use Rattle.jac_plain.specs.Requests.{Visit, Worlds}
use Rattle.jac_plain.specs.declared.page.Page.{Page}
use Rattle.jac_plain.specs.Policies.{is_allowed, with_label, IsLiveLabel, ShowsForbidden, AreAllowed}
use Rattle.jac_resolve.specs.Rounds.{AreLive, hidden_count}
use Rattle.jac_resolve.proofs.Fewer.{itself, fewer}
use Rattle.jac_lazy.specs.Steady.{IsPageOf, IsSteady}
use Rattle.jac_lazy.specs.Filled.{Adds, IsFilled, IsPageOfSettled, all_allowed, may_add, round, rounds, fill}
use Rattle.jac_lazy.proofs.Filling.{grown, law_filled}

-- If all labels pass a test, each of them does. If they don't, one of them fails.

meets_if : (f : ℕ → Bool) (x k : ℕ) (same all rest : Bool) → (x == k) ≡ same → (f x && all) ≡ true → (same || rest) ≡ true → (all ≡ true → rest ≡ true → f k ≡ true) → f k ≡ true
meets_if f x k true all rest e h s later = ap f (sym ((Decides-eqb x k).0 e)) ∙ (and_parts (f x) all h).0
meets_if f x k false all rest e h s later = later (and_parts (f x) all h).1 s

each_meets : (f : ℕ → Bool) (xs : List ℕ) → list_all f xs ≡ true → (k : ℕ) → shown_by xs k ≡ true → f k ≡ true
each_meets f [] h k s = cc
each_meets f (x ∷ xs) h k s = meets_if f x k (x == k) (list_all f xs) (shown_by xs k) refl h s (λ a b. each_meets f xs a k b)

record Fails (f : ℕ → Bool) (xs : List ℕ) : Type 0 where
  pub label : ℕ
  pub is_shown : shown_by xs label ≡ true
  pub fails : f label ≡ false

fails_if : (f : ℕ → Bool) (x : ℕ) (xs : List ℕ) (b : Bool) → f x ≡ b → (b && list_all f xs) ≡ false → (list_all f xs ≡ false → Fails f xs) → Fails f (x ∷ xs)
fails_if f x xs true e h later =
    let found = later h in
    record { label = found.label; is_shown = or_right (x == found.label) (shown_by xs found.label) found.is_shown; fails = found.fails }
fails_if f x xs false e h later = record { label = x; is_shown = or_left (x == x) (shown_by xs x) (itself x); fails = e }

one_fails : (f : ℕ → Bool) (xs : List ℕ) → list_all f xs ≡ false → Fails f xs
one_fails f [] h = absurd cc
one_fails f (x ∷ xs) h = fails_if f x xs (f x) refl h (one_fails f xs)

-- The number of the labels that aren't shown.

at_most_if : (b : Bool) (m n : ℕ) → m ≤ n → (if b then 0 else 1) + m ≤ suc n
at_most_if true m n h = omega (arith, h)
at_most_if false m n h = omega (arith, h)

at_most : (w : ℕ → Bool) (xs : List ℕ) → hidden_count w xs ≤ length xs
at_most w [] = omega arith
at_most w (x ∷ xs) = at_most_if (w x) (hidden_count w xs) (length xs) (at_most w xs)

either_false : (a b : Bool) → not (a || b) ≡ true → (a ≡ false) × (b ≡ false)
either_false true b h = cc
either_false false true h = cc
either_false false false h = (refl, refl)

module _ (app : Application) (worlds : Worlds) (viewer : Option ℕ) (consulted : List ℕ) where
  abbrev Adding : ℕ → List ℕ → Bool
  Adding k labels = may_add app worlds viewer consulted k labels

  abbrev Round : List ℕ → List ℕ → List ℕ
  Round ks labels = round app worlds viewer consulted ks labels

  abbrev Rounds : ℕ → List ℕ → List ℕ → List ℕ
  Rounds n ks labels = rounds app worlds viewer consulted n ks labels

  -- A label that may be added wasn't consulted and isn't shown.
  hidden_before : (k : ℕ) (labels : List ℕ) → Adding k labels ≡ true → (shown_by consulted k ≡ false) × (shown_by labels k ≡ false)
  hidden_before k labels h = either_false (shown_by consulted k) (shown_by labels k) (and_parts (not (shown_by consulted k || shown_by labels k)) (all_allowed app (worlds (shown_by (with_number k labels))) viewer (with_number k labels)) h).0

  allowed_then : (k : ℕ) (labels : List ℕ) → Adding k labels ≡ true → AreAllowed app worlds viewer (with_number k labels)
  allowed_then k labels h j s =
      each_meets (λ i. is_allowed app (worlds (shown_by (with_number k labels))) viewer i) (with_number k labels)
      (and_parts (not (shown_by consulted k || shown_by labels k)) (all_allowed app (worlds (shown_by (with_number k labels))) viewer (with_number k labels)) h).1 j s

  -- Labels that were added.

  record Added (old new : List ℕ) : Type 0 where
    pub labels : List ℕ
    pub adds : Adds app worlds viewer consulted labels old new

  added_behind : (k : ℕ) (old new : List ℕ) → IsLiveLabel app worlds k → Adding k old ≡ true → Added (with_number k old) new → Added old new
  added_behind k old new live h rest = record { labels = k ∷ rest.labels; adds = (live, (hidden_before k old h).0, allowed_then k old h, rest.adds) }

  one_added : (k : ℕ) (ks old : List ℕ) (b : Bool) → Adding k old ≡ b → IsLiveLabel app worlds k
      → ((from : List ℕ) → Added from (Round ks from)) → Added old (Round ks (if b then with_number k old else old))
  one_added k ks old true e live rest = added_behind k old (Round ks (with_number k old)) live e (rest (with_number k old))
  one_added k ks old false e live rest = rest old

  round_adds : (ks : List ℕ) → ((k : ℕ) → shown_by ks k ≡ true → IsLiveLabel app worlds k) → (old : List ℕ) → Added old (Round ks old)
  round_adds [] live old = record { labels = []; adds = refl }
  round_adds (k ∷ ks) live old =
      one_added k ks old (Adding k old) refl (live k (or_left (k == k) (shown_by ks k) (itself k)))
      (round_adds ks (λ j s. live j (or_right (k == j) (shown_by ks j) s)))

  adds_then : (ks js old mid new : List ℕ) → Adds app worlds viewer consulted ks old mid → Adds app worlds viewer consulted js mid new → Adds app worlds viewer consulted (ks ++ js) old new
  adds_then [] js old mid new one two = subst (λ (l : List ℕ). Adds app worlds viewer consulted js l new) one two
  adds_then (k ∷ ks) js old mid new one two = (one.0, one.1, one.2, adds_then ks js (with_number k old) mid new one.3 two)

  rounds_add : (n : ℕ) (ks : List ℕ) → ((k : ℕ) → shown_by ks k ≡ true → IsLiveLabel app worlds k) → (old : List ℕ) → Added old (Rounds n ks old)
  rounds_add zero ks live old = record { labels = []; adds = refl }
  rounds_add (suc n) ks live old =
      let one = round_adds ks live old in
      let rest = rounds_add n ks live (Round ks old) in
      record { labels = one.labels ++ rest.labels; adds = adds_then one.labels rest.labels old (Round ks old) (Rounds n ks (Round ks old)) one.adds rest.adds }

  -- A round adds one of the labels, or changes nothing.

  abbrev Moves : List ℕ → List ℕ → List ℕ → Type 0
  Moves labels old new = (new ≡ old) ⊎ (hidden_count (shown_by new) labels < hidden_count (shown_by old) labels)

  moves_then : (labels old mid new : List ℕ) → Moves labels old mid → Moves labels mid new → Moves labels old new
  moves_then labels old mid new (inl e) (inl f) = inl (f ∙ e)
  moves_then labels old mid new (inl e) (inr lt) = inr (subst (λ (l : List ℕ). hidden_count (shown_by new) labels < hidden_count (shown_by l) labels) e lt)
  moves_then labels old mid new (inr lt) (inl f) = inr (subst (λ (l : List ℕ). hidden_count (shown_by l) labels < hidden_count (shown_by old) labels) (sym f) lt)
  moves_then labels old mid new (inr lt) (inr less) = inr (omega (arith, lt, less))

  one_moves : (labels : List ℕ) (k : ℕ) (old : List ℕ) (b : Bool) → Adding k old ≡ b → shown_by labels k ≡ true → Moves labels old (if b then with_number k old else old)
  one_moves labels k old true e s = inr (fewer k (shown_by old) (shown_by (with_number k old)) (hidden_before k old e).1 (shown-inserted k old) labels s)
  one_moves labels k old false e s = inl refl

  round_moves : (labels ks : List ℕ) → ((k : ℕ) → shown_by ks k ≡ true → shown_by labels k ≡ true) → (old : List ℕ) → Moves labels old (Round ks old)
  round_moves labels [] among old = inl refl
  round_moves labels (k ∷ ks) among old =
      let mid : List ℕ = if Adding k old then with_number k old else old in
      moves_then labels old mid (Round ks mid)
      (one_moves labels k old (Adding k old) refl (among k (or_left (k == k) (shown_by ks k) (itself k))))
      (round_moves labels ks (λ j s. among j (or_right (k == j) (shown_by ks j) s)) mid)

  stays : (n : ℕ) (ks old : List ℕ) → Round ks old ≡ old → Rounds n ks old ≡ old
  stays zero ks old e = refl
  stays (suc n) ks old e = ap (Rounds n ks) e ∙ stays n ks old e

  -- After as many rounds as there are hidden labels, no label is added.

  ended_if : (n : ℕ) (ks old : List ℕ) → Moves ks old (Round ks old) → hidden_count (shown_by old) ks ≤ suc n
      → (hidden_count (shown_by (Round ks old)) ks ≤ n → Round ks (Rounds n ks (Round ks old)) ≡ Rounds n ks (Round ks old))
      → Round ks (Rounds n ks (Round ks old)) ≡ Rounds n ks (Round ks old)
  ended_if n ks old (inl e) few later =
      let last : Rounds n ks (Round ks old) ≡ old = ap (Rounds n ks) e ∙ stays n ks old e in
      ap (Round ks) last ∙ e ∙ sym last
  ended_if n ks old (inr lt) few later = later (omega (arith, lt, few))

  none_left : (ks old : List ℕ) → Moves ks old (Round ks old) → hidden_count (shown_by old) ks ≤ 0 → Round ks old ≡ old
  none_left ks old (inl e) few = e
  none_left ks old (inr lt) few = absurd (omega (arith, lt, few))

  ended : (n : ℕ) (ks old : List ℕ) → hidden_count (shown_by old) ks ≤ n → Round ks (Rounds n ks old) ≡ Rounds n ks old
  ended zero ks old few = none_left ks old (round_moves ks ks (λ k s. s) old) few
  ended (suc n) ks old few = ended_if n ks old (round_moves ks ks (λ k s. s) old) few (ended n ks (Round ks old))

  -- If a round adds no label, none of its labels may be added.

  kept_if : (k j : ℕ) (old : List ℕ) (b : Bool) → shown_by old j ≡ true → shown_by (if b then with_number k old else old) j ≡ true
  kept_if k j old true s = shown-inserted k old j ∙ or_right (k == j) (shown_by old j) s
  kept_if k j old false s = s

  round_keeps : (ks old : List ℕ) (j : ℕ) → shown_by old j ≡ true → shown_by (Round ks old) j ≡ true
  round_keeps [] old j s = s
  round_keeps (k ∷ ks) old j s = round_keeps ks (if Adding k old then with_number k old else old) j (kept_if k j old (Adding k old) s)

  refused_if : (x k : ℕ) (ks old : List ℕ) (b same : Bool) → Adding x old ≡ b → (x == k) ≡ same → Round ks (if b then with_number x old else old) ≡ old → (same || shown_by ks k) ≡ true
      → (Round ks old ≡ old → shown_by ks k ≡ true → Adding k old ≡ false) → Adding k old ≡ false
  refused_if x k ks old true same e f still s later =
      let there : shown_by (with_number x old) x ≡ true = shown-inserted x old x ∙ or_left (x == x) (shown_by old x) (itself x) in
      absurd (true≢false (sym (round_keeps ks (with_number x old) x there) ∙ ap (λ l. shown_by l x) still ∙ (hidden_before x old e).1))
  refused_if x k ks old false true e f still s later = ap (λ j. Adding j old) (sym ((Decides-eqb x k).0 f)) ∙ e
  refused_if x k ks old false false e f still s later = later still s

  refused : (ks old : List ℕ) → Round ks old ≡ old → (k : ℕ) → shown_by ks k ≡ true → Adding k old ≡ false
  refused [] old still k s = cc
  refused (x ∷ ks) old still k s = refused_if x k ks old (Adding x old) (x == k) refl refl still s (λ e t. refused ks old e k t)

  not_all : (a b all : Bool) → a ≡ false → b ≡ false → (not (a || b) && all) ≡ false → all ≡ false
  not_all true b all e f h = cc
  not_all false true all e f h = cc
  not_all false false all e f h = h

  forbids : (k : ℕ) (old : List ℕ) → shown_by consulted k ≡ false → shown_by old k ≡ false → Adding k old ≡ false → ShowsForbidden app worlds viewer (with_label k (shown_by old))
  forbids k old beside hidden h =
      let found = one_fails (λ j. is_allowed app (worlds (shown_by (with_number k old))) viewer j) (with_number k old)
      (not_all (shown_by consulted k) (shown_by old k) (all_allowed app (worlds (shown_by (with_number k old))) viewer (with_number k old)) beside hidden h) in
      let refusing : ShowsForbidden app worlds viewer (shown_by (with_number k old)) = record { label = found.label; is_shown = found.is_shown; forbidden = found.fails } in
      subst (λ (w : ℕ → Bool). ShowsForbidden app worlds viewer w) (grown k old) refusing

  fills : (live old : List ℕ) → AreLive app worlds live → IsFilled app worlds viewer consulted old (fill app worlds viewer consulted live old)
  fills live old are =
      let end : List ℕ = Rounds (length live) live old in
      let all = rounds_add (length live) live are.only old in
      record {
        added = all.labels;
        adds = all.adds;
        full = λ k lives beside hidden. forbids k end beside hidden (refused live end (ended (length live) live old (at_most (shown_by old) live)) k (are.every k lives));
      }

pub law_rounds : (app : Application) (worlds : Worlds) (viewer : Option ℕ) (consulted live labels : List ℕ) → AreLive app worlds live
    → IsFilled app worlds viewer consulted labels (fill app worlds viewer consulted live labels)
law_rounds app worlds viewer consulted live labels are = fills app worlds viewer consulted live labels are

pub law_pages : (app : Application) (worlds before : Worlds) (viewer : Option ℕ) (consulted live labels : List ℕ) (visit : Visit) (it : Page) → IsSteady app worlds viewer consulted labels → AreLive app worlds live
    → IsPageOf app before consulted labels visit it → IsPageOfSettled app worlds before viewer consulted labels visit it
law_pages app worlds before viewer consulted live labels visit it steady are is =
    let all : List ℕ = fill app worlds viewer consulted live labels in
    let end = law_filled app worlds viewer consulted labels all steady (fills app worlds viewer consulted live labels are) in
    record { all = all; settled = end.0; agrees = end.1; page = is.each (shown_by all) end.1 }
