-- Rows that are joined and put in their places.
use Rattle.std.proofs.Common.{◌≡◌, refl, ap, sym, subst, ◌∙◌, ℕ, ◌+◌, ◌*◌, ◌<◌, ◌≤◌, ◌==◌, nat_lt, Bool, true, false, not, ◌&&◌, ◌||◌, if◌then◌else◌, List, [], ◌∷◌, ◌++◌, length, length-append, append-nil, append_assoc, get_or, zero, suc, inl, inr, arith, rules}
use Rattle.std.specs.Prelude.{Some, None}
use Rattle.std.specs.Ordering.{is_eq, ordering_reverse}
use Rattle.std.specs.List.{AllByRecursion, insert, remove}
use Rattle.std.proofs.lemmas.Bool.{and_parts, ltb-true}
use Rattle.std.proofs.lemmas.Bool.Decides.{nat_tests, Decides-eqb}
use Rattle.std.specs.List.{position, position_or_len}
use Rattle.std.proofs.lemmas.Bool.Decides.{eqb_tells}
use mathlib.Core.Bool.{beq, cond}
use Rattle.jac_value.specs.declared.value.Value.{Value}
use Rattle.jac_value.specs.contracts.value.ValueOrd.TheImpl as order
use Rattle.jac_value.specs.contracts.value.ValueOrd.TheImpl.Laws.{matches_eq-law, total-law}
use Rattle.jac_value.specs.contracts.value.ValuePartialEq.TheImpl as equality
use Rattle.jac_value.specs.SameValue.{same_value as one_value}
use Rattle.jac_world.specs.World.{holds, IsRising, StartsAboveBy}
use Rattle.jac_rows.specs.declared.row.Row.{Row}
use Rattle.jac_rows.specs.declared.plain.PlainRow.{PlainRow}
use Rattle.jac_rows.specs.Project.{rows_at}
use Rattle.jac_rows.proofs.Pushed.{rows_at-append}
use Rattle.jac_row_merge.specs.Merged.{IsJoined, same_pair, same_pairs, differ_once, same_cells, joinable, JoinsTo, Shows, AreMerged, AreOfRecord, pair_before, guard_before, row_before, AreInOrder, place_among}
use Rattle.jac_row_merge.proofs.Joining.{pair_same}

-- Rising labels without one of them.
above_next : (k : ℕ) (p : ℕ × Bool) (ps : List (ℕ × Bool)) → k < p.0 → StartsAboveBy (λ (q : ℕ × Bool). q.0) p.0 ps → StartsAboveBy (λ (q : ℕ × Bool). q.0) k ps
above_next k p [] less above = tt
above_next k p (q ∷ ps) less above = omega (arith, less, above)

above-remove : (k : ℕ) (ps : List (ℕ × Bool)) (i : ℕ) → StartsAboveBy (λ (q : ℕ × Bool). q.0) k ps → IsRising ps → StartsAboveBy (λ (q : ℕ × Bool). q.0) k (remove ps i)
above-remove k [] zero above up = tt
above-remove k [] (suc i) above up = tt
above-remove k (p ∷ ps) zero above up = above_next k p ps above up.0
above-remove k (p ∷ ps) (suc i) above up = above

pub rising-remove : (ps : List (ℕ × Bool)) (i : ℕ) → IsRising ps → IsRising (remove ps i)
rising-remove [] zero up = tt
rising-remove [] (suc i) up = tt
rising-remove (p ∷ ps) zero up = up.1
rising-remove (p ∷ ps) (suc i) up = (above-remove p.0 ps i up.0 up.1, rising-remove ps i up.1)

-- One row shows what two rows show together.
pub cells_same : (xs ys : List Value) → same_cells xs ys ≡ true → xs ≡ ys
cells_same [] [] e = refl
cells_same [] (y ∷ ys) e = cc
cells_same (x ∷ xs) [] e = cc
cells_same (x ∷ xs) (y ∷ ys) e =
    let parts = and_parts (equality.ghosts.eq x y) (same_cells xs ys) e in
    let first : x ≡ y = one_value x y parts.0 in
    let rest : xs ≡ ys = cells_same xs ys parts.1 in
    λ i. first i ∷ rest i

shown_once : (a b : Bool) (x : PlainRow) → (a && b) ≡ false → (if a || b then x ∷ [] else []) ≡ (if a then x ∷ [] else []) ++ (if b then x ∷ [] else [])
shown_once true true x e = cc
shown_once true false x e = refl
shown_once false b x e = refl

join_parts : (r s : Row) → joinable r s ≡ true → (r.id ≡ s.id) × ((r.cells ≡ s.cells) × (differ_once r.guard s.guard ≡ true))
join_parts r s e =
    let parts = and_parts ((r.id == s.id) && same_cells r.cells s.cells) (differ_once r.guard s.guard) e in
    let front = and_parts (r.id == s.id) (same_cells r.cells s.cells) parts.0 in
    ((Decides-eqb r.id s.id).0 front.0, (cells_same r.cells s.cells front.1, parts.1))

pub joins : (r s : Row) (g : List (ℕ × Bool)) → joinable r s ≡ true → IsJoined r.guard s.guard g → JoinsTo r s (record { id = s.id; guard = g; cells = s.cells })
joins r s g e joined w =
    let parts : (r.id ≡ s.id) × ((r.cells ≡ s.cells) × (differ_once r.guard s.guard ≡ true)) = join_parts r s e in
    rw (joined.exact w, parts.0, parts.1.0)
    (shown_once (holds w r.guard) (holds w s.guard) (record { id = s.id; cells = s.cells }) (joined.apart w))

-- Lists with at most one row that is shown.
more_than_one : (x y : PlainRow) (xs ys : List PlainRow) → length ((x ∷ xs) ++ (y ∷ ys)) ≤ 1 → (x ∷ xs) ++ (y ∷ ys) ≡ []
more_than_one x y xs ys h = let n : length (xs ++ (y ∷ ys)) ≡ length xs + length (y ∷ ys) = length-append xs (y ∷ ys) in absurd (omega (arith, h, n))

swap : (a r : List PlainRow) → length (a ++ r) ≤ 1 → r ++ a ≡ a ++ r
swap [] r h = append-nil r
swap (x ∷ a) [] h = sym (append-nil (x ∷ a))
swap (x ∷ a) (y ∷ r) h = let n : length (a ++ (y ∷ r)) ≡ length a + length (y ∷ r) = length-append a (y ∷ r) in absurd (omega (arith, h, n))

moved_front : (y m r : List PlainRow) → length (y ++ (m ++ r)) ≤ 1 → m ++ (y ++ r) ≡ y ++ (m ++ r)
moved_front [] m r h = refl
moved_front (x ∷ y) [] r h = refl
moved_front (x ∷ y) (z ∷ m) r h = let n : length (y ++ ((z ∷ m) ++ r)) ≡ length y + length ((z ∷ m) ++ r) = length-append y ((z ∷ m) ++ r) in absurd (omega (arith, h, n))

fewer : (a b : List PlainRow) → length (a ++ b) ≤ 1 → length b ≤ 1
fewer a b h = let n : length (a ++ b) ≡ length a + length b = length-append a b in omega (arith, h, n)

fewer_front : (a b : List PlainRow) → length (a ++ b) ≤ 1 → length a ≤ 1
fewer_front a b h = let n : length (a ++ b) ≡ length a + length b = length-append a b in omega (arith, h, n)

-- The first row, and the others.
first_and_rest : (w : ℕ → Bool) (y : Row) (m : List Row) → rows_at w (y ∷ m) ≡ rows_at w (y ∷ []) ++ rows_at w m
first_and_rest w y m = rows_at-append w (y ∷ []) m

pub shows_removed : (m : List Row) (i : ℕ) (x r j : Row) → i < length m → x ≡ get_or m i x → JoinsTo x r j → Shows (m ++ r ∷ []) (remove m i ++ j ∷ [])
shows_removed [] i x r j less at joined w one = absurd (omega (arith, less))
shows_removed (y ∷ m) zero x r j less at joined w one =
    let parts : rows_at w (y ∷ (m ++ r ∷ [])) ≡ rows_at w (y ∷ []) ++ (rows_at w m ++ rows_at w (r ∷ [])) =
    first_and_rest w y (m ++ r ∷ []) ∙ ap (λ l. rows_at w (y ∷ []) ++ l) (rows_at-append w m (r ∷ [])) in
    rows_at-append w m (j ∷ [])
    ∙ ap (λ l. rows_at w m ++ l) (joined w ∙ ap (λ z. rows_at w (z ∷ []) ++ rows_at w (r ∷ [])) at)
    ∙ moved_front (rows_at w (y ∷ [])) (rows_at w m) (rows_at w (r ∷ [])) (subst (λ l. length l ≤ 1) parts one)
    ∙ sym parts
shows_removed (y ∷ m) (suc i) x r j less at joined w one =
    let parts : rows_at w (y ∷ (m ++ r ∷ [])) ≡ rows_at w (y ∷ []) ++ rows_at w (m ++ r ∷ []) = first_and_rest w y (m ++ r ∷ []) in
    first_and_rest w y (remove m i ++ j ∷ [])
    ∙ ap (λ l. rows_at w (y ∷ []) ++ l) (shows_removed m i x r j (omega (arith, less)) at joined w (fewer (rows_at w (y ∷ [])) (rows_at w (m ++ r ∷ [])) (subst (λ l. length l ≤ 1) parts one)))
    ∙ sym parts

pub shows_inserted : (m : List Row) (i : ℕ) (r : Row) → i ≤ length m → Shows (m ++ r ∷ []) (insert m i r)
shows_inserted [] zero r less w one = refl
shows_inserted [] (suc i) r less w one = absurd (omega (arith, less))
shows_inserted (y ∷ m) zero r less w one =
    let parts : rows_at w ((y ∷ m) ++ r ∷ []) ≡ rows_at w (y ∷ m) ++ rows_at w (r ∷ []) = rows_at-append w (y ∷ m) (r ∷ []) in
    first_and_rest w r (y ∷ m)
    ∙ swap (rows_at w (y ∷ m)) (rows_at w (r ∷ [])) (subst (λ l. length l ≤ 1) parts one)
    ∙ sym parts
shows_inserted (y ∷ m) (suc i) r less w one =
    let parts : rows_at w (y ∷ (m ++ r ∷ [])) ≡ rows_at w (y ∷ []) ++ rows_at w (m ++ r ∷ []) = first_and_rest w y (m ++ r ∷ []) in
    first_and_rest w y (insert m i r)
    ∙ ap (λ l. rows_at w (y ∷ []) ++ l) (shows_inserted m i r (omega (arith, less)) w (fewer (rows_at w (y ∷ [])) (rows_at w (m ++ r ∷ [])) (subst (λ l. length l ≤ 1) parts one)))
    ∙ sym parts

pub shows_then : (a b c : List Row) → Shows a b → Shows b c → Shows a c
shows_then a b c first second w one =
    let same : rows_at w b ≡ rows_at w a = first w one in
    second w (subst (λ l. length l ≤ 1) (sym same) one) ∙ same

pub shows_next : (all m n : List Row) (r : Row) (rest : List Row) → Shows all (m ++ (r ∷ rest)) → Shows (m ++ r ∷ []) n → Shows all (n ++ rest)
shows_next all m n r rest so_far step w one =
    let same : rows_at w (m ++ (r ∷ rest)) ≡ rows_at w all = so_far w one in
    let parts : rows_at w (m ++ (r ∷ rest)) ≡ rows_at w (m ++ r ∷ []) ++ rows_at w rest =
    ap (rows_at w) (sym (append_assoc m (r ∷ []) rest)) ∙ rows_at-append w (m ++ r ∷ []) rest in
    let few : length (rows_at w (m ++ r ∷ [])) ≤ 1 =
    fewer_front (rows_at w (m ++ r ∷ [])) (rows_at w rest) (subst (λ l. length l ≤ 1) (sym same ∙ parts) one) in
    rows_at-append w n rest ∙ ap (λ l. l ++ rows_at w rest) (step w few) ∙ sym parts ∙ same

-- A property of each row.
module _ (P : Row → Type 0) where
  pub all-append : (xs ys : List Row) → AllByRecursion P xs → AllByRecursion P ys → AllByRecursion P (xs ++ ys)
  all-append [] ys a b = b
  all-append (x ∷ xs) ys a b = (a.0, all-append xs ys a.1 b)

  pub all-front : (xs ys : List Row) → AllByRecursion P (xs ++ ys) → AllByRecursion P xs
  all-front [] ys a = tt
  all-front (x ∷ xs) ys a = (a.0, all-front xs ys a.1)

  pub all-behind : (xs ys : List Row) → AllByRecursion P (xs ++ ys) → AllByRecursion P ys
  all-behind [] ys a = a
  all-behind (x ∷ xs) ys a = all-behind xs ys a.1

  pub all-remove : (xs : List Row) (i : ℕ) → AllByRecursion P xs → AllByRecursion P (remove xs i)
  all-remove [] zero a = tt
  all-remove [] (suc i) a = tt
  all-remove (x ∷ xs) zero a = a.1
  all-remove (x ∷ xs) (suc i) a = (a.0, all-remove xs i a.1)

  pub all-insert : (xs : List Row) (i : ℕ) (y : Row) → i ≤ length xs → AllByRecursion P xs → P y → AllByRecursion P (insert xs i y)
  all-insert xs zero y less a p = (p, a)
  all-insert [] (suc i) y less a p = absurd (omega (arith, less))
  all-insert (x ∷ xs) (suc i) y less a p = (a.0, all-insert xs i y (omega (arith, less)) a.1 p)

pub own_removed : (id : ℕ) (m : List Row) (i : ℕ) (r j : Row) → j.id ≡ r.id → AreOfRecord id (m ++ r ∷ []) → AreOfRecord id (remove m i ++ j ∷ [])
own_removed id m i r j same own =
    let P = λ (x : Row). x.id ≡ id in
    all-append P (remove m i) (j ∷ []) (all-remove P m i (all-front P m (r ∷ []) own)) (same ∙ (all-behind P m (r ∷ []) own).0, tt)

pub own_inserted : (id : ℕ) (m : List Row) (i : ℕ) (r : Row) → i ≤ length m → AreOfRecord id (m ++ r ∷ []) → AreOfRecord id (insert m i r)
own_inserted id m i r less own =
    let P = λ (x : Row). x.id ≡ id in
    all-insert P m i r less (all-front P m (r ∷ []) own) (all-behind P m (r ∷ []) own).0

pub own_next : (id : ℕ) (m n : List Row) (r : Row) (rest : List Row) → (AreOfRecord id (m ++ r ∷ []) → AreOfRecord id n) → AreOfRecord id (m ++ (r ∷ rest)) → AreOfRecord id (n ++ rest)
own_next id m n r rest step own =
    let P = λ (x : Row). x.id ≡ id in
    let behind : AllByRecursion P (r ∷ rest) = all-behind P m (r ∷ rest) own in
    all-append P n rest (step (all-append P m (r ∷ []) (all-front P m (r ∷ rest) own) (behind.0, tt))) behind.1

-- No two rows can be joined.
value_turned : (x y : Value) → equality.ghosts.eq x y ≡ equality.ghosts.eq y x
value_turned x y = matches_eq-law x y ∙ ap is_eq (total-law.antisymm x y) ∙ is_turned (order.ghosts.cmp y x) ∙ sym (matches_eq-law y x)
  where
    is_turned : (o : _) → is_eq (ordering_reverse o) ≡ is_eq o
    is_turned o = grind rules

cells_turned : (xs ys : List Value) → same_cells xs ys ≡ same_cells ys xs
cells_turned [] [] = refl
cells_turned [] (y ∷ ys) = refl
cells_turned (x ∷ xs) [] = refl
cells_turned (x ∷ xs) (y ∷ ys) = rw (value_turned x y, cells_turned xs ys) refl

number_turned : (a b : ℕ) → (a == b) ≡ (b == a)
number_turned a b = grind (arith, nat_tests)

bit_turned : (a b : Bool) → beq a b ≡ beq b a
bit_turned true true = refl
bit_turned true false = refl
bit_turned false true = refl
bit_turned false false = refl

pairs_turned : (ps qs : List (ℕ × Bool)) → same_pairs ps qs ≡ same_pairs qs ps
pairs_turned [] [] = refl
pairs_turned [] (q ∷ qs) = refl
pairs_turned (p ∷ ps) [] = refl
pairs_turned (p ∷ ps) (q ∷ qs) = rw (number_turned p.0 q.0, bit_turned p.1 q.1, pairs_turned ps qs) refl

differ_turned : (ps qs : List (ℕ × Bool)) → differ_once ps qs ≡ differ_once qs ps
differ_turned [] [] = refl
differ_turned [] (q ∷ qs) = refl
differ_turned (p ∷ ps) [] = refl
differ_turned (p ∷ ps) (q ∷ qs) = rw (number_turned p.0 q.0, bit_turned p.1 q.1, pairs_turned ps qs, differ_turned ps qs) refl

pub joinable_turned : (r s : Row) → joinable r s ≡ joinable s r
joinable_turned r s = rw (number_turned r.id s.id, cells_turned r.cells s.cells, differ_turned r.guard s.guard) refl

all-mapped : (P Q : Row → Type 0) (xs : List Row) → ((x : Row) → P x → Q x) → AllByRecursion P xs → AllByRecursion Q xs
all-mapped P Q [] f all = tt
all-mapped P Q (x ∷ xs) f all = (f x all.0, all-mapped P Q xs f all.1)

pub merged_removed : (m : List Row) (i : ℕ) → AreMerged m → AreMerged (remove m i)
merged_removed [] zero merged = tt
merged_removed [] (suc i) merged = tt
merged_removed (x ∷ m) zero merged = merged.1
merged_removed (x ∷ m) (suc i) merged = (all-remove (λ (s : Row). joinable x s ≡ false) m i merged.0, merged_removed m i merged.1)

pub merged_inserted : (m : List Row) (i : ℕ) (r : Row) → i ≤ length m → AllByRecursion (λ (s : Row). joinable s r ≡ false) m → AreMerged m → AreMerged (insert m i r)
merged_inserted m zero r less none merged = (all-mapped (λ (s : Row). joinable s r ≡ false) (λ (s : Row). joinable r s ≡ false) m (λ s e. joinable_turned r s ∙ e) none, merged)
merged_inserted [] (suc i) r less none merged = absurd (omega (arith, less))
merged_inserted (x ∷ m) (suc i) r less none merged =
    (all-insert (λ (s : Row). joinable x s ≡ false) m i r (omega (arith, less)) merged.0 none.0, merged_inserted m i r (omega (arith, less)) none.1 merged.1)

-- If no place was found for a test, no item passes it.
cond_none : (b : Bool) (i : ℕ) → cond b (Some i) None ≡ None → b ≡ false
cond_none true i e = cc
cond_none false i e = refl

none_from : {X : Type 0} (p : X → Bool) (x : X) (xs : List X) (b : Bool) → p x ≡ b → suc (length xs) ≤ cond (not b) (1 + position_or_len p xs) 0 → (p x ≡ false) × (length xs ≤ position_or_len p xs)
none_from p x xs true e h = absurd (omega (arith, h))
none_from p x xs false e h = (e, omega (arith, h))

none_within : {X : Type 0} (p : X → Bool) (xs : List X) → length xs ≤ position_or_len p xs → AllByRecursion (λ x. p x ≡ false) xs
none_within p [] h = tt
none_within p (x ∷ xs) h = let here = none_from p x xs (p x) refl h in (here.0, none_within p xs here.1)

pub none_passes : {X : Type 0} (p : X → Bool) (xs : List X) → position p xs ≡ None → AllByRecursion (λ x. p x ≡ false) xs
none_passes p xs e =
    let no : nat_lt (position_or_len p xs) (length xs) ≡ false = cond_none (nat_lt (position_or_len p xs) (length xs)) (position_or_len p xs) e in
    let past : length xs ≤ position_or_len p xs = grind (arith, nat_tests) in
    none_within p xs past

-- The order of guards.
abbrev bit : Bool → ℕ
bit true = 1
bit false = 0

abbrev rank : ℕ → Bool → ℕ
rank k x = 2 * k + bit x

abbrev Less : ℕ → Bool → ℕ → Bool → Type 0
Less k x l y = (((k == l) && beq x y) ≡ false) × ((if k == l then y else nat_lt k l) ≡ true)

same_label : (x y : Bool) → beq x y ≡ false → y ≡ true → bit x < bit y
same_label true true n b = cc
same_label false true n b = omega arith
same_label x false n b = cc

lesser_label : (k l : ℕ) (x y : Bool) → k < l → rank k x < rank l y
lesser_label k l true true h = omega (arith, h)
lesser_label k l true false h = omega (arith, h)
lesser_label k l false true h = omega (arith, h)
lesser_label k l false false h = omega (arith, h)

test_of_less : (k l : ℕ) → k < l → nat_lt k l ≡ true
test_of_less k l h = grind (arith, nat_tests)

rank_less : (k l : ℕ) (x y : Bool) → Less k x l y → rank k x < rank l y
rank_less k l x y less = elim (eqb_tells k l) [
  | inl e ↦ (let n = rw e.0 at less.0 in let b = rw e.0 at less.1 in let h : bit x < bit y = same_label x y n b in let s : k ≡ l = e.1 in omega (arith, h, s))
  | inr e ↦ (let b = rw e.0 at less.1 in lesser_label k l x y (ltb-true k l b))
]

bits_less : (x y : Bool) → bit x < bit y → (beq x y ≡ false) × (y ≡ true)
bits_less true true h = absurd (omega (arith, h))
bits_less true false h = absurd (omega (arith, h))
bits_less false true h = (refl, refl)
bits_less false false h = absurd (omega (arith, h))

label_less : (k l : ℕ) (x y : Bool) → rank k x < rank l y → k ≤ l
label_less k l true true h = omega (arith, h)
label_less k l true false h = omega (arith, h)
label_less k l false true h = omega (arith, h)
label_less k l false false h = omega (arith, h)

less_rank : (k l : ℕ) (x y : Bool) → rank k x < rank l y → Less k x l y
less_rank k l x y h = elim (eqb_tells k l) [
  | inl e ↦ (let s : k ≡ l = e.1 in rw e.0 (bits_less x y (omega (arith, h, s))))
  | inr e ↦ (let most : k ≤ l = label_less k l x y h in let differ = e.1 in rw e.0 (refl, test_of_less k l (omega (arith, most, differ))))
]

pair_trans : (p q s : ℕ × Bool) → same_pair p q ≡ false → pair_before p q ≡ true → same_pair q s ≡ false → pair_before q s ≡ true → (same_pair p s ≡ false) × (pair_before p s ≡ true)
pair_trans p q s a b c d =
    let one : rank p.0 p.1 < rank q.0 q.1 = rank_less p.0 q.0 p.1 q.1 (a, b) in
    let two : rank q.0 q.1 < rank s.0 s.1 = rank_less q.0 s.0 q.1 s.1 (c, d) in
    less_rank p.0 s.0 p.1 s.1 (omega (arith, one, two))

trans_if : (p q s : ℕ × Bool) (a b c : List (ℕ × Bool)) (x y : Bool) → same_pair p q ≡ x → same_pair q s ≡ y
    → (guard_before a b ≡ true → guard_before b c ≡ true → guard_before a c ≡ true)
    → (if x then guard_before a b else pair_before p q) ≡ true → (if y then guard_before b c else pair_before q s) ≡ true
    → (if same_pair p s then guard_before a c else pair_before p s) ≡ true
trans_if p q s a b c true true h g ih e f = rw (ap (same_pair p) (pair_same q s g) ∙ h) (ih e f)
trans_if p q s a b c true false h g ih e f =
    let same : q ≡ p = pair_same p q h in
    rw (ap (λ z. same_pair z s) (sym same) ∙ g) (ap (λ z. pair_before z s) (sym same) ∙ f)
trans_if p q s a b c false true h g ih e f =
    let same : s ≡ q = pair_same q s g in
    rw (ap (same_pair p) same ∙ h) (ap (pair_before p) same ∙ e)
trans_if p q s a b c false false h g ih e f =
    let less = pair_trans p q s h e g f in
    rw less.0 less.1

before_trans : (a b c : List (ℕ × Bool)) → guard_before a b ≡ true → guard_before b c ≡ true → guard_before a c ≡ true
before_trans [] [] c e f = cc
before_trans [] (q ∷ b) [] e f = cc
before_trans [] (q ∷ b) (s ∷ c) e f = refl
before_trans (p ∷ a) [] c e f = cc
before_trans (p ∷ a) (q ∷ b) [] e f = cc
before_trans (p ∷ a) (q ∷ b) (s ∷ c) e f = trans_if p q s a b c (same_pair p q) (same_pair q s) refl refl (before_trans a b c) e f

bit_itself : (x : Bool) → beq x x ≡ true
bit_itself true = refl
bit_itself false = refl

number_itself : (k : ℕ) → (k == k) ≡ true
number_itself k = grind (arith, nat_tests)

not_itself : (a : List (ℕ × Bool)) → guard_before a a ≡ false
not_itself [] = refl
not_itself (p ∷ a) = rw (number_itself p.0, bit_itself p.1) (not_itself a)

unless : (b : Bool) → (b ≡ true → true ≡ false) → b ≡ false
unless true h = h refl
unless false h = refl

-- If `r` comes before `s`, and `t` doesn't come before `s`, then `t` doesn't come before `r`.
not_before : (r s t : Row) → row_before r s ≡ true → row_before t s ≡ false → row_before t r ≡ false
not_before r s t h n = unless (row_before t r) (λ e. sym (before_trans t.guard r.guard s.guard e h) ∙ n)

pub order_removed : (m : List Row) (i : ℕ) → AreInOrder m → AreInOrder (remove m i)
order_removed [] zero ordered = tt
order_removed [] (suc i) ordered = tt
order_removed (x ∷ m) zero ordered = ordered.1
order_removed (x ∷ m) (suc i) ordered = (all-remove (λ (s : Row). row_before s x ≡ false) m i ordered.0, order_removed m i ordered.1)

within_if : (b : Bool) (n k : ℕ) → n ≤ k → (if b then 0 else n + 1) ≤ suc k
within_if true n k h = omega arith
within_if false n k h = omega (arith, h)

pub place_within : (r : Row) (m : List Row) → place_among r m ≤ length m
place_within r [] = omega arith
place_within r (s ∷ m) = within_if (row_before r s) (place_among r m) (length m) (place_within r m)

order_if : (r s : Row) (m : List Row) (b : Bool) → row_before r s ≡ b → AreInOrder (s ∷ m) → AreInOrder (insert m (place_among r m) r) → AreInOrder (insert (s ∷ m) (if b then 0 else place_among r m + 1) r)
order_if r s m true e ordered ih =
    ((not_before r s s e (not_itself s.guard), all-mapped (λ (t : Row). row_before t s ≡ false) (λ (t : Row). row_before t r ≡ false) m (λ t n. not_before r s t e n) ordered.0), ordered)
order_if r s m false e ordered ih =
    let next : place_among r m + 1 ≡ suc (place_among r m) = omega arith in
    rw next (all-insert (λ (t : Row). row_before t s ≡ false) m (place_among r m) r (place_within r m) ordered.0 e, ih)

pub order_inserted : (r : Row) (m : List Row) → AreInOrder m → AreInOrder (insert m (place_among r m) r)
order_inserted r [] ordered = (tt, tt)
order_inserted r (s ∷ m) ordered = order_if r s m (row_before r s) refl ordered (order_inserted r m ordered.1)
