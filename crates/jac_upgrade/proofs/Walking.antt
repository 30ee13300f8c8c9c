-- A walk over the rows of a table, record by record.
use Rattle.std.proofs.Common.{◌≡◌, ◌≢◌, ◌∙◌, refl, ap, sym, subst, arith, zero, suc, ℕ, ◌+◌, ◌<◌, ◌≤◌, ◌==◌, ◌||◌, Bool, true, false, if◌then◌else◌, List, [], ◌∷◌, ◌++◌, append_assoc, append-nil, add-one, take, drop, length, Some, None, slice_get}
use Rattle.std.specs.List.{AllByRecursion}
use Rattle.std.proofs.lemmas.Bool.{eqb-true, or_left, or_right}
use Rattle.jac_value.specs.Ids.{is_id_of}
use Rattle.jac_lang.specs.Syntax.{Entity}
use Rattle.jac_rows.specs.declared.row.Row.{Row}
use Rattle.jac_keep.specs.Records.{alternatives, AreOrdered}
use Rattle.jac_keep.specs.declared.alteration.Alteration.{Alteration}
use Rattle.jac_upgrade.specs.Changed.{has_alternative}
use Rattle.jac_upgrade.specs.Steps.{AltersFirst, AltersRows, IsOwnAlteration, IsRenewed, IsUpgradeIn, first_count, front_count, is_changed, starts_with}

pub all_append : {X : Type 0} (P : X → Type 0) (xs ys : List X) → AllByRecursion P xs → AllByRecursion P ys → AllByRecursion P (xs ++ ys)
all_append P [] ys a b = b
all_append P (x ∷ xs) ys a b = (a.0, all_append P xs ys a.1 b)

pub all_mapped : {X : Type 0} (P Q : X → Type 0) (xs : List X) → ((x : X) → P x → Q x) → AllByRecursion P xs → AllByRecursion Q xs
all_mapped P Q [] f a = tt
all_mapped P Q (x ∷ xs) f a = (f x a.0, all_mapped P Q xs f a.1)

pub same_id : (a : ℕ) → (a == a) ≡ true
same_id a = grind arith

-- A record that is named in one of two lists.
or_if : (b x y : Bool) → (if b then true else (x || y)) ≡ ((if b then true else x) || y)
or_if true x y = refl
or_if false x y = refl

pub changed_append : (id : ℕ) (xs ys : List Alteration) → is_changed id (xs ++ ys) ≡ (is_changed id xs || is_changed id ys)
changed_append id [] ys = refl
changed_append id (a ∷ xs) ys = ap (λ (b : Bool). if a.id == id then true else b) (changed_append id xs ys) ∙ or_if (a.id == id) (is_changed id xs) (is_changed id ys)

-- The record of the first row.
starts_at : (id : ℕ) (rows : List Row) (r : Row) → slice_get rows 0 ≡ Some r → starts_with id rows ≡ true → r.id ≡ id
starts_at id [] r is h = cc
starts_at id (x ∷ rows) r is h = let same : x ≡ r = cc in ap (λ (y : Row). y.id) (sym same) ∙ eqb-true x.id id h

start_there : (rows : List Row) (r : Row) → slice_get rows 0 ≡ Some r → starts_with r.id rows ≡ true
start_there [] r is = cc
start_there (x ∷ rows) r is = let same : x ≡ r = cc in ap (λ (y : Row). y.id == r.id) same ∙ same_id r.id

pub first_none : (olds news : List Entity) (m : ℕ) (rows : List Row) (old new : List Alteration) → slice_get rows 0 ≡ None → new ≡ old → AltersFirst olds news m rows old new
first_none olds news m [] old new none same = record { more = []; added = same ∙ sym (append-nil old); own = tt; each = tt; named = λ id one h. cc }
first_none olds news m (r ∷ rows) old new none same = cc

pub first_other : (olds news : List Entity) (m : ℕ) (rows : List Row) (r : Row) (old new : List Alteration) → slice_get rows 0 ≡ Some r → is_id_of r.id m ≡ false → new ≡ old → AltersFirst olds news m rows old new
first_other olds news m rows r old new is other same = record {
  more = [];
  added = same ∙ sym (append-nil old);
  own = tt;
  each = tt;
  named = λ id one h. (let here : is_id_of r.id m ≡ true = ap (λ i. is_id_of i m) (starts_at id rows r is h) ∙ one in cc);
}

pub first_altered : (olds news : List Entity) (m : ℕ) (rows : List Row) (r : Row) (a : Alteration) (old new : List Alteration) → slice_get rows 0 ≡ Some r → is_id_of r.id m ≡ true
    → a.id ≡ r.id → IsRenewed olds news m r.id rows a.rows → new ≡ old ++ a ∷ [] → AltersFirst olds news m rows old new
first_altered olds news m rows r a old new is one same renewed added =
    let renewed_there : IsRenewed olds news m a.id rows a.rows = subst (λ i. IsRenewed olds news m i rows a.rows) (sym same) renewed in
    record {
      more = a ∷ [];
      added = added;
      own = (renewed_there.of, tt);
      each = ((ap (λ i. is_id_of i m) same ∙ one, ap (λ i. starts_with i rows) same ∙ start_there rows r is, renewed_there), tt);
      named = λ id fits h. (let here : a.id ≡ id = same ∙ starts_at id rows r is h in rw (here, same_id id) refl);
    }

-- The rows at the front that belong to one record, and the rows after them.
record Front (id : ℕ) (rows : List Row) (k : ℕ) : Type 0 where
  own : alternatives id rows ≡ take k rows
  above : AllByRecursion (λ (x : Row). id < x.id) (drop k rows)
  ordered : AreOrdered (drop k rows)
  other : (i : ℕ) → id < i → alternatives i rows ≡ alternatives i (drop k rows)
  parted : (i : ℕ) → has_alternative i rows ≡ true → i ≢ id → has_alternative i (drop k rows) ≡ true

none_above : (id : ℕ) (rows : List Row) → AllByRecursion (λ (x : Row). id < x.id) rows → alternatives id rows ≡ []
none_above id [] a = refl
none_above id (r ∷ rows) a = let other : (r.id == id) ≡ false = grind (arith, a.0) in rw other (none_above id rows a.1)

strictly : (id : ℕ) (r : Row) (rows : List Row) → id < r.id → AllByRecursion (λ (x : Row). r.id ≤ x.id) rows → AllByRecursion (λ (x : Row). id < x.id) rows
strictly id r rows less all = all_mapped (λ (x : Row). r.id ≤ x.id) (λ (x : Row). id < x.id) rows (λ x h. omega (arith, less, h)) all

front_case : (id : ℕ) (r : Row) (rows : List Row) (b : Bool) → (r.id == id) ≡ b → id ≤ r.id → AreOrdered (r ∷ rows) → Front id rows (front_count id rows)
    → Front id (r ∷ rows) (if b then front_count id rows + 1 else 0)
front_case id r rows true same least ordered rest =
    let e : r.id ≡ id = eqb-true r.id id same in
    record {
      own = rw (same, add-one) (ap (λ rs. r ∷ rs) rest.own);
      above = rw add-one rest.above;
      ordered = rw add-one rest.ordered;
      other = λ i less. (let not : (r.id == i) ≡ false = grind (arith, e, less) in rw (not, add-one) (rest.other i less));
      parted = λ i there apart. (
          let not : (r.id == i) ≡ false = grind (arith, e, apart) in
          let later : has_alternative i rows ≡ true = rw not at there in
          rw add-one (rest.parted i later apart));
    }
front_case id r rows false same least ordered rest =
    let less : id < r.id = grind (arith, same, least) in
    let all : AllByRecursion (λ (x : Row). id < x.id) (r ∷ rows) = (less, strictly id r rows less ordered.0) in
    record { own = none_above id (r ∷ rows) all; above = all; ordered = ordered; other = λ i h. refl; parted = λ i there apart. there }

-- The front of rows whose ids don't fall, from one id on.
front : (id : ℕ) (rows : List Row) → AllByRecursion (λ (x : Row). id ≤ x.id) rows → AreOrdered rows → Front id rows (front_count id rows)
front id [] least ordered = record { own = refl; above = tt; ordered = tt; other = λ i h. refl; parted = λ i there apart. there }
front id (r ∷ rows) least ordered = front_case id r rows (r.id == id) refl least.0 ordered (front id rows least.1 ordered.1)

first_front : (r : Row) (rows : List Row) → AreOrdered (r ∷ rows) → Front r.id (r ∷ rows) (first_count (r ∷ rows))
first_front r rows ordered =
    front_case r.id r rows true (same_id r.id) (omega arith) ordered (front r.id rows ordered.0 ordered.1)

-- A record that has a row among some of the rows has one among all.
pub there_if : (b c : Bool) → c ≡ true → (if b then true else c) ≡ true
there_if true c h = refl
there_if false c h = h

there_dropped : (k id : ℕ) (rows : List Row) → has_alternative id (drop k rows) ≡ true → has_alternative id rows ≡ true
there_dropped zero id rows h = h
there_dropped (suc k) id [] h = h
there_dropped (suc k) id (r ∷ rows) h = there_if (r.id == id) (has_alternative id rows) (there_dropped k id rows h)

-- If the rows are above an id, so is each record that has a row among them.
above_case : (id i k : ℕ) (b later : Bool) → (k == i) ≡ b → id < k → (later ≡ true → id < i) → (if b then true else later) ≡ true → id < i
above_case id i k true later same less rest h = subst (λ j. id < j) (eqb-true k i same) less
above_case id i k false later same less rest h = rest h

above_there : (id i : ℕ) (rows : List Row) → AllByRecursion (λ (x : Row). id < x.id) rows → has_alternative i rows ≡ true → id < i
above_there id i [] all h = cc
above_there id i (r ∷ rows) all h =
    above_case id i r.id (r.id == i) (has_alternative i rows) refl all.0 (λ later. above_there id i rows all.1 later) h

-- The records before the rows that are left are altered.
pub record Walked (olds news : List Entity) (m : ℕ) (rows left : List Row) (start made : List Alteration) : Type 0 where
  pub more : List Alteration
  pub added : made ≡ start ++ more
  pub own : AllByRecursion IsOwnAlteration more
  pub each : AreOrdered rows → AllByRecursion (IsUpgradeIn olds news m rows) more
  pub named : AreOrdered rows → (id : ℕ) → is_id_of id m ≡ true → has_alternative id rows ≡ true → (is_changed id more || has_alternative id left) ≡ true
  pub there : AreOrdered rows → (id : ℕ) → has_alternative id left ≡ true → has_alternative id rows ≡ true
  pub same : AreOrdered rows → (id : ℕ) → has_alternative id left ≡ true → alternatives id rows ≡ alternatives id left
  pub ordered : AreOrdered rows → AreOrdered left

pub walk_starts : (olds news : List Entity) (m : ℕ) (rows : List Row) (start : List Alteration) → Walked olds news m rows rows start start
walk_starts olds news m rows start = record {
  more = [];
  added = sym (append-nil start);
  own = tt;
  each = λ o. tt;
  named = λ o id one h. h;
  there = λ o id h. h;
  same = λ o id h. refl;
  ordered = λ o. o;
}

or_false : (b : Bool) → (b || false) ≡ true → b ≡ true
or_false true h = refl
or_false false h = h

-- No row is left.
pub walk_ends : (olds news : List Entity) (m : ℕ) (rows left : List Row) (start made : List Alteration) → left ≡ [] → Walked olds news m rows left start made → AltersRows olds news m rows start made
walk_ends olds news m rows left start made none w = record {
  more = w.more;
  added = w.added;
  own = w.own;
  each = w.each;
  named = λ o id one h. or_false (is_changed id w.more) (ap (λ rs. is_changed id w.more || has_alternative id rs) (sym none) ∙ w.named o id one h);
}

pub by_case : (b : Bool) (C : Type 0) → (b ≡ true → C) → (b ≡ false → C) → C
by_case true C f g = f refl
by_case false C f g = g refl

apart_ids : (a b : ℕ) → (a == b) ≡ false → b ≢ a
apart_ids a b h e = grind (arith, h, e)

first_of : (id : ℕ) (r : Row) (rows : List Row) → starts_with id (take (first_count (r ∷ rows)) (r ∷ rows)) ≡ (r.id == id)
first_of id r rows = rw add-one refl

head_there : (r : Row) (rows : List Row) → has_alternative r.id (r ∷ rows) ≡ true
head_there r rows = rw (same_id r.id) refl

step_each : (olds news : List Entity) (m : ℕ) (rows : List Row) (r : Row) (left : List Row) (start made new : List Alteration) → (w : Walked olds news m rows (r ∷ left) start made)
    → (f : AltersFirst olds news m (take (first_count (r ∷ left)) (r ∷ left)) made new) → AreOrdered rows → AllByRecursion (IsUpgradeIn olds news m rows) f.more
step_each olds news m rows r left start made new w f o =
    let own : Front r.id (r ∷ left) (first_count (r ∷ left)) = first_front r left (w.ordered o) in
    let n : ℕ = first_count (r ∷ left) in
    let here : has_alternative r.id (r ∷ left) ≡ true = head_there r left in
    let all : alternatives r.id rows ≡ take n (r ∷ left) = w.same o r.id here ∙ own.own in
    all_mapped (λ (a : Alteration). (is_id_of a.id m ≡ true) × (starts_with a.id (take n (r ∷ left)) ≡ true) × IsRenewed olds news m a.id (take n (r ∷ left)) a.rows) (IsUpgradeIn olds news m rows) f.more
    (λ a h. (
    let e : r.id ≡ a.id = eqb-true r.id a.id (sym (first_of a.id r left) ∙ h.1) in
    record {
      one = h.0;
      there = ap (λ i. has_alternative i rows) (sym e) ∙ w.there o r.id here;
      renewed = subst (λ rs. IsRenewed olds news m a.id rs a.rows) (sym (ap (λ i. alternatives i rows) (sym e) ∙ all)) h.2;
    }))
    f.each

named_step : (a b c d : Bool) → (a || b) ≡ true → (b ≡ true → (c || d) ≡ true) → ((a || c) || d) ≡ true
named_step true b c d h g = refl
named_step false b c d h g = g h

-- The next record is altered.
pub walk_goes : (olds news : List Entity) (m n : ℕ) (rows left : List Row) (start made new : List Alteration) → ((left ≡ []) → ⊥) → n ≡ first_count left
    → Walked olds news m rows left start made → AltersFirst olds news m (take n left) made new → Walked olds news m rows (drop n left) start new
walk_goes olds news m n rows [] start made new some count w f = absurd (some refl)
walk_goes olds news m n rows (r ∷ left) start made new some count w first =
    let k : ℕ = first_count (r ∷ left) in
    let f : AltersFirst olds news m (take k (r ∷ left)) made new = subst (λ i. AltersFirst olds news m (take i (r ∷ left)) made new) count first in
    subst (λ i. Walked olds news m rows (drop i (r ∷ left)) start new) (sym count) (record {
      more = w.more ++ f.more;
      added = f.added ∙ ap (λ xs. xs ++ f.more) w.added ∙ append_assoc start w.more f.more;
      own = all_append IsOwnAlteration w.more f.more w.own f.own;
      each = λ o. all_append (IsUpgradeIn olds news m rows) w.more f.more (w.each o) (step_each olds news m rows r left start made new w f o);
      named = λ o id one h. (
          let own : Front r.id (r ∷ left) k = first_front r left (w.ordered o) in
          ap (λ (b : Bool). b || has_alternative id (drop k (r ∷ left))) (changed_append id w.more f.more)
          ∙ named_step (is_changed id w.more) (has_alternative id (r ∷ left)) (is_changed id f.more) (has_alternative id (drop k (r ∷ left))) (w.named o id one h)
          (λ there. by_case (r.id == id) ((is_changed id f.more || has_alternative id (drop k (r ∷ left))) ≡ true)
          (λ same. or_left (is_changed id f.more) (has_alternative id (drop k (r ∷ left))) (f.named id one (first_of id r left ∙ same)))
          (λ apart. or_right (is_changed id f.more) (has_alternative id (drop k (r ∷ left))) (own.parted id there (apart_ids r.id id apart)))));
      there = λ o id h. w.there o id (there_dropped k id (r ∷ left) h);
      same = λ o id h. (
          let own : Front r.id (r ∷ left) k = first_front r left (w.ordered o) in
          w.same o id (there_dropped k id (r ∷ left) h) ∙ own.other id (above_there r.id id (drop k (r ∷ left)) own.above h));
      ordered = λ o. (first_front r left (w.ordered o)).ordered;
    })

pub some_left : (rows : List Row) → (length rows == 0) ≡ false → rows ≡ [] → ⊥
some_left [] h e = cc
some_left (r ∷ rows) h e = cc

pub none_left : (rows : List Row) → (length rows == 0) ≡ true → rows ≡ []
none_left [] h = refl
none_left (r ∷ rows) h = absurd (grind (arith, h))
