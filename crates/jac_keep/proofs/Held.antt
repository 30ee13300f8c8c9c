-- Which records have a value in a field: as the rows are read, and after they are altered.
use Rattle.std.proofs.Common.{◌≡◌, ◌∙◌, refl, sym, ap, ℕ, ◌==◌, nat_lt, Bool, true, false, not, ◌&&◌, ◌||◌, if◌then◌else◌, List, [], ◌∷◌, ◌++◌, length, arith}
use Rattle.std.specs.List.{list_any}
use Rattle.std.proofs.lemmas.Bool.Decides.{Decides-eqb}
use Rattle.jac_value.specs.Ids.{model_of_id}
use Rattle.jac_rows.specs.Tables.{rows_of}
use Rattle.jac_value.specs.declared.value.Value.{Value}
use Rattle.jac_world.specs.World.{shown_by, IsRisingBy, StartsAboveBy}
use Rattle.jac_rows.specs.declared.row.Row.{Row}
use Rattle.jac_keep.specs.declared.alteration.Alteration.{Alteration}
use Rattle.jac_keep.specs.Records.{with_id, alternatives, before, behind, placed_rows, AreOf}
use Rattle.jac_keep.specs.Alterations.{AreOwn, AreApart, ArePlaced, altered_rows, overlaid}
use Rattle.jac_keep.proofs.AlteringLaws.{placed_if, rows_of-overlaid}
use Rattle.jac_keep.proofs.PlacingLaws.{with_id-with_id, with_id-like, with_id-placed, with_id-all_of, with_id-none_of}
use Rattle.jac_keep.specs.MatchingRecords.{has_cell, holds_cell, holders, masked_rows, masked_alterations}

pub or_assoc : (a b c : Bool) → ((a || b) || c) ≡ (a || (b || c))
or_assoc true b c = refl
or_assoc false b c = refl

pub or_turned : (a b : Bool) → (a || b) ≡ (b || a)
or_turned true true = refl
or_turned true false = refl
or_turned false true = refl
or_turned false false = refl

or_none : (a : Bool) → (a || false) ≡ a
or_none true = refl
or_none false = refl

module _ (f : ℕ) (v : Value) where
  holds-append : (xs ys : List Row) (i : ℕ) → holds_cell f v (xs ++ ys) i ≡ (holds_cell f v xs i || holds_cell f v ys i)
  holds-append [] ys i = refl
  holds-append (x ∷ xs) ys i = ap (λ b. ((x.id == i) && has_cell f v x) || b) (holds-append xs ys i) ∙ sym (or_assoc ((x.id == i) && has_cell f v x) (holds_cell f v xs i) (holds_cell f v ys i))

  with_one : (t e c h u : Bool) → (e ≡ true → t ≡ u) → (if t then (e && c) || (u && h) else (u && h)) ≡ (u && ((e && c) || h))
  with_one true true c h u s = rw (← s refl) refl
  with_one false true c h u s = rw (← s refl) refl
  with_one true false c h u s = refl
  with_one false false c h u s = refl

  if_holds : (t : Bool) (r : Row) (xs : List Row) (i : ℕ) → holds_cell f v (if t then r ∷ xs else xs) i ≡ (if t then ((r.id == i) && has_cell f v r) || holds_cell f v xs i else holds_cell f v xs i)
  if_holds true r xs i = refl
  if_holds false r xs i = refl

  holds-with_id : (test : ℕ → Bool) (rows : List Row) (i : ℕ) → holds_cell f v (with_id test rows) i ≡ (test i && holds_cell f v rows i)
  holds-with_id test [] i = and_none (test i)
    where
      and_none : (a : Bool) → false ≡ (a && false)
      and_none true = refl
      and_none false = refl
  holds-with_id test (r ∷ rows) i =
      if_holds (test r.id) r (with_id test rows) i
      ∙ rw (holds-with_id test rows i)
      (with_one (test r.id) (r.id == i) (has_cell f v r) (holds_cell f v rows i) (test i) (λ e. ap test ((Decides-eqb r.id i).0 e)))

  -- A row says something about its own record only.
  of_one : (id i : ℕ) (r : Row) (b : Bool) → r.id ≡ id → (((r.id == i) && has_cell f v r) || ((id == i) && b)) ≡ ((id == i) && (has_cell f v r || b))
  of_one id i r b e = rw e (spread (id == i) (has_cell f v r) b)
    where
      spread : (s c b : Bool) → ((s && c) || (s && b)) ≡ (s && (c || b))
      spread true c b = refl
      spread false c b = refl

  holds-own : (id i : ℕ) (rows : List Row) → AreOf id rows → holds_cell f v rows i ≡ ((id == i) && list_any (has_cell f v) rows)
  holds-own id i [] own = and_none (id == i)
    where
      and_none : (a : Bool) → false ≡ (a && false)
      and_none true = refl
      and_none false = refl
  holds-own id i (r ∷ rows) own = rw (holds-own id i rows own.1) (of_one id i r (list_any (has_cell f v) rows) own.0)

  -- Whether a record has the value after new rows replace those of one record.
  holds-placed : (id : ℕ) (new rows : List Row) (i : ℕ) → AreOf id new
      → holds_cell f v (placed_rows id new rows) i ≡ (((nat_lt i id && holds_cell f v rows i) || ((id == i) && list_any (has_cell f v) new)) || (nat_lt id i && holds_cell f v rows i))
  holds-placed id new rows i own =
      holds-append (before id rows ++ new) (behind id rows) i
      ∙ rw (holds-append (before id rows) new i, holds-with_id (λ k. nat_lt k id) rows i, holds-own id i new own, holds-with_id (λ k. nat_lt id k) rows i) refl

  rewritten_at : (id k : ℕ) (h n : Bool) → (((id == k) && n) || (not ((k == id) && h) && h)) ≡ (((nat_lt k id && h) || ((id == k) && n)) || (nat_lt id k && h))
  rewritten_at id k h n = grind arith

  -- Whether a record has the value: in its new alternatives if it was altered, and in its old ones
  -- otherwise.
  pub holds-rewritten : (id : ℕ) (new rows : List Row) (k : ℕ) → AreOf id new
      → (holds_cell f v new k || (not (holds_cell f v (alternatives id rows) k) && holds_cell f v rows k)) ≡ holds_cell f v (placed_rows id new rows) k
  holds-rewritten id new rows k own =
      rw (holds-own id k new own, holds-with_id (λ i. i == id) rows k)
      (rewritten_at id k (holds_cell f v rows k) (list_any (has_cell f v) new) ∙ sym (holds-placed id new rows k own))

  below : (i id : ℕ) (h n : Bool) → (nat_lt i id && (((nat_lt i id && h) || ((id == i) && n)) || (nat_lt id i && h))) ≡ (h && nat_lt i id)
  below i id h n = grind arith

  above : (i id : ℕ) (h n : Bool) → (nat_lt id i && (((nat_lt i id && h) || ((id == i) && n)) || (nat_lt id i && h))) ≡ (h && nat_lt id i)
  above i id h n = grind arith

  at_it : (id : ℕ) (h n : Bool) → (((nat_lt id id && h) || ((id == id) && n)) || (nat_lt id id && h)) ≡ n
  at_it id h n = grind arith

  own_part : (test : ℕ → Bool) (id : ℕ) (new : List Row) (b : Bool) → list_any (has_cell f v) new ≡ b → test id ≡ b → AreOf id new → with_id test new ≡ masked_rows f v new
  own_part test id new true e t own = rw e (with_id-all_of test id new own t)
  own_part test id new false e t own = rw e (with_id-none_of test id new own t)

  pub holders-placed : (id : ℕ) (new rows : List Row) → AreOf id new → holders f v (placed_rows id new rows) ≡ placed_rows id (masked_rows f v new) (holders f v rows)
  holders-placed id new rows own =
      let test : ℕ → Bool = holds_cell f v (placed_rows id new rows) in
      let held : ℕ → Bool = holds_cell f v rows in
      let any : Bool = list_any (has_cell f v) new in
      let low : with_id test (before id rows) ≡ before id (holders f v rows) =
      with_id-with_id test (λ k. nat_lt k id) rows
      ∙ with_id-like (λ i. nat_lt i id && test i) (λ i. held i && nat_lt i id) rows (λ i. ap (λ b. nat_lt i id && b) (holds-placed id new rows i own) ∙ below i id (held i) any)
      ∙ sym (with_id-with_id (λ k. nat_lt k id) held rows) in
      let high : with_id test (behind id rows) ≡ behind id (holders f v rows) =
      with_id-with_id test (λ k. nat_lt id k) rows
      ∙ with_id-like (λ i. nat_lt id i && test i) (λ i. held i && nat_lt id i) rows (λ i. ap (λ b. nat_lt id i && b) (holds-placed id new rows i own) ∙ above i id (held i) any)
      ∙ sym (with_id-with_id (λ k. nat_lt id k) held rows) in
      let middle : with_id test new ≡ masked_rows f v new = own_part test id new any refl (holds-placed id new rows id own ∙ at_it id (held id) any) own in
      with_id-placed test id new rows ∙ rw (low, middle, high) refl

  holders-placed_if : (t : Bool) (id : ℕ) (new rows : List Row) → AreOf id new → holders f v (placed_if t id new rows) ≡ placed_if t id (masked_rows f v new) (holders f v rows)
  holders-placed_if true id new rows own = holders-placed id new rows own
  holders-placed_if false id new rows own = refl

pub holders_altered : (f : ℕ) (v : Value) (m : ℕ) (over : List Alteration) (rows : List Row) → AreOwn over → holders f v (altered_rows m over rows) ≡ altered_rows m (masked_alterations f v over) (holders f v rows)
holders_altered f v m [] rows own = refl
holders_altered f v m (a ∷ rest) rows own =
    let t : Bool = model_of_id a.id == m in
    holders_altered f v m rest (placed_if t a.id a.rows rows) own.1
    ∙ ap (altered_rows m (masked_alterations f v rest)) (holders-placed_if f v t a.id a.rows rows own.0)

-- One step of a scan of the rows.
pub held_next : (f : ℕ) (v : Value) (rows : List Row) (old new : List ℕ) (r : Row) (rest : List Row) (k : ℕ)
    → shown_by new k ≡ (((r.id == k) && has_cell f v r) || shown_by old k) → (shown_by old k || holds_cell f v (r ∷ rest) k) ≡ holds_cell f v rows k → (shown_by new k || holds_cell f v rest k) ≡ holds_cell f v rows k
held_next f v rows old new r rest k added so_far = rw added (turned ((r.id == k) && has_cell f v r) (shown_by old k) (holds_cell f v rest k) ∙ so_far)
  where
    turned : (a b c : Bool) → ((a || b) || c) ≡ (b || (a || c))
    turned true true c = refl
    turned true false c = refl
    turned false b c = refl

pub held_all : (a : Bool) → (a || false) ≡ a
held_all a = or_none a

-- Masked alterations have the same ids.
above_masked : (f : ℕ) (v : Value) (k : ℕ) (rest : List Alteration) → StartsAboveBy (λ (a : Alteration). a.id) k rest → StartsAboveBy (λ (a : Alteration). a.id) k (masked_alterations f v rest)
above_masked f v k [] above = tt
above_masked f v k (a ∷ rest) above = above

rises_masked : (f : ℕ) (v : Value) (rest : List Alteration) → IsRisingBy (λ (a : Alteration). a.id) rest → IsRisingBy (λ (a : Alteration). a.id) (masked_alterations f v rest)
rises_masked f v [] up = tt
rises_masked f v (a ∷ rest) up = (above_masked f v a.id rest up.0, rises_masked f v rest up.1)

own_if : (b : Bool) (id : ℕ) (rows : List Row) → AreOf id rows → AreOf id (if b then rows else [])
own_if true id rows own = own
own_if false id rows own = tt

own_masked : (f : ℕ) (v : Value) (rest : List Alteration) → AreOwn rest → AreOwn (masked_alterations f v rest)
own_masked f v [] own = tt
own_masked f v (a ∷ rest) own = (own_if (list_any (has_cell f v) a.rows) a.id a.rows own.0, own_masked f v rest own.1)

pub apart_masked : (f : ℕ) (v : Value) (rest : List Alteration) → AreApart rest → AreApart (masked_alterations f v rest)
apart_masked f v rest apart = record { rising = rises_masked f v rest apart.rising; own = own_masked f v rest apart.own }

-- What a work finds: the keeper's rows, after the replaced records.
pub rows_with_read : (f : ℕ) (v : Value) (model : ℕ) (over masks : List Alteration) (tables : List (List Row)) (rows out : List Row) → ArePlaced over (length tables) → AreApart over
    → rows ≡ holders f v (rows_of tables model) → masks ≡ masked_alterations f v over → out ≡ altered_rows model masks rows → out ≡ holders f v (rows_of (overlaid over tables) model)
rows_with_read f v model over masks tables rows out placed apart found is out_is =
    out_is
    ∙ ap (λ m. altered_rows model m rows) is
    ∙ ap (altered_rows model (masked_alterations f v over)) found
    ∙ sym (holders_altered f v model over (rows_of tables model) apart.own)
    ∙ ap (holders f v) (sym (rows_of-overlaid model over tables placed))
