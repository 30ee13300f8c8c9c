-- Plain rows with rising ids are determined by the rows of each id.
use Rattle.std.proofs.Common.{◌≡◌, ◌∙◌, inl, inr, refl, ap, sym, subst, arith, ℕ, ◌<◌, ◌==◌, Bool, true, false, if◌then◌else◌, List, [], ◌∷◌, map}
use Rattle.std.proofs.lemmas.Bool.{cases_order, eqb-true}
use Rattle.jac_world.specs.World.{StartsAboveBy}
use Rattle.jac_lang.specs.Syntax.{Entity}
use Rattle.jac_rows.specs.Good.{ArePlainRows}
use Rattle.jac_rows.specs.declared.plain.PlainRow.{PlainRow}
use Rattle.jac_plain.specs.Records.{plain_row, with_ids}
use Rattle.jac_write.specs.Regrouped.{stays}
use Rattle.jac_write.proofs.RecordLaws.{cells}
use Rattle.jac_upgrade.specs.Steps.{upgraded_all}
use Rattle.jac_upgrade.specs.Upgraded.{group_count, upgraded_cells, upgraded_row, upgraded_rows}
use Rattle.jac_upgrade.proofs.Walking.{same_id}

abbrev Above : ℕ → List PlainRow → Type 0
Above id rows = StartsAboveBy (λ (r : PlainRow). r.id) id rows

abbrev of_id : ℕ → List PlainRow → List PlainRow
of_id id rows = with_ids (λ i. i == id) rows

lesser : (a b : ℕ) (rows : List PlainRow) → a < b → Above b rows → Above a rows
lesser a b [] less above = tt
lesser a b (r ∷ rows) less above = omega (arith, less, above)

-- Rows above an id have no row with this id.
none_of : (id : ℕ) (rows : List PlainRow) → Above id rows → ArePlainRows rows → of_id id rows ≡ []
none_of id [] above rising = refl
none_of id (r ∷ rows) above rising =
    let other : (r.id == id) ≡ false = grind (arith, above) in
    rw other (none_of id rows (lesser id r.id rows above rising.0) rising.1)

first_of : (r : PlainRow) (rows : List PlainRow) → of_id r.id (r ∷ rows) ≡ r ∷ of_id r.id rows
first_of r rows = rw (same_id r.id) refl

-- An id below all of these has no row here.
none_lesser : (id : ℕ) (r : PlainRow) (rows : List PlainRow) → id < r.id → ArePlainRows (r ∷ rows) → of_id id (r ∷ rows) ≡ []
none_lesser id r rows less rising = none_of id (r ∷ rows) less rising

rest_if : (r : PlainRow) (xs ys : List PlainRow) (id : ℕ) (b : Bool) → (r.id == id) ≡ b → ArePlainRows (r ∷ xs) → ArePlainRows (r ∷ ys)
    → (if b then r ∷ of_id id xs else of_id id xs) ≡ (if b then r ∷ of_id id ys else of_id id ys) → of_id id xs ≡ of_id id ys
rest_if r xs ys id true e rising others h =
    let is : r.id ≡ id = eqb-true r.id id e in
    ap (λ i. of_id i xs) (sym is) ∙ none_of r.id xs rising.0 rising.1 ∙ sym (none_of r.id ys others.0 others.1) ∙ ap (λ i. of_id i ys) is
rest_if r xs ys id false e rising others h = h

same_rest : (r : PlainRow) (xs ys : List PlainRow) → ArePlainRows (r ∷ xs) → ArePlainRows (r ∷ ys) → ((id : ℕ) → of_id id (r ∷ xs) ≡ of_id id (r ∷ ys)) → (id : ℕ) → of_id id xs ≡ of_id id ys
same_rest r xs ys rising others same id = rest_if r xs ys id (r.id == id) refl rising others (same id)

abbrev head_or : PlainRow → List PlainRow → PlainRow
head_or d [] = d
head_or d (r ∷ rows) = r

-- Rows with rising ids are equal if they have the same rows of each id.
pub same_rows : (xs ys : List PlainRow) → ArePlainRows xs → ArePlainRows ys → ((id : ℕ) → of_id id xs ≡ of_id id ys) → xs ≡ ys
same_rows [] [] rising others same = refl
same_rows [] (y ∷ ys) rising others same = let h : [] ≡ y ∷ of_id y.id ys = same y.id ∙ first_of y ys in cc
same_rows (x ∷ xs) [] rising others same = let h : x ∷ of_id x.id xs ≡ [] = sym (first_of x xs) ∙ same x.id in cc
same_rows (x ∷ xs) (y ∷ ys) rising others same = elim (cases_order x.id y.id) [
  | inl equal ↦ (
      let there : of_id x.id (y ∷ ys) ≡ y ∷ of_id x.id ys = ap (λ i. of_id i (y ∷ ys)) equal ∙ first_of y ys ∙ ap (λ i. y ∷ of_id i ys) (sym equal) in
      let both : x ∷ of_id x.id xs ≡ y ∷ of_id x.id ys = sym (first_of x xs) ∙ same x.id ∙ there in
      let one : x ≡ y = ap (head_or x) both in
      let others_there : ArePlainRows (x ∷ ys) = subst (λ (r : PlainRow). ArePlainRows (r ∷ ys)) (sym one) others in
      let rest : xs ≡ ys =
      same_rows xs ys rising.1 others.1 (same_rest x xs ys rising others_there (λ id. same id ∙ ap (λ (r : PlainRow). of_id id (r ∷ ys)) (sym one))) in
      λ i. one i ∷ rest i)
  | inr (inl less) ↦ (let h : x ∷ of_id x.id xs ≡ [] = sym (first_of x xs) ∙ same x.id ∙ none_lesser x.id y ys less others in absurd (cc))
  | inr (inr more) ↦ (let h : [] ≡ y ∷ of_id y.id ys = sym (none_lesser y.id x xs more rising) ∙ same y.id ∙ first_of y ys in absurd (cc))
]

-- Upgraded rows have rising ids, and for each record the upgrade of its row.
above_if : (id : ℕ) (r : PlainRow) (rows : List PlainRow) (b : Bool) → id < r.id → Above id rows → Above id (if b then r ∷ rows else rows)
above_if id r rows true less above = less
above_if id r rows false less above = above

above_upgraded : (w : ℕ → Bool) (olds news : List Entity) (m id : ℕ) (rows : List PlainRow) → Above id rows → ArePlainRows rows → Above id (upgraded_rows w olds news m rows)
above_upgraded w olds news m id [] above rising = tt
above_upgraded w olds news m id (r ∷ rows) above rising =
    above_if id (upgraded_row w olds news m r) (upgraded_rows w olds news m rows) (stays news w m r.id (group_count olds m)) above
    (above_upgraded w olds news m id rows (lesser id r.id rows above rising.0) rising.1)

rising_if : (r : PlainRow) (rows : List PlainRow) (b : Bool) → Above r.id rows → ArePlainRows rows → ArePlainRows (if b then r ∷ rows else rows)
rising_if r rows true above rising = (above, rising)
rising_if r rows false above rising = rising

pub rising_upgraded : (w : ℕ → Bool) (olds news : List Entity) (m : ℕ) (rows : List PlainRow) → ArePlainRows rows → ArePlainRows (upgraded_rows w olds news m rows)
rising_upgraded w olds news m [] rising = tt
rising_upgraded w olds news m (r ∷ rows) rising =
    rising_if (upgraded_row w olds news m r) (upgraded_rows w olds news m rows) (stays news w m r.id (group_count olds m))
    (above_upgraded w olds news m r.id rows rising.0 rising.1) (rising_upgraded w olds news m rows rising.1)

-- The cells of rows of one id.
abbrev all_cells : (ℕ → Bool) → List Entity → List Entity → ℕ → ℕ → List PlainRow → List PlainRow
all_cells w olds news m id rows = map (plain_row id) (upgraded_all w olds news m id (map cells rows))

-- Whether the row has this id, and whether its record stays.
row_if : (w : ℕ → Bool) (olds news : List Entity) (m id : ℕ) (r : PlainRow) (rows upgraded : List PlainRow) (same there : Bool) → (r.id == id) ≡ same → stays news w m r.id (group_count olds m) ≡ there
    → of_id id upgraded ≡ all_cells w olds news m id (of_id id rows)
    → of_id id (if there then upgraded_row w olds news m r ∷ upgraded else upgraded) ≡ all_cells w olds news m id (if same then r ∷ of_id id rows else of_id id rows)
row_if w olds news m id r rows upgraded true true same there e =
    let is : r.id ≡ id = eqb-true r.id id same in
    let kept : stays news w m id (group_count olds m) ≡ true = ap (λ i. stays news w m i (group_count olds m)) (sym is) ∙ there in
    rw (same, kept) (
    (let one : upgraded_row w olds news m r ≡ plain_row id (upgraded_cells w olds news m id r.cells) = ap (λ i. plain_row i (upgraded_cells w olds news m i r.cells)) is in
    let rest : of_id id upgraded ≡ map (plain_row id) (map (upgraded_cells w olds news m id) (map cells (of_id id rows))) = rw kept at e in
    λ i. one i ∷ rest i))
row_if w olds news m id r rows upgraded true false same there e =
    let is : r.id ≡ id = eqb-true r.id id same in
    let gone : stays news w m id (group_count olds m) ≡ false = ap (λ i. stays news w m i (group_count olds m)) (sym is) ∙ there in
    rw gone (let rest : of_id id upgraded ≡ [] = rw gone at e in rest)
row_if w olds news m id r rows upgraded false true same there e = rw same e
row_if w olds news m id r rows upgraded false false same there e = e

pub upgraded_of : (w : ℕ → Bool) (olds news : List Entity) (m id : ℕ) (rows : List PlainRow) → of_id id (upgraded_rows w olds news m rows) ≡ all_cells w olds news m id (of_id id rows)
upgraded_of w olds news m id [] = none_left (stays news w m id (group_count olds m)) where
  none_left : (b : Bool) → [] ≡ map (plain_row id) (if b then [] else [])
  none_left true = refl
  none_left false = refl
upgraded_of w olds news m id (r ∷ rows) =
    row_if w olds news m id r rows (upgraded_rows w olds news m rows) (r.id == id) (stays news w m r.id (group_count olds m)) refl refl (upgraded_of w olds news m id rows)
