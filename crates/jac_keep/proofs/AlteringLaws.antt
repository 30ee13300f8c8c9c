-- Alterations of records: adding one, and a record or a table after them.
use Rattle.std.proofs.Common.{◌≡◌, ◌≢◌, ℕ, ◌+◌, ◌<◌, ◌≤◌, Bool, true, false, ◌==◌, if◌then◌else◌, List, [], ◌∷◌, ◌++◌, All, None, zero, suc, length, get_or, set, take, drop, drop-cons, unwrap_or, refl, sym, add-zero, zero-add, ◌⊎◌, inl, inr, ◌∙◌, ap, arith}
use Rattle.std.proofs.lemmas.Bool.{cases_lt}
use Rattle.std.proofs.lemmas.Option.{slice_get_past}
use Rattle.std.proofs.lemmas.List.{set_split}
use Rattle.jac_value.specs.Ids.{model_of_id}
use Rattle.jac_world.specs.World.{IsRisingBy, StartsAboveBy}
use Rattle.jac_rows.specs.declared.row.Row.{Row}
use Rattle.jac_keep.specs.declared.alteration.Alteration.{Alteration}
use Rattle.jac_keep.specs.Records.{alternatives, placed_rows, AreOf}
use Rattle.jac_rows.specs.Tables.{rows_of}
use Rattle.jac_keep.specs.Alterations.{AreOwn, AreApart, alternatives_named, with_alteration, altered_rows, overlaid_from, overlaid, ArePlaced}
use Rattle.jac_keep.proofs.PlacingLaws.{placed-placed, placed-again, alternatives-placed_same, alternatives-placed_other, itself}

abbrev pub Rises : List Alteration → Type 0
Rises rest = IsRisingBy (λ (a : Alteration). a.id) rest

abbrev pub Above : ℕ → List Alteration → Type 0
Above id rest = StartsAboveBy (λ (a : Alteration). a.id) id rest

-- The rows after the new ones replace the record's, if the test holds.
abbrev pub placed_if : Bool → ℕ → List Row → List Row → List Row
placed_if test id new rows = if test then placed_rows id new rows else rows

pub above-less : (a b : ℕ) (rest : List Alteration) → a < b → Above b rest → Above a rest
above-less a b [] h above = above
above-less a b (x ∷ xs) h above = omega (arith, h, above)

placed_if-placed_if : (t u : Bool) (a b : ℕ) (x y rows : List Row) → a ≢ b → AreOf a x → AreOf b y
    → placed_if t a x (placed_if u b y rows) ≡ placed_if u b y (placed_if t a x rows)
placed_if-placed_if false u a b x y rows other own_x own_y = refl
placed_if-placed_if true false a b x y rows other own_x own_y = refl
placed_if-placed_if true true a b x y rows other own_x own_y = placed-placed a b x y rows other own_x own_y

-- A record's rows may be replaced before the alterations of records with greater ids.
pub altered-placed_if : (model : ℕ) (t : Bool) (id : ℕ) (new : List Row) (rest : List Alteration) (rows : List Row) → Above id rest → Rises rest → AreOwn rest → AreOf id new
    → altered_rows model rest (placed_if t id new rows) ≡ placed_if t id new (altered_rows model rest rows)
altered-placed_if model t id new [] rows above rises own own_new = refl
altered-placed_if model t id new (a ∷ rest) rows above rises own own_new =
    let u : Bool = model_of_id a.id == model in
    let other : a.id ≢ id = omega (arith, above) in
    ap (altered_rows model rest) (placed_if-placed_if u t a.id id a.rows new rows other own.0 own_new)
    ∙ altered-placed_if model t id new rest (placed_if u a.id a.rows rows) (above-less id a.id rest above rises.0) rises.1 own.1 own_new

placed_if-again : (t : Bool) (id : ℕ) (new old rows : List Row) → AreOf id old → placed_if t id new (placed_if t id old rows) ≡ placed_if t id new rows
placed_if-again false id new old rows own = refl
placed_if-again true id new old rows own = placed-again id new old rows own

-- The place at which one more alteration is inserted.
pub renamed-less : (id : ℕ) (new : List Row) (a : Alteration) (rest : List Alteration) → a.id < id → with_alteration id new (a ∷ rest) ≡ a ∷ with_alteration id new rest
renamed-less id new a rest h = grind (arith, h)

renamed-same : (id : ℕ) (new : List Row) (a : Alteration) (rest : List Alteration) → a.id ≡ id → with_alteration id new (a ∷ rest) ≡ record { id = id; rows = new } ∷ rest
renamed-same id new a rest h = grind (arith, h)

pub renamed-more : (id : ℕ) (new : List Row) (a : Alteration) (rest : List Alteration) → id < a.id → with_alteration id new (a ∷ rest) ≡ record { id = id; rows = new } ∷ a ∷ rest
renamed-more id new a rest h = grind (arith, h)

-- Of two numbers, the first is less, equal or greater.
three : (a b : ℕ) → (a < b) ⊎ ((a ≡ b) ⊎ (b < a))
three a b = elim (cases_lt a b) [
  | inl less ↦ inl less
  | inr no_less ↦ elim (cases_lt b a) [ inl more ↦ inr (inr more) | inr no_more ↦ inr (inl (omega (arith, no_less, no_more))) ]
]

same_record : (model id : ℕ) (new : List Row) (a : Alteration) (rest : List Alteration) (rows : List Row) → a.id ≡ id → Rises (a ∷ rest) → AreOwn (a ∷ rest) → AreOf id new
    → altered_rows model rest (placed_if (model_of_id id == model) id new rows) ≡ placed_if (model_of_id id == model) id new (altered_rows model rest (placed_if (model_of_id a.id == model) a.id a.rows rows))
same_record model id new a rest rows same rises own own_new =
    let t : Bool = model_of_id id == model in
    let above : Above id rest = rw (← same) rises.0 in
    let old : AreOf id a.rows = rw (← same) own.0 in
    rw same (
    ap (altered_rows model rest) (sym (placed_if-again t id new a.rows rows old))
    ∙ altered-placed_if model t id new rest (placed_if t id a.rows rows) above rises.1 own.1 own_new)

-- One more alteration replaces the rows of its record.
pub altered-renamed : (model id : ℕ) (new : List Row) (rest : List Alteration) (rows : List Row) → Rises rest → AreOwn rest → AreOf id new
    → altered_rows model (with_alteration id new rest) rows ≡ placed_if (model_of_id id == model) id new (altered_rows model rest rows)
altered-renamed model id new [] rows rises own own_new = refl
altered-renamed model id new (a ∷ rest) rows rises own own_new =
    let t : Bool = model_of_id id == model in
    let u : Bool = model_of_id a.id == model in
    let ih : altered_rows model (with_alteration id new rest) (placed_if u a.id a.rows rows) ≡ placed_if t id new (altered_rows model rest (placed_if u a.id a.rows rows)) =
    altered-renamed model id new rest (placed_if u a.id a.rows rows) rises.1 own.1 own_new in
    elim (three a.id id) [
      | inl less ↦ rw (renamed-less id new a rest less) ih
      | inr (inl same) ↦ rw (renamed-same id new a rest same)
          (same_record model id new a rest rows same rises own own_new)
      | inr (inr more) ↦ rw (renamed-more id new a rest more)
          (altered-placed_if model t id new (a ∷ rest) rows more rises own own_new)
    ]

-- A record with a lesser id than all altered ones isn't altered.
pub named-above : (id : ℕ) (rest : List Alteration) → Above id rest → Rises rest → alternatives_named id rest ≡ None
named-above id [] above rises = refl
named-above id (a ∷ rest) above rises =
    let ih : alternatives_named id rest ≡ None = named-above id rest (above-less id a.id rest above rises.0) rises.1 in
    grind (arith, above, ih)

alternatives-placed_if : (t : Bool) (id other : ℕ) (new rows : List Row) → other ≢ id → AreOf other new → alternatives id (placed_if t other new rows) ≡ alternatives id rows
alternatives-placed_if false id other new rows differ own = refl
alternatives-placed_if true id other new rows differ own = alternatives-placed_other id other new rows differ own

named-other : (id : ℕ) (a : Alteration) (rest : List Alteration) (rows : List Row) → a.id ≢ id → unwrap_or (alternatives_named id rest) rows ≡ unwrap_or (alternatives_named id (a ∷ rest)) rows
named-other id a rest rows differ = grind (arith, differ)

named-same : (id : ℕ) (a : Alteration) (rest : List Alteration) (rows : List Row) → a.id ≡ id → a.rows ≡ unwrap_or (alternatives_named id (a ∷ rest)) rows
named-same id a rest rows same = grind (arith, same)

alternatives-placed_if_same : (id : ℕ) (a : Alteration) (rows : List Row) → a.id ≡ id → AreOf a.id a.rows → alternatives id (placed_if (model_of_id a.id == model_of_id id) a.id a.rows rows) ≡ a.rows
alternatives-placed_if_same id a rows same own =
    let own_id : AreOf id a.rows = rw (← same) own in
    rw same (rw (itself (model_of_id id)) (alternatives-placed_same id a.rows rows own_id))

same_named : (id : ℕ) (a : Alteration) (rest : List Alteration) (rows : List Row) → a.id ≡ id → Rises (a ∷ rest) → AreOwn (a ∷ rest)
    → unwrap_or (alternatives_named id rest) (alternatives id (placed_if (model_of_id a.id == model_of_id id) a.id a.rows rows)) ≡ unwrap_or (alternatives_named id (a ∷ rest)) (alternatives id rows)
same_named id a rest rows same rises own =
    let above : Above id rest = rw (← same) rises.0 in
    let none : alternatives_named id rest ≡ None = named-above id rest above rises.1 in
    ap (λ found. unwrap_or found (alternatives id (placed_if (model_of_id a.id == model_of_id id) a.id a.rows rows))) none
    ∙ alternatives-placed_if_same id a rows same own.0
    ∙ named-same id a rest (alternatives id rows) same

-- The alternatives of a record after the alterations: its new ones if it is altered, and its old
-- ones otherwise.
pub alternatives-altered : (id : ℕ) (rest : List Alteration) (rows : List Row) → Rises rest → AreOwn rest
    → alternatives id (altered_rows (model_of_id id) rest rows) ≡ unwrap_or (alternatives_named id rest) (alternatives id rows)
alternatives-altered id [] rows rises own = refl
alternatives-altered id (a ∷ rest) rows rises own =
    let u : Bool = model_of_id a.id == model_of_id id in
    let ih : alternatives id (altered_rows (model_of_id id) rest (placed_if u a.id a.rows rows)) ≡ unwrap_or (alternatives_named id rest) (alternatives id (placed_if u a.id a.rows rows)) =
    alternatives-altered id rest (placed_if u a.id a.rows rows) rises.1 own.1 in
    elim (three a.id id) [
      | inl less ↦ (let other : a.id ≢ id = omega (arith, less) in ih ∙ ap (unwrap_or (alternatives_named id rest)) (alternatives-placed_if u id a.id a.rows rows other own.0) ∙ named-other id a rest (alternatives id rows) other)
      | inr (inl same) ↦ ih ∙ same_named id a rest rows same rises own
      | inr (inr more) ↦ (let other : a.id ≢ id = omega (arith, more) in ih ∙ ap (unwrap_or (alternatives_named id rest)) (alternatives-placed_if u id a.id a.rows rows other own.0) ∙ named-other id a rest (alternatives id rows) other)
    ]

-- After one more alteration there is still at most one for each record, by rising id.
above-renamed : (k id : ℕ) (new : List Row) (rest : List Alteration) → k < id → Above k rest → Above k (with_alteration id new rest)
above-renamed k id new [] h above = h
above-renamed k id new (a ∷ rest) h above = elim (three a.id id) [
  | inl less ↦ rw (renamed-less id new a rest less) above
  | inr (inl same) ↦ rw (renamed-same id new a rest same) h
  | inr (inr more) ↦ rw (renamed-more id new a rest more) h
]

rises-renamed : (id : ℕ) (new : List Row) (rest : List Alteration) → Rises rest → Rises (with_alteration id new rest)
rises-renamed id new [] rises = (tt, tt)
rises-renamed id new (a ∷ rest) rises = elim (three a.id id) [
  | inl less ↦ rw (renamed-less id new a rest less) (above-renamed a.id id new rest less rises.0, rises-renamed id new rest rises.1)
  | inr (inl same) ↦ rw (renamed-same id new a rest same) (rw (← same) rises.0, rises.1)
  | inr (inr more) ↦ rw (renamed-more id new a rest more) (more, rises)
]

own-renamed : (id : ℕ) (new : List Row) (rest : List Alteration) → AreOwn rest → AreOf id new → AreOwn (with_alteration id new rest)
own-renamed id new [] own own_new = (own_new, tt)
own-renamed id new (a ∷ rest) own own_new = elim (three a.id id) [
  | inl less ↦ rw (renamed-less id new a rest less) (own.0, own-renamed id new rest own.1 own_new)
  | inr (inl same) ↦ rw (renamed-same id new a rest same) (own_new, own.1)
  | inr (inr more) ↦ rw (renamed-more id new a rest more) (own_new, own)
]

pub apart_renamed : (id : ℕ) (new : List Row) (rest : List Alteration) → AreApart rest → AreOf id new → AreApart (with_alteration id new rest)
apart_renamed id new rest apart own = record { rising = rises-renamed id new rest apart.rising; own = own-renamed id new rest apart.own own }

pub placed-renamed : (id : ℕ) (new : List Row) (rest : List Alteration) (count : ℕ) → ArePlaced rest count → model_of_id id < count → ArePlaced (with_alteration id new rest) count
placed-renamed id new [] count placed h = (h, tt)
placed-renamed id new (a ∷ rest) count placed h = elim (three a.id id) [
  | inl less ↦ rw (renamed-less id new a rest less) (placed.0, placed-renamed id new rest count placed.1 h)
  | inr (inl same) ↦ rw (renamed-same id new a rest same) (h, placed.1)
  | inr (inr more) ↦ rw (renamed-more id new a rest more) (h, placed)
]

pub placed-before : (id : ℕ) (new : List Row) (rest : List Alteration) (count : ℕ) → ArePlaced (with_alteration id new rest) count → ArePlaced rest count
placed-before id new [] count placed = tt
placed-before id new (a ∷ rest) count placed = elim (three a.id id) [
  | inl less ↦ let p = rw (renamed-less id new a rest less) at placed in (p.0, placed-before id new rest count p.1)
  | inr (inl same) ↦ let p = rw (renamed-same id new a rest same) at placed in (rw same p.0, p.1)
  | inr (inr more) ↦ let p = rw (renamed-more id new a rest more) at placed in p.1
]

-- The tables after one more alteration.
pub overlaid_from-renamed : (model id : ℕ) (new : List Row) (rest : List Alteration) (tables : List (List Row)) → Rises rest → AreOwn rest → AreOf id new
    → overlaid_from model (with_alteration id new rest) tables ≡ overlaid_from model (record { id = id; rows = new } ∷ []) (overlaid_from model rest tables)
overlaid_from-renamed model id new rest [] rises own own_new = refl
overlaid_from-renamed model id new rest (t ∷ tables) rises own own_new =
    rw (altered-renamed model id new rest t rises own own_new, overlaid_from-renamed (model + 1) id new rest tables rises own own_new) refl

-- The table of a model after the alterations.
rows_of-overlaid_from : (first model : ℕ) (rest : List Alteration) (tables : List (List Row)) → model < length tables
    → rows_of (overlaid_from first rest tables) model ≡ altered_rows (first + model) rest (rows_of tables model)
rows_of-overlaid_from first model rest [] h = absurd (omega (arith, h))
rows_of-overlaid_from first zero rest (t ∷ tables) h = rw (add-zero first) refl
rows_of-overlaid_from first (suc model) rest (t ∷ tables) h =
    let next : (first + 1) + model ≡ first + suc model = omega arith in
    rows_of-overlaid_from (first + 1) model rest tables (omega (arith, h)) ∙ ap (λ m. altered_rows m rest (rows_of tables model)) next

length-overlaid_from : (first : ℕ) (rest : List Alteration) (tables : List (List Row)) → length (overlaid_from first rest tables) ≡ length tables
length-overlaid_from first rest [] = refl
length-overlaid_from first rest (t ∷ tables) = grind (arith, length-overlaid_from (first + 1) rest tables)

rows_of-past : (model : ℕ) (tables : List (List Row)) → length tables ≤ model → rows_of tables model ≡ []
rows_of-past model tables h = rw (slice_get_past tables model h) refl

-- If the model of each altered record has a table, a model without a table has no altered record.
altered-past : (model count : ℕ) (rest : List Alteration) (rows : List Row) → ArePlaced rest count → count ≤ model → altered_rows model rest rows ≡ rows
altered-past model count [] rows placed h = refl
altered-past model count (a ∷ rest) rows placed h =
    let other : model_of_id a.id ≢ model = omega (arith, placed.0, h) in
    let no : (model_of_id a.id == model) ≡ false = grind (arith, other) in
    rw no (altered-past model count rest rows placed.1 h)

-- The rows of a model after the alterations, if the model of each altered record has a table.
pub rows_of-overlaid : (model : ℕ) (rest : List Alteration) (tables : List (List Row)) → ArePlaced rest (length tables)
    → rows_of (overlaid rest tables) model ≡ altered_rows model rest (rows_of tables model)
rows_of-overlaid model rest tables placed = elim (cases_lt model (length tables)) [
  | inl within ↦ rows_of-overlaid_from 0 model rest tables within ∙ ap (λ m. altered_rows m rest (rows_of tables model)) (zero-add model)
  | inr past ↦ (let all : length (overlaid rest tables) ≤ model = omega (arith, past, length-overlaid_from 0 rest tables) in
      rows_of-past model (overlaid rest tables) all
      ∙ rw (rows_of-past model tables past) (sym (altered-past model (length tables) rest [] placed past)))
]

-- If the record is altered already, the new alteration is put at the place of the old one.
pub renamed-at : (id : ℕ) (new : List Row) (items : List Alteration) (at : ℕ) (a : Alteration) → at < length items → a ≡ get_or items at a → a.id ≡ id
    → with_alteration id new items ≡ take at items ++ with_alteration id new (drop at items) → with_alteration id new items ≡ set items at (record { id = id; rows = new })
renamed-at id new items at a h is same so_far =
    let here : drop at items ≡ a ∷ drop (suc at) items = drop-cons items at a h ∙ ap (λ x. x ∷ drop (suc at) items) (sym is) in
    so_far
    ∙ ap (λ left. take at items ++ with_alteration id new left) here
    ∙ ap (λ left. take at items ++ left) (renamed-same id new a (drop (suc at) items) same)
    ∙ sym (set_split items at (record { id = id; rows = new }) h)

-- Rows are alternatives of a record if each of them is.
pub are_of : (id : ℕ) (rows : List Row) → All (λ (r : Row). r.id ≡ id) rows → AreOf id rows
are_of id [] all = tt
are_of id (r ∷ rows) all = (all 0 r (omega arith), are_of id rows (λ k d h. all (suc k) d (omega (arith, h))))

pub apart_put : (id : ℕ) (new : List Row) (rest : List Alteration) → AreApart rest → All (λ (r : Row). r.id ≡ id) new → AreApart (with_alteration id new rest)
apart_put id new rest apart all = apart_renamed id new rest apart (are_of id new all)
