-- What follows from a sound state, and what keeps a state sound.
use Rattle.std.proofs.Common.{◌≡◌, ℕ, zero, suc, ◌+◌, ◌<◌, ◌≤◌, ◌^◌, ◌==◌, nat_lt, Bool, true, false, if◌then◌else◌, List, [], ◌∷◌, ◌++◌, refl, arith}
use Rattle.std.specs.List.{AllByRecursion}
use Rattle.std.proofs.lemmas.Bool.{ltb-true}
use Rattle.jac_value.specs.Ids.{model_of_id}
use Rattle.jac_rows.specs.Apart.{IsBefore}
use Rattle.jac_rows.specs.declared.row.Row.{Row}
use Rattle.jac_rows.specs.declared.state.State.{State}
use Rattle.jac_keep.specs.declared.alteration.Alteration.{Alteration}
use Rattle.jac_keep.specs.Alterations.{altered_rows, overlaid_from}
use Rattle.jac_keep.specs.Sound.{AreTables, MayStand, AllStand}
use Rattle.jac_keep.specs.declared.alteration.Change.{Change}
use Rattle.jac_keep.specs.Records.{with_id, before, behind, placed_rows}
use Rattle.jac_keep.specs.ChangedState.{changed_state, state_with}
use Rattle.jac_rows.specs.Tables.{rows_of}
use Rattle.jac_rows.specs.Good.{ModelShape, IsMade, AreRising, AreSound, IsSound, IsRecord, AreGuarded, IsGoodByGuards}
use Rattle.jac_keep.proofs.AlteringLaws.{placed_if}

sound_tables : (next model : ℕ) (tables : List (List Row)) → AreSound next model tables → AreTables tables
sound_tables next model [] sound = tt
sound_tables next model (t ∷ ts) sound = (sound.0, sound_tables next (model + 1) ts sound.2)

-- The tables of a sound state.
pub tables_of_sound : (s : State) → IsSound s → AreTables s.tables
tables_of_sound s sound = sound_tables s.number 0 s.tables sound.tables

-- The rows of a model in the tables.
pub tables_rise : (tables : List (List Row)) (model : ℕ) → AreTables tables → AreRising (rows_of tables model)
tables_rise [] zero rising = tt
tables_rise [] (suc model) rising = tt
tables_rise (t ∷ tables) zero rising = rising.0
tables_rise (t ∷ tables) (suc model) rising = tables_rise tables model rising.1

pub rows_of_sound : (s : State) (model : ℕ) → IsSound s → AreRising (rows_of s.tables model)
rows_of_sound s model sound = tables_rise s.tables model (tables_of_sound s sound)

abbrev Before : Row → List Row → Type 0
Before x ys = IsBefore (λ (r : Row). r.id) (λ r. r.guard) x ys

-- A row may be put before rows with greater ids.
before_greater : (x : Row) (ys : List Row) (k : ℕ) → x.id < k → AllByRecursion (λ (y : Row). k ≤ y.id) ys → Before x ys
before_greater x [] k less all = tt
before_greater x (y ∷ ys) k less all = (omega (arith, less, all.0), (λ same. absurd (omega (arith, same, less, all.0))), before_greater x ys k less all.1)

before-append : (x : Row) (ys zs : List Row) → Before x ys → Before x zs → Before x (ys ++ zs)
before-append x [] zs a b = b
before-append x (y ∷ ys) zs a b = (a.0, a.1, before-append x ys zs a.2 b)

-- Two lists together rise, if the ids of the first are below a number and those of the second
-- aren't.
rising-append : (k : ℕ) (xs ys : List Row) → AreRising xs → AreRising ys → AllByRecursion (λ (x : Row). x.id < k) xs → AllByRecursion (λ (y : Row). k ≤ y.id) ys → AreRising (xs ++ ys)
rising-append k [] ys a b less greater = b
rising-append k (x ∷ xs) ys a b less greater =
    (before-append x xs ys a.0 (before_greater x ys k less.0 greater), rising-append k xs ys a.1 b less.1 greater)

before-if : (b : Bool) (x y : Row) (ys zs : List Row) → Before x (y ∷ ys) → Before x zs → Before x (if b then y ∷ zs else zs)
before-if true x y ys zs a rest = (a.0, a.1, rest)
before-if false x y ys zs a rest = rest

before-with_id : (test : ℕ → Bool) (x : Row) (ys : List Row) → Before x ys → Before x (with_id test ys)
before-with_id test x [] a = tt
before-with_id test x (y ∷ ys) a = before-if (test y.id) x y ys (with_id test ys) a (before-with_id test x ys a.2)

rising-if : (b : Bool) (x : Row) (xs : List Row) → Before x xs → AreRising xs → AreRising (if b then x ∷ xs else xs)
rising-if true x xs a rest = (a, rest)
rising-if false x xs a rest = rest

rising-with_id : (test : ℕ → Bool) (xs : List Row) → AreRising xs → AreRising (with_id test xs)
rising-with_id test [] a = tt
rising-with_id test (x ∷ xs) a = rising-if (test x.id) x (with_id test xs) (before-with_id test x xs a.0) (rising-with_id test xs a.1)

-- If something holds for each row, it holds for those that pass a test.
all-if : (P : Row → Type 0) (b : Bool) (x : Row) (xs : List Row) → P x → AllByRecursion P xs → AllByRecursion P (if b then x ∷ xs else xs)
all-if P true x xs h rest = (h, rest)
all-if P false x xs h rest = rest

pub all-with_id : (P : Row → Type 0) (test : ℕ → Bool) (xs : List Row) → AllByRecursion P xs → AllByRecursion P (with_id test xs)
all-with_id P test [] a = tt
all-with_id P test (x ∷ xs) a = all-if P (test x.id) x (with_id test xs) a.0 (all-with_id P test xs a.1)

pub all-append : (P : Row → Type 0) (xs ys : List Row) → AllByRecursion P xs → AllByRecursion P ys → AllByRecursion P (xs ++ ys)
all-append P [] ys a b = b
all-append P (x ∷ xs) ys a b = (a.0, all-append P xs ys a.1 b)

-- The rows before a record have lesser ids, and those after it have greater ones.
passing-if : (P : Row → Type 0) (b : Bool) (x : Row) (xs : List Row) → (b ≡ true → P x) → AllByRecursion P xs → AllByRecursion P (if b then x ∷ xs else xs)
passing-if P true x xs h rest = (h refl, rest)
passing-if P false x xs h rest = rest

le_of_test : (a b : ℕ) → nat_lt a b ≡ true → a + 1 ≤ b
le_of_test a b e = grind (arith, e)

pub less-before : (id : ℕ) (rows : List Row) → AllByRecursion (λ (r : Row). r.id < id) (before id rows)
less-before id [] = tt
less-before id (r ∷ rows) = passing-if (λ (x : Row). x.id < id) (nat_lt r.id id) r (before id rows) (λ e. ltb-true r.id id e) (less-before id rows)

pub greater-behind : (id : ℕ) (rows : List Row) → AllByRecursion (λ (r : Row). id + 1 ≤ r.id) (behind id rows)
greater-behind id [] = tt
greater-behind id (r ∷ rows) = passing-if (λ (x : Row). id + 1 ≤ x.id) (nat_lt id r.id) r (behind id rows) (λ e. le_of_test id r.id e) (greater-behind id rows)

pub all-mapped : (P Q : Row → Type 0) (xs : List Row) → ((x : Row) → P x → Q x) → AllByRecursion P xs → AllByRecursion Q xs
all-mapped P Q [] f a = tt
all-mapped P Q (x ∷ xs) f a = (f x a.0, all-mapped P Q xs f a.1)

-- Rows still rise after alternatives of a record replace its old ones.
rising-placed : (id : ℕ) (new rows : List Row) → AllByRecursion (λ (r : Row). r.id ≡ id) new → AreRising new → AreRising rows → AreRising (placed_rows id new rows)
rising-placed id new rows own rising_new rising =
    let low : AreRising (before id rows) = rising-with_id (λ i. nat_lt i id) rows rising in
    let high : AreRising (behind id rows) = rising-with_id (λ i. nat_lt id i) rows rising in
    let at_least : AllByRecursion (λ (r : Row). id ≤ r.id) new = all-mapped (λ (r : Row). r.id ≡ id) (λ (r : Row). id ≤ r.id) new (λ r e. omega (arith, e)) own in
    let at_most : AllByRecursion (λ (r : Row). r.id < id + 1) new = all-mapped (λ (r : Row). r.id ≡ id) (λ (r : Row). r.id < id + 1) new (λ r e. omega (arith, e)) own in
    let at_most_low : AllByRecursion (λ (r : Row). r.id < id + 1) (before id rows) =
    all-mapped (λ (r : Row). r.id < id) (λ (r : Row). r.id < id + 1) (before id rows) (λ r e. omega (arith, e)) (less-before id rows) in
    rising-append (id + 1) (before id rows ++ new) (behind id rows)
    (rising-append id (before id rows) new low rising_new (less-before id rows) at_least)
    high
    (all-append (λ (r : Row). r.id < id + 1) (before id rows) new at_most_low at_most)
    (greater-behind id rows)

all-placed : (P : Row → Type 0) (id : ℕ) (new rows : List Row) → AllByRecursion P new → AllByRecursion P rows → AllByRecursion P (placed_rows id new rows)
all-placed P id new rows a b =
    all-append P (before id rows ++ new) (behind id rows)
    (all-append P (before id rows) new (all-with_id P (λ i. nat_lt i id) rows b) a)
    (all-with_id P (λ i. nat_lt id i) rows b)

rising-placed_if : (t : Bool) (next : ℕ) (id : ℕ) (new rows : List Row) → MayStand next id new → AreRising rows → AreRising (placed_if t id new rows)
rising-placed_if false next id new rows may rising = rising
rising-placed_if true next id new rows may rising = rising-placed id new rows may.own may.rising rising

rising-altered : (model next : ℕ) (rest : List Alteration) (rows : List Row) → AllStand next rest → AreRising rows → AreRising (altered_rows model rest rows)
rising-altered model next [] rows all rising = rising
rising-altered model next (a ∷ rest) rows all rising =
    rising-altered model next rest (placed_if (model_of_id a.id == model) a.id a.rows rows) all.1 (rising-placed_if (model_of_id a.id == model) next a.id a.rows rows all.0 rising)

abbrev AreMade : ℕ → ℕ → List Row → Type 0
AreMade model next rows = AllByRecursion (λ (r : Row). IsMade model next r.id) rows

made-placed_if : (t : Bool) (model next id : ℕ) (new rows : List Row) → (model_of_id id == model) ≡ t → MayStand next id new → AreMade model next rows → AreMade model next (placed_if t id new rows)
made-placed_if false model next id new rows e may made = made
made-placed_if true model next id new rows e may made =
    let same : model_of_id id ≡ model = grind (arith, e) in
    let made_new : AreMade model next new = rw (← same) may.made in
    all-placed (λ (r : Row). IsMade model next r.id) id new rows made_new made

made-altered : (model next : ℕ) (rest : List Alteration) (rows : List Row) → AllStand next rest → AreMade model next rows → AreMade model next (altered_rows model rest rows)
made-altered model next [] rows all made = made
made-altered model next (a ∷ rest) rows all made =
    made-altered model next rest (placed_if (model_of_id a.id == model) a.id a.rows rows) all.1 (made-placed_if (model_of_id a.id == model) model next a.id a.rows rows refl all.0 made)

sound-overlaid_from : (model next : ℕ) (rest : List Alteration) (tables : List (List Row)) → AllStand next rest → AreSound next model tables → AreSound next model (overlaid_from model rest tables)
sound-overlaid_from model next rest [] all sound = tt
sound-overlaid_from model next rest (t ∷ tables) all sound =
    (rising-altered model next rest t all sound.0, made-altered model next rest t all sound.1, sound-overlaid_from (model + 1) next rest tables all sound.2)

-- A state is sound for a greater next number too.
later : (next more model : ℕ) (tables : List (List Row)) → next ≤ more → AreSound next model tables → AreSound more model tables
later next more model [] h sound = tt
later next more model (t ∷ tables) h sound = (
  sound.0,
  all-mapped (λ (r : Row). IsMade model next r.id) (λ (r : Row). IsMade model more r.id) t (λ r made. record { of_model = made.of_model; is_one = made.is_one; numbered = made.numbered; made = omega (arith, h, made.made) }) sound.1,
  later next more (model + 1) tables h sound.2,
)

-- A sound state stays sound after a change, if the new alternatives are allowed and the number
-- doesn't fall.
pub sound-applied : (c : Change) (s : State) → IsSound s → s.number ≤ c.number → c.number ≤ 2 ^ 40 → AllStand c.number c.changed → IsSound (changed_state c s)
sound-applied c s sound h end all =
    record {
      next = (omega (arith, h, sound.next.0), end);
      tables = sound-overlaid_from 0 c.number c.changed s.tables all (later s.number c.number 0 s.tables h sound.tables);
    }

-- A sound state stays sound after a record is deleted.
pub sound_without : (id n : ℕ) (s : State) → IsSound s → s.number ≤ n → n ≤ 2 ^ 40 → IsSound (record (state_with id [] s) { number = n })
sound_without id n s sound h end =
    sound-applied (record { changed = record { id = id; rows = [] } ∷ []; number = n }) s sound h end (record { own = tt; rising = tt; made = tt }, tt)

made_if_record : (shapes : List ModelShape) (model next : ℕ) (rows : List Row) → AllByRecursion (λ (r : Row). IsRecord shapes model next r.id r.cells) rows → AreMade model next rows
made_if_record shapes model next rows all =
    all-mapped (λ (r : Row). IsRecord shapes model next r.id r.cells) (λ (r : Row). IsMade model next r.id) rows (λ r is. is.made) all

sound_if_guarded : (shapes : List ModelShape) (next model : ℕ) (tables : List (List Row)) → AreGuarded shapes next model tables → AreSound next model tables
sound_if_guarded shapes next model [] good = tt
sound_if_guarded shapes next model (t ∷ tables) good = (good.0, made_if_record shapes model next t good.1, sound_if_guarded shapes next (model + 1) tables good.2)

-- A good state is sound.
pub sound_if_good : (shapes : List ModelShape) (s : State) → IsGoodByGuards shapes s → IsSound s
sound_if_good shapes s good = record { next = good.0; tables = sound_if_guarded shapes s.number 0 s.tables good.1 }
