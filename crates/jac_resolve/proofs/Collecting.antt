-- The labels of the records that have rows are the live ones.
use Rattle.std.proofs.Common.{◌≡◌, ◌<◌, ◌≤◌, ◌+◌, ◌^◌, ◌==◌, ◌&&◌, ◌||◌, ℕ, zero, suc, Bool, true, false, true≢false, if◌then◌else◌, Option, Some, None, List, [], ◌∷◌, ◌++◌, length, get_or, slice_get, refl, ap, sym, subst, ◌∙◌, arith, add-one, All, inl, inr, ◌↔◌, append-nil}
use Rattle.std.specs.Option.{option_map}
use Rattle.std.specs.List.{list_any, AllByRecursion}
use Rattle.std.proofs.lemmas.Bool.{cases_lt, or_left, or_right, and_from}
use Rattle.std.proofs.lemmas.Bool.Decides.{nat_tests, Decides-eqb}
use Rattle.std.proofs.lemmas.List.Folds.{list_any-append}
use Rattle.std.proofs.lemmas.Option.{slice_get-get_or}
use Rattle.jac_value.specs.Ids.{label_of, record_of_label, group_of_label, model_of_id, is_id_of, labels_below}
use Rattle.jac_world.specs.World.{shown_by, holds, guard_wants}
use Rattle.jac_lang.specs.declared.schema.Group.{Group}
use Rattle.jac_lang.specs.declared.schema.ModelDef.{ModelDef}
use Rattle.jac_lang.specs.Lookup.{groups_at, groups_in}
use Rattle.jac_lang.specs.Mirror.{groups_of, entities_of, entity_of}
use Rattle.jac_lang.specs.Syntax.{FieldGroup, Entity, Application}
use Rattle.jac_rows.specs.declared.row.Row.{Row}
use Rattle.jac_rows.specs.declared.state.State.{State}
use Rattle.jac_rows.specs.Tables.{rows_of}
use Rattle.jac_keep.specs.Records.{alternatives}
use Rattle.jac_rows.specs.Good.{AreSound, IsMade}
use Rattle.jac_plain.specs.World.{record_with}
use Rattle.jac_plain.specs.Expressions.{stands}
use Rattle.jac_plain.specs.Policies.{has_group, has_record, is_some_group, IsLiveLabel}
use Rattle.jac_plain.specs.Requests.{Worlds}
use Rattle.jac_resolve.specs.Rounds.{HasSoundTables, AreLive}
use Rattle.jac_resolve.specs.Collected.{labels_of_rows, labels_before, AreSeen, CanBeSeen, CanHold, Collects, has_row, AllCanHold}
use Rattle.jac_lang.proofs.Places.{length-entities}
use Rattle.jac_shown_rows.proofs.Rows.{rows_of-project}
use Rattle.jac_policy_cache.proofs.Rising.{bool_eq}
use Rattle.jac_resolve.proofs.Standing.{any_stands, model_there}
use Rattle.jac_plain.specs.Shown.{worlds_of}

-- A property of each element, by recursion and by index.
pub all_at : {X : Type 0} (P : X → Type 0) (xs : List X) → AllByRecursion P xs → All P xs
all_at P [] a k d lt = absurd (omega arith)
all_at P (x ∷ xs) a zero d lt = a.0
all_at P (x ∷ xs) a (suc k) d lt = all_at P xs a.1 k d (omega arith)

all_back : {X : Type 0} (P : X → Type 0) (xs : List X) → All P xs → AllByRecursion P xs
all_back P [] a = tt
all_back P (x ∷ xs) a = (a 0 x (omega arith), all_back P xs (λ k d lt. a (suc k) d (omega arith)))

all_mapped : {X : Type 0} (P Q : X → Type 0) (xs : List X) → ((x : X) → P x → Q x) → AllByRecursion P xs → AllByRecursion Q xs
all_mapped P Q [] f a = tt
all_mapped P Q (x ∷ xs) f a = (f x a.0, all_mapped P Q xs f a.1)

id_small : (id m : ℕ) → is_id_of id m ≡ true → id < 2 ^ 124
id_small id m is = grind (arith, nat_tests, is)

-- The same with the model's number in another form.
made_one : (m n id : ℕ) → m ≡ n → is_id_of id m ≡ true → is_id_of id n ≡ true
made_one m n id same is = ap (is_id_of id) (sym same) ∙ is

-- The rows of a model in a sound state.
sound_rows : (next base : ℕ) (tables : List (List Row)) (m : ℕ) → AreSound next base tables → AllByRecursion (λ (r : Row). IsMade (base + m) next r.id) (rows_of tables m)
sound_rows next base [] zero s = tt
sound_rows next base [] (suc m) s = tt
sound_rows next base (t ∷ ts) zero s = all_mapped (λ (r : Row). IsMade base next r.id) (λ (r : Row). IsMade (base + 0) next r.id) t (λ r made. record { of_model = omega (arith, made.of_model); is_one = made_one _ _ r.id (omega arith) made.is_one; numbered = made.numbered; made = made.made }) s.1
sound_rows next base (t ∷ ts) (suc m) s =
    all_mapped (λ (r : Row). IsMade ((base + 1) + m) next r.id) (λ (r : Row). IsMade (base + suc m) next r.id) (rows_of ts m)
    (λ r made. record { of_model = omega (arith, made.of_model); is_one = made_one _ _ r.id (omega arith) made.is_one; numbered = made.numbered; made = made.made })
    (sound_rows next (base + 1) ts m s.2)

pub in_range : (s : State) (m : ℕ) → HasSoundTables s → All (λ (r : Row). r.id < 2 ^ 124) (rows_of s.tables m)
in_range s m has =
    let made : AllByRecursion (λ (r : Row). IsMade (0 + m) has.next r.id) (rows_of s.tables m) = sound_rows has.next 0 s.tables m has.sound.tables in
    all_at (λ (r : Row). r.id < 2 ^ 124) (rows_of s.tables m)
    (all_mapped (λ (r : Row). IsMade (0 + m) has.next r.id) (λ (r : Row). r.id < 2 ^ 124) (rows_of s.tables m) (λ r made. id_small r.id (0 + m) made.is_one) made)

-- Two cases, if one of two tests is true.

either : (a b : Bool) (P : Type 0) → (a || b) ≡ true → (a ≡ true → P) → (b ≡ true → P) → P
either true b P h p q = p refl
either false b P h p q = q h

or_none : (a : Bool) → (a || false) ≡ true → a ≡ true
or_none true h = refl
or_none false h = h

itself : (x : ℕ) → (x == x) ≡ true
itself x = grind (arith, nat_tests)

in_both : (xs ys : List ℕ) (k : ℕ) (P : Type 0) → shown_by (xs ++ ys) k ≡ true → (shown_by xs k ≡ true → P) → (shown_by ys k ≡ true → P) → P
in_both xs ys k P h p q = either (shown_by xs k) (shown_by ys k) P (sym (list_any-append (λ x. x == k) xs ys) ∙ h) p q

first_has : (xs ys : List ℕ) (k : ℕ) → shown_by xs k ≡ true → shown_by (xs ++ ys) k ≡ true
first_has xs ys k h = list_any-append (λ x. x == k) xs ys ∙ or_left (shown_by xs k) (shown_by ys k) h

second_has : (xs ys : List ℕ) (k : ℕ) → shown_by ys k ≡ true → shown_by (xs ++ ys) k ≡ true
second_has xs ys k h = list_any-append (λ x. x == k) xs ys ∙ or_right (shown_by xs k) (shown_by ys k) h

-- The labels of one record.

record IsOf (id n k : ℕ) : Type 0 where
  pub of_record : record_of_label k ≡ id
  pub of_group : group_of_label k < n

in_below : (id n k : ℕ) → n ≤ 8 → shown_by (labels_below id n) k ≡ true → IsOf id n k
in_below id zero k few h = absurd cc
in_below id (suc n) k few h = in_both (labels_below id n) (label_of id n ∷ []) k (IsOf id (suc n) k) h
    (λ a. let is = in_below id n k (omega arith) a in record { of_record = is.of_record; of_group = omega (arith, is.of_group) })
    (λ b. let e : label_of id n ≡ k = (Decides-eqb (label_of id n) k).0 (or_none _ b) in record { of_record = omega (arith, e); of_group = omega (arith, e) })

below_has : (id n k : ℕ) → IsOf id n k → shown_by (labels_below id n) k ≡ true
below_has id zero k is = absurd (omega (arith, is.of_group))
below_has id (suc n) k is =
    elim (cases_lt (group_of_label k) n) [
      | inl lt ↦ first_has (labels_below id n) (label_of id n ∷ []) k (below_has id n k (record { of_record = is.of_record; of_group = lt }))
      | inr le ↦ second_has (labels_below id n) (label_of id n ∷ []) k (or_left (label_of id n == k) false (last_is id n k is.of_record is.of_group le))
    ]
  where
    last_is : (id n k : ℕ) → record_of_label k ≡ id → group_of_label k < suc n → n ≤ group_of_label k → (label_of id n == k) ≡ true
    last_is id n k e lt le = (Decides-eqb (label_of id n) k).1 (omega (arith, e, lt, le))

-- The labels of the records of a table.

record IsAmong (n : ℕ) (rows : List Row) (k : ℕ) : Type 0 where
  pub row : list_any (λ (r : Row). r.id == record_of_label k) rows ≡ true
  pub of_group : group_of_label k < n

in_rows : (n k : ℕ) (rows : List Row) → n ≤ 8 → shown_by (labels_of_rows n rows) k ≡ true → IsAmong n rows k
in_rows n k [] few h = absurd cc
in_rows n k (r ∷ rows) few h = in_both (labels_below r.id n) (labels_of_rows n rows) k (IsAmong n (r ∷ rows) k) h
    (λ a. let is = in_below r.id n k few a in record { row = or_left (r.id == record_of_label k) _ ((Decides-eqb r.id (record_of_label k)).1 (sym is.of_record)); of_group = is.of_group })
    (λ b. let is = in_rows n k rows few b in record { row = or_right (r.id == record_of_label k) _ is.row; of_group = is.of_group })

rows_have : (n k : ℕ) (rows : List Row) → IsAmong n rows k → shown_by (labels_of_rows n rows) k ≡ true
rows_have n k [] is = absurd (let e = is.row in cc)
rows_have n k (r ∷ rows) is = either (r.id == record_of_label k) (list_any (λ (x : Row). x.id == record_of_label k) rows) (shown_by (labels_of_rows n (r ∷ rows)) k ≡ true) is.row
    (λ a. first_has (labels_below r.id n) (labels_of_rows n rows) k (below_has r.id n k (record { of_record = sym ((Decides-eqb r.id (record_of_label k)).0 a); of_group = is.of_group })))
    (λ b. second_has (labels_below r.id n) (labels_of_rows n rows) k (rows_have n k rows (record { row = b; of_group = is.of_group })))

-- The labels of the records of all tables.

record IsBefore (models : List Entity) (tables : List (List Row)) (n k : ℕ) : Type 0 where
  pub model : ℕ
  pub before : model < n
  pub among : IsAmong (length (groups_at models model)) (rows_of tables model) k

in_before : (models : List Entity) (tables : List (List Row)) (n k : ℕ) → ((m : ℕ) → m < n → length (groups_at models m) ≤ 8) → shown_by (labels_before models tables n) k ≡ true → IsBefore models tables n k
in_before models tables zero k few h = absurd cc
in_before models tables (suc n) k few h =
    in_both (labels_before models tables n) (labels_of_rows (length (groups_at models n)) (rows_of tables n)) k (IsBefore models tables (suc n) k) h
    (λ a. let is = in_before models tables n k (λ m lt. few m (omega arith)) a in record { model = is.model; before = omega (arith, is.before); among = is.among })
    (λ b. record { model = n; before = omega arith; among = in_rows (length (groups_at models n)) k (rows_of tables n) (few n (omega arith)) b })

before_has : (models : List Entity) (tables : List (List Row)) (n k m : ℕ) → m < n → IsAmong (length (groups_at models m)) (rows_of tables m) k → shown_by (labels_before models tables n) k ≡ true
before_has models tables zero k m lt is = absurd (omega arith)
before_has models tables (suc n) k m lt is =
    elim (cases_lt m n) [
      | inl less ↦ first_has (labels_before models tables n) (labels_of_rows (length (groups_at models n)) (rows_of tables n)) k (before_has models tables n k m less is)
      | inr le ↦ second_has (labels_before models tables n) (labels_of_rows (length (groups_at models n)) (rows_of tables n)) k
          (let same : m ≡ n = omega arith in
          rows_have (length (groups_at models n)) k (rows_of tables n) (subst (λ (j : ℕ). IsAmong (length (groups_at models j)) (rows_of tables j) k) same is))
    ]

-- Some assignment shows a record that has rows.

record IsSeen (id : ℕ) (rows : List Row) : Type 0 where
  pub seen_by : ℕ → Bool
  pub seen : list_any (λ (r : Row). holds seen_by r.guard) (alternatives id rows) ≡ true

abbrev Can : Row → Type 0
Can r = holds (guard_wants r.guard) r.guard ≡ true

seen_first : (id : ℕ) (r : Row) (rows : List Row) (same : Bool) → (r.id == id) ≡ same → Can r → ((same || list_any (λ (x : Row). x.id == id) rows) ≡ true) →
    (list_any (λ (x : Row). x.id == id) rows ≡ true → IsSeen id rows) → IsSeen id (r ∷ rows)
seen_first id r rows true e can h later = record { seen_by = guard_wants r.guard; seen = rw e (or_left (holds (guard_wants r.guard) r.guard) _ can) }
seen_first id r rows false e can h later = let is = later h in record { seen_by = is.seen_by; seen = rw e is.seen }

seen_somewhere : (id : ℕ) (rows : List Row) → list_any (λ (r : Row). r.id == id) rows ≡ true → AllByRecursion Can rows → IsSeen id rows
seen_somewhere id [] h can = absurd cc
seen_somewhere id (r ∷ rows) h can = seen_first id r rows (r.id == id) refl can.0 h (λ more. seen_somewhere id rows more can.1)

row_first : (w : ℕ → Bool) (id : ℕ) (r : Row) (rows : List Row) (same : Bool) → (r.id == id) ≡ same → list_any (λ (x : Row). holds w x.guard) (if same then r ∷ alternatives id rows else alternatives id rows) ≡ true →
    (list_any (λ (x : Row). holds w x.guard) (alternatives id rows) ≡ true → list_any (λ (x : Row). x.id == id) rows ≡ true) → (same || list_any (λ (x : Row). x.id == id) rows) ≡ true
row_first w id r rows true e h later = refl
row_first w id r rows false e h later = later h

row_if_seen : (w : ℕ → Bool) (id : ℕ) (rows : List Row) → list_any (λ (r : Row). holds w r.guard) (alternatives id rows) ≡ true → list_any (λ (r : Row). r.id == id) rows ≡ true
row_if_seen w id [] h = h
row_if_seen w id (r ∷ rows) h = row_first w id r rows (r.id == id) refl h (row_if_seen w id rows)

-- The model of a row in a table of a sound state.
model_is : (id m : ℕ) (next : ℕ) (rows : List Row) → AllByRecursion (λ (r : Row). IsMade (0 + m) next r.id) rows → list_any (λ (r : Row). r.id == id) rows ≡ true → model_of_id id ≡ m
model_is id m next [] made h = absurd cc
model_is id m next (r ∷ rows) made h = either (r.id == id) (list_any (λ (x : Row). x.id == id) rows) (model_of_id id ≡ m) h
    (λ a. let e : r.id ≡ id = (Decides-eqb r.id id).0 a in let o = made.0.of_model in subst (λ (j : ℕ). model_of_id j ≡ m) e (omega (arith, o)))
    (λ b. model_is id m next rows made.1 b)

-- Groups and models by their places.

group_there : (gs : List FieldGroup) (g : ℕ) → g < length gs → is_some_group (slice_get gs g) ≡ true
group_there [] g lt = absurd (omega arith)
group_there (x ∷ gs) zero lt = refl
group_there (x ∷ gs) (suc g) lt = group_there gs g (omega arith)

there_within : (gs : List FieldGroup) (g : ℕ) → is_some_group (slice_get gs g) ≡ true → g < length gs
there_within [] zero h = absurd cc
there_within [] (suc g) h = absurd cc
there_within (x ∷ gs) zero h = omega arith
there_within (x ∷ gs) (suc g) h = let lt = there_within gs g h in omega (arith, lt)

model_within : (models : List Entity) (m g : ℕ) → g < length (groups_at models m) → m < length models
model_within [] zero g lt = absurd (omega arith)
model_within [] (suc m) g lt = absurd (omega arith)
model_within (e ∷ es) zero g lt = omega arith
model_within (e ∷ es) (suc m) g lt = let below = model_within es m g lt in omega (arith, below)

record_stands : (s : State) (w : ℕ → Bool) (k : ℕ) →
    list_any (λ (r : Row). holds w r.guard) (alternatives (record_of_label k) (rows_of s.tables (model_of_id (record_of_label k)))) ≡ has_record (worlds_of s w) k
record_stands s w k =
    any_stands w (record_of_label k) (rows_of s.tables (model_of_id (record_of_label k)))
    ∙ ap (λ rows. stands (record_with (record_of_label k) rows)) (sym (rows_of-project w s.tables (model_of_id (record_of_label k))))

-- A label of the records that have rows is live.
live_if_among : (app : Application) (s : State) (k : ℕ) → CanHold (rows_of s.tables (model_of_id (record_of_label k))) →
    IsAmong (length (groups_at app.models (model_of_id (record_of_label k)))) (rows_of s.tables (model_of_id (record_of_label k))) k → IsLiveLabel app (worlds_of s) k
live_if_among app s k can is =
    let m = model_of_id (record_of_label k) in
    let seen = seen_somewhere (record_of_label k) (rows_of s.tables m) is.row (all_back Can (rows_of s.tables m) can) in
    record {
      group = group_there (groups_at app.models m) (group_of_label k) is.of_group;
      seen_by = seen.seen_by;
      stands = sym (record_stands s seen.seen_by k) ∙ seen.seen;
    }

among_if_live : (app : Application) (s : State) (k : ℕ) → IsLiveLabel app (worlds_of s) k →
    IsAmong (length (groups_at app.models (model_of_id (record_of_label k)))) (rows_of s.tables (model_of_id (record_of_label k))) k
among_if_live app s k live =
    let m = model_of_id (record_of_label k) in
    record {
      row = row_if_seen live.seen_by (record_of_label k) (rows_of s.tables m) (record_stands s live.seen_by k ∙ live.stands);
      of_group = there_within (groups_at app.models m) (group_of_label k) live.group;
    }

-- The collected labels are the live ones.
pub are_live : (app : Application) (s : State) (collected labels : List ℕ) → HasSoundTables s → Collects app.models s.tables (length app.models) collected → ((k : ℕ) → shown_by labels k ≡ shown_by collected k) → AreLive app (worlds_of s) labels
are_live app s collected labels sound collects same = record {
  only = λ k h. only k (in_before app.models s.tables (length app.models) k collects.few (ap (λ ls. shown_by ls k) (sym collects.are) ∙ sym (same k) ∙ h));
  every = λ k live.
      let is = among_if_live app s k live in
      same k ∙ ap (λ ls. shown_by ls k) collects.are
      ∙ before_has app.models s.tables (length app.models) k (model_of_id (record_of_label k)) (model_within app.models (model_of_id (record_of_label k)) (group_of_label k) is.of_group) is;
}
  where
    only : (k : ℕ) → IsBefore app.models s.tables (length app.models) k → IsLiveLabel app (worlds_of s) k
    only k is =
        let m : model_of_id (record_of_label k) ≡ is.model = model_is (record_of_label k) is.model sound.next (rows_of s.tables is.model) (sound_rows sound.next 0 s.tables is.model sound.sound.tables) is.among.row in
        live_if_among app s k
        (subst (λ (j : ℕ). CanHold (rows_of s.tables j)) (sym m) (collects.guards is.model is.before (let g = is.among.of_group in omega (arith, g))))
        (subst (λ (j : ℕ). IsAmong (length (groups_at app.models j)) (rows_of s.tables j) k) (sym m) is.among)

-- A model without groups has no labels.

none_below : (rows : List Row) → labels_of_rows 0 rows ≡ []
none_below [] = refl
none_below (r ∷ rows) = none_below rows

pub no_groups : (old : List ℕ) (groups : ℕ) (rows : List Row) → groups ≡ 0 → old ≡ old ++ labels_of_rows groups rows
no_groups old groups rows none = sym (append-nil old) ∙ ap (λ ls. old ++ ls) (sym (none_below rows)) ∙ ap (λ (n : ℕ). old ++ labels_of_rows n rows) (sym none)

-- One more model.

length-groups : (gs : List Group) → length (groups_of gs) ≡ length gs
length-groups [] = refl
length-groups (g ∷ gs) = let e = length-groups gs in omega (arith, e)

pub count_there : (ms : List ModelDef) (n : ℕ) (m : ModelDef) → m ≡ get_or ms n m → n < length ms → length m.groups ≡ length (groups_at (entities_of ms) n)
count_there ms n m item below =
    let there : slice_get (entities_of ms) n ≡ Some (entity_of m) = sym (model_there ms n) ∙ ap (option_map entity_of) (slice_get-get_or ms n m below ∙ ap Some (sym item)) in
    sym (length-groups m.groups) ∙ ap (λ (e : Option Entity). length (groups_in e)) (sym there)

pub collects_more : (models : List Entity) (tables : List (List Row)) (n groups : ℕ) (old new : List ℕ) → Collects models tables n old → new ≡ old ++ labels_of_rows groups (rows_of tables n) →
    (0 < groups → CanHold (rows_of tables n)) → groups ≡ length (groups_at models n) → groups ≤ 8 → Collects models tables (n + 1) new
collects_more models tables n groups old new before added can count few = record {
  are = added ∙ ap (λ ls. ls ++ labels_of_rows groups (rows_of tables n)) before.are ∙ ap (λ (c : ℕ). labels_before models tables n ++ labels_of_rows c (rows_of tables n)) count ∙ rw (add-one n) refl;
  guards = λ m lt. elim (cases_lt m n) [
    | inl less ↦ before.guards m less
    | inr le ↦ (let same : n ≡ m = omega arith in subst (λ (j : ℕ). 0 < length (groups_at models j) → CanHold (rows_of tables j)) same (λ some. can (omega (arith, count, some))))
  ];
  few = λ m lt. elim (cases_lt m n) [
    | inl less ↦ before.few m less
    | inr le ↦ (let same : n ≡ m = omega arith in subst (λ (j : ℕ). length (groups_at models j) ≤ 8) same (omega (arith, count, few)))
  ];
}

pub collects_all : (ms given : List ModelDef) (tables : List (List Row)) (labels : List ℕ) → given ≡ ms → Collects (entities_of given) tables (length given) labels → Collects (entities_of ms) tables (length (entities_of ms)) labels
collects_all ms given tables labels is all =
    let here : Collects (entities_of ms) tables (length ms) labels = subst (λ (l : List ModelDef). Collects (entities_of l) tables (length l) labels) is all in
    subst (λ (n : ℕ). Collects (entities_of ms) tables n labels) (sym (length-entities ms)) here

left_true : (a b : Bool) → (a && b) ≡ true → a ≡ true
left_true true b p = refl
left_true false b p = p

right_true : (a b : Bool) → (a && b) ≡ true → b ≡ true
right_true true b p = p
right_true false b p = absurd cc

pub live_by_rows : (app : Application) (s : State) (k : ℕ) → AllCanHold s → IsLiveLabel app (worlds_of s) k ↔ ((has_group app k && has_row s k) ≡ true)
live_by_rows app s k can = (
  λ live. and_from (has_group app k) (has_row s k) live.group (let is = among_if_live app s k live in is.row),
  λ h. live_if_among app s k (can (model_of_id (record_of_label k))) (record {
    row = right_true (has_group app k) (has_row s k) h;
    of_group = there_within (groups_at app.models (model_of_id (record_of_label k))) (group_of_label k) (left_true (has_group app k) (has_row s k) h);
  }),
)

-- The collected labels are those of all groups of every record that has a row.
pub by_rows : (app : Application) (s : State) (collected labels : List ℕ) → HasSoundTables s → Collects app.models s.tables (length app.models) collected →
    ((k : ℕ) → shown_by labels k ≡ shown_by collected k) → (k : ℕ) → shown_by labels k ≡ (has_group app k && has_row s k)
by_rows app s collected labels sound collects same k =
    let live = are_live app s collected labels sound collects same in
    let m = model_of_id (record_of_label k) in
    bool_eq (shown_by labels k) (has_group app k && has_row s k)
    (λ h. let is = live.only k h in and_from (has_group app k) (has_row s k) is.group (let among = among_if_live app s k is in among.row))
    (λ h.
    let of_group = there_within (groups_at app.models m) (group_of_label k) (left_true (has_group app k) (has_row s k) h) in
    same k ∙ ap (λ ls. shown_by ls k) collects.are
    ∙ before_has app.models s.tables (length app.models) k m (model_within app.models m (group_of_label k) of_group)
    (record { row = right_true (has_group app k) (has_row s k) h; of_group = of_group }))

-- One label, by its own record.

-- If its guard can hold, the first row is shown by some assignment.
pub first_is_seen : (rows : List Row) (r : Row) → Some r ≡ slice_get rows 0 → holds (guard_wants r.guard) r.guard ≡ true → AreSeen rows
first_is_seen [] r there can = absurd (let e : Some r ≡ None = there in cc)
first_is_seen (x ∷ rows) r there can =
    let same : r ≡ x = cc in
    record { seen_by = guard_wants r.guard; seen = or_left (holds (guard_wants r.guard) x.guard) _ (ap (λ (y : Row). holds (guard_wants r.guard) y.guard) (sym same) ∙ can) }

pub not_live : (app : Application) (worlds : Worlds) (k : ℕ) → has_group app k ≡ false → ((false ≡ true) ↔ IsLiveLabel app worlds k)
not_live app worlds k none = (λ e. absurd (true≢false (sym e)), λ live. absurd (true≢false (sym live.group ∙ none)))

abbrev any_seen : (ℕ → Bool) → List Row → Bool
any_seen w rows = list_any (λ (r : Row). holds w r.guard) rows

-- The rows of its record say whether a label is live.
pub live_by_record : (app : Application) (s : State) (k : ℕ) (rows : List Row) (b : Bool) → rows ≡ alternatives (record_of_label k) (rows_of s.tables (model_of_id (record_of_label k))) →
    has_group app k ≡ true → CanBeSeen rows b → ((b ≡ true) ↔ IsLiveLabel app (worlds_of s) k)
live_by_record app s k rows true are group can = (
  λ e. record {
    group = group;
    seen_by = can.seen_by;
    stands = sym (record_stands s can.seen_by k) ∙ ap (any_seen can.seen_by) (sym are) ∙ can.seen;
  },
  λ live. refl,
)
live_by_record app s k rows false are group none = (
  λ e. absurd (true≢false (sym e)),
  λ live. absurd (true≢false (sym live.stands ∙ sym (record_stands s live.seen_by k) ∙ ap (any_seen live.seen_by) (sym are ∙ none))),
)
