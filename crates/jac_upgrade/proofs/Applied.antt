-- A state after the alterations of all its records.
use Rattle.std.proofs.Common.{◌≡◌, ◌∙◌, refl, ap, sym, subst, arith, zero, suc, ℕ, ◌+◌, ◌-◌, ◌<◌, ◌≤◌, ◌==◌, Bool, true, false, if◌then◌else◌, List, [], ◌∷◌, ◌++◌, length, map, Option, Some, None, unwrap_or}
use Rattle.std.proofs.lemmas.List.{length-map, map-append}
use Rattle.std.specs.List.{AllByRecursion}
use Rattle.std.proofs.lemmas.Bool.{eqb-true}
use Rattle.jac_value.specs.Ids.{model_of_id}
use Rattle.jac_value.specs.declared.value.Value.{Value}
use Rattle.jac_lang.specs.Syntax.{Entity}
use Rattle.jac_rows.specs.Good.{IsMade, IsSound}
use Rattle.jac_rows.specs.Project.{project_at, rows_at}
use Rattle.jac_rows.specs.Tables.{rows_of}
use Rattle.jac_rows.specs.declared.plain.PlainRow.{PlainRow}
use Rattle.jac_rows.specs.declared.row.Row.{Row}
use Rattle.jac_rows.specs.declared.state.State.{State}
use Rattle.jac_plain.specs.Records.{plain_row, with_ids}
use Rattle.jac_keep.specs.Alterations.{AreApart, ArePlaced, altered_rows, alternatives_named, overlaid, overlaid_from}
use Rattle.jac_keep.specs.ChangedState.{changed_state}
use Rattle.jac_keep.specs.Records.{alternatives}
use Rattle.jac_keep.specs.Reshaping.{widened_state}
use Rattle.jac_keep.specs.Schema.{empties}
use Rattle.jac_keep.specs.Sound.{AllStand, MayStand}
use Rattle.jac_keep.specs.declared.alteration.Alteration.{Alteration}
use Rattle.jac_keep.specs.declared.alteration.Change.{Change}
use Rattle.jac_keep.proofs.AlteringLaws.{rows_of-overlaid}
use Rattle.jac_keep.proofs.SoundLaws.{sound-applied}
use Rattle.jac_keep.proofs.WorkLaws.{one_read}
use Rattle.jac_write.specs.Regrouped.{stays}
use Rattle.jac_write.specs.Writes.{cells_at}
use Rattle.jac_write.proofs.RecordLaws.{cells_shown, few_cells, made_all, of-alternatives, own_all, rising_at, rising_of, rows_named, with_ids_at}
use Rattle.jac_upgrade.specs.Changed.{has_alternative}
use Rattle.jac_upgrade.specs.Steps.{AltersBelow, IsRenewed, IsUpgradeOf, is_changed, upgraded_all}
use Rattle.jac_upgrade.specs.Upgraded.{empty_tables, group_count, upgraded_state, upgraded_cells, upgraded_rows, upgraded_tables}
use Rattle.jac_upgrade.proofs.Extensional.{rising_upgraded, same_rows, upgraded_of}
use Rattle.jac_upgrade.proofs.Modeling.{made_there, table_of}

-- The change with these alterations that keeps the number.
abbrev pub change_of : List Alteration → State → Change
change_of changed s = record { changed = changed; number = s.number }

abbrev pub table_after : List Alteration → State → ℕ → List Row
table_after changed s m = rows_of (overlaid changed s.tables) m

few_all : (w : ℕ → Bool) (olds news : List Entity) (m id : ℕ) (cs : List (List Value)) → length cs ≤ 1 → length (upgraded_all w olds news m id cs) ≤ 1
few_all w olds news m id cs few = few_if (stays news w m id (group_count olds m)) where
  few_if : (b : Bool) → length (if b then map (upgraded_cells w olds news m id) cs else []) ≤ 1
  few_if true = rw (length-map cs (upgraded_cells w olds news m id)) few
  few_if false = omega arith

few_shown : (w : ℕ → Bool) (s : State) (id : ℕ) → IsSound s → length (cells_at w (alternatives id (rows_of s.tables (model_of_id id)))) ≤ 1
few_shown w s id sound = few_cells w id (rows_of s.tables (model_of_id id)) (table_of s (model_of_id id) sound).rising

-- Each alteration is valid in the state.
stands : (olds news : List Entity) (s : State) (a : Alteration) → IsSound s → IsUpgradeOf olds news s a → MayStand s.number a.id a.rows
stands olds news s a sound is =
    let m : ℕ = model_of_id a.id in
    let table : List Row = rows_of s.tables m in
    let renewed : IsRenewed olds news m a.id (alternatives a.id table) a.rows = is.upgrade.renewed in
    record {
      own = own_all a.id a.rows renewed.of;
      rising = rising_of a.id a.rows renewed.of (λ w.
          let few = few_shown w s a.id sound in
          subst (λ cs. length cs ≤ 1) (sym (renewed.shown w few)) (few_all w olds news m a.id (cells_at w (alternatives a.id table)) few));
      made = made_all m s.number a.id a.rows renewed.of (made_there s.number m a.id table (table_of s m sound).made is.upgrade.there);
    }

stand_all : (olds news : List Entity) (s : State) (changed : List Alteration) → IsSound s → AllByRecursion (IsUpgradeOf olds news s) changed → AllStand s.number changed
stand_all olds news s [] sound all = tt
stand_all olds news s (a ∷ rest) sound all = (stands olds news s a sound all.0, stand_all olds news s rest sound all.1)

pub sound_after : (olds news : List Entity) (s : State) (changed : List Alteration) → IsSound s → AllByRecursion (IsUpgradeOf olds news s) changed → IsSound (changed_state (change_of changed s) s)
sound_after olds news s changed sound all =
    sound-applied (change_of changed s) s sound (omega arith) sound.next.1 (stand_all olds news s changed sound all)

placed_all : (olds news : List Entity) (s : State) (changed : List Alteration) → length s.tables ≡ length olds → AllByRecursion (IsUpgradeOf olds news s) changed → ArePlaced changed (length s.tables)
placed_all olds news s [] same all = tt
placed_all olds news s (a ∷ rest) same all = (subst (λ n. model_of_id a.id < n) (sym same) all.0.within, placed_all olds news s rest same all.1)

-- A state with a table for each model, and alterations of all its records.
pub record Changes (olds news : List Entity) (s : State) (changed : List Alteration) : Type 0 where
  pub sound : IsSound s
  pub tables : length s.tables ≡ length olds
  pub apart : AreApart changed
  pub below : AltersBelow olds news s (length olds) changed

pub sound_of : (olds news : List Entity) (s : State) (changed : List Alteration) → Changes olds news s changed → IsSound (changed_state (change_of changed s) s)
sound_of olds news s changed c = sound_after olds news s changed c.sound c.below.each

placed_of : (olds news : List Entity) (s : State) (changed : List Alteration) → Changes olds news s changed → ArePlaced changed (length s.tables)
placed_of olds news s changed c = placed_all olds news s changed c.tables c.below.each

-- A property of all alterations holds for the alteration of a record.
named_if : (P : Alteration → Type 0) (id : ℕ) (a : Alteration) (rest : List Alteration) (rows : List Row) (b : Bool) → (a.id == id) ≡ b → P a
    → (alternatives_named id rest ≡ Some rows → P (record { id = id; rows = rows })) → (if b then Some a.rows else alternatives_named id rest) ≡ Some rows → P (record { id = id; rows = rows })
named_if P id a rest rows true same p later h =
    let e : a.id ≡ id = eqb-true a.id id same in
    let is : a.rows ≡ rows = cc in
    subst (λ i. P (record { id = i; rows = rows })) e (subst (λ rs. P (record { id = a.id; rows = rs })) is p)
named_if P id a rest rows false same p later h = later h

named_all : (P : Alteration → Type 0) (id : ℕ) (changed : List Alteration) (rows : List Row) → AllByRecursion P changed → alternatives_named id changed ≡ Some rows → P (record { id = id; rows = rows })
named_all P id [] rows all h = cc
named_all P id (a ∷ rest) rows all h = named_if P id a rest rows (a.id == id) refl all.0 (λ later. named_all P id rest rows all.1 later) h

unnamed_if : (b : Bool) (rows : List Row) (rest : Option (List Row)) (c : Bool) → (rest ≡ None → c ≡ false) → (if b then Some rows else rest) ≡ None → (if b then true else c) ≡ false
unnamed_if true rows rest c later h = cc
unnamed_if false rows rest c later h = later h

unnamed : (id : ℕ) (changed : List Alteration) → alternatives_named id changed ≡ None → is_changed id changed ≡ false
unnamed id [] h = refl
unnamed id (a ∷ rest) h = unnamed_if (a.id == id) a.rows (alternatives_named id rest) (is_changed id rest) (λ later. unnamed id rest later) h

none_if : (b there : Bool) (r : Row) (rows : List Row) → ((there ≡ true → ⊥) → rows ≡ []) → ((if b then true else there) ≡ true → ⊥) → (if b then r ∷ rows else rows) ≡ []
none_if true there r rows later h = absurd (h refl)
none_if false there r rows later h = later h

none_there : (id : ℕ) (rows : List Row) → (has_alternative id rows ≡ true → ⊥) → alternatives id rows ≡ []
none_there id [] h = refl
none_there id (r ∷ rows) h = none_if (r.id == id) (has_alternative id rows) r (alternatives id rows) (λ none. none_there id rows none) h

both_ways : (b : Bool) → b ≡ true → b ≡ false → ⊥
both_ways true h k = cc
both_ways false h k = cc

-- A record that isn't altered has no row.
pub none_left : (olds news : List Entity) (s : State) (changed : List Alteration) (id : ℕ) → Changes olds news s changed → model_of_id id < length olds → alternatives_named id changed ≡ None
    → alternatives id (rows_of s.tables (model_of_id id)) ≡ []
none_left olds news s changed id c within h =
    none_there id (rows_of s.tables (model_of_id id)) (λ there. both_ways (is_changed id changed) (c.below.named id within there) (unnamed id changed h))

-- The rows of a record that is altered.
pub renewed_of : (olds news : List Entity) (s : State) (changed : List Alteration) (id : ℕ) (rows : List Row) → Changes olds news s changed → alternatives_named id changed ≡ Some rows
    → IsUpgradeOf olds news s (record { id = id; rows = rows })
renewed_of olds news s changed id rows c h = named_all (IsUpgradeOf olds news s) id changed rows c.below.each h

pub after_change : (olds news : List Entity) (s : State) (changed : List Alteration) (id : ℕ) → Changes olds news s changed
    → alternatives id (table_after changed s (model_of_id id)) ≡ unwrap_or (alternatives_named id changed) (alternatives id (rows_of s.tables (model_of_id id)))
after_change olds news s changed id c = sym (one_read id changed s.tables (placed_of olds news s changed c) c.apart)

nothing_left : (w : ℕ → Bool) (olds news : List Entity) (m id : ℕ) → upgraded_all w olds news m id [] ≡ []
nothing_left w olds news m id = either_none (stays news w m id (group_count olds m)) where
  either_none : (b : Bool) → (if b then map (upgraded_cells w olds news m id) [] else []) ≡ []
  either_none true = refl
  either_none false = refl

shown_by : (w : ℕ → Bool) (olds news : List Entity) (s : State) (changed : List Alteration) (id : ℕ) (found : Option (List Row)) → Changes olds news s changed → model_of_id id < length olds → alternatives_named id changed ≡ found
    → cells_at w (unwrap_or found (alternatives id (rows_of s.tables (model_of_id id))))
    ≡ upgraded_all w olds news (model_of_id id) id (cells_at w (alternatives id (rows_of s.tables (model_of_id id))))
shown_by w olds news s changed id None c within h =
    let none : alternatives id (rows_of s.tables (model_of_id id)) ≡ [] = none_left olds news s changed id c within h in
    ap (cells_at w) none
    ∙ sym (nothing_left w olds news (model_of_id id) id)
    ∙ ap (λ rows. upgraded_all w olds news (model_of_id id) id (cells_at w rows)) (sym none)
shown_by w olds news s changed id (Some rows) c within h =
    (renewed_of olds news s changed id rows c h).upgrade.renewed.shown w (few_shown w s id c.sound)

-- What a record shows after the change.
cells_after : (w : ℕ → Bool) (olds news : List Entity) (s : State) (changed : List Alteration) (id : ℕ) → Changes olds news s changed → model_of_id id < length olds
    → cells_at w (alternatives id (table_after changed s (model_of_id id)))
    ≡ upgraded_all w olds news (model_of_id id) id (cells_at w (alternatives id (rows_of s.tables (model_of_id id))))
cells_after w olds news s changed id c within =
    ap (cells_at w) (after_change olds news s changed id c) ∙ shown_by w olds news s changed id (alternatives_named id changed) c within refl

-- No record of another model has rows.
pub none_other : (next m id : ℕ) (rows : List Row) → AllByRecursion (λ (r : Row). IsMade m next r.id) rows → (model_of_id id ≡ m → ⊥) → alternatives id rows ≡ []
none_other next m id rows made other = none_there id rows (λ there. other (made_there next m id rows made there).of_model)

-- The rows of an id that a table shows.
rows_shown : (w : ℕ → Bool) (id : ℕ) (table : List Row) → with_ids (λ i. i == id) (rows_at w table) ≡ map (plain_row id) (cells_at w (alternatives id table))
rows_shown w id table = sym (with_ids_at w (λ i. i == id) table) ∙ rows_named w id (alternatives id table) (of-alternatives id table)

abbrev shown_all : (ℕ → Bool) → List Entity → List Entity → ℕ → ℕ → List Row → List PlainRow
shown_all w olds news m id table = map (plain_row id) (upgraded_all w olds news m id (cells_at w (alternatives id table)))

upgraded_shown : (w : ℕ → Bool) (olds news : List Entity) (m id : ℕ) (table : List Row)
    → with_ids (λ i. i == id) (upgraded_rows w olds news m (rows_at w table)) ≡ shown_all w olds news m id table
upgraded_shown w olds news m id table =
    upgraded_of w olds news m id (rows_at w table)
    ∙ ap (λ cs. map (plain_row id) (upgraded_all w olds news m id cs)) (sym (cells_shown w id table))

id_shown : (w : ℕ → Bool) (olds news : List Entity) (s : State) (changed : List Alteration) (m id : ℕ) → Changes olds news s changed → m < length olds → (b : Bool) → (model_of_id id == m) ≡ b
    → with_ids (λ i. i == id) (rows_at w (table_after changed s m)) ≡ shown_all w olds news m id (rows_of s.tables m)
id_shown w olds news s changed m id c within true e =
    let is : model_of_id id ≡ m = eqb-true (model_of_id id) m e in
    rows_shown w id (table_after changed s m)
    ∙ ap (map (plain_row id)) (subst (λ k. cells_at w (alternatives id (table_after changed s k)) ≡ upgraded_all w olds news k id (cells_at w (alternatives id (rows_of s.tables k)))) is
    (cells_after w olds news s changed id c (subst (λ k. k < length olds) (sym is) within)))
id_shown w olds news s changed m id c within false e =
    let other : model_of_id id ≡ m → ⊥ = λ same. grind (arith, e, same) in
    let after : alternatives id (table_after changed s m) ≡ [] =
    none_other s.number m id (table_after changed s m) (table_of (changed_state (change_of changed s) s) m (sound_of olds news s changed c)).made other in
    let before : alternatives id (rows_of s.tables m) ≡ [] = none_other s.number m id (rows_of s.tables m) (table_of s m c.sound).made other in
    rows_shown w id (table_after changed s m)
    ∙ ap (λ rows. map (plain_row id) (cells_at w rows)) after
    ∙ ap (map (plain_row id)) (sym (nothing_left w olds news m id))
    ∙ ap (λ rows. map (plain_row id) (upgraded_all w olds news m id (cells_at w rows))) (sym before)

-- After the change, a table shows the upgrade of what it showed before.
table_shown : (w : ℕ → Bool) (olds news : List Entity) (s : State) (changed : List Alteration) (m : ℕ) → Changes olds news s changed → m < length olds
    → rows_at w (table_after changed s m) ≡ upgraded_rows w olds news m (rows_at w (rows_of s.tables m))
table_shown w olds news s changed m c within =
    same_rows (rows_at w (table_after changed s m)) (upgraded_rows w olds news m (rows_at w (rows_of s.tables m)))
    (rising_at w (table_after changed s m) (table_of (changed_state (change_of changed s) s) m (sound_of olds news s changed c)).rising)
    (rising_upgraded w olds news m (rows_at w (rows_of s.tables m)) (rising_at w (rows_of s.tables m) (table_of s m c.sound).rising))
    (λ id. id_shown w olds news s changed m id c within (model_of_id id == m) refl ∙ sym (upgraded_shown w olds news m id (rows_of s.tables m)))

-- All tables.
tables_from : (w : ℕ → Bool) (olds news : List Entity) (changed : List Alteration) (k : ℕ) (ts : List (List Row))
    → ((i : ℕ) → i < length ts → rows_at w (altered_rows (k + i) changed (rows_of ts i)) ≡ upgraded_rows w olds news (k + i) (rows_at w (rows_of ts i)))
    → map (rows_at w) (overlaid_from k changed ts) ≡ upgraded_tables w olds news k (map (rows_at w) ts)
tables_from w olds news changed k [] h = refl
tables_from w olds news changed k (t ∷ ts) h =
    let here : k + 0 ≡ k = omega arith in
    let one : rows_at w (altered_rows k changed t) ≡ upgraded_rows w olds news k (rows_at w t) =
    subst (λ n. rows_at w (altered_rows n changed t) ≡ upgraded_rows w olds news n (rows_at w t)) here (h 0 (omega arith)) in
    let rest : map (rows_at w) (overlaid_from (k + 1) changed ts) ≡ upgraded_tables w olds news (k + 1) (map (rows_at w) ts) =
    tables_from w olds news changed (k + 1) ts (λ i less.
    let next : k + suc i ≡ (k + 1) + i = omega arith in
    subst (λ n. rows_at w (altered_rows n changed (rows_of ts i)) ≡ upgraded_rows w olds news n (rows_at w (rows_of ts i))) next (h (suc i) (omega (arith, less)))) in
    λ i. one i ∷ rest i

tables_shown : (w : ℕ → Bool) (olds news : List Entity) (s : State) (changed : List Alteration) → Changes olds news s changed
    → map (rows_at w) (overlaid changed s.tables) ≡ upgraded_tables w olds news 0 (map (rows_at w) s.tables)
tables_shown w olds news s changed c =
    tables_from w olds news changed 0 s.tables (λ i less.
    let same : 0 + i ≡ i = omega arith in
    let at : rows_at w (altered_rows i changed (rows_of s.tables i)) ≡ upgraded_rows w olds news i (rows_at w (rows_of s.tables i)) =
    ap (rows_at w) (sym (rows_of-overlaid i changed s.tables (placed_of olds news s changed c)))
    ∙ table_shown w olds news s changed i c (subst (λ n. i < n) c.tables less) in
    subst (λ n. rows_at w (altered_rows n changed (rows_of s.tables i)) ≡ upgraded_rows w olds news n (rows_at w (rows_of s.tables i))) (sym same) at)

pub length_after : (k : ℕ) (changed : List Alteration) (ts : List (List Row)) → length (overlaid_from k changed ts) ≡ length ts
length_after k changed [] = refl
length_after k changed (t ∷ ts) = ap suc (length_after (k + 1) changed ts)

empty_shown : (w : ℕ → Bool) (n : ℕ) → map (rows_at w) (empties n) ≡ empty_tables n
empty_shown w zero = refl
empty_shown w (suc n) = ap (λ ts. [] ∷ ts) (empty_shown w n)

-- The state after the change, with empty tables for the added models, shows the upgraded state.
pub law_shows : (w : ℕ → Bool) (olds news : List Entity) (s : State) (changed : List Alteration) (c : Change) → c ≡ change_of changed s → Changes olds news s changed
    → project_at w (widened_state (length news) (changed_state c s)) ≡ upgraded_state w olds news (project_at w s)
law_shows w olds news s changed c is all =
    let n : ℕ = length news - length (overlaid changed s.tables) in
    let count : n ≡ length news - length (map (rows_at w) s.tables) =
    ap (λ k. length news - k) (length_after 0 changed s.tables ∙ sym (length-map s.tables (rows_at w))) in
    let tables : map (rows_at w) (overlaid changed s.tables ++ empties n) ≡ upgraded_tables w olds news 0 (map (rows_at w) s.tables) ++ empty_tables (length news - length (map (rows_at w) s.tables)) =
    map-append (rows_at w) (overlaid changed s.tables) (empties n)
    ∙ ap (λ ts. ts ++ map (rows_at w) (empties n)) (tables_shown w olds news s changed all)
    ∙ ap (λ ts. upgraded_tables w olds news 0 (map (rows_at w) s.tables) ++ ts) (empty_shown w n ∙ ap empty_tables count) in
    ap (λ (d : Change). project_at w (widened_state (length news) (changed_state d s))) is
    ∙ ap (λ (ts : List (List PlainRow)). record { tables = ts; number = s.number }) tables
