-- Rows still depend on their own labels alone after each step of a write.
use Rattle.std.proofs.Common.{◌≡◌, ◌∙◌, sym, refl, ap, subst, arith, ℕ, zero, suc, ◌+◌, ◌==◌, nat_lt, ◌&&◌, not, Bool, true, false, if◌then◌else◌, List, [], ◌∷◌, ◌++◌, Option, Some, None, is_some}
use Rattle.std.specs.Prelude.{slice_set}
use Rattle.std.proofs.lemmas.Bool.{and_parts}
use Rattle.std.proofs.lemmas.Bool.Decides.{nat_tests}
use Rattle.jac_value.specs.Ids.{label_of}
use Rattle.jac_value.specs.declared.value.Value.{Value}
use Rattle.jac_value.specs.declared.value.Value.TheVariants as value
use Rattle.jac_lang.specs.Lookup.{fields_at, groups_at, group_in, field_place, kind_at}
use Rattle.jac_lang.specs.declared.field_kinds.Field.{Field}
use Rattle.jac_lang.specs.Syntax.{Entity, Expression, Assigned}
use Rattle.jac_rows.specs.Tables.{rows_of}
use Rattle.jac_rows.specs.declared.plain.PlainRow.{PlainRow}
use Rattle.jac_plain.specs.Records.{fitting, cell_set, drafted_cells, each_cell, plain_row, public_cell, is_hidden_by, is_hidden, shielded_cells, with_ids, with_row, changed_rows, without, tables_with, tables_after}
use Rattle.jac_open_app_laws.specs.Open.{is_guarded_at, is_open, masked_cells, masked_records, masked_tables}
use Rattle.jac_open_app_laws.specs.Owned.{AgreeOfRecord, IsOwned, AreOwned, AreOwnedTables, are_open_sets}

-- ---- tables that are equal except for guarded cells

masked_same : (models : List Entity) (m : ℕ) (v w : ℕ → Bool) (rows others : List PlainRow) → AreOwned models m v w rows others
    → masked_records models m rows ≡ masked_records models m others
masked_same models m v w [] [] h = refl
masked_same models m v w [] (s ∷ others) h = absurd h
masked_same models m v w (r ∷ rows) [] h = absurd h
masked_same models m v w (r ∷ rows) (s ∷ others) h =
    let rest = masked_same models m v w rows others h.1 in λ i. plain_row (h.0.same_id i) (h.0.clear i) ∷ rest i

pub tables_masked_same : (models : List Entity) (m : ℕ) (v w : ℕ → Bool) (tables more : List (List PlainRow)) → AreOwnedTables models m v w tables more
    → masked_tables models m tables ≡ masked_tables models m more
tables_masked_same models m v w [] [] h = refl
tables_masked_same models m v w [] (rows ∷ more) h = absurd h
tables_masked_same models m v w (rows ∷ tables) [] h = absurd h
tables_masked_same models m v w (rows ∷ tables) (others ∷ more) h =
    let first = masked_same models m v w rows others h.0 in
    let rest = tables_masked_same models (m + 1) v w tables more h.1 in
    λ i. first i ∷ rest i

-- ---- cells

-- A cell that is put in its place.
each_set : (g : ℕ → Value → Value) (from i : ℕ) (cells : List Value) (x : Value)
    → each_cell g from (slice_set cells i x) ≡ slice_set (each_cell g from cells) i (g (from + i) x)
each_set g from zero [] x = refl
each_set g from (suc i) [] x = refl
each_set g from zero (c ∷ cells) x = let here : from ≡ from + 0 = omega arith in ap (λ n. g n x ∷ each_cell g (from + 1) cells) here
each_set g from (suc i) (c ∷ cells) x =
    let there : from + 1 + i ≡ from + suc i = omega arith in
    ap (λ t. g from c ∷ t) (each_set g (from + 1) i cells x ∙ ap (λ n. slice_set (each_cell g (from + 1) cells) i (g n x)) there)

-- The cells that a group shields are masked.
cell_shielded : (group : Option ℕ) (shown : ℕ → Bool) (id : ℕ) (named : Bool) (other cell : Value)
    → (if is_some group then value.Bool false else (if named && is_hidden_by shown id group then other else cell))
    ≡ (if is_some group then value.Bool false else cell)
cell_shielded None shown id true other cell = refl
cell_shielded None shown id false other cell = refl
cell_shielded (Some g) shown id named other cell = refl

cells_shielded : (models : List Entity) (m id from : ℕ) (shown : ℕ → Bool) (named : ℕ → Bool) (draft cells : List Value)
    → each_cell (λ f cell. if is_guarded_at models m f then value.Bool false else cell) from
    (each_cell (λ f cell. if named f && is_hidden models shown m id f then public_cell models m id draft f cell else cell) from cells)
    ≡ each_cell (λ f cell. if is_guarded_at models m f then value.Bool false else cell) from cells
cells_shielded models m id from shown named draft [] = refl
cells_shielded models m id from shown named draft (c ∷ cells) =
    let first = cell_shielded (group_in (groups_at models m) (fields_at models m) from) shown id (named from) (public_cell models m id draft from c) c in
    let rest = cells_shielded models m id (from + 1) shown named draft cells in
    λ i. first i ∷ rest i

hidden_same : (shown other : ℕ → Bool) (id : ℕ) (group : Option ℕ) → ((g : ℕ) → group ≡ Some g → shown (label_of id g) ≡ other (label_of id g))
    → is_hidden_by shown id group ≡ is_hidden_by other id group
hidden_same shown other id None h = refl
hidden_same shown other id (Some g) h = ap not (h g refl)

-- What two drafts of a record store.
pub shielded_owned : (models : List Entity) (m id : ℕ) (v w : ℕ → Bool) (named : ℕ → Bool) (one two : List Value)
    → masked_cells models m one ≡ masked_cells models m two → (AgreeOfRecord models m id v w → one ≡ two)
    → IsOwned models m v w (plain_row id (shielded_cells models v m id named one)) (plain_row id (shielded_cells models w m id named two))
shielded_owned models m id v w named one two clear own = record {
  same_id = refl;
  clear = cells_shielded models m id 0 v named one one ∙ clear ∙ sym (cells_shielded models m id 0 w named two two);
  own = λ agree.
      let hidden : (f : ℕ) → is_hidden models v m id f ≡ is_hidden models w m id f =
      λ f. hidden_same v w id (group_in (groups_at models m) (fields_at models m) f) (λ g e. agree f g e) in
      λ i. each_cell (λ f cell. if named f && hidden f i then public_cell models m id (own agree i) f cell else cell) 0 (own agree i);
}

-- Drafts of the same values.
pub drafted_same : (models : List Entity) (fields : List Field) (one two : Expression → Value) (sets : List Assigned) (cells : List Value)
    → ((e : Expression) → is_open models e ≡ true → one e ≡ two e) → are_open_sets models sets ≡ true
    → drafted_cells models fields one sets cells ≡ drafted_cells models fields two sets cells
drafted_same models fields one two [] cells same h = refl
drafted_same models fields one two (a ∷ sets) cells same h =
    let parts = and_parts (is_open models a.value) (are_open_sets models sets) h in
    ap (λ x. drafted_cells models fields one sets (cell_set models fields (field_place fields a.field) x cells)) (same a.value parts.0)
    ∙ drafted_same models fields one two sets (cell_set models fields (field_place fields a.field) (two a.value) cells) same parts.1

set_masked : (models : List Entity) (m : ℕ) (fields : List Field) (place : Option ℕ) (x : Value) (one two : List Value)
    → masked_cells models m one ≡ masked_cells models m two
    → masked_cells models m (cell_set models fields place x one) ≡ masked_cells models m (cell_set models fields place x two)
set_masked models m fields None x one two h = h
set_masked models m fields (Some f) x one two h =
    let mask : ℕ → Value → Value = λ f cell. if is_guarded_at models m f then value.Bool false else cell in
    let y = fitting (kind_at models fields f) x in
    each_set mask 0 f one y ∙ ap (λ t. slice_set t f (mask (0 + f) y)) h ∙ sym (each_set mask 0 f two y)

pub drafted_masked : (models : List Entity) (m : ℕ) (fields : List Field) (value_of : Expression → Value) (sets : List Assigned) (one two : List Value)
    → masked_cells models m one ≡ masked_cells models m two
    → masked_cells models m (drafted_cells models fields value_of sets one) ≡ masked_cells models m (drafted_cells models fields value_of sets two)
drafted_masked models m fields value_of [] one two h = h
drafted_masked models m fields value_of (a ∷ sets) one two h =
    let place = field_place fields a.field in
    let x = value_of a.value in
    drafted_masked models m fields value_of sets (cell_set models fields place x one) (cell_set models fields place x two) (set_masked models m fields place x one two h)

-- ---- rows

module _ (models : List Entity) (m : ℕ) (v w : ℕ → Bool) where
  owned_if : (b c : Bool) (r s : PlainRow) (rows others : List PlainRow) → b ≡ c → IsOwned models m v w r s → AreOwned models m v w rows others
      → AreOwned models m v w (if b then r ∷ rows else rows) (if c then s ∷ others else others)
  owned_if true true r s rows others same first rest = (first, rest)
  owned_if false false r s rows others same first rest = rest
  owned_if true false r s rows others same first rest = absurd cc
  owned_if false true r s rows others same first rest = absurd cc

  owned_ids : (test : ℕ → Bool) (rows others : List PlainRow) → AreOwned models m v w rows others → AreOwned models m v w (with_ids test rows) (with_ids test others)
  owned_ids test [] [] h = tt
  owned_ids test [] (s ∷ others) h = absurd h
  owned_ids test (r ∷ rows) [] h = absurd h
  owned_ids test (r ∷ rows) (s ∷ others) h =
      owned_if (test r.id) (test s.id) r s (with_ids test rows) (with_ids test others) (ap test h.0.same_id) h.0 (owned_ids test rows others h.1)

  owned_append : (rows others more rest : List PlainRow) → AreOwned models m v w rows others → AreOwned models m v w more rest
      → AreOwned models m v w (rows ++ more) (others ++ rest)
  owned_append [] [] more rest h k = k
  owned_append [] (s ∷ others) more rest h k = absurd h
  owned_append (r ∷ rows) [] more rest h k = absurd h
  owned_append (r ∷ rows) (s ∷ others) more rest h k = (h.0, owned_append rows others more rest h.1 k)

  owned_row : (id : ℕ) (one two : List Value) (rows others : List PlainRow) → IsOwned models m v w (plain_row id one) (plain_row id two)
      → AreOwned models m v w rows others → AreOwned models m v w (with_row (plain_row id one) rows) (with_row (plain_row id two) others)
  owned_row id one two rows others new h =
      owned_append (with_ids (λ i. nat_lt i id) rows) (with_ids (λ i. nat_lt i id) others)
      (plain_row id one ∷ with_ids (λ i. nat_lt id i) rows) (plain_row id two ∷ with_ids (λ i. nat_lt id i) others)
      (owned_ids (λ i. nat_lt i id) rows others h) (new, owned_ids (λ i. nat_lt id i) rows others h)

  change_if : (b c : Bool) (r s : PlainRow) (one two : List Value) (rows others more rest : List PlainRow) → b ≡ c
      → (b ≡ true → IsOwned models m v w (plain_row r.id one) (plain_row s.id two)) → IsOwned models m v w r s
      → AreOwned models m v w rows others → AreOwned models m v w more rest
      → AreOwned models m v w (if b then plain_row r.id one ∷ rows else r ∷ more) (if c then plain_row s.id two ∷ others else s ∷ rest)
  change_if true true r s one two rows others more rest same new old here there = (new refl, here)
  change_if false false r s one two rows others more rest same new old here there = (old, there)
  change_if true false r s one two rows others more rest same new old here there = absurd cc
  change_if false true r s one two rows others more rest same new old here there = absurd cc

  pub owned_changed : (id : ℕ) (one two : List Value → List Value) (rows others : List PlainRow)
      → ((r s : PlainRow) → r.id ≡ id → IsOwned models m v w r s → IsOwned models m v w (plain_row r.id (one r.cells)) (plain_row s.id (two s.cells)))
      → AreOwned models m v w rows others → AreOwned models m v w (changed_rows id one rows) (changed_rows id two others)
  owned_changed id one two [] [] step h = tt
  owned_changed id one two [] (s ∷ others) step h = absurd h
  owned_changed id one two (r ∷ rows) [] step h = absurd h
  owned_changed id one two (r ∷ rows) (s ∷ others) step h =
      change_if (r.id == id) (s.id == id) r s (one r.cells) (two s.cells) rows others (changed_rows id one rows) (changed_rows id two others)
      (ap (λ n. n == id) h.0.same_id) (λ on. step r s (same_number r.id id on) h.0) h.0 h.1 (owned_changed id one two rows others step h.1)
    where
      same_number : (a b : ℕ) → (a == b) ≡ true → a ≡ b
      same_number a b on = grind (arith, nat_tests)

  drop_if : (b c : Bool) (r s : PlainRow) (rows others more rest : List PlainRow) → b ≡ c → IsOwned models m v w r s
      → AreOwned models m v w rows others → AreOwned models m v w more rest
      → AreOwned models m v w (if b then rows else r ∷ more) (if c then others else s ∷ rest)
  drop_if true true r s rows others more rest same old here there = here
  drop_if false false r s rows others more rest same old here there = (old, there)
  drop_if true false r s rows others more rest same old here there = absurd cc
  drop_if false true r s rows others more rest same old here there = absurd cc

  pub owned_without : (id : ℕ) (rows others : List PlainRow) → AreOwned models m v w rows others → AreOwned models m v w (without id rows) (without id others)
  owned_without id [] [] h = tt
  owned_without id [] (s ∷ others) h = absurd h
  owned_without id (r ∷ rows) [] h = absurd h
  owned_without id (r ∷ rows) (s ∷ others) h =
      drop_if (r.id == id) (s.id == id) r s rows others (without id rows) (without id others) (ap (λ n. n == id) h.0.same_id) h.0 h.1 (owned_without id rows others h.1)

-- ---- tables

owned_rows : (models : List Entity) (from i m : ℕ) (v w : ℕ → Bool) (tables more : List (List PlainRow)) → m ≡ from + i
    → AreOwnedTables models from v w tables more → AreOwned models m v w (rows_of tables i) (rows_of more i)
owned_rows models from zero m v w [] [] e h = tt
owned_rows models from (suc i) m v w [] [] e h = tt
owned_rows models from i m v w [] (others ∷ more) e h = absurd h
owned_rows models from i m v w (rows ∷ tables) [] e h = absurd h
owned_rows models from zero m v w (rows ∷ tables) (others ∷ more) e h =
    let here : from ≡ m = omega (arith, e) in subst (λ n. AreOwned models n v w rows others) here h.0
owned_rows models from (suc i) m v w (rows ∷ tables) (others ∷ more) e h = owned_rows models (from + 1) i m v w tables more (omega (arith, e)) h.1

owned_set : (models : List Entity) (from i m : ℕ) (v w : ℕ → Bool) (tables more : List (List PlainRow)) (rows others : List PlainRow) → m ≡ from + i
    → AreOwnedTables models from v w tables more → AreOwned models m v w rows others → AreOwnedTables models from v w (slice_set tables i rows) (slice_set more i others)
owned_set models from zero m v w [] [] new news e h k = tt
owned_set models from (suc i) m v w [] [] new news e h k = tt
owned_set models from i m v w [] (others ∷ more) new news e h k = absurd h
owned_set models from i m v w (rows ∷ tables) [] new news e h k = absurd h
owned_set models from zero m v w (rows ∷ tables) (others ∷ more) new news e h k =
    let here : m ≡ from = omega (arith, e) in (subst (λ n. AreOwned models n v w new news) here k, h.1)
owned_set models from (suc i) m v w (rows ∷ tables) (others ∷ more) new news e h k =
    (h.0, owned_set models (from + 1) i m v w tables more new news (omega (arith, e)) h.1 k)

pub owned_with : (models : List Entity) (m id : ℕ) (v w : ℕ → Bool) (one two : List Value) (tables more : List (List PlainRow))
    → IsOwned models m v w (plain_row id one) (plain_row id two) → AreOwnedTables models 0 v w tables more
    → AreOwnedTables models 0 v w (tables_with m (plain_row id one) tables) (tables_with m (plain_row id two) more)
owned_with models m id v w one two tables more new h =
    owned_set models 0 m m v w tables more (with_row (plain_row id one) (rows_of tables m)) (with_row (plain_row id two) (rows_of more m)) (omega arith) h
    (owned_row models m v w id one two (rows_of tables m) (rows_of more m) new (owned_rows models 0 m m v w tables more (omega arith) h))

-- A step on the record to which a value refers.
pub owned_after : (models : List Entity) (m : ℕ) (v w : ℕ → Bool) (target : Value) (one two : ℕ → List PlainRow → List PlainRow) (tables more : List (List PlainRow))
    → ((id : ℕ) (rows others : List PlainRow) → AreOwned models m v w rows others → AreOwned models m v w (one id rows) (two id others))
    → AreOwnedTables models 0 v w tables more → AreOwnedTables models 0 v w (tables_after m target one tables) (tables_after m target two more)
owned_after models m v w (value.Ref (Some id)) one two tables more step h =
    owned_set models 0 m m v w tables more (one id (rows_of tables m)) (two id (rows_of more m)) (omega arith) h
    (step id (rows_of tables m) (rows_of more m) (owned_rows models 0 m m v w tables more (omega arith) h))
owned_after models m v w (value.Ref None) one two tables more step h = h
owned_after models m v w (value.Int i) one two tables more step h = h
owned_after models m v w (value.Text t) one two tables more step h = h
owned_after models m v w (value.Bool b) one two tables more step h = h

-- ---- states that are the same under each assignment

rows_alone : (models : List Entity) (m : ℕ) (v w : ℕ → Bool) (rows : List PlainRow) → AreOwned models m v w rows rows
rows_alone models m v w [] = tt
rows_alone models m v w (r ∷ rows) = (record { same_id = refl; clear = refl; own = λ agree. refl }, rows_alone models m v w rows)

pub tables_alone : (models : List Entity) (m : ℕ) (v w : ℕ → Bool) (tables : List (List PlainRow)) → AreOwnedTables models m v w tables tables
tables_alone models m v w [] = tt
tables_alone models m v w (rows ∷ tables) = (rows_alone models m v w rows, tables_alone models (m + 1) v w tables)
