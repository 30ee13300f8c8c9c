-- The statements that replace whole records, which are all of a change but its number.
use Rattle.std.proofs.Common.{◌≡◌, ◌≢◌, ◌⊎◌, inl, inr, ℕ, zero, suc, ◌+◌, ◌<◌, ◌^◌, ◌==◌, Bool, true, false, if◌then◌else◌, List, [], ◌∷◌, ◌++◌, length, append_assoc, append-nil, Ok, refl, sym, ap, ap₂, subst, ◌∙◌, arith}
use Rattle.std.specs.List.{AllByRecursion}
use Rattle.std.proofs.lemmas.Bool.{cases_lt}
use Rattle.sqlite.specs.State.{Executes}
use Rattle.jac_sql_spec.proofs.Texts.{add_text}
use Rattle.jac_sql_spec.proofs.Went.{columns}
use Rattle.jac_row_codec.specs.Spelling.{guard_bytes, cells_bytes}
use Rattle.sqlite_trees.specs.declared.store.Store.{Ghosts}
use Rattle.sqlite.specs.Held.{Held, state}
use Rattle.jac_value.specs.Ids.{model_of_id}
use Rattle.jac_rows.specs.declared.row.Row.{Row}
use Rattle.jac_rows.specs.declared.state.State.{State}
use Rattle.jac_keep.specs.declared.alteration.Alteration.{Alteration}
use Rattle.jac_keep.specs.Alterations.{AreOwn, ArePlaced, altered_rows, overlaid, overlaid_from}
use Rattle.jac_keep.specs.Records.{with_id, before, behind, placed_rows, AreOf, AreOrdered}
use Rattle.jac_keep.specs.ChangedState.{state_with}
use Rattle.jac_keep.proofs.SoundLaws.{all-with_id, all-append}
use Rattle.jac_keep.proofs.OrderLaws.{ordered-placed}
use Rattle.jac_sql_spec.specs.Facts.{id_bytes, IsPlaced, ArePlacedFrom, AreKept}
use Rattle.jac_sql_spec.specs.Stands.{Stands}
use Rattle.jac_sql_spec.specs.Statements.{SqlStatement, removal, addition, additions, replacement, replacements}
use Rattle.jac_sql_spec.specs.Transaction.{Ran}
use Rattle.jac_sql_spec.specs.Stands.{AreNarrow}
use Rattle.jac_sql_spec.proofs.IdOrder.{cases_same}
use Rattle.jac_sql_spec.proofs.Written.{removed, added}

-- ---- the tables after an alteration are in order too

all_of_id : (id : ℕ) (rows : List Row) → id < 2 ^ 128 → AreOf id rows → AllByRecursion (IsPlaced (model_of_id id)) rows
all_of_id id [] room own = tt
all_of_id id (r ∷ rs) room own = (record { of_model = ap model_of_id own.0; room = subst (λ i. i < 2 ^ 128) (sym own.0) room }, all_of_id id rs room own.1)

placed_all : (model id : ℕ) (new rows : List Row) → AllByRecursion (IsPlaced model) new → AllByRecursion (IsPlaced model) rows → AllByRecursion (IsPlaced model) (placed_rows id new rows)
placed_all model id new rows own all =
    all-append (IsPlaced model) (before id rows ++ new) (behind id rows)
    (all-append (IsPlaced model) (before id rows) new (all-with_id (IsPlaced model) _ rows all) own) (all-with_id (IsPlaced model) _ rows all)

pub kept_with : (first id : ℕ) (new : List Row) (tables : List (List Row)) → id < 2 ^ 128 → AreOf id new → ArePlacedFrom first tables
    → ArePlacedFrom first (overlaid_from first (record { id = id; rows = new } ∷ []) tables)
kept_with first id new [] room own kept = tt
kept_with first id new (t ∷ ts) room own kept = elim (cases_same (model_of_id id) first) [
  | inl here ↦ (
      let e : (model_of_id id == first) ≡ true = grind (arith, here) in
      rw e (ordered-placed id new t own kept.0, placed_all first id new t (subst (λ m. AllByRecursion (IsPlaced m) new) here (all_of_id id new room own)) kept.1, kept_with (first + 1) id new ts room own kept.2))
  | inr away ↦ (
      let e : (model_of_id id == first) ≡ false = grind (arith, away) in
      rw e (kept.0, kept.1, kept_with (first + 1) id new ts room own kept.2))
]

pub long_with : (first : ℕ) (rest : List Alteration) (tables : List (List Row)) → length (overlaid_from first rest tables) ≡ length tables
long_with first rest [] = refl
long_with first rest (t ∷ ts) = ap suc (long_with (first + 1) rest ts)

one_then : (first : ℕ) (a : Alteration) (rest : List Alteration) (tables : List (List Row)) → overlaid_from first (a ∷ rest) tables ≡ overlaid_from first rest (overlaid_from first (a ∷ []) tables)
one_then first a rest [] = refl
one_then first a rest (t ∷ ts) = ap (λ l. altered_rows first (a ∷ rest) t ∷ l) (one_then (first + 1) a rest ts)

none_then : (first : ℕ) (tables : List (List Row)) → overlaid_from first [] tables ≡ tables
none_then first [] = refl
none_then first (t ∷ ts) = ap (λ l. t ∷ l) (none_then (first + 1) ts)

-- ---- statements

module _ {S : Type 0} (g : Ghosts S) (schema : List ℕ) where
  abbrev StandsIn : Held S → State → Type 0
  StandsIn h s = Stands schema (state g h).now s

  pub ran_split : (xs ys : List SqlStatement) (a c : Held S) → Ran g (xs ++ ys) a c → (b : Held S) × Ran g xs a b × Ran g ys b c
  ran_split [] ys a c ran = (a, refl, ran)
  ran_split (x ∷ xs) ys a c ran = let more = ran_split xs ys ran.0 c ran.3 in (more.0, (ran.0, ran.1, ran.2, more.1), more.2)

  pub one_removed : (id : ℕ) (a b : Held S) (s : State) → id < 2 ^ 128 → AreKept s.tables → Ran g (removal id ∷ []) a b → StandsIn a s → StandsIn b (state_with id [] s)
  unfolding removal
  one_removed id a b s room kept ran st =
      subst (λ h. StandsIn h (state_with id [] s)) (sym ran.3) (removed schema (state g a) (state g ran.0) id ran.1 s room kept st ran.2.0)

  pub one_added : (id : ℕ) (xs : List Row) (r : Row) (a b : Held S) (s : State) → AreOf id xs → r.id ≡ id → model_of_id id < length s.tables
      → Ran g (addition (length xs) r ∷ []) a b → StandsIn a (state_with id xs s) → StandsIn b (state_with id (xs ++ r ∷ []) s)
  unfolding addition
  one_added id xs r a b s own is within ran st =
      subst (λ h. StandsIn h (state_with id (xs ++ r ∷ []) s)) (sym ran.3)
      (added schema (state g a) (state g ran.0) id ran.1 xs r s own is within st
      (subst (λ m. Executes add_text (columns m (id_bytes r.id) (length xs) (guard_bytes r.guard) (cells_bytes r.cells)) (state g a) (state g ran.0) (Ok ran.1)) (ap model_of_id is) ran.2.0))

  own_push : (id : ℕ) (xs : List Row) (r : Row) → AreOf id xs → r.id ≡ id → AreOf id (xs ++ r ∷ [])
  own_push id [] r own is = (is, tt)
  own_push id (x ∷ xs) r own is = (own.0, own_push id xs r own.1 is)

  long_push : (xs : List Row) (r : Row) → length (xs ++ r ∷ []) ≡ length xs + 1
  long_push [] r = refl
  long_push (x ∷ xs) r = let more = long_push xs r in let one : length (x ∷ xs) ≡ suc (length xs) = refl in ap suc more ∙ omega (arith, one)

  pub each_added : (id : ℕ) (xs rest : List Row) (alt : ℕ) (a b : Held S) (s : State) → alt ≡ length xs → AreOf id xs → AreOf id rest → model_of_id id < length s.tables
      → Ran g (additions alt rest) a b → StandsIn a (state_with id xs s) → StandsIn b (state_with id (xs ++ rest) s)
  each_added id xs [] alt a b s at own more within ran st =
      subst (λ h. StandsIn h (state_with id (xs ++ []) s)) (sym ran) (subst (λ l. StandsIn a (state_with id l s)) (sym (append-nil xs)) st)
  each_added id xs (r ∷ rest) alt a b s at own more within ran st =
      let one : Ran g (addition (length xs) r ∷ []) a ran.0 = subst (λ n. Ran g (addition n r ∷ []) a ran.0) at (ran.0, ran.1, ran.2, refl) in
      subst (λ l. StandsIn b (state_with id l s)) (append_assoc xs (r ∷ []) rest)
      (each_added id (xs ++ r ∷ []) rest (alt + 1) ran.0 b s (ap (λ n. n + 1) at ∙ sym (long_push xs r)) (own_push id xs r own more.0) more.1 within ran.3
      (one_added id xs r a ran.0 s own more.0 within one st))

  -- A record is replaced.
  pub replaced : (x : Alteration) (a b : Held S) (s : State) → x.id < 2 ^ 128 → AreOf x.id x.rows → model_of_id x.id < length s.tables → AreKept s.tables
      → Ran g (replacement x) a b → StandsIn a s → StandsIn b (state_with x.id x.rows s)
  replaced x a b s room own within kept ran st =
      each_added x.id [] x.rows 0 ran.0 b s refl tt own within ran.3 (one_removed x.id a ran.0 s room kept (ran.0, ran.1, ran.2, refl) st)

  -- Several records are replaced, one after another.
  pub replaced_each : (xs : List Alteration) (a b : Held S) (s : State) → AreNarrow xs → AreOwn xs → ArePlaced xs (length s.tables) → AreKept s.tables
      → Ran g (replacements xs) a b → StandsIn a s → StandsIn b (record s { tables = overlaid xs s.tables })
  replaced_each [] a b s narrow own within kept ran st =
      subst (λ h. StandsIn h (record s { tables = overlaid [] s.tables })) (sym ran) (subst (λ ts. StandsIn a (record s { tables = ts })) (sym (none_then 0 s.tables)) st)
  replaced_each (x ∷ xs) a b s narrow own within kept ran st =
      let parts = ran_split (replacement x) (replacements xs) a b ran in
      let mid = state_with x.id x.rows s in
      let one = replaced x a parts.0 s narrow.0 own.0 within.0 kept parts.1 st in
      let long : length mid.tables ≡ length s.tables = long_with 0 (x ∷ []) s.tables in
      subst (λ ts. StandsIn b (record s { tables = ts })) (sym (one_then 0 x xs s.tables))
      (replaced_each xs parts.0 b mid narrow.1 own.1 (subst (λ n. ArePlaced xs n) (sym long) within.1) (kept_with 0 x.id x.rows s.tables narrow.0 own.0 kept) parts.2 one)
