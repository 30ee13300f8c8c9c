-- Rows that are made of values, one after another.
use Rattle.std.proofs.Common.{◌≡◌, ℕ, suc, ◌+◌, ◌<◌, ◌≤◌, List, [], ◌∷◌, ◌++◌, length, get_or, drop, drop-cons, append_assoc, append-nil, Result, Ok, Err, IfOk, IfErr, OnOk, sym, subst, ◌∙◌, arith}
use Rattle.std.specs.List.{AllByRecursion}
use Rattle.std.proofs.lemmas.List.{drop_all}
use Rattle.sqlite_value.specs.Order.{Row as Values, column}
use Rattle.sqlite_value.specs.declared.value.Value.TheVariants.{Blob}
use Rattle.sqlite_trees.specs.declared.store.Store.{Ghosts}
use Rattle.sqlite_schema.specs.declared.schema.Schema.{Schema}
use Rattle.jac_sql_spec.specs.Tables.{no_tables}
use Rattle.sqlite.specs.declared.error.Error.{Error}
use Rattle.sqlite.specs.State.{Shown, QueriesRow}
use Rattle.sqlite.specs.Held.{Held, state}
use Rattle.jac_value.specs.declared.value.Kind.{Kind}
use Rattle.jac_rows.specs.declared.row.Row.{Row}
use Rattle.jac_row_codec.specs.Faults.{IsIdOf}
use Rattle.jac_sql_spec.specs.Statements.{SqlStatement, reading}
use Rattle.jac_sql_spec.specs.Founding.{IsNumberAsked, IsFrom}
use Rattle.jac_sql_spec.specs.Reading.{Each, IsRowIn, IsModelRow, AreShown}

-- The rows made so far, followed by the rows of the values from a place on, are the rows of all
-- values.
pub record MadeTo (Is : Values → Row → Type 0) (found : List Values) (at : ℕ) (made : List Row) : Type 0 where
  pub leads : (more : List Row) → Each Is (drop at found) more → Each Is found (made ++ more)

module _ (Is : Values → Row → Type 0) (found : List Values) where
  pub each_start : MadeTo Is found 0 []
  each_start = record { leads = λ more each. each }

  pub each_next : (at : ℕ) (made : List Row) (values : Values) (row : Row) → at < length found → values ≡ get_or found at values → Is values row → MadeTo Is found at made
      → MadeTo Is found (at + 1) (made ++ row ∷ [])
  each_next at made values row within item is so = record {
    leads = λ more each.
        let next : suc at ≡ at + 1 = omega arith in
        let step : drop at found ≡ values ∷ drop (at + 1) found = drop-cons found at values within ∙ (λ i. sym item i ∷ drop (next i) found) in
        subst (Each Is found) (sym (append_assoc made (row ∷ []) more)) (so.leads (row ∷ more) (subst (λ (l : List Values). Each Is l (row ∷ more)) (sym step) (is, each)));
  }

  pub each_end : (at : ℕ) (made : List Row) → length found ≤ at → MadeTo Is found at made → Each Is found made
  each_end at made behind so = subst (Each Is found) (append-nil made) (so.leads [] (subst (λ (l : List Values). Each Is l []) (sym (drop_all at found behind)) tt))

-- A row of a model after its id was read.
pub model_row : (model : ℕ) (kinds : List Kind) (values : Values) (jid : List ℕ) (id : ℕ) → column values 0 ≡ Blob jid → IsIdOf jid model id
    → (r : Result Row Error) → IfOk r (IsRowIn 1 2 kinds values id) → IfOk r (IsModelRow model kinds values)
model_row model kinds values jid id stored spelled (Ok row) rest =
    let same : id ≡ row.id = sym rest.spelled.same_id in
    record { jid = jid; id_stored = stored; id_spelled = subst (IsIdOf jid model) same spelled; rest = subst (λ (n : ℕ). IsRowIn 1 2 kinds values n row) same rest }
model_row model kinds values jid id stored spelled (Err e) rest = tt

-- All rows that were shown, if the query was answered.
pub are_shown : {S V : Type 0} (items : V → List Values) (g : Ghosts S) (question : SqlStatement) (Is : Values → Row → Type 0) (old new : Held S) (answer : Result V Error) (r : Result (List Row) Error)
    → IfOk answer (λ v. Shown question.text question.params (state g old) (state g new) (items v)) → IfOk answer (λ v. IfOk r (Each Is (items v))) → IfErr answer (λ e. r ≡ Err e)
    → IfOk r (AreShown g question Is old new)
are_shown items g question Is old new (Ok v) (Ok rows) shown each none = record { found = items v; shown = shown; each = each }
are_shown items g question Is old new (Ok v) (Err e) shown each none = tt
are_shown items g question Is old new (Err e) r shown each none = subst (λ (x : Result (List Row) Error). IfOk x (AreShown g question Is old new)) (sym none) tt

-- The number that was queried.
pub is_asked : {S : Type 0} (g : Ghosts S) (old new : Held S) (answer : Result Values Error) (r : Result ℕ Error)
    → QueriesRow reading [] (state g old) (state g new) answer → IsFrom answer r → IfOk r (IsNumberAsked g old new)
is_asked g old new (Ok row) (Ok n) asked from = record { row = row; asked = asked; has = from }
is_asked g old new (Ok row) (Err e) asked from = tt
is_asked g old new (Err e) r asked from = subst (λ (x : Result ℕ Error). IfOk x (IsNumberAsked g old new)) (sym from) tt

-- All rows from a place on are the row there and those after it.
pub all_from : {X : Type 0} (P : X → Type 0) (xs : List X) (at : ℕ) (x : X) → at < length xs → x ≡ get_or xs at x → P x → AllByRecursion P (drop (at + 1) xs) → AllByRecursion P (drop at xs)
all_from P xs at x within item is more =
    let next : suc at ≡ at + 1 = omega arith in
    let step : drop at xs ≡ x ∷ drop (at + 1) xs = drop-cons xs at x within ∙ (λ i. sym item i ∷ drop (next i) xs) in
    subst (AllByRecursion P) (sym step) (is, more)

pub all_behind : {X : Type 0} (P : X → Type 0) (xs : List X) (at : ℕ) → length xs ≤ at → AllByRecursion P (drop at xs)
all_behind P xs at behind = subst (AllByRecursion P) (sym (drop_all at xs behind)) tt

pub on_ok : {T E P : Type 0} (r : Result T E) → P → OnOk r P
on_ok (Ok t) p = p
on_ok (Err e) p = tt

pub no_schema : (s : Schema) → s.tables ≡ [] → s.indexes ≡ [] → s.views ≡ [] → s ≡ no_tables
no_schema s tables indexes views = λ i. record { tables = tables i; indexes = indexes i; views = views i }
