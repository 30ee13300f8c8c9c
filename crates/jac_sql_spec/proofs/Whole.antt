-- A whole change.
use Rattle.std.proofs.Common.{◌≡◌, ℕ, pos, List, [], ◌∷◌, Some, length, Ok, refl, sym, subst, ◌∙◌}
use Rattle.sqlite_trees.specs.declared.store.Store.{Ghosts}
use Rattle.sqlite_value.specs.declared.value.Value.TheVariants.{Int}
use Rattle.sqlite.specs.State.{State as Sql, Executes}
use Rattle.sqlite.specs.Held.{Held, state}
use Rattle.jac_rows.specs.declared.state.State.{State}
use Rattle.jac_keep.specs.declared.alteration.Change.{Change}
use Rattle.jac_keep.specs.Alterations.{AreOwn, ArePlaced, overlaid}
use Rattle.jac_keep.specs.ChangedState.{changed_state}
use Rattle.jac_sql_spec.specs.Facts.{facts, AreKept}
use Rattle.jac_sql_spec.proofs.Texts.{set_text}
use Rattle.jac_sql_spec.specs.Stands.{Holds, Stands}
use Rattle.jac_sql_spec.specs.Statements.{SqlStatement, numbering, reshaping, replacements, sql_statements, statements_with}
use Rattle.jac_sql_spec.specs.Transaction.{Ran}
use Rattle.jac_sql_spec.specs.Stands.{AreNarrow}
use Rattle.jac_sql_spec.proofs.Numbered.{Sets, sets, reshapes}
use Rattle.jac_sql_spec.proofs.Changed.{ran_split, replaced_each}

pub number_set : (schema : List ℕ) (old new : Sql) (m count : ℕ) (s : State) → Stands schema old.now s → Executes set_text (Int (pos m) ∷ []) old new (Ok count) → Stands schema new.now (record s { number = m })
number_set schema old new m count s st h =
    let r : Sets old new m schema = sets old new m s.number count schema st.schema_is st.meta h in
    record { schema_is = r.schema_is; meta = r.meta_is; rec = subst (λ rows. Holds rows (facts s.tables)) (sym r.rec_is) st.rec }

module _ {S : Type 0} (g : Ghosts S) (schema : List ℕ) where
  pub one_numbered : (m : ℕ) (a b : Held S) (s : State) → Ran g (numbering m ∷ []) a b → Stands schema (state g a).now s → Stands schema (state g b).now (record s { number = m })
  unfolding numbering
  one_numbered m a b s ran st = subst (λ h. Stands schema (state g h).now (record s { number = m })) (sym ran.3) (number_set schema (state g a) (state g ran.0) m ran.1 s st ran.2.0)

  -- The statements of a change lead from a state to the changed state.
  pub changed : (c : Change) (a b : Held S) (s : State) → AreNarrow c.changed → AreOwn c.changed → ArePlaced c.changed (length s.tables) → AreKept s.tables
      → Ran g (sql_statements c) a b → Stands schema (state g a).now s → Stands schema (state g b).now (changed_state c s)
  changed c a b s narrow own within kept ran st =
      let parts = ran_split g schema (replacements c.changed) (numbering c.number ∷ []) a b ran in
      let mid : State = record s { tables = overlaid c.changed s.tables } in
      one_numbered c.number parts.0 b mid parts.2 (replaced_each g schema c.changed a parts.0 s narrow own within kept parts.1 st)

  pub one_reshaped : (m : ℕ) (after : List ℕ) (a b : Held S) (s : State) → Ran g (reshaping m after ∷ []) a b → Stands schema (state g a).now s → Stands after (state g b).now (record s { number = m })
  unfolding reshaping
  one_reshaped m after a b s ran st =
      let r : Sets (state g a) (state g ran.0) m after = reshapes (state g a) (state g ran.0) m s.number ran.1 schema after st.schema_is st.meta ran.2.0 in
      subst (λ h. Stands after (state g h).now (record s { number = m })) (sym ran.3)
      (record { schema_is = r.schema_is; meta = r.meta_is; rec = subst (λ rows. Holds rows (facts s.tables)) (sym r.rec_is) st.rec })

  -- So do the statements of a change that brings another schema.
  pub reshaped : (c : Change) (after : List ℕ) (a b : Held S) (s : State) → AreNarrow c.changed → AreOwn c.changed → ArePlaced c.changed (length s.tables) → AreKept s.tables
      → Ran g (statements_with c (Some after)) a b → Stands schema (state g a).now s → Stands after (state g b).now (changed_state c s)
  reshaped c after a b s narrow own within kept ran st =
      let parts = ran_split g schema (replacements c.changed) (reshaping c.number after ∷ []) a b ran in
      let mid : State = record s { tables = overlaid c.changed s.tables } in
      one_reshaped c.number after parts.0 b mid parts.2 (replaced_each g schema c.changed a parts.0 s narrow own within kept parts.1 st)
