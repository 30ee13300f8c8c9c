-- Worlds in which the cells of a record depend only on its own labels, and statements that keep
-- this because they read no guarded field.
use Rattle.std.specs.Prelude.{◌≡◌, ℕ, ◌+◌, ◌&&◌, Bool, true, List, [], ◌∷◌, Some, None, slice_get, ⊤}
use Rattle.jac_value.specs.Ids.{label_of}
use Rattle.jac_lang.specs.declared.pages.Verb.{Verb}
use Rattle.jac_lang.specs.declared.pages.Verb.TheVariants as verbs
use Rattle.jac_lang.specs.Lookup.{fields_at, groups_at, group_in, hiding_place}
use Rattle.jac_lang.specs.Syntax.{Entity, Assigned, Statement, Statements, Application}
use Rattle.jac_rows.specs.declared.plain.PlainRow.{PlainRow}
use Rattle.jac_plain.specs.Requests.{Worlds, body_in, method_in}
use Rattle.jac_open_app_laws.specs.Open.{is_open, is_open_order, masked_cells}

-- The assignments agree on the record's labels of those groups that guard a field of the model at
-- this place.
abbrev pub AgreeOfRecord : List Entity → ℕ → ℕ → (ℕ → Bool) → (ℕ → Bool) → Type 0
AgreeOfRecord models m id v w =
    (f g : ℕ) → group_in (groups_at models m) (fields_at models m) f ≡ Some g
    → v (label_of id g) ≡ w (label_of id g)

-- A record under two assignments: equal except for guarded cells, and equal if the assignments
-- agree on its labels.
pub record IsOwned (models : List Entity) (m : ℕ) (v w : ℕ → Bool) (r s : PlainRow) : Type 0 where
  pub same_id : r.id ≡ s.id
  pub clear : masked_cells models m r.cells ≡ masked_cells models m s.cells
  pub own : AgreeOfRecord models m r.id v w → r.cells ≡ s.cells

-- The same of each record of a table.
abbrev pub AreOwned : List Entity → ℕ → (ℕ → Bool) → (ℕ → Bool) → List PlainRow → List PlainRow
    → Type 0
AreOwned models m v w [] [] = ⊤
AreOwned models m v w [] (s ∷ others) = ⊥
AreOwned models m v w (r ∷ rows) [] = ⊥
AreOwned models m v w (r ∷ rows) (s ∷ others) =
    IsOwned models m v w r s × AreOwned models m v w rows others

-- The same of the tables of the models from this place on.
abbrev pub AreOwnedTables : List Entity → ℕ → (ℕ → Bool) → (ℕ → Bool)
    → List (List PlainRow) → List (List PlainRow) → Type 0
AreOwnedTables models m v w [] [] = ⊤
AreOwnedTables models m v w [] (rows ∷ others) = ⊥
AreOwnedTables models m v w (rows ∷ tables) [] = ⊥
AreOwnedTables models m v w (rows ∷ tables) (others ∷ more) =
    AreOwned models m v w rows others × AreOwnedTables models (m + 1) v w tables more

-- Which records there are and what their unguarded cells hold depends on no label, and what a
-- guarded cell holds depends only on labels of its own record.
pub record DependOnOwn (app : Application) (worlds : Worlds) : Type 0 where
  pub numbered : (v w : ℕ → Bool) → (worlds v).number ≡ (worlds w).number
  pub tables :
      (v w : ℕ → Bool) → AreOwnedTables app.models 0 v w (worlds v).tables (worlds w).tables

-- No model has a group that hides its records.
abbrev pub HideNothing : List Entity → Type 0
HideNothing models = (m : ℕ) → hiding_place (groups_at models m) ≡ None

-- The new values of the fields read no guarded field.
abbrev pub are_open_sets : List Entity → List Assigned → Bool
are_open_sets models [] = true
are_open_sets models (a ∷ rest) = is_open models a.value && are_open_sets models rest

abbrev mutual
  -- The statement reads no field that a group guards. It may write such fields.
  pub reads_openly : List Entity → Statement → Bool
  reads_openly models (Statement.put e) = is_open models e
  reads_openly models (Statement.escape e) = is_open models e
  reads_openly models (Statement.bind x e body) = is_open models e && read_openly models body
  reads_openly models (Statement.assign x e) = is_open models e
  reads_openly models (Statement.branch c first second) =
      is_open models c && (read_openly models first && read_openly models second)
  reads_openly models (Statement.each q body) =
      is_open models q.cond && (is_open_order models q.binders q.order && read_openly models body)
  reads_openly models (Statement.create x m site cells body) =
      are_open_sets models cells && read_openly models body
  reads_openly models (Statement.update m e cells) = is_open models e && are_open_sets models cells
  reads_openly models (Statement.delete m e) = is_open models e
  reads_openly models Statement.missing = true
  reads_openly models (Statement.redirect e) = is_open models e
  reads_openly models (Statement.template t) = true
  reads_openly models (Statement.block body) = read_openly models body

  pub read_openly : List Entity → Statements → Bool
  read_openly models Statements.none = true
  read_openly models (Statements.more s rest) = reads_openly models s && read_openly models rest

-- What a view with this method stores depends on no guarded field: the view reads none, or it
-- stores nothing.
abbrev pub stores_openly : List Entity → Verb → Statements → Bool
stores_openly models verbs.Get body = true
stores_openly models verbs.Post body = read_openly models body

-- The same of the view at this place.
abbrev pub is_stored_openly : Application → ℕ → Bool
is_stored_openly app n =
    stores_openly app.models (method_in (slice_get app.views n)) (body_in (slice_get app.views n))
