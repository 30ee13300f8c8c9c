-- Which states are well formed. Good states are defined by what each assignment shows, and by
-- guards. The cells of sound states may be of any kind.
use Rattle.std.specs.Prelude.{◌≡◌, ℕ, ◌+◌, ◌<◌, ◌≤◌, ◌^◌, Bool, true, false, ◌&&◌, List, [], ◌∷◌, IsSomeAnd, slice_get, ⊤}
use Rattle.std.specs.List.{AllByRecursion}
use Rattle.jac_value.specs.Ids.{model_of_id, number_of_id, is_wide, is_id_of}
use Rattle.jac_value.specs.Values.{has_kind}
use Rattle.jac_value.specs.declared.value.Kind.{Kind}
use Rattle.jac_value.specs.declared.value.Value.{Value}
use Rattle.jac_world.specs.World.{IsRisingBy}
use Rattle.jac_rows.specs.Apart.{IsTable}
use Rattle.jac_rows.specs.Project.{project_at}
use Rattle.jac_rows.specs.declared.row.Row.{Row}
use Rattle.jac_rows.specs.declared.plain.PlainRow.{PlainRow}
use Rattle.jac_rows.specs.declared.state.State.{State}
use Rattle.jac_rows.specs.declared.plain.PlainState.{PlainState}

-- One cell for each field, of the field's kind.
abbrev pub have_kinds : List Kind → List Value → Bool
have_kinds [] [] = true
have_kinds (k ∷ ks) (v ∷ vs) = has_kind k v && have_kinds ks vs
have_kinds [] (v ∷ vs) = false
have_kinds (k ∷ ks) [] = false

-- What is known of a model: the kinds of its fields, and whether its records are made in loops.
pub record ModelShape : Type 0 where
  pub kinds : List Kind
  pub nested : Bool

-- The id is that of a record of the model, made by a request with a number below `next`.
pub record IsMade (model next id : ℕ) : Type 0 where
  pub of_model : model_of_id id ≡ model
  pub is_one : is_id_of id model ≡ true
  pub numbered : 0 < number_of_id id
  pub made : number_of_id id < next

-- The cells have the kinds of the model's fields, and the id is wide exactly if the model is
-- nested.
pub record IsShaped (shape : ModelShape) (id : ℕ) (cells : List Value) : Type 0 where
  pub fit : have_kinds shape.kinds cells ≡ true
  pub wide : is_wide id ≡ shape.nested

-- A record of the model, with cells and an id of the model's shape. A model without a shape has no
-- records.
pub record IsRecord (shapes : List ModelShape) (model next id : ℕ) (cells : List Value) : Type 0
  where
    pub made : IsMade model next id
    pub fit : IsSomeAnd (slice_get shapes model) (λ s. IsShaped s id cells)

module _ {X : Type 0} (IsRows : List X → Type 0) (IsRow : ℕ → X → Type 0) where
  -- The tables of the given model and those after it: the rows of each are those of a table, and
  -- each row is one of its model.
  abbrev pub AreTablesOf : ℕ → List (List X) → Type 0
  AreTablesOf model [] = ⊤
  AreTablesOf model (t ∷ ts) = IsRows t × AllByRecursion (IsRow model) t
      × AreTablesOf (model + 1) ts

-- Each id once, in rising order.
abbrev pub ArePlainRows : List PlainRow → Type 0
ArePlainRows rows = IsRisingBy (λ (r : PlainRow). r.id) rows

-- Ids rise, and no two guards of one record hold together.
abbrev pub AreRising : List Row → Type 0
AreRising rows = IsTable (λ (r : Row). r.id) (λ r. r.guard) rows

-- The next number of a request.
abbrev pub IsNext : ℕ → Type 0
IsNext n = (1 ≤ n) × (n ≤ 2 ^ 40)

abbrev pub ArePlain : List ModelShape → ℕ → ℕ → List (List PlainRow) → Type 0
ArePlain shapes next = AreTablesOf ArePlainRows (λ model (r : PlainRow). IsRecord shapes model next
    r.id r.cells)

abbrev pub IsGoodPlain : List ModelShape → PlainState → Type 0
IsGoodPlain shapes t = IsNext t.number × ArePlain shapes t.number 0 t.tables

-- Every assignment shows a good plain state.
abbrev pub IsGood : List ModelShape → State → Type 0
IsGood shapes s = (w : ℕ → Bool) → IsGoodPlain shapes (project_at w s)

abbrev pub AreGuarded : List ModelShape → ℕ → ℕ → List (List Row) → Type 0
AreGuarded shapes next = AreTablesOf AreRising (λ model (r : Row). IsRecord shapes model next r.id
    r.cells)

-- Good states, defined by the rows and their guards.
abbrev pub IsGoodByGuards : List ModelShape → State → Type 0
IsGoodByGuards shapes s = IsNext s.number × AreGuarded shapes s.number 0 s.tables

abbrev pub AreSound : ℕ → ℕ → List (List Row) → Type 0
AreSound next = AreTablesOf AreRising (λ model (r : Row). IsMade model next r.id)

-- A state as in `IsGoodByGuards`, except that the shape of its ids and cells isn't tested.
pub record IsSound (s : State) : Type 0 where
  pub next : IsNext s.number
  pub tables : AreSound s.number 0 s.tables
