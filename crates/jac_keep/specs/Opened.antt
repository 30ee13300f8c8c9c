-- Tables whose rows were taken out to be altered.
use Rattle.std.specs.Prelude.{◌≡◌, ℕ, ◌+◌, ◌≤◌, Bool, if◌then◌else◌, List, [], ◌∷◌, ⊤, vec_len, vec_capacity}
use Rattle.jac_rows.specs.declared.row.Row.{Row}
use Rattle.jac_keep.specs.declared.alteration.Alteration.{Alteration}
use Rattle.jac_keep.specs.declared.opening.Opened.{Opened}
use Rattle.jac_keep.specs.Records.{AreOrdered}
use Rattle.jac_keep.specs.Alterations.{AreOwn, of_model, placed_each, brought}

-- The rows of the tables, and the rows after the alterations if these are ready.
abbrev pub rows_in : List Opened → List (List Row)
rows_in [] = []
rows_in (o ∷ rest) = o.rows.items ∷ rows_in rest

abbrev pub rows_after : Bool → List Opened → List (List Row)
rows_after ready [] = []
rows_after ready (o ∷ rest) = (if ready then placed_each o.news.items o.rows.items
    else o.rows.items) ∷ rows_after ready rest

-- The alterations of the model are copied, and there is room for their rows.
pub record IsReadyTable (model : ℕ) (changed : List Alteration) (o : Opened) : Type 0 where
  pub news : o.news.items ≡ of_model model changed
  pub room : vec_len o.rows + brought o.news.items ≤ vec_capacity o.rows

-- The same for a list of tables. The first is that of this model.
abbrev pub AreReady : ℕ → List Alteration → List Opened → Type 0
AreReady model changed [] = ⊤
AreReady model changed (o ∷ rest) = IsReadyTable model changed o × AreReady (model + 1) changed rest

-- The conditions for putting the alterations in place.
pub record CanPlace (o : Opened) : Type 0 where
  pub ordered : AreOrdered o.rows.items
  pub own : AreOwn o.news.items
  pub room : vec_len o.rows + brought o.news.items ≤ vec_capacity o.rows
