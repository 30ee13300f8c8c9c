-- The records of one binder in the order of a field.
use Rattle.std.specs.Prelude.{◌≡◌, ℕ, Bool, true, ⊤}
use Rattle.jac_value.specs.declared.value.Value.{Value}
use Rattle.jac_lang.specs.declared.queries.Binder.{Binder}
use Rattle.jac_lang.specs.declared.queries.Order.{Order}
use Rattle.jac_lang.specs.declared.queries.Order.TheVariants as orders
use Rattle.jac_lang.specs.Lookup.{same_text}
use Rattle.jac_query.specs.Sorted.{value_less}

-- The order is that in which the records are found, or it is by a field of this binder.
abbrev pub SortsBinder : Binder → Order → Type 0
SortsBinder b orders.Key = ⊤
SortsBinder b (orders.Up name field) = same_text b.name name ≡ true
SortsBinder b (orders.Down name field) = same_text b.name name ≡ true

-- The order of ids by their keys.
abbrev pub id_less : Bool → ℕ × Value → ℕ × Value → Bool
id_less down p q = value_less down p.1 q.1
