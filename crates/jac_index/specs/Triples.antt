-- The pairs and triples of an index.
use Rattle.std.specs.Prelude.{◌≡◌, ℕ, ◌==◌, Bool, true, false, ◌&&◌, ◌||◌, not, List, [], Option, Some, None}
use Rattle.std.specs.BTreeMap.{get}
use Rattle.std.specs.Option.{is_some}
use Rattle.std.specs.Ordering.{nat_cmp}
use Rattle.jac_value.specs.declared.value.Value.{Value}
use Rattle.jac_value.specs.contracts.value.ValueOrd.TheImpl as order
use Rattle.jac_value.specs.contracts.value.ValuePartialEq.TheImpl as equality
use Rattle.jac_world.specs.World.{shown_by}
use Rattle.jac_index.specs.declared.by_value.ByValue.{ByValue}
use Rattle.jac_index.specs.declared.index.Index.{Index}

-- Whether the two values are equal.
unfoldable pub is_same_value : Value → Value → Bool
is_same_value u v = equality.ghosts.eq u v

abbrev pub ids_or_none : Option (List ℕ) → List ℕ
ids_or_none None = []
ids_or_none (Some ids) = ids

-- Whether the index has the record under the value.
abbrev pub has_index_pair : ByValue → Value → ℕ → Bool
has_index_pair b v id = shown_by (ids_or_none (get order.ghosts.cmp b.ids v)) id

-- The new pairs are the old ones and this one.
abbrev pub IsPairAdded : Value → ℕ → ByValue → ByValue → Type 0
IsPairAdded v id old new = (u : Value) (k : ℕ)
    → has_index_pair new u k ≡ ((is_same_value v u && (id == k)) || has_index_pair old u k)

-- The new pairs are the old ones without this one.
abbrev pub IsPairRemoved : Value → ℕ → ByValue → ByValue → Type 0
IsPairRemoved v id old new = (u : Value) (k : ℕ)
    → has_index_pair new u k ≡ (not (is_same_value v u && (id == k)) && has_index_pair old u k)

abbrev pub has_pair_in : Option ByValue → Value → ℕ → Bool
has_pair_in None v id = false
has_pair_in (Some b) v id = has_index_pair b v id

-- Whether the index has the record under the value of the field.
abbrev pub has_triple : Index → ℕ → Value → ℕ → Bool
has_triple ix f v id = has_pair_in (get nat_cmp ix.fields f) v id

abbrev pub HasField : ℕ → Index → Type 0
HasField f ix = is_some (get nat_cmp ix.fields f) ≡ true

abbrev pub AreSame : Index → Index → Type 0
AreSame old new = (g : ℕ) (u : Value) (k : ℕ) → has_triple new g u k ≡ has_triple old g u k

-- The new triples are the old ones and this one.
abbrev pub IsAdded : ℕ → Value → ℕ → Index → Index → Type 0
IsAdded f v id old new = (g : ℕ) (u : Value) (k : ℕ)
    → has_triple new g u k ≡ (((f == g) && (is_same_value v u && (id == k)))
    || has_triple old g u k)

-- The new triples are the old ones without this one.
abbrev pub IsRemoved : ℕ → Value → ℕ → Index → Index → Type 0
IsRemoved f v id old new = (g : ℕ) (u : Value) (k : ℕ)
    → has_triple new g u k ≡ (not ((f == g) && (is_same_value v u && (id == k)))
    && has_triple old g u
    k)
