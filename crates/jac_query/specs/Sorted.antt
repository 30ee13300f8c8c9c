-- The stable sort of tuples by a key.
use Rattle.std.specs.Prelude.{ℕ, Bool, true, false, ◌&&◌, if◌then◌else◌, List, [], ◌∷◌, ◌++◌, map}
use Rattle.std.specs.Ordering.{is_lt}
use Rattle.jac_value.specs.contracts.value.ValueOrd.TheImpl.{ghosts}
use Rattle.jac_value.specs.declared.value.Value.{Value}
use Rattle.jac_world.specs.World.{holds}
use Rattle.jac_facet.specs.Shape.{Shape}
use Rattle.jac_facet.specs.Leaves.{leaves_of}
use Rattle.jac_query.specs.declared.tuple.Tuple.{Tuple}
use Rattle.jac_query.specs.declared.sorts.Keyed.{Keyed}

module _ {X : Type 0} (lt : X → X → Bool) where
  -- The list with x inserted before the first element that isn't less.
  abbrev pub insert_by : X → List X → List X
  insert_by x [] = x ∷ []
  insert_by x (y ∷ ys) = if lt y x then y ∷ insert_by x ys else x ∷ (y ∷ ys)

  -- The stable sort.
  abbrev pub sorted_by : List X → List X
  sorted_by [] = []
  sorted_by (x ∷ xs) = insert_by x (sorted_by xs)

-- The order of values: rising, or falling if the argument is true.
abbrev pub value_less : Bool → Value → Value → Bool
value_less false x y = is_lt (ghosts.cmp x y)
value_less true x y = is_lt (ghosts.cmp y x)

-- The order of tuples by their keys.
abbrev pub key_less : Bool → List ℕ × Value → List ℕ × Value → Bool
key_less down p q = value_less down p.1 q.1

-- The ids in the order of their keys. Ties keep their order.
abbrev pub in_order : Bool → List (List ℕ × Value) → List (List ℕ)
in_order down ps = map (λ p. p.0) (sorted_by (key_less down) ps)

-- The ids and keys of the tuples with a guard that holds.
abbrev pub keyed_at : (ℕ → Bool) → List Keyed → List (List ℕ × Value)
keyed_at w [] = []
keyed_at w (k ∷ ks) = if holds w k.guard then (k.ids, k.key) ∷ keyed_at w ks else keyed_at w ks

-- Whether the ids of each tuple pass the test.
abbrev pub keyed_ids : (List ℕ → Bool) → List Keyed → Bool
keyed_ids p [] = true
keyed_ids p (k ∷ ks) = p k.ids && keyed_ids p ks

-- The tuples without their keys.
abbrev pub tuples_of : List Keyed → List Tuple
tuples_of [] = []
tuples_of (k ∷ ks) = record { guard = k.guard; ids = k.ids } ∷ tuples_of ks

-- These ids, with the key of each leaf that has a guard that holds.
abbrev pub key_leaves : (ℕ → Bool) → List ℕ → List (List (ℕ × Bool) × Value) → List (List ℕ × Value)
key_leaves w ids [] = []
key_leaves w ids (p ∷ ps) = if holds w p.0 then (ids, p.1) ∷ key_leaves w ids ps
    else key_leaves w ids ps

abbrev pub keyed_of : List (ℕ × Bool) → List ℕ → Value → Keyed
keyed_of g ids v = record { guard = g; ids = ids; key = v }

-- A tuple with these ids for each leaf of a key, with the leaf's guard and value.
abbrev pub keys_where : List ℕ → List (List (ℕ × Bool) × Value) → List Keyed
keys_where ids [] = []
keys_where ids (p ∷ ps) = keyed_of p.0 ids p.1 ∷ keys_where ids ps

-- Each tuple, once for each leaf of its key that doesn't contradict the tuple's guard.
abbrev pub keyed_tuples : List Tuple → List (Shape Value) → List Keyed
keyed_tuples [] ks = []
keyed_tuples (t ∷ ts) [] = []
keyed_tuples (t ∷ ts) (k ∷ ks) = keys_where t.ids (leaves_of t.guard k) ++ keyed_tuples ts ks

-- The order of tuples with keys is that of the keys.
abbrev pub keyed_less : Bool → Keyed → Keyed → Bool
keyed_less down a b = value_less down a.key b.key

-- The tuples in the order of the leaves' values. Ties keep their order.
abbrev pub ordered_leaves : Bool → List Tuple → List (Shape Value) → List Tuple
ordered_leaves down ts ks = tuples_of (sorted_by (keyed_less down) (keyed_tuples ts ks))
