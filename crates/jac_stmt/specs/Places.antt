-- Where a name is bound.
use Rattle.std.specs.Prelude.{ℕ, suc, Bool, true, false, List, [], ◌∷◌, Option, Some, None}
use Rattle.jac_value.specs.declared.value.Value.{Value}
use Rattle.jac_facet.specs.Shape.{Shape}
use Rattle.jac_lang.specs.Lookup.{same_text}

-- The place after one more item is put in front. If there was none, the front item, if it is the
-- one.
abbrev pub name_place_after : Bool → Option ℕ → Option ℕ
name_place_after is_one (Some i) = Some (suc i)
name_place_after true None = Some 0
name_place_after false None = None

-- The place of the innermost binding of the name, which is the last one.
abbrev pub last_name_place : List ℕ → List (List ℕ × Shape Value) → Option ℕ
last_name_place name [] = None
last_name_place name (b ∷ bs) = name_place_after (same_text b.0 name) (last_name_place name bs)
