-- Where a name is bound.
use Rattle.std.specs.Prelude.{ℕ, suc, Bool, true, false, List, [], ◌∷◌, Option, Some, None}
use Rattle.jac_lang.specs.declared.bindings.Binding.{Binding}
use Rattle.jac_lang.specs.Lookup.{same_text}

-- A place after the first binding. If there is none after it, the first place, if the first binding
-- is the one.
abbrev pub place_after : Bool → Option ℕ → Option ℕ
place_after is_one (Some i) = Some (suc i)
place_after true None = Some 0
place_after false None = None

-- The place of the innermost binding of the name, which is the last one.
abbrev pub last_place : List ℕ → List Binding → Option ℕ
last_place name [] = None
last_place name (b ∷ bs) = place_after (same_text b.name name) (last_place name bs)
