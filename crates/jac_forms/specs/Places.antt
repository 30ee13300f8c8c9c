-- The position of a tree within another tree.
use Rattle.std.specs.Prelude.{ℕ, List, [], ◌∷◌, ◌++◌}
use Rattle.jac_forms.specs.declared.place.Place.{Place, Top, Child'}

-- The path of a child: the path of its list, and then the child's number.
abbrev pub child : List ℕ → ℕ → List ℕ
child at number = at ++ number ∷ []

-- The child numbers from the root to the tree.
abbrev pub path_of : Place → List ℕ
path_of Top = []
path_of (Child' p up number) = child (path_of up) number
