-- The rows of a record after an upgrade gives it new groups.
use Rattle.std.specs.Prelude.{ℕ, nat_le, Bool, false, not, ◌&&◌, if◌then◌else◌, List, [], map, Option, Some, None}
use Rattle.jac_value.specs.declared.value.Value.{Value}
use Rattle.jac_lang.specs.Lookup.{fields_at, groups_at, group_in, hiding_place}
use Rattle.jac_lang.specs.Syntax.{Entity}
use Rattle.jac_plain.specs.Records.{is_hidden_by, shielded_cells}

-- Whether there is a group, at this place or after it.
abbrev pub is_from : ℕ → Option ℕ → Bool
is_from first None = false
is_from first (Some g) = nat_le first g

-- Whether one of the groups from this place on guards the field.
abbrev pub is_guarded_from : List Entity → ℕ → ℕ → ℕ → Bool
is_guarded_from models m first f = is_from first (group_in (groups_at models m) (fields_at models m)
    f)

-- Whether none of the groups from this place on hides the record.
abbrev pub stays : List Entity → (ℕ → Bool) → ℕ → ℕ → ℕ → Bool
stays models shown m id first =
    not (is_from first (hiding_place (groups_at models m)) && is_hidden_by shown id
    (hiding_place (groups_at models m)))

-- The cells that are stored for the drafts of a record, if the groups from this place on are new.
abbrev pub regrouped_cells : List Entity → (ℕ → Bool) → ℕ → ℕ → ℕ → List (List Value)
    → List (List Value)
regrouped_cells models shown m id first drafts =
    if stays models shown m id first
    then map (shielded_cells models shown m id (is_guarded_from models m first)) drafts else []
