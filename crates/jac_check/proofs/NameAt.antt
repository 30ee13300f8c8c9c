-- The name of the model at a place.
use Rattle.std.proofs.Common.{◌≡◌, refl, ℕ, ◌<◌, ◌≤◌, List, [], length, get_or, Some}
use Rattle.std.specs.Prelude.{slice_get}
use Rattle.std.proofs.lemmas.Option.{slice_get_past, slice_get_read}
use Rattle.jac_lang.specs.declared.schema.ModelDef.{ModelDef}
use Rattle.jac_lang.specs.Mirror.{entities_of}
use Rattle.jac_lang.proofs.Places.{entity-at, length-entities}
use Rattle.jac_check.specs.Causes.{entity_name}

pub name_found : (ms : List ModelDef) (i : ℕ) (m : ModelDef) → m ≡ get_or ms i m → i < length ms → m.name ≡ entity_name (slice_get (entities_of ms) i)
name_found ms i m item below =
    let there : slice_get ms i ≡ Some m = slice_get_read ms (length ms) i m refl below item in
    rw (entity-at ms i m there) refl

pub name_missing : (ms : List ModelDef) (i : ℕ) → length ms ≤ i → [] ≡ entity_name (slice_get (entities_of ms) i)
name_missing ms i past =
    let shorter : length (entities_of ms) ≤ i = rw (length-entities ms) past in
    rw (slice_get_past (entities_of ms) i shorter) refl
