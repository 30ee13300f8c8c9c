-- A world without some records, and a test whether a policy depends on any of them.
use Rattle.std.specs.Prelude.{◌≡◌, ℕ, Bool, true, map, Some}
use Rattle.jac_value.specs.declared.value.Value.{Value}
use Rattle.jac_value.specs.declared.value.Value.TheVariants as value
use Rattle.jac_value.specs.contracts.value.ValuePartialEq.TheImpl as equality
use Rattle.jac_value.specs.Values.{default_value}
use Rattle.jac_lang.specs.Lookup.{fields_at, kind_at}
use Rattle.jac_rows.specs.Tables.{rows_of}
use Rattle.jac_plain.specs.World.{World, record_with, referred_record, cell_of}
use Rattle.jac_plain.specs.Expressions.{stands}
use Rattle.jac_plain.specs.Records.{with_ids}
use Rattle.jac_policy_deps.specs.declared.dependency.Dependency.{Dependency}
use Rattle.jac_policy_deps.specs.declared.dependency.Dependency.TheVariants as dependency
use Rattle.jac_policy_deps.specs.declared.dependency.Referent.{Referent}
use Rattle.jac_policy_deps.specs.declared.dependency.Referent.TheVariants as referent

-- The world with only the records that stay.
abbrev pub cleared_world : (ℕ → Bool) → World → World
cleared_world stays w = record w { tables = map (with_ids stays) w.tables }

-- The value doesn't refer to a record that is left out.
abbrev pub is_clear : (ℕ → Bool) → Value → Bool
is_clear stays (value.Ref (Some id)) = stays id
is_clear stays v = true

-- The value that names the referent: a reference, or what the field has in its place.
abbrev pub referent_in : World → Referent → Value
referent_in w referent.This = value.Ref w.this
referent_in w (referent.Field m f) = cell_of (referred_record (value.Ref w.this)
    (rows_of w.tables m)) f
    (default_value (kind_at w.models (fields_at w.models m) f))
referent_in w referent.Viewer = value.Ref w.viewer

-- The value that the field at a place reads as, for the record of an id.
abbrev pub field_in : World → ℕ → ℕ → ℕ → Value
field_in w m f id = cell_of (record_with id (rows_of w.tables m)) f
    (default_value (kind_at w.models (fields_at w.models m) f))

-- The policy's own record stays. If a dependency passes the test, its records stay too: the
-- referent's record, each record of the table, each record that is found, or any record.
pub record IsTest (stays : ℕ → Bool) (test : Dependency → Bool) (w : World) : Type 0 where
  pub own : is_clear stays (value.Ref w.this) ≡ true
  pub one : (s : Referent) → test (dependency.One s) ≡ true → is_clear stays (referent_in w s) ≡
      true
  pub table : (m : ℕ) → test (dependency.Table m) ≡ true
      → with_ids stays (rows_of w.tables m) ≡ rows_of w.tables m
  pub found : (s : Referent) (m f id : ℕ) → test (dependency.Found s m f) ≡ true →
      stands (record_with id (rows_of w.tables m)) ≡ true →
      equality.ghosts.eq (field_in w m f id) (referent_in w s) ≡ true → stays id ≡ true
  pub any : test dependency.Any ≡ true → (id : ℕ) → stays id ≡ true
