-- Public values that fit: what a guarded field shows if it is hidden has the field's kind.
use Rattle.std.specs.Prelude.{ℕ, List, [], Option, Some, None, ⊤}
use Rattle.jac_value.specs.declared.value.Kind.{Kind}
use Rattle.jac_value.specs.declared.value.Value.{Value}
use Rattle.jac_lang.specs.Lookup.{fields_at, kind_at}
use Rattle.jac_lang.specs.Syntax.{Entity, Expression}
use Rattle.jac_plain.specs.World.{World}
use Rattle.jac_plain.specs.Records.{alone, plain_row, public_expression}
use Rattle.jac_kind_laws.specs.Operands.{IsOfKind}

-- The world in which a public expression is read: the record alone, and no viewer.
abbrev pub world_over : List Entity → ℕ → ℕ → List Value → World
world_over models m id cells = record {
  models = models;
  this = Some id;
  viewer = None;
  tables = alone m (plain_row id cells);
}

abbrev pub PublicFits : World → Kind → Option Expression → Type 0
PublicFits w k None = ⊤
PublicFits w k (Some e) = IsOfKind w [] k e

-- Over these cells of a record, each public expression of its model has its field's kind, and its
-- operands fit.
abbrev pub PublicsFit : List Entity → ℕ → ℕ → List Value → Type 0
PublicsFit models m id cells = (f : ℕ) → PublicFits (world_over models m id cells)
    (kind_at models (fields_at models m) f) (public_expression models m f)
