-- Whether an index has a pair after a row is added or removed.
use Rattle.std.proofs.Common.{◌≡◌, refl, Bool, true, false, ◌&&◌, ◌||◌}
use Rattle.std.specs.Prelude.{Option, Some, None}
use Rattle.jac_value.specs.declared.value.Value.{Value}
use Rattle.jac_index.specs.Triples.{is_same_value}
use Rattle.jac_keep.specs.MatchingRecords.{is_cell}
use Rattle.jac_keep.proofs.PlacingLaws.{and-turned}

pub cell_pair : (c v : Value) (o : Option Value) (b : Bool) → o ≡ Some c → (is_same_value c v && b) ≡ (b && is_cell v o)
unfolding is_same_value
cell_pair c v o b e = rw e (and-turned (is_same_value c v) b)

pub no_cell : (v : Value) (o : Option Value) (a b : Bool) → o ≡ None → b ≡ ((a && is_cell v o) || b)
no_cell v o true b e = rw e refl
no_cell v o false b e = refl
