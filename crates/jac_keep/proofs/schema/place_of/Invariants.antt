use Rattle.std.proofs.Common.{◌≡◌, ◌≤◌, ◌+◌}
use Rattle.jac_tree.specs.Mirror.{plain_all}
use Rattle.jac_keep.specs.Schema.{place_from}
use Rattle.jac_keep.proofs.schema.place_of.Given as goal
use Rattle.jac_tree.specs.Plain.{count}

abbrev pub invariant-models : goal.invariant-models
invariant-models l = record {
  few : l.place + count (plain_all l.left) ≤ 64;
  same : place_from l.place l.name (plain_all l.left) ≡ place_from 0 l.name (plain_all l.models);
}
