use Rattle.std.proofs.Common.{◌≡◌, ◌≤◌, ◌+◌, vec_len}
use Rattle.std.specs.Prelude.{codes}
use Rattle.jac_lang.specs.Mirror.{entities_of}
use Rattle.jac_tree.specs.Mirror.{plain_all}
use Rattle.jac_forms.specs.Applications.{headed_count, items_in_trees}
use Rattle.jac_forms.specs.Places.{path_of}
use Rattle.jac_forms.proofs.Gathered.{gathered}
use Rattle.jac_forms.proofs.applications.read_items.Given as goal

-- The models so far, followed by the items of the rest, are all items.
abbrev pub invariant-models : goal.invariant-models
invariant-models l = record {
  few : vec_len l.models + headed_count (codes "model") (plain_all l.left) ≤ 64;
  made :
      gathered (entities_of l.models.items) (path_of l.fn.place) l.number (plain_all l.left)
      ≡ items_in_trees (path_of l.fn.place) l.fn.first (plain_all l.trees);
}
