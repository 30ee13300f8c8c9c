use Rattle.std.proofs.Common.{◌≡◌, ◌+◌}
use Rattle.std.specs.Prelude.{codes}
use Rattle.jac_tree.specs.Mirror.{plain_all}
use Rattle.jac_forms.specs.Applications.{headed_count}
use Rattle.jac_forms.proofs.applications.count_models.Given as goal

-- The number of models so far plus those of the rest is the number of all models.
abbrev pub invariant-trees : goal.invariant-trees
invariant-trees l = l.number + headed_count (codes "model") (plain_all l.left) ≡ headed_count (codes "model") (plain_all l.trees)
