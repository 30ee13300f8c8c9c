use Rattle.std.proofs.Common.{◌≡◌, ◌<◌, ◌≤◌, ◌^◌, length}
use Rattle.jac_lang.specs.Mirror.{pages_of}
use Rattle.jac_tree.specs.Mirror.{plain_all}
use Rattle.jac_forms.specs.Applications.{page_in_tree}
use Rattle.jac_forms.specs.Names.{each_in_trees}
use Rattle.jac_forms.specs.Places.{path_of}
use Rattle.jac_forms.proofs.Made.{made_before}
use Rattle.jac_forms.proofs.applications.read_views.Given as goal

-- The views so far, followed by those of the rest, are all views. There are fewer views so far than
-- the number of the next child.
abbrev pub invariant-views : goal.invariant-views
invariant-views l = record {
  few : length l.views.items ≤ l.number;
  fits : l.number < 2 ^ 32;
  made :
      made_before (pages_of l.views.items) (each_in_trees page_in_tree (path_of l.fn.place) l.number (plain_all l.left))
      ≡ each_in_trees page_in_tree (path_of l.fn.place) l.fn.first (plain_all l.trees);
}
