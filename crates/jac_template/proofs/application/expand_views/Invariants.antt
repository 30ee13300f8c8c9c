use Rattle.std.proofs.Common.{◌≡◌, ◌+◌, length}
use Rattle.std.specs.Vec.Iter.{into_iter_items}
use Rattle.jac_lang.specs.Mirror.{pages_of}
use Rattle.jac_template.proofs.Bodies.{ViewsLead}
use Rattle.jac_template.proofs.application.expand_views.Given as goal

abbrev pub invariant-views : goal.invariant-views
invariant-views l = record {
  count : l.number + length (into_iter_items l.view-iterator) ≡ length l.fn.views;
  leads : ViewsLead (pages_of l.fn.views) (pages_of l.out.items) (pages_of (into_iter_items l.view-iterator)) l.number;
}
