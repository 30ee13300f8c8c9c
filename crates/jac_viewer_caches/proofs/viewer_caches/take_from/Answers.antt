use Rattle.std.proofs.Common.{◌≡◌, ◌∙◌, sym, Some, ap, List}
use Rattle.std.specs.List.{position}
use Rattle.jac_policy_cache.specs.Affected.{is_same_viewer}
use Rattle.jac_viewer_caches.specs.declared.viewer_caches.ViewerEntry.{ViewerEntry}
use Rattle.jac_viewer_caches.proofs.KeptLaws.{in_removed, taken_of}
use Rattle.jac_viewer_caches.proofs.viewer_caches.take_from.Goals as goal

pub returns-in-Some-clause-taken : goal.returns-in-Some-clause-taken
returns-in-Some-clause-taken c =
    let found : position (λ (s : ViewerEntry). is_same_viewer s.viewer c.args.viewer.now) c.args.viewer_caches.now.items ≡ Some c.in-Some.place =
    ap (λ (xs : List ViewerEntry). position (λ (s : ViewerEntry). is_same_viewer s.viewer c.args.viewer.now) xs) (sym c.as_slice.ensures.value)
    ∙ sym c.place_of-place.ensures ∙ c.in-Some.is in
    taken_of c.remove-cache.result c.args.viewer.now c.args.viewer_caches.now.items c.in-Some.place found c.remove-cache.ensures.value

pub returns-in-Some-clause-left : goal.returns-in-Some-clause-left
returns-in-Some-clause-left c = λ s is.
    in_removed s c.in-Some.place c.args.viewer_caches.now.items (rw c.remove-cache.ensures.items at is)
