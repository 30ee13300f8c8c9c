use Rattle.std.proofs.Common.{◌≡◌, ◌∙◌, List, ℕ, true, ap, subst, sym}
use Rattle.jac_world.specs.World.{shown_by, IsAscending}
use Rattle.jac_world.proofs.Bisected.{among, ascends_with, place_is, shows_found, shows_with}
use Rattle.jac_world.proofs.rising_list.add_between.Goals as goal

pub returns-in-Ok-clause-added : goal.returns-in-Ok-clause-added
returns-in-Ok-clause-added c =
    let xs = c.args.labels.now.items in
    let x = c.args.label in
    let position = rw c.as_slice.ensures.value at c.binary_search.ensures.position in
    let there : true ≡ shown_by xs x = rw c.in-Ok.is at (among xs x c.binary_search.result c.requires position) in
    shows_found xs x (sym there)

pub returns-in_ok-insert-in-Err-clause-added : goal.returns-in_ok-insert-in-Err-clause-added
returns-in_ok-insert-in-Err-clause-added c k =
    let xs = c.args.labels.now.items in
    let position = rw (c.as_slice.ensures.value, c.in-Err.is) at c.binary_search.ensures.position in
    let place = place_is xs c.args.label c.in-Err.place c.requires position in
    ap (λ (l : List ℕ). shown_by l k) c.in_ok-insert-in-Err.ensures.items ∙ shows_with xs c.args.label c.in-Err.place place.within k

pub returns-in_ok-insert-in-Err-clause-ascending : goal.returns-in_ok-insert-in-Err-clause-ascending
returns-in_ok-insert-in-Err-clause-ascending c =
    let xs = c.args.labels.now.items in
    let position = rw (c.as_slice.ensures.value, c.in-Err.is) at c.binary_search.ensures.position in
    let place = place_is xs c.args.label c.in-Err.place c.requires position in
    subst IsAscending (sym c.in_ok-insert-in-Err.ensures.items) (ascends_with xs c.args.label c.in-Err.place c.requires place)
