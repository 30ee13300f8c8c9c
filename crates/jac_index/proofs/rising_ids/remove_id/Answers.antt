use Rattle.std.proofs.Common.{◌≡◌, ◌∙◌, List, ℕ, false, ap, subst, sym}
use Rattle.jac_world.specs.World.{shown_by, IsAscending}
use Rattle.jac_world.proofs.Bisected.{among, ascends_without, found_at, hides_missing, shows_without}
use Rattle.jac_index.proofs.rising_ids.remove_id.Goals as goal

pub returns-in-Ok-clause-removed : goal.returns-in-Ok-clause-removed
returns-in-Ok-clause-removed c k =
    let xs = c.args.ids.now.items in
    let position = rw (c.as_slice.ensures.value, c.in-Ok.is) at c.binary_search.ensures.position in
    let at = found_at xs c.args.id c.in-Ok.place c.requires position in
    ap (λ (l : List ℕ). shown_by l k) c.remove.ensures.items ∙ shows_without xs c.args.id c.in-Ok.place c.requires at.0 at.1 k

pub returns-in-Ok-clause-ascending : goal.returns-in-Ok-clause-ascending
returns-in-Ok-clause-ascending c =
    let xs = c.args.ids.now.items in
    let position = rw (c.as_slice.ensures.value, c.in-Ok.is) at c.binary_search.ensures.position in
    let at = found_at xs c.args.id c.in-Ok.place c.requires position in
    subst IsAscending (sym c.remove.ensures.items) (ascends_without xs c.in-Ok.place c.requires at.0)

pub returns-in-Err-clause-removed : goal.returns-in-Err-clause-removed
returns-in-Err-clause-removed c =
    let xs = c.args.ids.now.items in
    let x = c.args.id in
    let position = rw c.as_slice.ensures.value at c.binary_search.ensures.position in
    let there : false ≡ shown_by xs x = rw c.in-Err.is at (among xs x c.binary_search.result c.requires position) in
    hides_missing xs x (sym there)
