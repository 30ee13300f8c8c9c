use Rattle.std.proofs.Common.{◌≡◌, ◌<◌, ◌∙◌, length, sym, rules}
use Rattle.std.proofs.lemmas.List.{get_or_default}
use Rattle.jac_world.proofs.Bisected.{one_is}
use Rattle.jac_shown_rows.proofs.support.stands_at.Goals as goal

pub returns : goal.returns
returns c = λ told.
    let xs = c.args.shown.now in
    let place = c.args.place in
    let item = c.index-shown-place.result in
    let same : item ≡ c.args.label = search (rules, told) in
    let within : place < length xs = search rules in
    one_is xs c.args.label place within (sym (get_or_default xs place item 0 within) ∙ sym c.index-shown-place.is ∙ same)
