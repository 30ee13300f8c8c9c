use Rattle.std.proofs.Common.{◌≡◌, ◌-◌, ◌<◌, ◌∙◌, length, sym, arith, rules}
use Rattle.std.proofs.lemmas.List.{get_or_default}
use Rattle.jac_world.proofs.Bisected.{one_is}
use Rattle.jac_world.proofs.rising_list.is_last.Goals as goal

pub returns : goal.returns
returns c = λ told.
    let xs = c.args.labels.now in
    let last = c.index-labels-count.result in
    let same : last ≡ c.args.label = search (rules, told) in
    let within : length xs - 1 < length xs = omega (arith, c.if-count-eq0.false) in
    one_is xs c.args.label (length xs - 1) within (sym (get_or_default xs (length xs - 1) last 0 within) ∙ sym c.index-labels-count.is ∙ same)
