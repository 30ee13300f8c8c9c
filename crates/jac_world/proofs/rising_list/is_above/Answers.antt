use Rattle.std.proofs.Common.{◌≡◌, ◌-◌, ◌<◌, length, suc, sym, subst, ℕ, arith, rules}
use Rattle.jac_world.proofs.Bisected.{ascends_end}
use Rattle.jac_world.proofs.rising_list.is_above.Goals as goal

pub returns : goal.returns
returns c = λ told.
    let xs = c.args.labels.now in
    let last = c.index-labels-count.result in
    let below : last < c.args.label = search (rules, told) in
    let end : suc (length xs - 1) ≡ length xs = omega (arith, c.if-count-eq0.false) in
    ascends_end xs c.args.label (length xs - 1) last c.requires end (subst (λ (n : ℕ). n < c.args.label) c.index-labels-count.is below)
