use Rattle.std.proofs.Common.{rules, ◌≡◌, ◌++◌, ◌∷◌, [], sym, subst}
use Rattle.jac_row_codec.specs.Reading.{GuardSoFar, IsPairIn, next_low}
use Rattle.jac_row_codec.proofs.Guards.{guard_goes_on}
use Rattle.jac_row_codec.proofs.guard.guard.Goals as goal

pub pairs-preserved : goal.pairs-preserved
pairs-preserved c =
    let items : c.push.new.self.items ≡ c.pairs.pairs.items ++ (c.in_ok-number.number, c.in_ok-number.sign) ∷ [] = search rules in
    let read : IsPairIn (next_low c.pairs.low) c.pairs.rest.now (c.in_ok-number.number, c.in_ok-number.sign) c.in_ok-number.after.now = search rules in
    subst (λ l. GuardSoFar c.args.jvars.now l (next_low c.checked_add-low.result) c.in_ok-number.after.now) (sym items)
    (guard_goes_on c.args.jvars.now c.pairs.pairs.items c.pairs.low c.checked_add-low.result c.in_ok-number.number c.in_ok-number.sign c.pairs.rest.now c.in_ok-number.after.now c.pairs.invariant read c.checked_add-low.ensures)
