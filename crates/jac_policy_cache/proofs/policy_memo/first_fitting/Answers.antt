use Rattle.std.proofs.Common.{◌∙◌, sym, drop, ◌+◌}
use Rattle.jac_world.specs.World.{shown_by}
use Rattle.jac_plain.specs.Policies.{with_label}
use Rattle.jac_policy_cache.specs.Memo.{first_fitting}
use Rattle.jac_policy_cache.proofs.Recalling.{fits_here, fits_not, next}
use Rattle.jac_policy_cache.proofs.policy_memo.first_fitting.Goals as goal

pub returns-then-fits : goal.returns-then-fits
returns-then-fits c =
    let xs = c.args.answers.now in
    let i = c.answers.known-index in
    let w = with_label c.args.label (shown_by c.args.a.now) in
    fits_here (drop i xs) (drop (i + 1) xs) c.known-item.result w (first_fitting xs w) (next xs c.known-item.result i c.known-item.is c.answers-test.true)
    (sym (rw c.pairs.ensures.pairs at c.fits.ensures) ∙ c.if-fits.true) c.answers.invariant

pub answers-preserved : goal.answers-preserved
answers-preserved c =
    let xs = c.args.answers.now in
    let i = c.answers.known-index in
    let w = with_label c.args.label (shown_by c.args.a.now) in
    fits_not (drop i xs) (drop (i + 1) xs) c.known-item.result w (first_fitting xs w) (next xs c.known-item.result i c.known-item.is c.answers-test.true)
    (sym (rw c.pairs.ensures.pairs at c.fits.ensures) ∙ c.if-fits.false) c.answers.invariant
