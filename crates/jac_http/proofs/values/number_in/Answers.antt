use Rattle.std.proofs.Common.{◌∙◌}
use Rattle.jac_http.proofs.Numbers.{digit_step}
use Rattle.jac_http.proofs.values.number_in.Goals as goal

pub digits-preserved : goal.digits-preserved
digits-preserved c =
    let step = digit_step c.args.digits.now c.digits.digit-index c.digits.number c.with_digit-number.result c.digits-test.true c.digits.invariant.1 c.with_digit-number.ensures in
    (step.0, step.1, step.2 ∙ c.digits.invariant.2)
