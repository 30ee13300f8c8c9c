use Rattle.std.proofs.Common.{rules, ◌∙◌, sym, ◌<◌, ◌^◌, ◌+◌, ◌-◌, ◌*◌, ◌/◌, arith}
use Rattle.jac_row_codec.proofs.Numbers.{half_start, half_short, half_out, half_step, half_end, half_room, outside, inside}
use Rattle.jac_row_codec.proofs.number.number.Goals as goal

pub bytes-init : goal.bytes-init
bytes-init c = (omega arith, half_start c.args.low c.args.high c.args.width c.args.bytes.now c.requires.ordered c.requires.wide)

pub returns-in_default-clause-stops : goal.returns-in_default-clause-stops
returns-in_default-clause-stops c =
    (half_short c.args.low c.args.high c.args.width c.args.bytes.now c.bytes.left c.bytes.value c.bytes.rest.now c.bytes.invariant.1 c.in_default.ensures.cases c.bytes-test.true c.requires.ordered)

pub overflow_mul-next : goal.overflow_mul-next
overflow_mul-next c =
    let room = half_room c.args.low c.args.high c.args.width c.args.bytes.now c.bytes.left c.bytes.value c.bytes.rest.now c.bytes.invariant.1 c.bytes-test.true in
    let fits : c.args.high < 2 ^ 128 = c.ranges.high.fits in
    omega (arith, room, fits)

pub overflow_add-next : goal.overflow_add-next
overflow_add-next c =
    let room = half_room c.args.low c.args.high c.args.width c.args.bytes.now c.bytes.left c.bytes.value c.bytes.rest.now c.bytes.invariant.1 c.bytes-test.true in
    let fits : c.args.high < 2 ^ 128 = c.ranges.high.fits in
    let byte : c.from.result < 256 = search rules in
    omega (arith, room, fits, byte)

pub returns-then-not-leads_between-clause-stops : goal.returns-then-not-leads_between-clause-stops
returns-then-not-leads_between-clause-stops c =
    (half_out c.args.low c.args.high c.args.width c.args.bytes.now c.bytes.left c.bytes.value c.from.result c.in-Some.after.now c.bytes.rest.now c.bytes.invariant.1 (search rules) c.bytes-test.true c.requires.ordered (search rules)
    (outside _ _ _ (sym c.leads_between.ensures ∙ search rules)))

pub bytes-preserved : goal.bytes-preserved
bytes-preserved c =
    let between = inside (c.args.low / 256 ^ (c.bytes.left - 1)) (c.bytes.value * 256 + c.from.result) (c.args.high / 256 ^ (c.bytes.left - 1)) (sym c.leads_between.ensures ∙ search rules) in (
      omega (arith, c.bytes.invariant.0),
      half_step c.args.low c.args.high c.args.width c.args.bytes.now c.bytes.left c.bytes.value c.from.result c.in-Some.after.now c.bytes.rest.now c.bytes.invariant.1 (search rules) c.bytes-test.true (search rules)
          between.0 between.1,
    )

pub returns-clause-number : goal.returns-clause-number
returns-clause-number c = half_end c.args.low c.args.high c.args.width c.args.bytes.now c.bytes.left c.bytes.value c.bytes.rest.now c.bytes.invariant.1 (omega (arith, c.bytes-test.false))
