use Rattle.std.proofs.Common.{rules, ◌≤◌, ◌<◌, length, refl, arith}
use Rattle.jac_template.specs.Progress.{opening_of}
use Rattle.jac_template.proofs.Frames.{opens, too_deep}
use Rattle.jac_template.proofs.blocks.Blocks.open.Goals as goal

pub returns-then-len-ge-NESTING_LIMIT-clause-fault : goal.returns-then-len-ge-NESTING_LIMIT-clause-fault
returns-then-len-ge-NESTING_LIMIT-clause-fault c told =
    let many : 64 ≤ length c.args.self.now.frames.items = omega arith in
    (too_deep _ _ _ _ many, refl)

pub returns-in-Ok-clause-taken : goal.returns-in-Ok-clause-taken
returns-in-Ok-clause-taken c =
    let few : length c.args.self.now.frames.items < 64 = omega arith in
    rw (opens c.args.place (opening_of c.args.context) c.args.self.now.frames.items _ few) (search rules)
