use Rattle.std.proofs.Common.{rules, ◌≡◌, ap}
use Rattle.jac_lang.specs.Mirror.{statements_of}
use Rattle.jac_lang.specs.Syntax.{Statements}
use Rattle.jac_template.specs.Progress.{opening_of, statement, run_order}
use Rattle.jac_template.proofs.Frames.{closes}
use Rattle.jac_template.proofs.blocks.Blocks.close.Goals as goal

pub returns-in-Ok-clause-taken : goal.returns-in-Ok-clause-taken
returns-in-Ok-clause-taken c =
    let frame = c.in-Some.frame in
    let made : statements_of c.add.new.self.body
    ≡ Statements.more (statement (opening_of frame.context) (run_order (statements_of c.args.self.now.body))) (statements_of frame.before) = search rules in
    closes _ _ _ frame _ _ c.in-Some.ensures.items (ap (λ v. v.items) c.in-Ok.ensures.frames) made
