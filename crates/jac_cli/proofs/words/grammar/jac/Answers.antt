use Rattle.std.proofs.Common.{ap₂, ◌∙◌}
use Rattle.std.proofs.lemmas.Result.{IfOk-weaker}
use Rattle.jac_cli.specs.Grammar.{with_command, jac}
use Rattle.jac_cli.proofs.words.grammar.jac.Goals as goal

pub returns : goal.returns
unfolding jac
returns c =
    let one = c.in_ok-command.ensures ∙ ap₂ with_command c.in_ok-check.ensures.app c.bare-command.ensures in
    let two = c.in_ok-command-2.ensures ∙ ap₂ with_command c.in_ok-replay.ensures.app one in
    let three = c.in_ok-command-3.ensures ∙ ap₂ with_command c.in_ok-serve.ensures.app two in
    let four = c.in_ok-command-4.ensures ∙ ap₂ with_command c.in_ok-demo.ensures.app three in
    let five = c.in_ok-command-5.ensures ∙ ap₂ with_command c.in_ok-dump.ensures.app four in
    let six = c.in_ok-command-6.ensures ∙ ap₂ with_command c.in_ok-upgrade.ensures.app five in
    IfOk-weaker c.with_command-7.result _ _ (λ command is. is ∙ ap₂ with_command c.in_ok-why.ensures.app six) c.with_command-7.ensures
