use Rattle.std.proofs.Common.{ap, codes, ◌∙◌}
use Rattle.std.proofs.lemmas.Result.{IfOk-weaker}
use Rattle.jac_cli.specs.Grammar.{with_option}
use Rattle.jac_cli.proofs.words.grammar.with_files.Goals as goal

pub returns-clause-app : goal.returns-clause-app
returns-clause-app c =
    let before = c.in_ok-command-2.ensures.app ∙ ap (with_option (codes "sessions")) c.in_ok-command.ensures.app in
    IfOk-weaker c.with_option-3.result _ _ (λ command is. is ∙ ap (with_option (codes "audit")) before) c.with_option-3.ensures.app
