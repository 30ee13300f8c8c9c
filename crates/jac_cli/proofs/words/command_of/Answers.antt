use Rattle.std.proofs.Common.{◌≡◌, ◌∙◌, ap, ap₂, map, subst, sym}
use Rattle.std.proofs.lemmas.Result.{IfOk-weaker}
use Rattle.clap.specs.Words.{HasKind, app_of, fault_of, is_simple, is_simple_and_free, subcommand_of}
use Rattle.jac_cli.specs.Grammar.{jac}
use Rattle.jac_cli.specs.Words.{entered_command}
use Rattle.jac_cli.proofs.WordsLemmas.{jac_simple, jac_free, refused, taken}
use Rattle.jac_cli.proofs.words.command_of.Goals as goal

pub returns-in-Ok : goal.returns-in-Ok
returns-in-Ok c =
    let grammar : app_of c.in_ok-grammar.grammar ≡ jac = c.in_ok-grammar.ensures in
    let words : map (λ text. text.now) c.as_slice.result.now ≡ c.args.words.now = ap (map (λ text. text.now)) c.as_slice.ensures.value ∙ c.in_ok-texts.ensures in
    let rows = (c.in-Ok.ensures.matches (ap is_simple grammar ∙ jac_simple)).1 ∙ ap₂ subcommand_of grammar words in
    let faultless = ap₂ fault_of (sym grammar) (sym words) ∙ c.in-Ok.ensures.kinds (ap is_simple_and_free grammar ∙ jac_free) in
    IfOk-weaker c.entered.result _ _
    (λ command is. is ∙ ap entered_command rows ∙ taken (fault_of jac c.args.words.now) (entered_command (subcommand_of jac c.args.words.now)) faultless)
    c.entered.ensures

pub returns : goal.returns
returns c =
    let grammar : app_of c.in_ok-grammar.grammar ≡ jac = c.in_ok-grammar.ensures in
    let words : map (λ text. text.now) c.as_slice.result.now ≡ c.args.words.now = ap (map (λ text. text.now)) c.as_slice.ensures.value ∙ c.in_ok-texts.ensures in
    let has_kind = subst (λ kinds. HasKind kinds c.in-Err.error) (ap₂ fault_of grammar words) (c.in-Err.ensures.kinds (ap is_simple_and_free grammar ∙ jac_free)) in
    IfOk-weaker c.refused.result _ _
    (λ command is. is.0 ∙ refused (fault_of jac c.args.words.now) c.in-Err.error (entered_command (subcommand_of jac c.args.words.now)) has_kind is.1)
    c.refused.ensures
