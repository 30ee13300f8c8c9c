use Rattle.std.proofs.Common.{◌≡◌, ◌∙◌, ap, sym, List, ℕ, ◌++◌}
use Rattle.jac_replies.specs.Spelled.{more_labels}
use Rattle.jac_replies.proofs.Longer.{more_joined}
use Rattle.jac_replies.proofs.label_text.add.Goals as goal

pub returns-in-Ok-clause-kept : goal.returns-in-Ok-clause-kept
returns-in-Ok-clause-kept c =
    let before = c.args.kept.now.items in
    let labels = c.args.labels.now in
    c.in-Ok.ensures.text ∙ ap (λ (text : List ℕ). text ++ more_labels labels) c.requires
    ∙ sym (more_joined before labels) ∙ ap more_labels (sym c.in-Ok.ensures.kept)
