use Rattle.std.proofs.Common.{◌≡◌, ◌∙◌, ap, sym, subst, List, ℕ, ◌++◌, OnOk, Some}
use Rattle.std.proofs.lemmas.Bool.Decides.{Decides-eqb}
use Rattle.std.proofs.lemmas.Slice.Eq.{strip_prefix_is}
use Rattle.jac_replies.proofs.label_text.follow.Goals as goal

pub returns-in-Some-clause-followed : goal.returns-in-Some-clause-followed
returns-in-Some-clause-followed c =
    let front = c.as_slice.result.now in
    let more = c.in-Some.more.now in
    let split : c.args.labels.now ≡ front ++ more =
    strip_prefix_is Decides-eqb c.args.labels.now front (Some c.in-Some.more) c.in-Some.ensures.cases in
    let same : c.args.kept.now.items ++ more ≡ c.args.labels.now =
    ap (λ (xs : List ℕ). xs ++ more) (sym c.as_slice.ensures.value) ∙ sym split in
    subst (λ (xs : List ℕ). OnOk c.add.result (c.add.new.kept.items ≡ xs)) same c.add.ensures.added
