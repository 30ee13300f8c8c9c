use Rattle.std.proofs.Common.{◌∙◌, ap, sym}
use Rattle.std.proofs.lemmas.List.{drop_all}
use Rattle.jac_value.specs.Html.{html}
use Rattle.jac_pruned_pages.proofs.value_bytes.are_plain.Goals as goal

pub returns : goal.returns
returns c = λ same. c.bytes.invariant (ap html (drop_all c.bytes.byte-index c.args.text.now c.bytes-test.false) ∙ sym (drop_all c.bytes.byte-index c.args.text.now c.bytes-test.false))
