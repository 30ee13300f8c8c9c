use Rattle.std.proofs.Common.{◌≡◌, ◌++◌, drop}
use Rattle.jac_value.specs.Html.{html}
use Rattle.jac_value.proofs.html.add_html.Given as goal

abbrev pub invariant-bytes : goal.invariant-bytes
invariant-bytes l = l.page.items ++ html (drop l.byte-index l.text) ≡ l.fn.page.items ++ html l.text
