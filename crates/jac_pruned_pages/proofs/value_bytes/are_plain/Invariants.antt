use Rattle.std.proofs.Common.{◌≡◌, drop}
use Rattle.jac_value.specs.Html.{html}
use Rattle.jac_pruned_pages.proofs.value_bytes.are_plain.Given as goal

-- If HTML shows the bytes that are left as they are, it shows all bytes as they are.
abbrev pub invariant-bytes : goal.invariant-bytes
invariant-bytes l = html (drop l.byte-index l.text) ≡ drop l.byte-index l.text → html l.text ≡ l.text
