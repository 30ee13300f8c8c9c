use Rattle.std.proofs.Common.{arith}
use Rattle.std.proofs.lemmas.List.Elements.{All-from_get_or}
use Rattle.percent_encoding.proofs.PercentLemmas.{IsByte}
use Rattle.jac_plain.proofs.Locations.{location_escapes}
use Rattle.jac_plain.proofs.pages.escape.Goals as goal

pub returns : goal.returns
returns c =
    let small = All-from_get_or IsByte c.args.to.now 0 (λ i within. omega (arith, c.type_inv.to i)) in
    rw (c.from_string.ensures, c.in_ok-append_to.ensures.ok, c.new-text.ensures.bytes, c.percent_encode.ensures.text) (location_escapes c.args.to.now small)
