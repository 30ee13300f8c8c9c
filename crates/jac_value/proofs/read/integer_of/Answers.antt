use Rattle.std.proofs.Common.{◌≡◌, false, ap, sym, ◌∙◌, w64, rules, ℤ, Option, Some}
use Rattle.std.specs.Prelude.{FitsSigned}
use Rattle.std.proofs.lemmas.Int.{to_z-of_z}
use Rattle.jac_value.specs.Values.{starts_with_plus}
use Rattle.jac_value.specs.Values.{integer_of}
use Rattle.jac_value.proofs.Parsed.{integer-number, integer-none}
use Rattle.jac_value.proofs.read.integer_of.Goals as goal

abbrev some : ℤ → Option ℤ
some z = Some z

pub returns-in-Ok : goal.returns-in-Ok
returns-in-Ok c =
    let bare : starts_with_plus c.as_str.result.now ≡ false = ap starts_with_plus c.as_str.ensures ∙ sym c.if-has_plus.ensures in
    let fits : FitsSigned w64 c.in-Ok.number = search rules in
    ap some (to_z-of_z w64 c.in-Ok.number fits)
    ∙ integer-number c.as_str.result.now c.in-Ok.number bare c.in-Ok.ensures.value.0.0.0 c.in-Ok.ensures.value.0.0.1 c.in-Ok.ensures.value.0.1 ∙ ap integer_of c.as_str.ensures

pub returns-in-Err : goal.returns-in-Err
returns-in-Err c =
    let bare : starts_with_plus c.as_str.result.now ≡ false = ap starts_with_plus c.as_str.ensures ∙ sym c.if-has_plus.ensures in
    integer-none c.as_str.result.now bare c.in-Err.ensures.value.0 ∙ ap integer_of c.as_str.ensures
