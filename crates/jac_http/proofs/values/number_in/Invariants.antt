use Rattle.std.proofs.Common.{◌≡◌, ◌≤◌, true, min, drop}
use Rattle.std.specs.Char.{is_ascii_digit}
use Rattle.std.specs.List.{list_all}
use Rattle.std.specs.Str.Parse.{digits_value_after, digits_value}
use Rattle.jac_http.proofs.values.number_in.Given as goal

abbrev pub invariant-digits : goal.invariant-digits
invariant-digits l =
    (l.number ≤ 65537)
    × (list_all is_ascii_digit (drop l.digit-index l.digits) ≡ true)
    × (min 65537 (digits_value_after 10 l.number (drop l.digit-index l.digits)) ≡ min 65537 (digits_value 10 l.digits))
