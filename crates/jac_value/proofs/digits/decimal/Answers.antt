use Rattle.std.proofs.Common.{◌≡◌, ◌<◌, ◌^◌, Option, None, Bool, true, false, List, ℕ, Err, if◌then◌else◌, refl, rules, length, nat_lt}
use borrow.Author.Tests.{ltb-true}
use Rattle.std.specs.List.{list_all}
use Rattle.std.specs.Char.{is_ascii_digit}
use Rattle.std.specs.Str.Parse.{digits_value}
use Rattle.std.proofs.lemmas.Str.{IsUtf8-from_ascii}
use Rattle.std.proofs.lemmas.Str.Parse.{IsNumeralModel, numerals_by_value, parse_digits}
use Rattle.jac_value.proofs.Ascii.{IsAscii-digits}
use Rattle.jac_value.proofs.digits.decimal.Goals as goal

own : IsNumeralModel (λ (ds : List ℕ). list_all is_ascii_digit ds ≡ true) (digits_value 10)
own = numerals_by_value _ (search rules)

none_unless : (b : Bool) (x : Option ℕ) → (b ≡ true → ⊥) → None ≡ (if b then x else None)
none_unless true x h = absurd (h refl)
none_unless false x h = refl

pub unreachable-requires : goal.unreachable-requires
unreachable-requires c = c.in-Err.ensures.cases.0 (IsUtf8-from_ascii _ (IsAscii-digits _ c.requires.digits))

pub returns-in-Err-parse : goal.returns-in-Err-parse
returns-in-Err-parse c =
    let same : c.in-Ok.text.now ≡ c.args.word.now = c.in-Ok.ensures.cases.0 in
    let digits = rw (← same) at c.requires.digits in
    let refused = parse_digits own 128 c.in-Ok.text.now (Err c.in-Err-parse.field-0) c.in-Err-parse.ensures.value.0 digits in
    let some : 0 < length c.in-Ok.text.now = rw same c.requires.some in
    none_unless (nat_lt (digits_value 10 c.args.word.now) (2 ^ 128)) _ (λ e. refused (some, rw same (ltb-true _ _ e)))
