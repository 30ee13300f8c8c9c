-- Kinds and values, their defaults, their text, and how a text is read as a value.
use Rattle.std.specs.Prelude.{ℕ, Bool, true, false, ◌&&◌, ◌||◌, ◌==◌, nat_lt, nat_le, if◌then◌else◌, List, [], length, drop, slice_index, codes, ℤ, pos, neg_ℤ, Option, Some, None}
use Rattle.std.specs.Cmp.Lexicographic.{pointwise}
use Rattle.std.specs.Char.{is_digit}
use Rattle.std.specs.Fmt.{decimal, signed_decimal}
use Rattle.std.specs.List.{list_all}
use Rattle.std.specs.Option.{unwrap_or}
use Rattle.std.specs.Str.Parse.{digits_value}
use Rattle.jac_value.specs.Ids.{is_id_of}
use Rattle.jac_value.specs.declared.value.Kind.{Kind}
use Rattle.jac_value.specs.declared.value.Kind.TheVariants as kind
use Rattle.jac_value.specs.declared.value.Value.{Value}
use Rattle.jac_value.specs.declared.value.Value.TheVariants as value

-- The value of a field of this kind if nothing else is given.
abbrev pub default_value : Kind → Value
default_value kind.Int = value.Int (pos 0)
default_value kind.Text = value.Text []
default_value kind.Bool = value.Bool false
default_value (kind.Ref m) = value.Ref None

-- The value has the kind. A reference to a record has the kind of the record's model. An empty
-- reference has the kind of each model.
abbrev pub has_kind : Kind → Value → Bool
has_kind kind.Int (value.Int i) = true
has_kind kind.Text (value.Text t) = true
has_kind kind.Bool (value.Bool b) = true
has_kind (kind.Ref m) (value.Ref None) = true
has_kind (kind.Ref m) (value.Ref (Some id)) = is_id_of id m
has_kind k v = false

-- How a page shows the value.
abbrev pub value_text : Value → List ℕ
value_text (value.Int i) = signed_decimal i
value_text (value.Text t) = t
value_text (value.Bool true) = codes "true"
value_text (value.Bool false) = codes "false"
value_text (value.Ref None) = []
value_text (value.Ref (Some id)) = decimal id

-- The text begins with `+`. No such text is read as a number.
abbrev pub starts_with_plus : List ℕ → Bool
starts_with_plus bs = slice_index bs 0 == 43

-- Decimal digits alone, and at least one.
abbrev pub is_numeral : List ℕ → Bool
is_numeral ds = list_all (λ c. is_digit c 10) ds && nat_lt 0 (length ds)

-- Decimal digits, at least one, with a number up to `most`.
abbrev pub is_number_to : ℕ → List ℕ → Bool
is_number_to most ds = is_numeral ds && nat_le (digits_value 10 ds) most

-- The signed integer of 64 bits that an optional minus and digits write.
abbrev pub integer_of : List ℕ → Option ℤ
integer_of bs =
    if slice_index bs 0 == 45
    then (if is_number_to 0x8000_0000_0000_0000 (drop 1 bs)
    then Some (neg_ℤ (pos (digits_value 10 (drop 1 bs)))) else None)
    else (if is_number_to 0x7FFF_FFFF_FFFF_FFFF bs then Some (pos (digits_value 10 bs)) else None)

-- The integer that the text writes, or else 0.
abbrev pub int_read : List ℕ → ℤ
int_read bs = unwrap_or (integer_of bs) (pos 0)

-- `1`, `true` and `on` are true. Every other text is false.
abbrev pub bool_read : List ℕ → Bool
bool_read bs = pointwise ◌==◌ bs (codes "1") || pointwise ◌==◌ bs (codes "true") || pointwise ◌==◌
    bs (codes "on")

-- The id that the digits write, if it is an id of the model, or else none.
abbrev pub ref_read : ℕ → List ℕ → Option ℕ
ref_read m bs = if is_numeral bs && is_id_of (digits_value 10 bs) m then Some (digits_value 10 bs)
    else None

-- The value that the text of a parameter is read as.
abbrev pub value_read : Kind → List ℕ → Value
value_read kind.Int bs = value.Int (int_read bs)
value_read kind.Text bs = value.Text bs
value_read kind.Bool bs = value.Bool (bool_read bs)
value_read (kind.Ref m) bs = value.Ref (ref_read m bs)
