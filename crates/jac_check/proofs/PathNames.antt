-- The names in the segments of a path.
use Rattle.std.proofs.Common.{◌≡◌, refl, subst, arith, Option, Some, None, ℕ, zero, suc, ◌<◌, nat_le, Bool, true, false, not, ◌&&◌, if◌then◌else◌, List, [], ◌∷◌, length}
use Rattle.std.specs.List.{list_all, slice_index}
use Rattle.std.specs.Char.{is_ascii_alphabetic}
use Rattle.std.specs.Str.{IsUtf8}
use Rattle.std.proofs.lemmas.Bool.{and_parts}
use Rattle.std.proofs.lemmas.Bool.Decides.{nat_tests}
use Rattle.std.proofs.lemmas.Str.{IsUtf8-from_ascii}
use Rattle.jac_lang.specs.declared.field_kinds.Field.{Field}
use Rattle.jac_value.specs.Names.{is_atom_byte, is_name, is_reserved}
use Rattle.jac_value.specs.Paths.{inner, is_named_segment, segment_name, names_in}
use Rattle.jac_check.specs.Scope.{has_field}
use Rattle.jac_check.specs.Verdict.{Reason, ◌before◌, fault_unless}
use Rattle.jac_check.specs.Applications.{path_fault}

small : (b : ℕ) → is_atom_byte b ≡ true → b < 128
small b h = grind (arith, nat_tests)

ascii_at : (bytes : List ℕ) → list_all is_atom_byte bytes ≡ true → (i : ℕ) → slice_index bytes i < 128
ascii_at [] h i = omega arith
ascii_at (b ∷ bs) h zero = small b (and_parts _ _ h).0
ascii_at (b ∷ bs) h (suc i) = ascii_at bs (and_parts _ _ h).1 i

name_utf8 : (name : List ℕ) → is_name name ≡ true → IsUtf8 name
name_utf8 name h =
    let front = nat_le (length name) 64 && is_ascii_alphabetic (slice_index name 0) && not (is_reserved name) in
    IsUtf8-from_ascii name (ascii_at name (and_parts front (list_all is_atom_byte name) h).1)

chosen : (b : Bool) (inside name : List ℕ) → (b ≡ true → IsUtf8 inside) → Some name ≡ (if b then Some inside else None) → IsUtf8 name
chosen true inside name text h = let same : inside ≡ name = cc in subst IsUtf8 same (text refl)
chosen false inside name text h = cc

-- A name in a segment is UTF-8.
pub text_of_name : (segment name : List ℕ) → Some name ≡ segment_name segment → IsUtf8 name
text_of_name segment name h = chosen (is_named_segment segment) (inner segment) name (λ e. name_utf8 (inner segment) (and_parts _ _ e).1) h

alone_before : (known : Bool) (name : List ℕ) (rest : Option Reason)
    → (fault_unless known (Reason.unknown name) before rest) ≡ ((fault_unless known (Reason.unknown name) before None) before rest)
alone_before true name rest = refl
alone_before false name rest = refl

first_by : (b : Bool) (params : List Field) (name : List ℕ) (names : List (List ℕ))
    → path_fault params (if b then name ∷ names else names) ≡ (path_fault params (if b then name ∷ [] else []) before path_fault params names)
first_by true params name names = alone_before (has_field name params) name (path_fault params names)
first_by false params name names = refl

-- The fault in the first segment, or else the fault in the rest.
pub segment_first : (params : List Field) (segment : List ℕ) (segments : List (List ℕ))
    → path_fault params (names_in (segment ∷ segments)) ≡ (path_fault params (names_in (segment ∷ [])) before path_fault params (names_in segments))
segment_first params segment segments = first_by (is_named_segment segment) params (inner segment) (names_in segments)
