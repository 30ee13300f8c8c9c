-- The pieces of a text in UTF-8 are UTF-8.
use Rattle.std.proofs.Common.{◌≡◌, ◌<◌, ◌≤◌, ◌+◌, ◌==◌, ◌||◌, ◌⊎◌, inl, inr, ℕ, suc, Bool, true, false, if◌then◌else◌, List, [], ◌∷◌, length, take, drop, get_or, Option, Some, None, refl, subst, arith}
use Rattle.std.proofs.lemmas.Bool.Decides.{nat_tests}
use Rattle.std.proofs.lemmas.Bool.{cases_lt}
use Rattle.std.proofs.lemmas.Str.{IsUtf8-take, IsUtf8-drop, IsCharBoundary-end, IsCharBoundary-before_ascii, IsCharBoundary-after_ascii}
use Rattle.std.specs.Option.{option_map}
use Rattle.std.specs.Prelude.{Result, Ok, Err, IsOk, MatchResult}
use Rattle.std.specs.Str.{IsUtf8, IsCharBoundary}
use Rattle.jac_template.specs.Marked.{HasText}
use Rattle.jac_template.specs.Pieces.{begins_with, begins_tag, literal_length, content_length, quoted_length, escaped_length, piece_cut, tag_cut, first_cut}
use Rattle.jac_template.specs.declared.pieces.Kind.{Kind}
use Rattle.jac_template.specs.declared.pieces.Kind.TheVariants as kinds

-- Literal text ends before an ASCII byte or at the end.
begins_by : (first second a : ℕ) (bytes : List ℕ) → begins_with first second (a ∷ bytes) ≡ true → a ≡ first
begins_by first second a [] e = absurd (grind (arith, e))
begins_by first second a (b ∷ bytes) e = grind (arith, nat_tests, e)

tag_by : (a : ℕ) (bytes : List ℕ) → begins_tag (a ∷ bytes) ≡ true → a ≡ 123
tag_by a bytes e = either (begins_with 123 123 (a ∷ bytes)) (begins_with 123 37 (a ∷ bytes)) refl refl e
  where
    either : (x y : Bool) → begins_with 123 123 (a ∷ bytes) ≡ x → begins_with 123 37 (a ∷ bytes) ≡ y → (x || y) ≡ true → a ≡ 123
    either true y p q h = begins_by 123 123 a bytes p
    either false true p q h = begins_by 123 37 a bytes q
    either false false p q h = absurd (grind (arith, h))

-- The place is the end, or is before an ASCII byte.
abbrev IsCut : List ℕ → ℕ → Type 0
IsCut bytes n = (n ≤ length bytes) × (n < length bytes → get_or bytes n 0 < 128)

further_cut : (b n : ℕ) (bytes : List ℕ) → IsCut bytes n → IsCut (b ∷ bytes) (n + 1)
further_cut b n bytes (most, ascii) =
    let same : n + 1 ≡ suc n = omega arith in
    (omega (arith, most), λ less. rw same (ascii (omega (arith, less))))

literal_or_tag : (t : Bool) (b : ℕ) (bytes : List ℕ) → begins_tag (b ∷ bytes) ≡ t → IsCut bytes (literal_length bytes)
    → IsCut (b ∷ bytes) (if t then 0 else literal_length bytes + 1)
literal_or_tag true b bytes e h = let is = tag_by b bytes e in (omega arith, λ less. omega (arith, is))
literal_or_tag false b bytes e h = further_cut b (literal_length bytes) bytes h

literal_cut : (bytes : List ℕ) → IsCut bytes (literal_length bytes)
literal_cut [] = (omega arith, λ less. absurd (omega (arith, less)))
literal_cut (b ∷ bytes) = literal_or_tag (begins_tag (b ∷ bytes)) b bytes refl (literal_cut bytes)

boundary : (bytes : List ℕ) (n : ℕ) → IsCut bytes n → IsCharBoundary bytes n
boundary bytes n (most, ascii) = split (cases_lt n (length bytes))
  where
    split : (n < length bytes) ⊎ (length bytes ≤ n) → IsCharBoundary bytes n
    split (inl less) = IsCharBoundary-before_ascii bytes n less (ascii less)
    split (inr more) =
        let all : length bytes ≡ n = omega (arith, more, most) in
        subst (λ (m : ℕ). IsCharBoundary bytes m) all (IsCharBoundary-end bytes)

-- A tag's content ends before a byte and a `}`.
abbrev EndsAt : List ℕ → Option ℕ → Type 0
EndsAt bytes None = Unit {0}
EndsAt bytes (Some n) = (n + 2 ≤ length bytes) × (get_or bytes (n + 1) 0 ≡ 125)

further_end : (b : ℕ) (bytes : List ℕ) (found : Option ℕ) → EndsAt bytes found → EndsAt (b ∷ bytes) (option_map (λ n. n + 1) found)
further_end b bytes None h = tt
further_end b bytes (Some n) (most, is) =
    let same : n + 1 + 1 ≡ suc (n + 1) = omega arith in
    (omega (arith, most), rw same is)

ends_first : (mark b : ℕ) (bytes : List ℕ) → begins_with mark 125 (b ∷ bytes) ≡ true → EndsAt (b ∷ bytes) (Some 0)
ends_first mark b [] e = absurd (grind (arith, e))
ends_first mark b (c ∷ bytes) e = let is : c ≡ 125 = grind (arith, nat_tests, e) in (omega arith, is)

ends_or_not : (t : Bool) (mark b : ℕ) (bytes : List ℕ) (found : Option ℕ) → begins_with mark 125 (b ∷ bytes) ≡ t → EndsAt bytes found
    → EndsAt (b ∷ bytes) (if t then Some 0 else option_map (λ n. n + 1) found)
ends_or_not true mark b bytes found e h = ends_first mark b bytes e
ends_or_not false mark b bytes found e h = further_end b bytes found h

ends_either : (t : Bool) (bytes : List ℕ) (found other : Option ℕ) → EndsAt bytes found → EndsAt bytes other → EndsAt bytes (if t then found else other)
ends_either true bytes found other h k = h
ends_either false bytes found other h k = k

mutual
  content_ends : (mark : ℕ) (bytes : List ℕ) → EndsAt bytes (content_length mark bytes)
  content_ends mark [] = tt
  content_ends mark (b ∷ bytes) =
      ends_or_not (begins_with mark 125 (b ∷ bytes)) mark b bytes (if b == 34 then quoted_length mark bytes else content_length mark bytes) refl
      (ends_either (b == 34) bytes (quoted_length mark bytes) (content_length mark bytes) (quoted_ends mark bytes) (content_ends mark bytes))

  quoted_ends : (mark : ℕ) (bytes : List ℕ) → EndsAt bytes (quoted_length mark bytes)
  quoted_ends mark [] = tt
  quoted_ends mark (b ∷ bytes) =
      further_end b bytes (if b == 34 then content_length mark bytes else if b == 92 then escaped_length mark bytes else quoted_length mark bytes)
      (ends_either (b == 34) bytes (content_length mark bytes) (if b == 92 then escaped_length mark bytes else quoted_length mark bytes) (content_ends mark bytes)
      (ends_either (b == 92) bytes (escaped_length mark bytes) (quoted_length mark bytes) (escaped_ends mark bytes) (quoted_ends mark bytes)))

  escaped_ends : (mark : ℕ) (bytes : List ℕ) → EndsAt bytes (escaped_length mark bytes)
  escaped_ends mark [] = tt
  escaped_ends mark (b ∷ bytes) = further_end b bytes (quoted_length mark bytes) (quoted_ends mark bytes)

-- The bytes after a tag are UTF-8.
behind_tag_text : (kind : Kind) (a b : ℕ) (inside : List ℕ) (found : Option ℕ) → EndsAt inside found → IsUtf8 (a ∷ b ∷ inside)
    → IsUtf8 (drop (tag_cut kind inside found).size (a ∷ b ∷ inside))
behind_tag_text kind a b inside (Some n) (most, is) text =
    let left = a ∷ b ∷ inside in
    let place : n + 3 ≡ suc (suc (n + 1)) = omega arith in
    let byte : get_or left (n + 3) 0 ≡ 125 = rw place is in
    let within : n + 3 < length left = omega (arith, most) in
    let next : n + 3 + 1 ≡ n + 4 = omega arith in
    IsUtf8-drop left (n + 4) text (subst (λ (m : ℕ). IsCharBoundary left m) next (IsCharBoundary-after_ascii left (n + 3) text within (omega (arith, byte))))
behind_tag_text kind a b inside None h text =
    let left = a ∷ b ∷ inside in
    let all : length left ≡ length inside + 2 = omega arith in
    IsUtf8-drop left (length inside + 2) text (subst (λ (m : ℕ). IsCharBoundary left m) all (IsCharBoundary-end left))

behind_literal : (left : List ℕ) → IsUtf8 left → IsUtf8 (drop (literal_length left) left)
behind_literal left text = IsUtf8-drop left (literal_length left) text (boundary left (literal_length left) (literal_cut left))

-- The bytes after the first piece are UTF-8.
pub rest_text : (left : List ℕ) → IsUtf8 left → IsUtf8 (drop (first_cut left).size left)
rest_text [] text = text
rest_text (a ∷ []) text = behind_literal (a ∷ []) text
rest_text (a ∷ b ∷ inside) text = either (begins_with 123 123 (a ∷ b ∷ inside)) (begins_with 123 37 (a ∷ b ∷ inside))
  where
    left : List ℕ
    left = a ∷ b ∷ inside

    either : (output control : Bool)
        → IsUtf8 (drop (if output then tag_cut kinds.Output inside (content_length 125 inside) else
        if control then tag_cut kinds.Control inside (content_length 37 inside) else
        piece_cut kinds.Literal (take (literal_length (a ∷ b ∷ inside)) (a ∷ b ∷ inside)) (literal_length (a ∷ b ∷ inside))).size (a ∷ b ∷ inside))
    either true control = behind_tag_text kinds.Output a b inside (content_length 125 inside) (content_ends 125 inside) text
    either false true = behind_tag_text kinds.Control a b inside (content_length 37 inside) (content_ends 37 inside) text
    either false false = behind_literal (a ∷ b ∷ inside) text

-- Literal text is UTF-8.
no_literal : (kind : Kind) (inside : List ℕ) (found : Option ℕ) → HasText kind [] → ((content : List ℕ) → HasText kind content)
    → HasText (tag_cut kind inside found).kind (tag_cut kind inside found).content
no_literal kind inside (Some n) empty any = any (take n inside)
no_literal kind inside None empty any = tt

pub piece_text : (left : List ℕ) → IsUtf8 left → HasText (first_cut left).kind (first_cut left).content
piece_text left text = either (begins_with 123 123 left) (begins_with 123 37 left)
  where
    either : (output control : Bool)
        → HasText (if output then tag_cut kinds.Output (drop 2 left) (content_length 125 (drop 2 left)) else
        if control then tag_cut kinds.Control (drop 2 left) (content_length 37 (drop 2 left)) else
        piece_cut kinds.Literal (take (literal_length left) left) (literal_length left)).kind
        (if output then tag_cut kinds.Output (drop 2 left) (content_length 125 (drop 2 left)) else
        if control then tag_cut kinds.Control (drop 2 left) (content_length 37 (drop 2 left)) else
        piece_cut kinds.Literal (take (literal_length left) left) (literal_length left)).content
    either true control = no_literal kinds.Output (drop 2 left) (content_length 125 (drop 2 left)) tt (λ content. tt)
    either false true = no_literal kinds.Control (drop 2 left) (content_length 37 (drop 2 left)) tt (λ content. tt)
    either false false = IsUtf8-take left (literal_length left) text (boundary left (literal_length left) (literal_cut left))

pub text_read : {T E : Type 0} (P : T → Type 0) (Q : E → Type 0) (r : Result T E) (bytes : List ℕ) → MatchResult r P (λ e. (¬ (IsUtf8 bytes)) × Q e) → IsUtf8 bytes
    → IsOk r
text_read P Q (Ok x) bytes cases text = refl
text_read P Q (Err e) bytes cases text = absurd (cases.0 text)
