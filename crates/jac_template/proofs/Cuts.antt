-- The pieces after the first.
use Rattle.std.proofs.Common.{◌≡◌, ◌<◌, ℕ, zero, suc, ◌+◌, ◌-◌, Bool, true, false, if◌then◌else◌, List, [], ◌∷◌, length, take, drop, Option, Some, None, refl, sym, ◌∙◌, ap, subst, arith}
use Rattle.std.proofs.lemmas.List.{drop-drop}
use Rattle.jac_template.specs.Pieces.{Piece, Cut, piece_cut, piece, begins_with, literal_length, content_length, tag_cut, first_cut, pieces_from}
use Rattle.jac_template.specs.Tags.{Meaning, MeansAs, MeansTag}
use Rattle.jac_template.specs.declared.pieces.Kind.{Kind}
use Rattle.jac_template.specs.declared.pieces.Kind.TheVariants as kinds

-- The bytes of the previous piece are skipped.
passed : (skip place : ℕ) (bytes : List ℕ) → pieces_from place skip bytes ≡ pieces_from (place + skip) 0 (drop skip bytes)
passed zero place bytes = ap (λ (n : ℕ). pieces_from n 0 bytes) (omega arith)
passed (suc skip) place [] = refl
passed (suc skip) place (b ∷ bytes) = passed skip (place + 1) bytes ∙ ap (λ (n : ℕ). pieces_from n 0 (drop skip bytes)) (omega arith)

behind_first : (place size b : ℕ) (bytes : List ℕ) → 0 < size → pieces_from (place + 1) (size - 1) bytes ≡ pieces_from (place + size) 0 (drop size (b ∷ bytes))
behind_first place zero b bytes some = absurd (omega arith)
behind_first place (suc k) b bytes some =
    let e : suc k - 1 ≡ k = omega arith in
    rw e (passed k (place + 1) bytes ∙ ap (λ (n : ℕ). pieces_from n 0 (drop k bytes)) (omega arith))

-- Each piece has at least one byte.
tag_sized : (kind : Kind) (inside : List ℕ) (found : Option ℕ) → 0 < (tag_cut kind inside found).size
tag_sized kind inside (Some n) = omega arith
tag_sized kind inside None = omega arith

sized : (b : ℕ) (bytes : List ℕ) → 0 < (first_cut (b ∷ bytes)).size
sized b bytes = either (begins_with 123 123 (b ∷ bytes)) (begins_with 123 37 (b ∷ bytes)) refl refl
  where
    either : (output control : Bool) → begins_with 123 123 (b ∷ bytes) ≡ output → begins_with 123 37 (b ∷ bytes) ≡ control
        → 0 < (if output then tag_cut kinds.Output (drop 2 (b ∷ bytes)) (content_length 125 (drop 2 (b ∷ bytes))) else
        if control then tag_cut kinds.Control (drop 2 (b ∷ bytes)) (content_length 37 (drop 2 (b ∷ bytes))) else
        piece_cut kinds.Literal (take (literal_length (b ∷ bytes)) (b ∷ bytes)) (literal_length (b ∷ bytes))).size
    either true control e k = tag_sized kinds.Output (drop 2 (b ∷ bytes)) (content_length 125 (drop 2 (b ∷ bytes)))
    either false true e k = tag_sized kinds.Control (drop 2 (b ∷ bytes)) (content_length 37 (drop 2 (b ∷ bytes)))
    either false false e k = rw (e, k) (omega arith)

-- Fewer bytes are left after the first piece.
pub shorter : (left rest : List ℕ) → 0 < length left → length rest + (first_cut left).size ≡ length left → length rest < length left
shorter [] rest some size = absurd (omega arith)
shorter (b ∷ left) rest some size = let n = sized b left in omega (arith, n, size)

-- The first piece, and those of the bytes that follow it.
pub first_piece : (place : ℕ) (left rest : List ℕ) → 0 < length left → rest ≡ drop (first_cut left).size left → length rest + (first_cut left).size ≡ length left
    → pieces_from place 0 left ≡ piece place (first_cut left) ∷ pieces_from (place + (length left - length rest)) 0 rest
first_piece place [] rest some behind size = absurd (omega arith)
first_piece place (b ∷ left) rest some behind size =
    let there : place + (first_cut (b ∷ left)).size ≡ place + (length (b ∷ left) - length rest) = omega (arith, size) in
    ap (λ (ps : List Piece). piece place (first_cut (b ∷ left)) ∷ ps)
    (behind_first place (first_cut (b ∷ left)).size b left (sized b left)
    ∙ ap (λ (n : ℕ). pieces_from n 0 (drop (first_cut (b ∷ left)).size (b ∷ left))) there
    ∙ ap (λ (r : List ℕ). pieces_from (place + (length (b ∷ left) - length rest)) 0 r) (sym behind))

-- The meaning of a piece is that of its kind and content.
pub means_piece : (place : ℕ) (kind : Kind) (content : List ℕ) (c : Cut) (m : Meaning) → kind ≡ c.kind → content ≡ c.content → MeansAs kind place content m
    → MeansTag (piece place c) m
means_piece place kind content c m k e h =
    subst (λ (z : Kind). MeansAs z place c.content m) k (subst (λ (z : List ℕ). MeansAs kind place z m) e h)

-- The bytes after a tag, counted from its content or from its first byte.
drop_two : (n : ℕ) (bytes : List ℕ) → drop n (drop 2 bytes) ≡ drop (2 + n) bytes
drop_two n bytes = drop-drop n 2 bytes

tag_behind : (kind : Kind) (found : Option ℕ) (bytes rest : List ℕ) → rest ≡ drop ((tag_cut kind (drop 2 bytes) found).size - 2) (drop 2 bytes)
    → rest ≡ drop (tag_cut kind (drop 2 bytes) found).size bytes
tag_behind kind (Some n) bytes rest e =
    let same : 2 + (n + 4 - 2) ≡ n + 4 = omega arith in
    e ∙ drop_two (n + 4 - 2) bytes ∙ ap (λ (m : ℕ). drop m bytes) same
tag_behind kind None bytes rest e =
    let same : 2 + (length (drop 2 bytes) + 2 - 2) ≡ length (drop 2 bytes) + 2 = omega arith in
    e ∙ drop_two (length (drop 2 bytes) + 2 - 2) bytes ∙ ap (λ (m : ℕ). drop m bytes) same

pub behind_tag : (kind : Kind) (mark : ℕ) (bytes inside rest : List ℕ) → inside ≡ drop 2 bytes
    → rest ≡ drop ((tag_cut kind inside (content_length mark inside)).size - 2) inside
    → rest ≡ drop (tag_cut kind (drop 2 bytes) (content_length mark (drop 2 bytes))).size bytes
behind_tag kind mark bytes inside rest same e =
    tag_behind kind (content_length mark (drop 2 bytes)) bytes rest
    (subst (λ (i : List ℕ). rest ≡ drop ((tag_cut kind i (content_length mark i)).size - 2) i) same e)
