-- How the text of a template is cut into pieces: literal text and tags.
use Rattle.std.specs.Prelude.{ℕ, zero, suc, ◌+◌, ◌-◌, ◌==◌, ◌&&◌, ◌||◌, Bool, false, if◌then◌else◌, Option, Some, None, List, [], ◌∷◌, length, take, drop}
use Rattle.std.specs.Option.{option_map}
use Rattle.jac_template.specs.declared.pieces.Kind.{Kind}
use Rattle.jac_template.specs.declared.pieces.Kind.TheVariants as kinds

-- The bytes begin with these two.
abbrev pub begins_with : ℕ → ℕ → List ℕ → Bool
begins_with first second [] = false
begins_with first second (a ∷ []) = false
begins_with first second (a ∷ b ∷ bs) = a == first && b == second

-- `{{` or `{%`.
abbrev pub begins_tag : List ℕ → Bool
begins_tag bytes = begins_with 123 123 bytes || begins_with 123 37 bytes

-- The number of bytes before the first tag.
abbrev pub literal_length : List ℕ → ℕ
literal_length [] = 0
literal_length (b ∷ bs) = if begins_tag (b ∷ bs) then 0 else literal_length bs + 1

-- The number of bytes before the end of a tag, which is the first `mark` followed by `}` outside of
-- quoted texts.
abbrev mutual
  pub content_length : ℕ → List ℕ → Option ℕ
  content_length mark [] = None
  content_length mark (b ∷ bs) =
      if begins_with mark 125 (b ∷ bs) then Some 0
      else option_map (λ n. n + 1) (if b == 34 then quoted_length mark bs
      else content_length mark bs)

  -- The same, from inside a quoted text. A quote ends it.
  pub quoted_length : ℕ → List ℕ → Option ℕ
  quoted_length mark [] = None
  quoted_length mark (b ∷ bs) =
      option_map (λ n. n + 1) (if b == 34 then content_length mark bs else if b == 92
      then escaped_length mark bs else quoted_length mark bs)

  -- The same, after a backslash in a quoted text. The next byte doesn't end the text.
  pub escaped_length : ℕ → List ℕ → Option ℕ
  escaped_length mark [] = None
  escaped_length mark (b ∷ bs) = option_map (λ n. n + 1) (quoted_length mark bs)

-- The first piece of some bytes: its kind, its content, and the number of its bytes.
pub record Cut : Type 0 where
  pub kind : Kind
  pub content : List ℕ
  pub size : ℕ

abbrev pub piece_cut : Kind → List ℕ → ℕ → Cut
piece_cut kind content size = record { kind = kind; content = content; size = size }

-- A tag with these bytes after its first two. The number, if there is one, is that of the bytes
-- before its end.
abbrev pub tag_cut : Kind → List ℕ → Option ℕ → Cut
tag_cut kind inside (Some n) = piece_cut kind (take n inside) (n + 4)
tag_cut kind inside None = piece_cut kinds.Endless [] (length inside + 2)

abbrev pub first_cut : List ℕ → Cut
first_cut bytes =
    if begins_with 123 123 bytes then tag_cut kinds.Output (drop 2 bytes)
    (content_length 125 (drop 2 bytes)) else
    if begins_with 123 37 bytes then tag_cut kinds.Control (drop 2 bytes)
    (content_length 37 (drop 2 bytes)) else
    piece_cut kinds.Literal (take (literal_length bytes) bytes) (literal_length bytes)

-- A piece, and the place of its first byte.
pub record Piece : Type 0 where
  pub place : ℕ
  pub kind : Kind
  pub content : List ℕ

abbrev pub piece : ℕ → Cut → Piece
piece place c = record { place = place; kind = c.kind; content = c.content }

-- The pieces of the bytes. The first byte is at `place`, and the first `skip` bytes belong to the
-- previous piece.
abbrev pub pieces_from : ℕ → ℕ → List ℕ → List Piece
pieces_from place skip [] = []
pieces_from place zero (b ∷ bs) = piece place (first_cut (b ∷ bs)) ∷ pieces_from (place + 1)
    ((first_cut (b ∷ bs)).size - 1) bs
pieces_from place (suc skip) (b ∷ bs) = pieces_from (place + 1) skip bs

abbrev pub pieces : List ℕ → List Piece
pieces text = pieces_from 0 0 text
