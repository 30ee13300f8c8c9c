-- What the pieces of a page add up to: its bytes, whether it is missing, and its redirection.
use Rattle.std.specs.Prelude.{ℕ, Bool, true, List, [], ◌∷◌, ◌++◌, Option, Some, None}
use Rattle.std.specs.Option.{option_map}
use Rattle.jac_plain.specs.declared.page.Page.{Page}
use Rattle.jac_plain.specs.declared.page.Piece.{Piece}
use Rattle.jac_plain.specs.declared.page.Piece.TheVariants as piece
use Rattle.jac_plain.specs.Requests.{body_of, is_missing, location, page_by}
use Rattle.jac_pruned_pages.specs.declared.page_buffer.PageBuffer.{PageBuffer}

-- The bytes of a page, whether the page is missing, and where it redirects to.
pub record BufferSeen : Type 0 where
  pub body : List ℕ
  pub gone : Bool
  pub to : Option (List ℕ)

-- The text of the last redirection, or `to` if there is none.
abbrev pub led_to : Option (List ℕ) → List Piece → Option (List ℕ)
led_to to [] = to
led_to to (piece.Added bytes ∷ pieces) = led_to to pieces
led_to to (piece.Missing ∷ pieces) = led_to to pieces
led_to to (piece.Redirect next ∷ pieces) = led_to (Some next) pieces

-- What the pieces come to.
abbrev pub buffer_for : List Piece → BufferSeen
buffer_for pieces = record {
  body = body_of pieces;
  gone = is_missing pieces;
  to = led_to None pieces;
}

-- What one more piece changes.
abbrev pub buffer_with : Piece → BufferSeen → BufferSeen
buffer_with (piece.Added bytes) b = record b { body = b.body ++ bytes }
buffer_with piece.Missing b = record b { gone = true }
buffer_with (piece.Redirect to) b = record b { to = Some to }

-- What a buffer holds.
abbrev pub buffer_of : PageBuffer → BufferSeen
buffer_of p = record { body = p.body.items; gone = p.is_missing; to = p.to }

-- The page that a buffer gives.
abbrev pub page_in : BufferSeen → Page
page_in b = page_by b.gone (option_map location b.to) b.body
