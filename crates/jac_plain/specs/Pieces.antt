-- What a value adds to a page.
use Rattle.jac_value.specs.declared.value.Value.{Value}
use Rattle.jac_value.specs.Values.{value_text}
use Rattle.jac_plain.specs.declared.page.Piece.{Piece}
use Rattle.jac_plain.specs.declared.page.Piece.TheVariants as piece
use Rattle.jac_plain.specs.Expressions.{bytes_of}
use Rattle.jac_value.specs.Html.{html}
use Rattle.jac_plain.specs.declared.pieces.Form.{Form}
use Rattle.jac_plain.specs.declared.pieces.Form.TheVariants as form

abbrev pub piece_of : Form → Value → Piece
piece_of form.Text v = piece.Added (value_text v)
piece_of form.Escaped v = piece.Added (html (value_text v))
piece_of form.Location v = piece.Redirect (bytes_of v)
