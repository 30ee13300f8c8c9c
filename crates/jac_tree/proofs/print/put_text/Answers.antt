use Rattle.std.proofs.Common.{◌++◌, ◌∙◌, ap, encode_utf8, string_bytes}
use Rattle.std.specs.Str.Iter.{chars_rest}
use Rattle.jac_tree.specs.Printed.{text_pieces}
use Rattle.jac_tree.proofs.Printing.{pieces_put}
use Rattle.jac_tree.proofs.print.put_text.Goals as goal

pub characters-preserved : goal.characters-preserved
characters-preserved c =
    let rest = chars_rest c.next.new.self in
    ap (λ z. z ++ text_pieces rest) c.in_ok-put_piece.ensures
    ∙ pieces_put (string_bytes c.characters.to) (encode_utf8 c.in-Some.c) rest _ c.in-Some.ensures.steps.0
    ∙ c.characters.invariant
