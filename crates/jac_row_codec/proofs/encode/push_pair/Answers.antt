use Rattle.std.proofs.Common.{rules, refl, ap, ◌∙◌, ◌++◌, ◌∷◌, []}
use Rattle.std.specs.Int.{w128, to_be_bytes}
use Rattle.jac_row_codec.specs.Spelling.{sign_byte}
use Rattle.jac_row_codec.proofs.Rows.{two_pushed}
use Rattle.jac_row_codec.proofs.encode.push_pair.Goals as goal

pub returns-clause-bytes : goal.returns-clause-bytes
returns-clause-bytes c =
    two_pushed c.args.bytes.now.items c.extend_from_slice.new.self.items c.push.new.self.items (to_be_bytes w128 c.args.label) (sign_byte c.args.sign ∷ []) (to_be_bytes w128 c.args.label ++ (sign_byte c.args.sign ∷ []))
    (c.in_ok-extend_from_slice.ensures.items ∙ ap (λ x. c.args.bytes.now.items ++ x) c.encode_label.ensures.bytes) (search rules) refl
