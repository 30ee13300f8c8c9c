use Rattle.std.proofs.Common.{rules, refl, ap, ◌∙◌, ◌++◌, ◌∷◌, []}
use Rattle.std.specs.Int.{w128, to_be_bytes}
use Rattle.jac_row_codec.proofs.Rows.{two_pushed}
use Rattle.jac_row_codec.proofs.encode.push_id.Goals as goal

pub returns-clause-bytes : goal.returns-clause-bytes
returns-clause-bytes c =
    two_pushed c.args.bytes.now.items c.extend_from_slice.new.self.items c.extend_from_slice-2.new.self.items (4 ∷ 1 ∷ []) (to_be_bytes w128 c.args.id) (4 ∷ 1 ∷ to_be_bytes w128 c.args.id)
    (search rules) (c.in_ok-extend_from_slice-2.ensures.items ∙ ap (λ x. c.extend_from_slice.new.self.items ++ x) c.encode_id.ensures) refl
