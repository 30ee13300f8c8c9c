use Rattle.std.proofs.Common.{rules, ◌≡◌, ◌∙◌, true, false, refl, sym, ap, drop}
use Rattle.jac_template.specs.Pieces.{Cut, begins_with, content_length, tag_cut, first_cut}
use Rattle.jac_template.specs.declared.pieces.Kind.TheVariants as kinds
use Rattle.jac_template.proofs.Cuts.{behind_tag}
use Rattle.jac_template.proofs.pieces.first_cut.Goals as goal

pub returns-then-begins_with-clause-rest : goal.returns-then-begins_with-clause-rest
returns-then-begins_with-clause-rest c =
    let bytes = c.args.bytes.now in
    let test : begins_with 123 123 bytes ≡ true = search rules in
    let e : first_cut bytes ≡ tag_cut kinds.Output (drop 2 bytes) (content_length 125 (drop 2 bytes)) = rw test refl in
    behind_tag kinds.Output 125 bytes _ c.tag_cut.result.rest.now c.split_at.ensures.back c.tag_cut.ensures.rest
    ∙ ap (λ (one : Cut). drop one.size bytes) (sym e)

pub returns-then-begins_with-2-clause-rest : goal.returns-then-begins_with-2-clause-rest
returns-then-begins_with-2-clause-rest c =
    let bytes = c.args.bytes.now in
    let other : begins_with 123 123 bytes ≡ false = search rules in
    let test : begins_with 123 37 bytes ≡ true = search rules in
    let e : first_cut bytes ≡ tag_cut kinds.Control (drop 2 bytes) (content_length 37 (drop 2 bytes)) = rw (other, test) refl in
    behind_tag kinds.Control 37 bytes _ c.tag_cut-then-begins_with-2.result.rest.now c.split_at-then-begins_with-2.ensures.back c.tag_cut-then-begins_with-2.ensures.rest
    ∙ ap (λ (one : Cut). drop one.size bytes) (sym e)
