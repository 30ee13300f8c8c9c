use Rattle.std.proofs.Common.{◌≡◌, ◌<◌, ◌==◌, false, length, arith}
use Rattle.std.proofs.lemmas.Bool.Decides.{nat_tests}
use Rattle.std.proofs.lemmas.Result.{err_from_is_err_and}
use Rattle.jac_template.specs.Marked.{mark_of}
use Rattle.jac_template.specs.Pieces.{piece, first_cut}
use Rattle.jac_template.proofs.Cuts.{shorter, first_piece, means_piece}
use Rattle.jac_template.proofs.Leads.{leads_on, fault_here, fault_of_place}
use Rattle.jac_template.proofs.Texts.{rest_text, piece_text}
use Rattle.jac_template.proofs.expansion.expand.Goals as goal

pub returns-in_err-mark-clause-fault : goal.returns-in_err-mark-clause-fault
returns-in_err-mark-clause-fault c =
    let p = err_from_is_err_and c.from_residual.result c.from_residual.ensures.1 in
    let left = c.pieces.left.now in
    let cut = c.first_cut-cut in
    let e : false ≡ (length left == 0) = c.pieces-test.ensures in
    let some : 0 < length left = grind (arith, nat_tests, e) in
    let first = first_piece c.pieces.place left cut.result.rest.now some cut.ensures.rest cut.ensures.size in
    rw (p.1, p.2) (λ told. fault_here _ _ _ (piece c.pieces.place (first_cut left)) _ _ first
    (means_piece c.pieces.place _ _ (first_cut left) _ cut.ensures.kind cut.ensures.content (c.in_err-mark.ensures.fault told)) c.pieces.invariant.leads)

pub returns-in_err-take-clause-fault : goal.returns-in_err-take-clause-fault
returns-in_err-take-clause-fault c =
    let p = err_from_is_err_and c.from_residual-in_err-take.result c.from_residual-in_err-take.ensures.1 in
    let left = c.pieces.left.now in
    let cut = c.first_cut-cut in
    let e : false ≡ (length left == 0) = c.pieces-test.ensures in
    let some : 0 < length left = grind (arith, nat_tests, e) in
    let first = first_piece c.pieces.place left cut.result.rest.now some cut.ensures.rest cut.ensures.size in
    rw (p.1, p.2) (λ told. fault_of_place _ _ _ (piece c.pieces.place (first_cut left)) (mark_of c.in_ok-mark.mark) _ _ first
    (means_piece c.pieces.place _ _ (first_cut left) _ cut.ensures.kind cut.ensures.content c.in_ok-mark.ensures.mark)
    (c.in_err-take.ensures.fault told).0 (c.in_err-take.ensures.fault told).1 c.pieces.invariant.leads)

pub pieces-smaller : goal.pieces-smaller
pieces-smaller c =
    let left = c.pieces.left.now in
    let e : false ≡ (length left == 0) = c.pieces-test.ensures in
    let some : 0 < length left = grind (arith, nat_tests, e) in
    shorter left c.first_cut-cut.result.rest.now some c.first_cut-cut.ensures.size

pub pieces-preserved : goal.pieces-preserved
pieces-preserved c =
    let left = c.pieces.left.now in
    let cut = c.first_cut-cut in
    let e : false ≡ (length left == 0) = c.pieces-test.ensures in
    let some : 0 < length left = grind (arith, nat_tests, e) in
    let first = first_piece c.pieces.place left cut.result.rest.now some cut.ensures.rest cut.ensures.size in
    let n = shorter left cut.result.rest.now some cut.ensures.size in
    record {
      size = omega (arith, n, c.pieces.invariant.size);
      text = rw cut.ensures.rest (rest_text left c.pieces.invariant.text);
      leads = leads_on _ _ _ (piece c.pieces.place (first_cut left)) (mark_of c.in_ok-mark.mark) _ _ first
          (means_piece c.pieces.place _ _ (first_cut left) _ cut.ensures.kind cut.ensures.content c.in_ok-mark.ensures.mark)
          c.in_ok-take.ensures.taken c.pieces.invariant.leads;
    }

pub read_mark-requires : goal.read_mark-requires
read_mark-requires c =
    let left = c.pieces.left.now in
    rw (c.first_cut-cut.ensures.kind, c.first_cut-cut.ensures.content) (record { text = piece_text left c.pieces.invariant.text })
