use Rattle.std.proofs.Common.{◌≢◌, rules}
use Rattle.jac_tree.proofs.Printing.{raw_pieces}
use Rattle.jac_tree.proofs.print.put_piece.Goals as goal

pub returns-in_ok-push-in_default : goal.returns-in_ok-push-in_default
returns-in_ok-push-in_default c =
    let p : c.args.c ≢ 10 = search rules in
    let q : c.args.c ≢ 13 = search rules in
    let r : c.args.c ≢ 9 = search rules in
    let s : c.args.c ≢ 92 = search rules in
    let t : c.args.c ≢ 34 = search rules in
    rw (raw_pieces c.args.c (p, q, r, s, t)) (search rules)
