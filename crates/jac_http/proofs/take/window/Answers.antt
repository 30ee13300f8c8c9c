use Rattle.std.proofs.Common.{sym, ◌≤◌, length, arith}
use Rattle.std.proofs.lemmas.List.{length-take-le}
use Rattle.jac_http.proofs.take.window.Goals as goal

pub slice_bounds-result-end : goal.slice_bounds-result-end
slice_bounds-result-end c =
    let long : 8192 ≤ length c.args.bytes.now = omega (arith, c.if-bytes-le8192.false) in
    sym (length-take-le 8192 c.args.bytes.now long)

pub returns-else-bytes-le8192-clause-within : goal.returns-else-bytes-le8192-clause-within
returns-else-bytes-le8192-clause-within c =
    let long : 8192 ≤ length c.args.bytes.now = omega (arith, c.if-bytes-le8192.false) in
    let cut = length-take-le 8192 c.args.bytes.now long in
    omega (arith, long, cut)
