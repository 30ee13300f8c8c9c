use Rattle.std.proofs.Common.{◌≡◌, ◌≤◌, sym, subst, ap, length, [], arith}
use Rattle.std.specs.Str.{IsUtf8}
use Rattle.std.proofs.lemmas.List.{length-drop}
use Rattle.httparse.proofs.GrammarLemmas.{request_unique}
use Rattle.jac_http.proofs.Rooms.{few_fields}
use Rattle.jac_http.proofs.Texts.{token_utf8}
use Rattle.jac_http.proofs.headers.whole_head.Goals as goal

pub returns-then-head-bytes-clause-texts : goal.returns-then-head-bytes-clause-texts
returns-then-head-bytes-clause-texts c =
    let at = rw c.in-Ok-Complete.field-0-is at c.in-Ok-Complete.ensures.complete in
    (subst IsUtf8 (sym at.1.method) (token_utf8 at.0.method at.1.reads.0.method), subst IsUtf8 (sym at.1.path) at.1.reads.0.target_text)

pub returns-else-head-bytes-clause-none : goal.returns-else-head-bytes-clause-none
returns-else-head-bytes-clause-none c k h =
    let at = rw c.in-Ok-Complete.field-0-is at c.in-Ok-Complete.ensures.complete in
    let within = rw c.in-Ok-Complete.field-0-is at c.in-Ok-Complete.ensures.within in
    let same = request_unique _ k at.0 _ _ h at.1.reads in
    let fits = within.section.len_fits in
    let cut = length-drop c.in-Ok-Complete.head.len c.args.bytes.now in
    let none : 0 ≡ length _ = ap length same.1 in
    absurd (omega (arith, fits, cut, none, c.if-head-bytes.false))

pub returns-in_default-2-clause-none : goal.returns-in_default-2-clause-none
returns-in_default-2-clause-none c k h =
    let few = few_fields c.args.bytes.now k h in
    let small : length k.fields ≤ length c.args.headers.now = omega (arith, few, c.requires.room) in
    rw c.in_default.is at (c.parse_request.ensures.found k [] h small)
