use Rattle.jac_replies.proofs.Escaping.{is_escaped_at, put_front, put_all}
use Rattle.jac_replies.proofs.quotes.put_piece.Goals as goal

pub put_escape-requires : goal.put_escape-requires
put_escape-requires c = is_escaped_at c.args.bytes.now c.in-Some.at 0 c.in-Some.ensures.place c.in-Some.ensures.within

pub returns-in_ok-put_escape-in-Some-clause-put : goal.returns-in_ok-put_escape-in-Some-clause-put
returns-in_ok-put_escape-in-Some-clause-put c =
    put_front c.args.bytes.now c.in-Some.at c.args.to.now.items _ _ c.in-Some.ensures.place c.in-Some.ensures.within
    c.in_ok-extend_from_slice-in-Some.ensures.items c.in_ok-put_escape-in-Some.ensures

pub returns-in_ok-extend_from_slice-in-None-clause-put : goal.returns-in_ok-extend_from_slice-in-None-clause-put
returns-in_ok-extend_from_slice-in-None-clause-put c =
    put_all c.args.bytes.now c.args.to.now.items _ c.in-None.ensures.place c.in_ok-extend_from_slice-in-None.ensures.items
