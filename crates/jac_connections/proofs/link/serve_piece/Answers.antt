use Rattle.std.proofs.Common.{◌∙◌, sym}
use Rattle.jac_hub.specs.Hub.{hub_seen}
use Rattle.jac_connections.specs.Link.{as_sink}
use Rattle.jac_connections.proofs.LinkEvents.{piece_stands, piece_cut, cut_cause, piece_last, piece_missed}
use Rattle.jac_serve_events.specs.Outside.{sinks}
use Rattle.jac_serve_events.proofs.OutsideLemmas.{Went-after, Went-quiet}
use Rattle.jac_connections.proofs.link.serve_piece.Goals as goal

pub returns-in-Ok-clause-served : goal.returns-in-Ok-clause-served
returns-in-Ok-clause-served g c =
    let N = g.N.Link in
    let U = g.U.Sink in
    let D = g.D.Dispatch in
    rw c.stands.ensures
    (Went-after (as_sink (N.seen c.args.link.now)) (as_sink (N.seen c.take_piece.new.link)) (as_sink (N.seen c.serve_event.new.link)) (U.seen c.args.audit.now) (U.seen c.serve_event.new.audit) _ _
    c.in-Ok-Some.ensures.lasts c.in-Ok-Some.ensures.none_put
    (λ out audit answers.
    piece_stands (D.answer_spec (D.seen c.args.dispatcher.now).of) c.args.conn c.args.served (hub_seen c.args.hub.now) (hub_seen c.serve_event.new.hub)
    (N.seen c.args.link.now) (N.seen c.take_piece.new.link) (N.seen c.serve_event.new.link) (D.seen c.args.dispatcher.now).run_seen (D.seen c.serve_event.new.dispatcher).run_seen
    (sinks (as_sink (N.seen c.take_piece.new.link)) (as_sink (N.seen c.serve_event.new.link)) (U.seen c.args.audit.now) (U.seen c.serve_event.new.audit)) c.in-Ok-Some.bytes out audit c.in-Ok.brought
    c.in-Ok.ensures.answered.out_lasts.told c.in-Ok.ensures.left (rw c.in-Ok-Some.field-0-is at c.in-Ok-Some.ensures.taken) answers)
    c.in-Ok.ensures.answered)

pub returns-in-Ok-Some-clause-served : goal.returns-in-Ok-Some-clause-served
returns-in-Ok-Some-clause-served g c =
    let N = g.N.Link in
    let U = g.U.Sink in
    let D = g.D.Dispatch in
    let cut = c.in-Err.cut in
    let answered = c.in-Err.ensures.answered in
    rw c.cut_short.ensures
    (Went-after (as_sink (N.seen c.args.link.now)) (as_sink (N.seen c.take_piece.new.link)) (as_sink (N.seen c.serve_event.new.link)) (U.seen c.args.audit.now) (U.seen c.serve_event.new.audit) _ _
    c.in-Ok-Some.ensures.lasts c.in-Ok-Some.ensures.none_put
    (λ out audit answers.
    piece_cut (D.answer_spec (D.seen c.args.dispatcher.now).of) c.args.conn c.args.served cut.lost cut.count (hub_seen c.args.hub.now) (hub_seen c.serve_event.new.hub)
    (N.seen c.args.link.now) (N.seen c.take_piece.new.link) (N.seen c.serve_event.new.link) (U.seen c.args.audit.now) (U.seen c.serve_event.new.audit)
    (D.seen c.args.dispatcher.now).run_seen (D.seen c.serve_event.new.dispatcher).run_seen c.in-Ok-Some.bytes out audit
    answered.out_lasts.told c.in-Err.ensures.left c.in-Ok-Some.ensures.lasts.later (rw c.in-Ok-Some.field-0-is at c.in-Ok-Some.ensures.taken) answers)
    answered)

pub returns-in-Ok-Some-clause-cause : goal.returns-in-Ok-Some-clause-cause
returns-in-Ok-Some-clause-cause g c = λ is.
    let N = g.N.Link in
    let U = g.U.Sink in
    let cut = c.in-Err.cut in
    cut_cause cut.lost cut.count
    (sinks (as_sink (N.seen c.take_piece.new.link)) (as_sink (N.seen c.serve_event.new.link)) (U.seen c.args.audit.now) (U.seen c.serve_event.new.audit))
    (sym c.cut_short.ensures ∙ is)
    (c.in-Err.ensures.answered.holds 0 c.requires.following.known c.requires.following.like).fault

pub returns-in-Ok-None-clause-served : goal.returns-in-Ok-None-clause-served
returns-in-Ok-None-clause-served g c =
    let N = g.N.Link in
    let U = g.U.Sink in
    let D = g.D.Dispatch in
    Went-quiet (as_sink (N.seen c.args.link.now)) (as_sink (N.seen c.take_piece.new.link)) (U.seen c.args.audit.now) _ c.in-Ok-None.ensures.lasts c.in-Ok-None.ensures.none_put
    (piece_last (D.answer_spec (D.seen c.args.dispatcher.now).of) c.args.conn c.args.served (hub_seen c.args.hub.now) (N.seen c.args.link.now) (N.seen c.take_piece.new.link) (D.seen c.args.dispatcher.now).run_seen
    (rw c.in-Ok-None.field-0-is at c.in-Ok-None.ensures.taken))

pub returns-in-Err-Link-clause-served : goal.returns-in-Err-Link-clause-served
returns-in-Err-Link-clause-served g c =
    let N = g.N.Link in
    let U = g.U.Sink in
    let D = g.D.Dispatch in
    Went-quiet (as_sink (N.seen c.args.link.now)) (as_sink (N.seen c.take_piece.new.link)) (U.seen c.args.audit.now) _ c.in-Err-Link.ensures.lasts c.in-Err-Link.ensures.none_put
    (piece_missed (D.answer_spec (D.seen c.args.dispatcher.now).of) c.args.conn c.args.served (hub_seen c.args.hub.now) (N.seen c.args.link.now) (N.seen c.take_piece.new.link) (D.seen c.args.dispatcher.now).run_seen
    (rw c.in-Err-Link.field-0-is at c.in-Err-Link.ensures.taken))
