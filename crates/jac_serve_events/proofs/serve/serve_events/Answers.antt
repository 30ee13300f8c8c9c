use Rattle.std.proofs.Common.{◌∙◌, ◌+◌, ap, List, ℕ, arith, Option, Ok, Err, refl}
use denote.Ref.{Bor}
use Rattle.jac_events.specs.Lines.{line_of}
use Rattle.jac_hub.specs.Hub.{hub_seen}
use Rattle.jac_value.specs.Parts.{parts_left, option_now, length_left}
use Rattle.jac_serve_events.specs.AnswerSpec.{AnswerSpec}
use Rattle.jac_serve_events.specs.Dispatcher.{kept}
use Rattle.jac_serve_events.specs.Serve.{IsFollowing}
use Rattle.jac_serve_events.proofs.DispatcherLemmas.{keeps-none, keeps-may, keeps-then, line-of, of-keeps}
use Rattle.jac_serve_events.specs.Outside.{sinks}
use Rattle.jac_serve_events.proofs.OutsideLemmas.{Went-none, Went-on, Went-then, fails_behind}
use Rattle.jac_serve_events.proofs.ProgressLemmas.{start, go_on, stop_at, finish_left, shorter_left}
use Rattle.jac_serve_events.proofs.serve.serve_events.Goals as goal

pub lines-init : goal.lines-init
lines-init g c =
    let D = g.D.Dispatch in
    let dispatcher = D.seen c.args.dispatcher.now in
    let progress = start (D.answer_spec dispatcher.of) c.lawful.ensures (hub_seen c.new-hub.result) dispatcher.run_seen c.args.bytes.now c.new-hub.ensures c.requires.dispatcher.ready in
    record {
      short = c.requires.short;
      lines = omega arith;
      fewer = omega arith;
      may_serve = c.requires.dispatcher;
      keeps = keeps-none D.answer_spec dispatcher c.requires.dispatcher;
      idle = progress.idle;
      following = record { known = progress.known; like = progress.like };
      went = Went-none (g.O.Sink.seen c.args.out.now) (g.U.Sink.seen c.args.audit.now) _ progress;
    }

pub returns-in-Err-clause-served : goal.returns-in-Err-clause-served
returns-in-Err-clause-served g c =
    let O = g.O.Sink in
    let U = g.U.Sink in
    let D = g.D.Dispatch in
    let a = D.seen c.args.dispatcher.now in
    let b = D.seen c.lines.dispatcher in
    let d = D.seen c.serve_line.new.dispatcher in
    let parts = ap (λ (o : Option (Bor (List ℕ))). parts_left 10 (option_now o)) c.in-Some.is ∙ c.first_part.ensures.parts in
    let went = c.lines.invariant.went in
    let out_last = O.seen c.serve_line.new.out in
    let audit_last = U.seen c.serve_line.new.audit in
    let all = sinks (O.seen c.args.out.now) out_last (U.seen c.args.audit.now) audit_last in
    let part = sinks (O.seen c.lines.out) out_last (U.seen c.lines.audit) audit_last in
    Went-then (O.seen c.args.out.now) (O.seen c.lines.out) out_last (U.seen c.args.audit.now) (U.seen c.lines.audit) audit_last _ _ _
    (λ o au p bu progress line.
    stop_at (D.answer_spec a.of) c.lawful.ensures (hub_seen c.lines.hub) (hub_seen c.serve_line.new.hub) a.run_seen b.run_seen d.run_seen
    _ _ (option_now c.first_part.result.1) _ _ all part _ _ _ _ _
    (fails_behind (O.seen c.args.out.now) (O.seen c.lines.out) out_last (U.seen c.args.audit.now) (U.seen c.lines.audit) audit_last went.out_lasts.later went.audit_lasts.later)
    progress parts (line_of c.first_part.result.0.now) refl c.in-Err.stopped
    (line-of D.answer_spec a b (hub_seen c.lines.hub) (hub_seen c.serve_line.new.hub) (kept b d) c.lines.served (c.lines.number + 1) (line_of c.first_part.result.0.now) (Err c.in-Err.stopped) part p bu c.lines.invariant.keeps line))
    went c.in-Err.ensures.answered

pub lines-preserved : goal.lines-preserved
lines-preserved g c =
    let O = g.O.Sink in
    let U = g.U.Sink in
    let D = g.D.Dispatch in
    let before = c.lines.invariant in
    let a = D.seen c.args.dispatcher.now in
    let b = D.seen c.lines.dispatcher in
    let d = D.seen c.serve_line.new.dispatcher in
    let left = ap (λ (o : Option (Bor (List ℕ))). length_left (option_now o)) c.in-Some.is in
    let parts = ap (λ (o : Option (Bor (List ℕ))). parts_left 10 (option_now o)) c.in-Some.is ∙ c.first_part.ensures.parts in
    let keeps = keeps-then D.answer_spec a b d before.keeps c.in-Ok.ensures.keeps in
    let part = sinks (O.seen c.lines.out) (O.seen c.serve_line.new.out) (U.seen c.lines.audit) (U.seen c.serve_line.new.audit) in
    let went =
    Went-then (O.seen c.args.out.now) (O.seen c.lines.out) (O.seen c.serve_line.new.out) (U.seen c.args.audit.now) (U.seen c.lines.audit) (U.seen c.serve_line.new.audit) _ _ _
    (λ o au p bu progress line.
    go_on (D.answer_spec a.of) c.lawful.ensures (hub_seen c.lines.hub) (hub_seen c.serve_line.new.hub) a.run_seen b.run_seen d.run_seen
    _ _ (option_now c.first_part.result.1) _ _ c.in-Ok.count part _ _ _ _ _ progress parts (line_of c.first_part.result.0.now) refl
    (line-of D.answer_spec a b (hub_seen c.lines.hub) (hub_seen c.serve_line.new.hub) (kept b d) c.lines.served (c.lines.number + 1) (line_of c.first_part.result.0.now) (Ok c.in-Ok.count) part p bu before.keeps line))
    before.went c.in-Ok.ensures.answered in
    record {
      short = before.short;
      lines = omega (arith, before.lines, left, shorter_left _ _ c.first_part.ensures.shorter);
      fewer = omega (arith, before.fewer, c.in-Ok.ensures.count);
      may_serve = keeps-may D.answer_spec b d before.may_serve c.in-Ok.ensures.keeps;
      keeps = keeps;
      idle = went.holds.idle;
      following =
          of-keeps D.answer_spec a d (λ (x : AnswerSpec). IsFollowing x (hub_seen c.serve_line.new.hub)) keeps
          (record { known = went.holds.known; like = went.holds.like });
      went = went;
    }

pub returns-clause-served : goal.returns-clause-served
returns-clause-served g c =
    let D = g.D.Dispatch in
    let a = D.seen c.args.dispatcher.now in
    Went-on _ _ _
    (λ o au progress.
    finish_left (D.answer_spec a.of) (hub_seen c.lines.hub) a.run_seen (D.seen c.lines.dispatcher).run_seen c.args.bytes.now c.lines.left _ _
    (sinks (g.O.Sink.seen c.args.out.now) (g.O.Sink.seen c.lines.out) (g.U.Sink.seen c.args.audit.now) (g.U.Sink.seen c.lines.audit)) o au
    c.in_default.not-Some progress)
    c.lines.invariant.went
