use Rattle.std.proofs.Common.{◌∙◌, ap, subst, List, ℕ, arith, Option, Ok, Err, refl}
use Rattle.std.proofs.lemmas.List.Elements.{All-head, All-tail}
use Rattle.std.specs.List.{All}
use denote.Ref.{Bor}
use Rattle.jac_lang.specs.Mirror.{application_of}
use Rattle.jac_lang.specs.Syntax.{Application}
use Rattle.jac_events.specs.Lines.{line_of}
use Rattle.jac_value.specs.Parts.{parts_left, option_now, length_left}
use Rattle.jac_app.specs.declared.summary.Summary.{Summary}
use Rattle.jac_app.specs.Demo.{TalliesLine}
use Rattle.jac_calendar_laws.specs.Asking.{IsAsking}
use Rattle.jac_serve_events.specs.Outside.{span}
use Rattle.jac_serve_events.proofs.OutsideLemmas.{WentTo-none, WentTo-on, WentTo-then}
use Rattle.jac_dispatch.specs.Answered.{DispatcherOf, answer_spec}
use Rattle.jac_dispatch.specs.Seen.{dispatcher_seen}
use Rattle.jac_app.proofs.DemoLemmas.{tally_start, tally_on, tally_stop, tally_all}
use Rattle.jac_serve_events.proofs.DispatcherLemmas.{keeps-none, keeps-may, keeps-then}
use Rattle.jac_serve_events.proofs.ProgressLemmas.{shorter_left}
use Rattle.jac_app.proofs.demo.tally_events.Goals as goal

pub lines-init : goal.lines-init
lines-init g c =
    let none = ap (λ (s : Summary). s.asks) c.none_counted-summary.ensures.none in
    let dispatcher = dispatcher_seen g.K.Keeper.seen c.args.dispatcher.now in
    record {
      short = c.requires.short;
      fewer = omega (arith, none);
      bounded = c.none_counted-summary.ensures.bounded;
      asking = c.requires.asking;
      dispatcher = c.requires.dispatcher;
      eager = c.requires.eager;
      keeps = keeps-none answer_spec dispatcher c.requires.dispatcher;
      went =
          WentTo-none (g.U.Sink.seen c.args.audit.now) _
          (tally_start (application_of c.args.dispatcher.now.service.now) dispatcher.run_seen c.args.bytes.now c.none_counted-summary.result c.none_counted-summary.ensures.none c.requires.dispatcher.ready);
    }

pub tally_line-requires-clause-asking : goal.tally_line-requires-clause-asking
tally_line-requires-clause-asking g c =
    let parts = ap (λ (o : Option (Bor (List ℕ))). parts_left 10 (option_now o)) c.in-Some.is ∙ c.first_part.ensures.parts in
    All-head (λ line. IsAsking (line_of line)) c.first_part.result.0.now (parts_left 10 (option_now c.first_part.result.1))
    (subst (λ (lines : List (List ℕ)). All (λ line. IsAsking (line_of line)) lines) parts c.lines.invariant.asking)

pub returns-in-Err-clause-tallied : goal.returns-in-Err-clause-tallied
returns-in-Err-clause-tallied g c =
    let U = g.U.Sink in
    let K = g.K.Keeper in
    let first = dispatcher_seen K.seen c.args.dispatcher.now in
    let before = dispatcher_seen K.seen c.lines.dispatcher in
    let after = dispatcher_seen K.seen c.tally_line.new.dispatcher in
    let same = ap (λ (of : DispatcherOf). of.app) c.lines.invariant.keeps.same in
    let parts = ap (λ (o : Option (Bor (List ℕ))). parts_left 10 (option_now o)) c.in-Some.is ∙ c.first_part.ensures.parts in
    WentTo-then (U.seen c.args.audit.now) (U.seen c.lines.audit) (U.seen c.tally_line.new.audit) _ _ _
    (λ a b progress line.
    tally_stop (application_of c.args.dispatcher.now.service.now) first.run_seen before.run_seen after.run_seen
    c.args.bytes.now (option_now c.lines.left) (option_now c.first_part.result.1) c.lines.summary a c.first_part.result.0.now b (line_of c.first_part.result.0.now) c.in-Err.fault
    progress parts refl (subst (λ (app : Application). TalliesLine app (span before.run_seen after.run_seen) c.lines.summary (line_of c.first_part.result.0.now) (Err c.in-Err.fault) b) same line))
    c.lines.invariant.went c.in-Err.ensures.tallied

pub returns-in-Err-clause-keeps : goal.returns-in-Err-clause-keeps
returns-in-Err-clause-keeps g c =
    let K = g.K.Keeper in
    keeps-then answer_spec (dispatcher_seen K.seen c.args.dispatcher.now) (dispatcher_seen K.seen c.lines.dispatcher) (dispatcher_seen K.seen c.tally_line.new.dispatcher) c.lines.invariant.keeps c.in-Err.ensures.keeps

pub lines-preserved : goal.lines-preserved
lines-preserved g c =
    let U = g.U.Sink in
    let K = g.K.Keeper in
    let first = dispatcher_seen K.seen c.args.dispatcher.now in
    let now = dispatcher_seen K.seen c.lines.dispatcher in
    let after = dispatcher_seen K.seen c.tally_line.new.dispatcher in
    let before = c.lines.invariant in
    let same = ap (λ (of : DispatcherOf). of.app) before.keeps.same in
    let left = ap (λ (o : Option (Bor (List ℕ))). length_left (option_now o)) c.in-Some.is in
    let parts = ap (λ (o : Option (Bor (List ℕ))). parts_left 10 (option_now o)) c.in-Some.is ∙ c.first_part.ensures.parts in
    record {
      short = before.short;
      fewer = omega (arith, before.fewer, left, shorter_left _ _ c.first_part.ensures.shorter, c.in-Ok.ensures.count);
      bounded = c.in-Ok.ensures.bounded;
      asking =
          All-tail (λ line. IsAsking (line_of line)) c.first_part.result.0.now (parts_left 10 (option_now c.first_part.result.1))
          (subst (λ (lines : List (List ℕ)). All (λ line. IsAsking (line_of line)) lines) parts before.asking);
      dispatcher = keeps-may answer_spec now after before.dispatcher c.in-Ok.ensures.keeps;
      eager = ap (λ (of : DispatcherOf). of.lazy) c.in-Ok.ensures.keeps.same ∙ before.eager;
      keeps = keeps-then answer_spec first now after before.keeps c.in-Ok.ensures.keeps;
      went =
          WentTo-then (U.seen c.args.audit.now) (U.seen c.lines.audit) (U.seen c.tally_line.new.audit) _ _ _
          (λ a b progress line.
          tally_on (application_of c.args.dispatcher.now.service.now) first.run_seen now.run_seen after.run_seen
          c.args.bytes.now (option_now c.lines.left) (option_now c.first_part.result.1) c.lines.summary c.in-Ok.more a c.first_part.result.0.now b (line_of c.first_part.result.0.now)
          progress parts refl (subst (λ (app : Application). TalliesLine app (span now.run_seen after.run_seen) c.lines.summary (line_of c.first_part.result.0.now) (Ok c.in-Ok.more) b) same line))
          before.went c.in-Ok.ensures.tallied;
    }

pub returns-clause-tallied : goal.returns-clause-tallied
returns-clause-tallied g c =
    let K = g.K.Keeper in
    WentTo-on _ _ _
    (λ a progress. tally_all (application_of c.args.dispatcher.now.service.now) (dispatcher_seen K.seen c.args.dispatcher.now).run_seen (dispatcher_seen K.seen c.lines.dispatcher).run_seen c.args.bytes.now c.lines.left c.lines.summary a c.in_default.not-Some progress)
    c.lines.invariant.went
