use Rattle.std.proofs.Common.{◌∙◌, ap, sym, refl, inl, inr, [], ◌++◌, arith}
use Rattle.jac_serve_events.specs.Outside.{span}
use Rattle.jac_serve_events.proofs.OutsideLemmas.{Lasts-then, Took-none, Took-then}
use Rattle.jac_cli.specs.Words.{command_of}
use Rattle.jac_cli.proofs.CountLemmas.{has_count}
use Rattle.jac_command_base.specs.declared.status.Status.TheVariants as statuses
use Rattle.jac_command_base.specs.Files.{files_named}
use Rattle.jac_command_base.proofs.AskedLemmas.{asks_none, asks_named}
use Rattle.jac_command_base.proofs.DoneLemmas.{done_ended, closes_not_done, no_memory}
use Rattle.jac_command_base.proofs.ExitReasonLemmas.{still_idle}
use Rattle.jac_app.proofs.program.run_words.Goals as goal

pub take_steps-ended-requires-clause-count : goal.take_steps-ended-requires-clause-count
take_steps-ended-requires-clause-count g c = has_count c.args.words.now c.in-Ok-Some.command (sym c.in-Ok-Some.field-0-is ∙ c.in-Ok-Some.ensures)

pub returns-in-Ok-None-clause-ran : goal.returns-in-Ok-None-clause-ran
returns-in-Ok-None-clause-ran g c =
    let closed = c.refuse_words.ensures in
    let audit = g.U.Sink.seen c.args.audit.now in
    record {
      out = closed.put;
      audit = [];
      out_lasts = closed.lasts;
      audit_later = omega arith;
      out_took = closed.took;
      audit_took = Took-none audit;
      holds = inr (inl (record { no_command = sym c.in-Ok-None.ensures ∙ c.in-Ok-None.field-0-is; closes = closed.holds; idle = still_idle audit (g.K.Keeper.seen c.args.vault.now); uncalled = refl; unsplit = refl }));
    }

pub returns-in-Err-clause-ran : goal.returns-in-Err-clause-ran
returns-in-Err-clause-ran g c =
    let closed = c.run_out.ensures in
    let audit = g.U.Sink.seen c.args.audit.now in
    record {
      out = closed.put;
      audit = [];
      out_lasts = closed.lasts;
      audit_later = omega arith;
      out_took = closed.took;
      audit_took = Took-none audit;
      holds = inr (inr (record { closes = closed.holds; idle = still_idle audit (g.K.Keeper.seen c.args.vault.now); uncalled = refl; unsplit = refl }));
    }

pub returns-in-Ok-Some-clause-ran : goal.returns-in-Ok-Some-clause-ran
returns-in-Ok-Some-clause-ran g c =
    let O = g.O.Sink in
    let command = c.in-Ok-Some.command in
    let before = O.seen c.args.out.now in
    let middle = O.seen c.take_steps-ended.new.out in
    let after = O.seen c.finish.new.out in
    let ended = c.take_steps-ended.ensures.ends in
    let finished = c.finish.ensures in
    record {
      out = ended.out ++ finished.put;
      audit = ended.audit;
      out_lasts = Lasts-then before middle after ended.out_lasts finished.lasts;
      audit_later = ended.audit_later;
      out_took = Took-then before middle after ended.out finished.put finished.lasts.told ended.out_took finished.took;
      audit_took = ended.audit_took;
      holds = inl (record {
        command = command;
        ended = c.take_steps-ended.result;
        served = ended.out;
        last = finished.put;
        is_command = sym c.in-Ok-Some.ensures ∙ c.in-Ok-Some.field-0-is;
        standing = middle;
        ends = ended.holds;
        finishes = finished.holds;
        earlier = ended.out_lasts.later;
        later = finished.lasts.later;
        out_text = refl;
      });
    }

pub returns-in-Ok-Some-clause-asks : goal.returns-in-Ok-Some-clause-asks
returns-in-Ok-Some-clause-asks g c =
    let F = g.F.Files in
    let O = g.O.Sink in
    asks_named (span (F.seen c.args.files.now) (F.seen c.take_steps-ended.new.files)) (command_of c.args.words.now) c.in-Ok-Some.command _ _ (sym c.in-Ok-Some.ensures ∙ c.in-Ok-Some.field-0-is)
    (done_ended (span (O.seen c.take_steps-ended.new.out) (O.seen c.finish.new.out)) c.in-Ok-Some.command c.take_steps-ended.result c.finish.ensures.put c.finish.result c.finish.ensures.holds)
    c.take_steps-ended.ensures.asks

pub returns-in-Ok-None-clause-asks : goal.returns-in-Ok-None-clause-asks
returns-in-Ok-None-clause-asks g c = asks_none (g.F.Files.seen c.args.files.now) _ _ (λ done. ap files_named (sym c.in-Ok-None.ensures ∙ c.in-Ok-None.field-0-is))

pub returns-in-Err-clause-asks : goal.returns-in-Err-clause-asks
returns-in-Err-clause-asks g c =
    let O = g.O.Sink in
    asks_none (g.F.Files.seen c.args.files.now) _ _
    (λ done. absurd (closes_not_done (span (O.seen c.args.out.now) (O.seen c.run_out.new.out)) _ c.run_out.ensures.put statuses.Memory c.run_out.result no_memory c.run_out.ensures.holds done))
