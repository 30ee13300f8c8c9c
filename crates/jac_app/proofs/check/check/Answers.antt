use Rattle.std.proofs.Common.{inl, inr, [], ◌∷◌, arith}
use Rattle.jac_lang.specs.Mirror.{application_of}
use Rattle.jac_cli.specs.declared.words.Command.TheVariants as commands
use Rattle.jac_serve_events.specs.Outside.{span}
use Rattle.jac_command_base.specs.Files.{sight}
use Rattle.jac_serve_events.proofs.OutsideLemmas.{Took-none}
use Rattle.jac_command_base.proofs.AskedLemmas.{asks_all}
use Rattle.jac_command_base.proofs.ExitReasonLemmas.{idle_ends, still_idle}
use Rattle.jac_command_base.proofs.StartupLemmas.{appless_ends, files_last, within_between}
use Rattle.jac_app.proofs.check.check.Goals as goal

pub returns-in-Err-clause-ends : goal.returns-in-Err-clause-ends
returns-in-Err-clause-ends g c =
    let F = g.F.Files in
    let command = commands.Check c.args.name.now in
    let out = g.O.Sink.seen c.args.out.now in
    let audit = g.U.Sink.seen c.args.audit.now in
    let k = g.K.Keeper.seen c.args.vault.now in
    let a = F.seen c.args.files.now in
    let b = F.seen c.read_app.new.files in
    idle_ends out audit _
    (inl (
      appless_ends (sight a b out out audit audit k k) command (span a b) c.in-Err.exit_reason (within_between a a b b (files_last a) c.in-Err.ensures.lasts (files_last b)) c.in-Err.ensures.appless,
      still_idle audit k,
    ))

pub returns-in-Ok-put_counts-clause-ends : goal.returns-in-Ok-put_counts-clause-ends
returns-in-Ok-put_counts-clause-ends g c =
    let audit = g.U.Sink.seen c.args.audit.now in
    let k = g.K.Keeper.seen c.args.vault.now in
    let counts = c.in-Ok-put_counts.ensures in
    record {
      out = counts.put;
      audit = [];
      out_lasts = counts.lasts;
      audit_later = omega arith;
      out_took = counts.took;
      audit_took = Took-none audit;
      holds = inr (record {
        app = application_of c.in-Ok.service;
        application = record {
          bytes = c.in-Ok.ensures.spelled.bytes;
          read = c.in-Ok.ensures.spelled.read;
          spelled = c.in-Ok.ensures.spelled.spelled;
        };
        text = counts.is_put;
        idle = still_idle audit k;
      });
    }

pub returns-clause-ends : goal.returns-clause-ends
returns-clause-ends g c =
    let audit = g.U.Sink.seen c.args.audit.now in
    let k = g.K.Keeper.seen c.args.vault.now in
    let counts = c.in-Err-put_counts.ensures in
    record {
      out = counts.put;
      audit = [];
      out_lasts = counts.lasts;
      audit_later = omega arith;
      out_took = counts.took;
      audit_took = Took-none audit;
      holds = inr (record {
        app = application_of c.in-Ok.service;
        application = record {
          bytes = c.in-Ok.ensures.spelled.bytes;
          read = c.in-Ok.ensures.spelled.read;
          spelled = c.in-Ok.ensures.spelled.spelled;
        };
        text = (counts.is_put, counts.rose);
        idle = still_idle audit k;
      });
    }

pub returns-in-Err-clause-asks : goal.returns-in-Err-clause-asks
returns-in-Err-clause-asks g c =
    let F = g.F.Files in
    asks_all (F.seen c.args.files.now) (F.seen c.read_app.new.files) (c.args.name.now ∷ []) _ c.in-Err.ensures.asked

pub returns-in-Ok-put_counts-clause-asks : goal.returns-in-Ok-put_counts-clause-asks
returns-in-Ok-put_counts-clause-asks g c =
    let F = g.F.Files in
    asks_all (F.seen c.args.files.now) (F.seen c.read_app.new.files) (c.args.name.now ∷ []) _ c.in-Ok.ensures.asked

pub returns-clause-asks : goal.returns-clause-asks
returns-clause-asks g c =
    let F = g.F.Files in
    asks_all (F.seen c.args.files.now) (F.seen c.read_app.new.files) (c.args.name.now ∷ []) _ c.in-Ok.ensures.asked
