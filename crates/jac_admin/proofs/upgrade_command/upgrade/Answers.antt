use Rattle.std.proofs.Common.{refl, inl, inr, [], ◌∷◌, arith}
use Rattle.jac_lang.specs.Mirror.{application_of}
use Rattle.jac_cli.specs.declared.role.Role.TheVariants as roles
use Rattle.jac_cli.specs.declared.words.Command.TheVariants as commands
use Rattle.jac_serve_events.specs.Outside.{span}
use Rattle.jac_command_base.specs.Files.{sight}
use Rattle.jac_serve_events.proofs.OutsideLemmas.{Took-none}
use Rattle.jac_command_base.proofs.AskedLemmas.{asked_then, asks_all}
use Rattle.jac_command_base.proofs.ExitReasonLemmas.{read_within, unread_ends, next_unopened_ends, idle_ends, still_idle}
use Rattle.jac_command_base.proofs.StartupLemmas.{appless_ends, files_last, spelled_application, spelled_within, within_between}
use Rattle.jac_admin.proofs.WellLemmas.{is_well_if_spelled}
use Rattle.jac_admin.proofs.upgrade_command.upgrade.Goals as goal

pub returns-in-Err-clause-ends : goal.returns-in-Err-clause-ends
returns-in-Err-clause-ends g c =
    let F = g.F.Files in
    let command = commands.Upgrade c.args.command.now in
    let out = g.O.Sink.seen c.args.out.now in
    let audit = g.U.Sink.seen c.args.audit.now in
    let k = g.K.Keeper.seen c.args.vault.now in
    let a = F.seen c.args.files.now in
    let b = F.seen c.read_app.new.files in
    idle_ends out audit _
    (inl (
      appless_ends (sight a b out out audit audit k k) command (span a b) c.in-Err.exit_reason (within_between a a b b (files_last a) c.in-Err.ensures.lasts (files_last b)) c.in-Err.ensures.appless,
      still_idle audit k,
    ))

pub returns-in-Err-read_file-clause-ends : goal.returns-in-Err-read_file-clause-ends
returns-in-Err-read_file-clause-ends g c =
    let F = g.F.Files in
    let command = commands.Upgrade c.args.command.now in
    let app = application_of c.in-Ok.service in
    let out = g.O.Sink.seen c.args.out.now in
    let audit = g.U.Sink.seen c.args.audit.now in
    let k = g.K.Keeper.seen c.args.vault.now in
    let a = F.seen c.args.files.now in
    let b = F.seen c.read_app.new.files in
    let d = F.seen c.read_file.new.files in
    let one = c.in-Ok.ensures.lasts in
    let two = c.in-Err-read_file.ensures.lasts in
    let seen = sight a d out out audit audit k k in
    idle_ends out audit _
    (inl (
      unread_ends seen command roles.New (span b d) c.in-Err-read_file.exit_reason (
        (
          app,
          spelled_application seen command app
              (spelled_within (span a d) (span a b) (within_between a a b d (files_last a) one two) c.args.command.now.app app c.in-Ok.ensures.spelled),
        ),
        refl,
      )
          (within_between a b d d one two (files_last d))
          c.in-Err-read_file.ensures.unread,
      still_idle audit k,
    ))

pub returns-in-Err-open_next-clause-ends : goal.returns-in-Err-open_next-clause-ends
returns-in-Err-open_next-clause-ends g c =
    let F = g.F.Files in
    let command = commands.Upgrade c.args.command.now in
    let app = application_of c.in-Ok.service in
    let out = g.O.Sink.seen c.args.out.now in
    let audit = g.U.Sink.seen c.args.audit.now in
    let k = g.K.Keeper.seen c.args.vault.now in
    let a = F.seen c.args.files.now in
    let b = F.seen c.read_app.new.files in
    let d = F.seen c.read_file.new.files in
    let one = c.in-Ok.ensures.lasts in
    let two = c.in-Ok-read_file.ensures.lasts in
    let seen = sight a d out out audit audit k k in
    idle_ends out audit _
    (inl (
      next_unopened_ends seen command c.in-Ok-read_file.next c.in-Err-open_next.exit_reason (
        (
          app,
          spelled_application seen command app
              (spelled_within (span a d) (span a b) (within_between a a b d (files_last a) one two) c.args.command.now.app app c.in-Ok.ensures.spelled),
        ),
        refl,
      )
          (read_within (span a d) (span b d) (within_between a b d d one two (files_last d))
          c.args.command.now.next roles.New c.in-Ok-read_file.next (record { short = c.in-Ok-read_file.ensures.short; told = c.in-Ok-read_file.ensures.told }))
          (rw c.as_slice.ensures at c.in-Err-open_next.ensures.unopened),
      still_idle audit k,
    ))

pub upgrade_store-requires-clause-well : goal.upgrade_store-requires-clause-well
upgrade_store-requires-clause-well g c =
    let spelled = c.in-Ok.ensures.spelled in
    is_well_if_spelled spelled.bytes (application_of c.in-Ok.service) spelled.spelled

pub returns-clause-ends : goal.returns-clause-ends
returns-clause-ends g c =
    let F = g.F.Files in
    let O = g.O.Sink in
    let K = g.K.Keeper in
    let command = commands.Upgrade c.args.command.now in
    let app = application_of c.in-Ok.service in
    let audit = g.U.Sink.seen c.args.audit.now in
    let a = F.seen c.args.files.now in
    let b = F.seen c.read_app.new.files in
    let d = F.seen c.read_file.new.files in
    let one = c.in-Ok.ensures.lasts in
    let two = c.in-Ok-read_file.ensures.lasts in
    let moved = c.upgrade_store.ensures in
    let seen = sight a d (O.seen c.args.out.now) (O.seen c.upgrade_store.new.out) audit audit (K.seen c.args.vault.now) (K.seen c.upgrade_store.new.vault) in
    record {
      out = moved.put;
      audit = [];
      out_lasts = moved.lasts;
      audit_later = omega arith;
      out_took = moved.took;
      audit_took = Took-none audit;
      holds = inr (record {
        old = app;
        new = application_of c.in-Ok-open_next.service;
        application = spelled_application seen command app
            (spelled_within (span a d) (span a b) (within_between a a b d (files_last a) one two) c.args.command.now.app app c.in-Ok.ensures.spelled);
        next = record {
          bytes = c.in-Ok-read_file.next;
          read = read_within (span a d) (span b d) (within_between a b d d one two (files_last d))
              c.args.command.now.next roles.New c.in-Ok-read_file.next (record { short = c.in-Ok-read_file.ensures.short; told = c.in-Ok-read_file.ensures.told });
          spelled = rw c.as_slice.ensures at c.in-Ok-open_next.ensures.opened;
        };
        no_audit = refl;
        unaimed = λ told. refl;
        ends = moved.holds;
      });
    }

pub returns-in-Err-clause-asks : goal.returns-in-Err-clause-asks
returns-in-Err-clause-asks g c =
    let command = c.args.command.now in
    record { front = command.app ∷ []; rest = command.next ∷ []; parts = refl; asked = c.in-Err.ensures.asked; all = λ no. cc }

pub returns-in-Err-read_file-clause-asks : goal.returns-in-Err-read_file-clause-asks
returns-in-Err-read_file-clause-asks g c =
    let F = g.F.Files in
    let command = c.args.command.now in
    let a = F.seen c.args.files.now in
    let b = F.seen c.read_app.new.files in
    let d = F.seen c.read_file.new.files in
    asks_all a d (command.app ∷ command.next ∷ []) _ (asked_then a.asked b.asked d.asked (command.app ∷ []) (command.next ∷ []) c.in-Ok.ensures.asked c.in-Err-read_file.ensures.asked)

pub returns-in-Err-open_next-clause-asks : goal.returns-in-Err-open_next-clause-asks
returns-in-Err-open_next-clause-asks g c =
    let F = g.F.Files in
    let command = c.args.command.now in
    let a = F.seen c.args.files.now in
    let b = F.seen c.read_app.new.files in
    let d = F.seen c.read_file.new.files in
    asks_all a d (command.app ∷ command.next ∷ []) _ (asked_then a.asked b.asked d.asked (command.app ∷ []) (command.next ∷ []) c.in-Ok.ensures.asked c.in-Ok-read_file.ensures.asked)

pub returns-clause-asks : goal.returns-clause-asks
returns-clause-asks g c =
    let F = g.F.Files in
    let command = c.args.command.now in
    let a = F.seen c.args.files.now in
    let b = F.seen c.read_app.new.files in
    let d = F.seen c.read_file.new.files in
    asks_all a d (command.app ∷ command.next ∷ []) _ (asked_then a.asked b.asked d.asked (command.app ∷ []) (command.next ∷ []) c.in-Ok.ensures.asked c.in-Ok-read_file.ensures.asked)
