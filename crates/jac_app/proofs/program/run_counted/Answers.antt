use Rattle.jac_serve_events.specs.RunSeen.{run_counts}
use Rattle.jac_serve_events.specs.Outside.{span}
use Rattle.jac_command_base.specs.Files.{sight}
use Rattle.jac_app.proofs.CauseLemmas.{comes_for, is_attached_so}
use Rattle.jac_app.proofs.CompleteLemmas.{is_served, is_checked, is_shown, is_dumped, is_explained, is_upgraded, is_refused, is_listened}
use Rattle.jac_app.proofs.program.run_counted.Goals as goal

pub returns-clause-run : goal.returns-clause-run
returns-clause-run g c =
    let F = g.F.Files in
    let O = g.O.Sink in
    let U = g.U.Sink in
    let K = g.K.Keeper in
    let D = g.D.Door in
    let line = g.D.Line.Link.seen in
    let door = span (D.seen c.args.door.now) (D.seen c.run_words.new.door) in
    let counts = span (run_counts c.args.counts.now.splits.now c.args.counts.now.evaluations.now) (run_counts c.run_words.new.counts.splits.now c.run_words.new.counts.evaluations.now) in
    let seen =
    sight (F.seen c.args.files.now) (F.seen c.run_words.new.files) (O.seen c.args.out.now) (O.seen c.run_words.new.out)
    (U.seen c.args.audit.now) (U.seen c.run_words.new.audit) (K.seen c.args.vault.now) (K.seen c.run_words.new.vault) in
    let ran = c.run_words.ensures.ran in
    record {
      ran = ran;
      lasts = c.run_words.ensures.lasts;
      asks = c.run_words.ensures.asks;
      cause = comes_for line seen door counts c.args.words.now c.run_words.result ran.out ran.audit ran.holds;
      replays = λ can. is_served line seen door counts c.args.words.now can c.run_words.result ran.out ran.audit ran.holds;
      serves = λ can. is_listened line seen door counts c.args.words.now can c.run_words.result ran.out ran.audit ran.holds;
      dumps = λ can. is_dumped line seen door counts c.args.words.now can c.run_words.result ran.out ran.audit ran.holds;
      explains = λ can. is_explained line seen door counts c.args.words.now can c.run_words.result ran.out ran.audit ran.holds;
      upgrades = λ can extends. is_upgraded line seen door counts c.args.words.now can extends c.run_words.result ran.out ran.audit ran.holds;
      refuses = λ can extends. is_refused line seen door counts c.args.words.now can extends c.run_words.result ran.out ran.audit ran.holds;
      demos = λ can. is_shown line seen door counts c.args.words.now can c.run_words.result ran.out ran.audit ran.holds;
      attaches = is_attached_so seen door c.args.words.now c.run_words.result (comes_for line seen door counts c.args.words.now c.run_words.result ran.out ran.audit ran.holds);
      checks = λ can. is_checked line seen door counts c.args.words.now can c.run_words.result ran.out ran.audit ran.holds;
    }
