use Rattle.std.specs.Option.{option_copied}
use Rattle.jac_lang.specs.Mirror.{application_of}
use Rattle.jac_serve_events.specs.Outside.{span}
use Rattle.jac_app.proofs.AttachLemmas.{starts_attached}
use Rattle.jac_app.proofs.attach.attach.Goals as goal

pub returns-clause-start : goal.returns-clause-start
returns-clause-start g c = λ told.
    starts_attached (option_copied c.args.db) (application_of c.args.service.now) (span (g.K.Keeper.seen c.args.vault.now) (g.K.Keeper.seen c.attach.new.vault)) c.attach.result
    c.attach.ensures.attaches told
