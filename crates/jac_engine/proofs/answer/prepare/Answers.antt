use Rattle.jac_lang.specs.Mirror.{application_of}
use Rattle.jac_engine.proofs.PreparedLaws.{is_prepared}
use Rattle.jac_engine.proofs.answer.prepare.Goals as goal

pub returns-clause-prepared : goal.returns-clause-prepared
returns-clause-prepared g c =
    let K = g.K.Keeper in
    let tells = (K.seen c.prepare_found.new.keeper).tells in
    let state = (K.seen c.args.keeper.now).state in
    is_prepared c.args.manner.lazy tells (application_of c.args.service.now) state c.args.ask.now c.in_ok-valid.valid.prepared c.app-app.ensures.served c.app-app.ensures.few
    (λ told. c.requires.start (c.in_ok-valid.ensures.reads.left.told told)) c.in_ok-valid.ensures.prepared
