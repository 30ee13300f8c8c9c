use Rattle.std.proofs.Common.{◌∙◌, ap, sym}
use Rattle.jac_world.specs.World.{shown_by, holds, names}
use Rattle.jac_lang.specs.Mirror.{application_of}
use Rattle.jac_keep.specs.WorkState.{state_of}
use Rattle.jac_resolve.proofs.Room.{signed_names}
use Rattle.jac_resolve.proofs.Underway.{signed_holds, signed_right}
use Rattle.jac_resolve.proofs.pass.evaluate.Goals as goal
use Rattle.jac_plain.specs.Shown.{worlds_of}

pub returns-clause-right : goal.returns-clause-right
returns-clause-right g c told =
    signed_right (application_of c.args.app.now) (worlds_of (state_of g.K.Keeper.seen c.args.work.now)) c.args.viewer.now (shown_by c.args.a.now) c.args.label c.in_ok-holds.consulted _
    (rw c.as_slice.ensures.labels at c.in_ok-when.ensures) (c.in_ok-holds.ensures.value told)

pub returns-clause-fits : goal.returns-clause-fits
returns-clause-fits g c = ap (holds (shown_by c.args.a.now)) c.in_ok-when.ensures ∙ signed_holds (shown_by c.args.a.now) c.as_slice.result.now

pub returns-clause-own : goal.returns-clause-own
returns-clause-own g c told local k named =
    let v = shown_by c.args.a.now in
    let ks = c.as_slice.result.now in
    c.in_ok-holds.ensures.own told local k
    (sym (ap (λ l. shown_by l k) c.as_slice.ensures.labels) ∙ sym (signed_names v ks k) ∙ sym (ap (λ l. names l k) c.in_ok-when.ensures) ∙ named)
