use Rattle.std.proofs.Common.{◌≡◌, rules}
use Rattle.jac_value.specs.Ids.{model_of_id}
use Rattle.jac_lang.specs.Mirror.{application_of}
use Rattle.jac_plain.specs.Statements.{is_kept}
use Rattle.jac_write.proofs.HidingLaws.{kept_shown, kept_always}
use Rattle.jac_write.proofs.hidden.kept_under.Goals as goal

pub returns-in_ok-guard-in-Some : goal.returns-in_ok-guard-in-Some
returns-in_ok-guard-in-Some c =
    kept_shown c.in-Some.label (λ w. is_kept (application_of c.args.app.now).models w (model_of_id c.args.id) c.args.id) c.args.pc.now
    c.in_ok-guard-in-Some.guard (rw c.in-Some.is at c.hiding_label.ensures) c.in_ok-guard-in-Some.ensures

pub returns-in_ok-guard-in-None : goal.returns-in_ok-guard-in-None
returns-in_ok-guard-in-None c =
    let same : c.in_ok-guard-in-None.guard ≡ c.args.pc.now = search rules in
    kept_always (λ w. is_kept (application_of c.args.app.now).models w (model_of_id c.args.id) c.args.id) c.args.pc.now
    c.in_ok-guard-in-None.guard (rw c.in-None.is at c.hiding_label.ensures) same
