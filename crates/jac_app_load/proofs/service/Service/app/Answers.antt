use Rattle.std.proofs.Common.{◌≤◌, ℕ, sym, subst}
use Rattle.jac_lang.proofs.Places.{length-entities}
use Rattle.jac_app_load.proofs.service.Service.app.Goals as goal

pub returns-clause-few : goal.returns-clause-few
returns-clause-few c = subst (λ (n : ℕ). n ≤ 64) (sym (length-entities c.args.self.now.models)) (rw (c.app-app.ensures.app, c.self.view_is) at c.as_slice-models.ensures.few)
