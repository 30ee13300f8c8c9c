use Rattle.std.proofs.Common.{ap}
use Rattle.std.proofs.lemmas.Bool.{and_from}
use Rattle.jac_lang.specs.Mirror.{application_of}
use Rattle.jac_pruned.specs.Locally.{is_free_env}
use Rattle.jac_resolve.proofs.permission.policy_holds.Goals as goal

pub returns-clause-own : goal.returns-clause-own
returns-clause-own g c told case local own =
    c.in_ok-value.ensures.own told
    (record { case = case; passed = and_from _ _ (ap (is_free_env (application_of c.args.app.now)) c.empty-env.ensures) local }) own
