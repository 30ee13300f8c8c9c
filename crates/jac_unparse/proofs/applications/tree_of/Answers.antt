use Rattle.std.proofs.Common.{◌≡◌, sym, subst, []}
use Rattle.jac_lang.specs.Mirror.{application_of}
use Rattle.jac_forms.specs.Applications.{application_in_tree}
use Rattle.jac_forms.specs.Reads.{got}
use Rattle.jac_unparse.proofs.AgainApplications.{read_again}
use Rattle.jac_unparse.proofs.applications.tree_of.Goals as goal

pub returns-clause-read : goal.returns-clause-read
returns-clause-read c readable =
    subst (λ z. application_in_tree [] z ≡ got (application_of c.args.app.now)) (sym c.in_ok-tree.ensures) (read_again (application_of c.args.app.now) readable)
