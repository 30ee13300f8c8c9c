use Rattle.jac_lang.specs.Mirror.{pages_of}
use Rattle.jac_route.specs.Firsts.{firsts_at}
use Rattle.jac_route.proofs.FirstLaws.{table_ok, table_clash}
use Rattle.jac_route.proofs.routes.router_of.Goals as goal

pub returns-in-Ok-clause-ok : goal.returns-in-Ok-clause-ok
returns-in-Ok-clause-ok c = table_ok (firsts_at c.in-Ok.firsts) (pages_of c.args.views.now) _ c.in-Ok.ensures c.router_by.ensures.ok

pub returns-in-Ok-clause-clash : goal.returns-in-Ok-clause-clash
returns-in-Ok-clause-clash c = table_clash (firsts_at c.in-Ok.firsts) (pages_of c.args.views.now) _ c.in-Ok.ensures c.router_by.ensures.clash
