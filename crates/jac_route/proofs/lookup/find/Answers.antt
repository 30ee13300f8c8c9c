use Rattle.jac_route.proofs.FoundLaws.{by_routes, within_views}
use Rattle.jac_route.proofs.lookup.find.Goals as goal

pub returns-clause-found : goal.returns-clause-found
returns-clause-found c = λ app are. by_routes app c.args.routes.now c.args.method.now c.args.path.now _ are c.find_among.ensures

pub returns-clause-within : goal.returns-clause-within
returns-clause-within c = λ app are. within_views app c.args.routes.now c.args.method.now c.args.path.now _ are c.find_among.ensures
