use Rattle.std.specs.BTreeMap.{get}
use Rattle.jac_value.specs.contracts.value.ValueOrd.TheImpl as order
use Rattle.jac_index.proofs.Pairs.{pair_closed}
use Rattle.jac_index.proofs.by_value.ByValue.close.Goals as goal

pub returns : goal.returns
returns c = pair_closed c.args.value.now (get order.ghosts.cmp c.args.self.now.ids) (get order.ghosts.cmp c.remove.new.self) c.remove.ensures.updates.0 c.requires
