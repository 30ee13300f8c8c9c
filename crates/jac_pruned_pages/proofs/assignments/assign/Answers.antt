use Rattle.std.proofs.Common.{rules, sym}
use Rattle.jac_pruned_pages.proofs.Places.{assigned-none, assigned-some}
use Rattle.jac_pruned_pages.proofs.assignments.assign.Goals as goal

pub returns-in_default : goal.returns-in_default
returns-in_default c =
    sym (assigned-none c.args.name.now c.args.value c.args.env.now.items (search rules))

pub returns : goal.returns
returns c =
    assigned-some c.args.name.now c.args.value c.args.env.now.items c.in-Some.place c.index_mut-binding.result.now
    (search rules) (search rules)
