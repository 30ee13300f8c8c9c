use Rattle.std.proofs.Common.{◌≡◌, ◌++◌, drop}
use Rattle.jac_lang.specs.Mirror.{binders_of}
use Rattle.jac_pruned.specs.Tupled.{bindings_to}
use Rattle.jac_pruned_pages.proofs.kept_names.rebind_tuple.Given as goal

abbrev pub invariant-ids : goal.invariant-ids
invariant-ids l = l.env.items ++ bindings_to (binders_of l.left) (drop l.id-index l.ids) ≡ l.initial.env.items ++ bindings_to (binders_of l.binders) l.ids
