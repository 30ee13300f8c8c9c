use Rattle.std.proofs.Common.{◌≤◌, ◌++◌, ◌∙◌, sym, ap, append-nil, length}
use Rattle.jac_lang.specs.Mirror.{binders_of}
use Rattle.jac_pruned.proofs.Bound.{no_binding_left}
use Rattle.jac_pruned_pages.proofs.kept_names.rebind_tuple.Goals as goal

pub returns : goal.returns
returns c =
    let past : length c.args.ids.now ≤ c.ids.id-index = rw c.as_slice-id-items.ensures at c.ids-test.false in
    sym (append-nil c.ids.env.items)
    ∙ ap (λ l. c.ids.env.items ++ l) (sym (no_binding_left (binders_of c.ids.left.now) c.args.ids.now c.ids.id-index past))
    ∙ c.ids.invariant
