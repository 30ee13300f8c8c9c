use Rattle.std.proofs.Common.{rules, subst, ◌≡◌, ◌<◌, ℕ, List, ◌∷◌, length, All}
use Rattle.std.specs.Vec.Iter.{into_iter_items}
use Rattle.std.proofs.lemmas.List.Elements.{All-tail}
use Rattle.jac_facet.specs.Shape.{Shape}
use Rattle.jac_value.specs.declared.value.Value.{Value}
use Rattle.jac_stmt.proofs.drafts.put_sets.Goals as goal

pub sets-preserved : goal.sets-preserved
sets-preserved c =
    let rest = into_iter_items c.next.new.self in
    let before : into_iter_items c.sets.field-iterator ≡ (c.in-Some.field, c.in-Some.value) ∷ rest = search rules in (
      All-tail (λ (x : ℕ × Shape Value). x.0 < length c.args.cells.now.items) (c.in-Some.field, c.in-Some.value) rest
          (subst (λ (xs : List (ℕ × Shape Value)). All (λ x. x.0 < length c.args.cells.now.items) xs) before c.sets.invariant.0),
      search rules,
      search rules,
    )
