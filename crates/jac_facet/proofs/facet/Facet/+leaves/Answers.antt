use Rattle.std.proofs.Common.{rules, ◌≡◌, ◌&&◌, false, [], ◌∷◌, ap, ◌∙◌}
use mathlib.Core.Bool.{beq}
use Rattle.jac_world.specs.World.{holds}
use Rattle.jac_facet.specs.Shape.{one, fork, higher}
use Rattle.jac_facet.specs.Leaves.{leaves_seen, meets, is_shown_before}
use Rattle.jac_facet.proofs.Ordering.{seen-push, before-append, before_none, leaf_order, no_order, fork_order}
use Rattle.jac_facet.proofs.facet.Facet.+leaves.Goals as goal

pub add_leaves-returns-in_ok-push_leaf-in-Leaf-clause-seen :
    goal.add_leaves-returns-in_ok-push_leaf-in-Leaf-clause-seen
add_leaves-returns-in_ok-push_leaf-in-Leaf-clause-seen g t c w =
    let s : c.args.self.now ≡ one c.in-Leaf.value = search rules in
    rw s (ap (leaves_seen w) c.in_ok-push_leaf-in-Leaf.ensures ∙ seen-push w c.args.out.now.items (c.args.guard.now, c.in-Leaf.value))

pub add_leaves-returns-in_ok-push_leaf-in-Leaf-clause-order :
    goal.add_leaves-returns-in_ok-push_leaf-in-Leaf-clause-order
add_leaves-returns-in_ok-push_leaf-in-Leaf-clause-order g t c v w =
    let s : c.args.self.now ≡ one c.in-Leaf.value = search rules in
    rw s
    (leaf_order (meets v c.args.out.now.items) (meets w c.args.out.now.items) (holds v c.args.guard.now) (holds w c.args.guard.now) (is_shown_before v w c.args.out.now.items) (is_shown_before v w c.push_leaf.new.out.items)
    (ap (is_shown_before v w) c.in_ok-push_leaf-in-Leaf.ensures ∙ before-append v w c.args.out.now.items ((c.args.guard.now, c.in-Leaf.value) ∷ [])))

pub add_leaves-returns-in_ok-add_leaves_where-in-Split-2-clause-order :
    goal.add_leaves-returns-in_ok-add_leaves_where-in-Split-2-clause-order
add_leaves-returns-in_ok-add_leaves_where-in-Split-2-clause-order g t c v w =
    let s : c.args.self.now ≡ fork c.in-Split.label c.deref.result.now c.deref-in-Split.result.now = search rules in
    rw s
    (fork_order (meets v c.args.out.now.items) (meets w c.args.out.now.items) (meets v c.add_leaves_where.new.out.items) (meets w c.add_leaves_where.new.out.items) (holds v c.args.guard.now) (holds w c.args.guard.now) (v c.in-Split.label) (w c.in-Split.label)
    (is_shown_before v w c.args.out.now.items) (is_shown_before v w c.add_leaves_where.new.out.items) (is_shown_before v w c.add_leaves_where-in-Split.new.out.items) (higher v w c.deref.result.now) (higher v w c.deref-in-Split.result.now)
    (c.in_ok-add_leaves_where-in-Split.ensures.meets v)
    (c.in_ok-add_leaves_where-in-Split.ensures.meets w)
    (c.in_ok-add_leaves_where-in-Split.ensures.order v w)
    (c.in_ok-add_leaves_where-in-Split-2.ensures.order v w))

pub add_leaves_where-returns-in-None-clause-order :
    goal.add_leaves_where-returns-in-None-clause-order
add_leaves_where-returns-in-None-clause-order g t c v w =
    let e : (holds v c.args.guard.now && beq c.args.sign (v c.args.label)) ≡ false = (rw c.in-None.is at c.in_ok-both.ensures.holds) v in
    no_order (meets v c.args.out.now.items) (meets w c.args.out.now.items) (holds v c.args.guard.now && beq c.args.sign (v c.args.label)) (holds w c.args.guard.now && beq c.args.sign (w c.args.label)) (is_shown_before v w c.args.out.now.items) (higher v w c.args.self.now) e (before_none v w c.args.out.now.items)
