use Rattle.std.proofs.Common.{◌≡◌, ◌<◌, ◌++◌, ◌⊎◌, [], ◌∷◌, false, length, inl, inr, rules}
use Rattle.jac_world.specs.World.{contradict}
use Rattle.jac_world.proofs.Merging.{Merging, take_left, take_right, take_both, ended}
use Rattle.jac_world.proofs.guard.merge.Goals as goal
use Rattle.jac_world.proofs.guard.merge.Goals.{in_default, in_default-2}

pub pairs-preserved-in_ok-push : goal.pairs-preserved-in_ok-push
pairs-preserved-in_ok-push c =
    let l : c.pairs.left.now ≡ c.in-Some-Some.x.now ∷ c.in-Some-Some.xs.now = search rules in
    let r : c.pairs.right.now ≡ c.in-Some-Some.y.now ∷ c.in-Some-Some.ys.now = search rules in
    let o : c.push.new.self.items ≡ c.pairs.out.items ++ c.in-Some-Some.x.now ∷ [] = search rules in
    let m : Merging c.args.first.now c.args.second.now c.pairs.out.items (c.in-Some-Some.x.now ∷ c.in-Some-Some.xs.now) (c.in-Some-Some.y.now ∷ c.in-Some-Some.ys.now) = rw (← l, ← r) c.pairs.invariant in
    let h : c.in-Some-Some.x.now.0 < c.in-Some-Some.y.now.0 = search rules in
    rw (o, r) (take_left _ _ _ _ _ _ _ m h)

pub pairs-preserved-in_ok-push-2 : goal.pairs-preserved-in_ok-push-2
pairs-preserved-in_ok-push-2 c =
    let l : c.pairs.left.now ≡ c.in-Some-Some.x.now ∷ c.in-Some-Some.xs.now = search rules in
    let r : c.pairs.right.now ≡ c.in-Some-Some.y.now ∷ c.in-Some-Some.ys.now = search rules in
    let o : c.push-then-lt-2.new.self.items ≡ c.pairs.out.items ++ c.in-Some-Some.y.now ∷ [] = search rules in
    let m : Merging c.args.first.now c.args.second.now c.pairs.out.items (c.in-Some-Some.x.now ∷ c.in-Some-Some.xs.now) (c.in-Some-Some.y.now ∷ c.in-Some-Some.ys.now) = rw (← l, ← r) c.pairs.invariant in
    let h : c.in-Some-Some.y.now.0 < c.in-Some-Some.x.now.0 = search rules in
    rw (o, l) (take_right _ _ _ _ _ _ _ m h)

pub pairs-preserved : goal.pairs-preserved
pairs-preserved c =
    let l : c.pairs.left.now ≡ c.in-Some-Some.x.now ∷ c.in-Some-Some.xs.now = search rules in
    let r : c.pairs.right.now ≡ c.in-Some-Some.y.now ∷ c.in-Some-Some.ys.now = search rules in
    let o : c.push-then-x-y.new.self.items ≡ c.pairs.out.items ++ c.in-Some-Some.x.now ∷ [] = search rules in
    let m : Merging c.args.first.now c.args.second.now c.pairs.out.items (c.in-Some-Some.x.now ∷ c.in-Some-Some.xs.now) (c.in-Some-Some.y.now ∷ c.in-Some-Some.ys.now) = rw (← l, ← r) c.pairs.invariant in
    let k : c.in-Some-Some.x.now.0 ≡ c.in-Some-Some.y.now.0 = search rules in
    let b : c.in-Some-Some.x.now.1 ≡ c.in-Some-Some.y.now.1 = search rules in
    rw o (take_both _ _ _ _ _ _ _ m k b)

pub returns-clause-none : goal.returns-clause-none
returns-clause-none c =
    let d : (length c.pairs.left.now ≡ 0) ⊎ (length c.pairs.right.now ≡ 0) = elim c.match-split_first.branch [ in_default w ↦ inr w.in_default.ensures'.cases | in_default-2 w ↦ inl w.in_default.ensures.cases ] in
    let e : contradict c.args.first.now c.args.second.now ≡ false = ended _ _ _ _ _ c.pairs.invariant d in
    ((λ h. cc), (λ h. cc))
