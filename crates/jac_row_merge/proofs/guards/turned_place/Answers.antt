use Rattle.std.proofs.Common.{rules, ◌≡◌, ◌∷◌, ◌++◌, ap, sym, ◌∙◌, [], true}
use Rattle.jac_row_merge.specs.Merged.{same_pair, differ_once}
use Rattle.jac_row_merge.proofs.Joining.{turned_joined, passed_over, one_longer, pair_same, pair_turned, pairs_same, differ_step}
use Rattle.jac_row_merge.proofs.guards.turned_place.Goals as goal

pub returns-then-are_same-clause-joined : goal.returns-then-are_same-clause-joined
returns-then-are_same-clause-joined c =
    let (front, at, first, second) = c.pairs.invariant.parts in
    let x = c.in-Some-Some.x.now in
    let y = c.in-Some-Some.y.now in
    let xs = c.in-Some-Some.xs.now in
    let ys = c.in-Some-Some.ys.now in
    let left : c.pairs.left.now ≡ x ∷ xs = search rules in
    let right : c.pairs.right.now ≡ y ∷ ys = search rules in
    turned_joined front c.args.one.now c.args.other.now xs ys x y c.pairs.place
    at (ap (λ l. front ++ l) (sym left) ∙ first) (ap (λ l. front ++ l) (sym right) ∙ second)
    (pair_turned x y (sym c.is_turned.ensures ∙ c.if-is_turned.true)) (pairs_same xs ys (sym c.are_same.ensures ∙ c.if-are_same.true))

pub pairs-preserved : goal.pairs-preserved
pairs-preserved c =
    let (front, at, first, second) = c.pairs.invariant.parts in
    let x = c.in-Some-Some.x.now in
    let y = c.in-Some-Some.y.now in
    let xs = c.in-Some-Some.xs.now in
    let ys = c.in-Some-Some.ys.now in
    let left : c.pairs.left.now ≡ x ∷ xs = search rules in
    let right : c.pairs.right.now ≡ y ∷ ys = search rules in
    let alike : same_pair x y ≡ true = sym c.is_same.ensures ∙ c.if-not-is_same.false in
    let same : y ≡ x = pair_same x y alike in
    record {
      parts = (
        front ++ x ∷ [],
        one_longer front x c.pairs.place at,
        passed_over front xs c.args.one.now x (ap (λ l. front ++ l) (sym left) ∙ first),
        passed_over front ys c.args.other.now x (ap (λ p. front ++ p ∷ ys) (sym same) ∙ ap (λ l. front ++ l) (sym right) ∙ second),
      );
      differ = sym (differ_step x y xs ys alike) ∙ ap (λ l. differ_once l (y ∷ ys)) (sym left) ∙ ap (λ l. differ_once c.pairs.left.now l) (sym right) ∙ c.pairs.invariant.differ;
    }
