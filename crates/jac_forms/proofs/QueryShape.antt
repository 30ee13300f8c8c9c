-- A query of the right shape.
use Rattle.std.proofs.Common.{◌≡◌, ℕ, List, true, refl}
use Rattle.std.specs.Prelude.{codes}
use Rattle.jac_tree.specs.Plain.{PlainTree, PlainTrees, is_word}
use Rattle.jac_forms.specs.Places.{child}
use Rattle.jac_forms.specs.Expressions.{question_in_tree, question_if, has_few, binders_in_tree, expression_in_tree, order_in_tree}

pub question-parts : (t : PlainTree) (most : ℕ) (at first second third : List ℕ) (w bs c o : PlainTree)
    → t ≡ PlainTree.list (PlainTrees.more w (PlainTrees.more bs (PlainTrees.more c (PlainTrees.more o PlainTrees.none))))
    → is_word (codes "from") w ≡ true → has_few most bs ≡ true
    → first ≡ child at 1 → second ≡ child at 2 → third ≡ child at 3
    → question_in_tree most at t ≡ question_if (binders_in_tree most first bs) (expression_in_tree second c) (order_in_tree third o)
question-parts t most at first second third w bs c o shape word few one two three = rw (shape, word, few, one, two, three) refl
