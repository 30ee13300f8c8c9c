use Rattle.std.proofs.Common.{rules, ◌≡◌, IfErr, IsTrue, true}
use Rattle.std.proofs.Common.{refl, sym, subst, ◌∙◌}
use Rattle.std.specs.Prelude.{codes}
use Rattle.jac_lang.specs.Syntax.{Question}
use Rattle.jac_forms.specs.Places.{child, path_of}
use Rattle.jac_forms.specs.Reads.{Read, refused}
use Rattle.jac_forms.proofs.QueryShape.{question-parts}
use Rattle.jac_tree.specs.Mirror.{plain}
use Rattle.jac_forms.specs.Expressions.{most_binders, has_few}
use Rattle.jac_forms.specs.Refusal.{refuses}
use Rattle.jac_forms.proofs.expressions.+read.Goals as goal
use Rattle.jac_tree.specs.Plain.{is_word}

pub read_asked-returns-in_err-query-clause-fault : goal.read_asked-returns-in_err-query-clause-fault
read_asked-returns-in_err-query-clause-fault t c = rw (c.in-More.is, ← c.deref.ensures, c.in-End.is, ← c.deref-2.ensures, ← c.child.ensures) (search rules)

pub read_asked-returns-clause-value : goal.read_asked-returns-clause-value
read_asked-returns-clause-value t c = rw (c.in-More.is, ← c.deref.ensures, c.in-End.is, ← c.deref-2.ensures, ← c.child.ensures) c.in_ok-query.ensures.value

pub read_list-returns-in_err-e-in-Some-clause-fault : goal.read_list-returns-in_err-e-in-Some-clause-fault
read_list-returns-in_err-e-in-Some-clause-fault t c = rw (c.in-More.is, ← c.deref.ensures, ← c.deref-in-Some.ensures, ← c.form_of.ensures, c.in-Some.is) (search rules)

pub read_list-returns-in_ok-e-in-Some-clause-value : goal.read_list-returns-in_ok-e-in-Some-clause-value
read_list-returns-in_ok-e-in-Some-clause-value t c = rw (c.in-More.is, ← c.deref.ensures, ← c.deref-in-Some.ensures, ← c.form_of.ensures, c.in-Some.is) c.in_ok-e-in-Some.ensures.value

pub read_one-returns-in_err-e-clause-fault : goal.read_one-returns-in_err-e-clause-fault
read_one-returns-in_err-e-clause-fault t c = rw (c.in-More.is, ← c.deref.ensures, c.in-End.is, ← c.deref-2.ensures, ← c.child.ensures) (search rules)

pub read_one-returns-clause-value : goal.read_one-returns-clause-value
read_one-returns-clause-value t c = rw (c.in-More.is, ← c.deref.ensures, c.in-End.is, ← c.deref-2.ensures, ← c.child.ensures) c.in_ok-e.ensures.value

pub read_get-returns-in_err-read_expr-clause-fault : goal.read_get-returns-in_err-read_expr-clause-fault
read_get-returns-in_err-read_expr-clause-fault t c = rw (c.in-More.is, ← c.deref.ensures, c.in-More-deref.is, ← c.deref-2.ensures, c.in-More-deref-2.is, ← c.deref-3.ensures, c.in-End.is, ← c.deref-4.ensures, ← c.deref-5.ensures, ← c.deref-6.ensures, ← c.child.ensures, c.in_ok-model.ensures.value, ← c.child-2.ensures, c.in_ok-field.ensures.value, ← c.child-3.ensures) (search rules)

pub read_get-returns-clause-value : goal.read_get-returns-clause-value
read_get-returns-clause-value t c = rw (c.in-More.is, ← c.deref.ensures, c.in-More-deref.is, ← c.deref-2.ensures, c.in-More-deref-2.is, ← c.deref-3.ensures, c.in-End.is, ← c.deref-4.ensures, ← c.deref-5.ensures, ← c.deref-6.ensures, ← c.child.ensures, c.in_ok-model.ensures.value, ← c.child-2.ensures, c.in_ok-field.ensures.value, ← c.child-3.ensures, c.in_ok-read_expr.ensures.value) (search rules)

pub read_pick-returns-in_err-read_expr-clause-fault : goal.read_pick-returns-in_err-read_expr-clause-fault
read_pick-returns-in_err-read_expr-clause-fault t c = rw (c.in-More.is, ← c.deref.ensures, c.in-More-deref.is, ← c.deref-2.ensures, c.in-More-deref-2.is, ← c.deref-3.ensures, c.in-End.is, ← c.deref-4.ensures, ← c.child.ensures) (search rules)

pub read_pick-returns-in_err-read_expr-2-clause-fault : goal.read_pick-returns-in_err-read_expr-2-clause-fault
read_pick-returns-in_err-read_expr-2-clause-fault t c = rw (c.in-More.is, ← c.deref.ensures, c.in-More-deref.is, ← c.deref-2.ensures, c.in-More-deref-2.is, ← c.deref-3.ensures, c.in-End.is, ← c.deref-4.ensures, ← c.deref-5.ensures, ← c.child.ensures, c.in_ok-read_expr.ensures.value, ← c.child-2.ensures) (search rules)

pub read_pick-returns-in_err-read_expr-3-clause-fault : goal.read_pick-returns-in_err-read_expr-3-clause-fault
read_pick-returns-in_err-read_expr-3-clause-fault t c = rw (c.in-More.is, ← c.deref.ensures, c.in-More-deref.is, ← c.deref-2.ensures, c.in-More-deref-2.is, ← c.deref-3.ensures, c.in-End.is, ← c.deref-4.ensures, ← c.deref-5.ensures, ← c.deref-6.ensures, ← c.child.ensures, c.in_ok-read_expr.ensures.value, ← c.child-2.ensures, c.in_ok-read_expr-2.ensures.value, ← c.child-3.ensures) (search rules)

pub read_pick-returns-clause-value : goal.read_pick-returns-clause-value
read_pick-returns-clause-value t c = rw (c.in-More.is, ← c.deref.ensures, c.in-More-deref.is, ← c.deref-2.ensures, c.in-More-deref-2.is, ← c.deref-3.ensures, c.in-End.is, ← c.deref-4.ensures, ← c.deref-5.ensures, ← c.deref-6.ensures, ← c.child.ensures, c.in_ok-read_expr.ensures.value, ← c.child-2.ensures, c.in_ok-read_expr-2.ensures.value, ← c.child-3.ensures, c.in_ok-read_expr-3.ensures.value) (search rules)

pub read_sum-returns-in_err-read_query-clause-fault : goal.read_sum-returns-in_err-read_query-clause-fault
read_sum-returns-in_err-read_query-clause-fault t c = rw (c.in-More.is, ← c.deref.ensures, c.in-More-deref.is, ← c.deref-2.ensures, c.in-End.is, ← c.deref-3.ensures, ← c.child.ensures) (search rules)

pub read_sum-returns-in_err-read_expr-clause-fault : goal.read_sum-returns-in_err-read_expr-clause-fault
read_sum-returns-in_err-read_expr-clause-fault t c = rw (c.in-More.is, ← c.deref.ensures, c.in-More-deref.is, ← c.deref-2.ensures, c.in-End.is, ← c.deref-3.ensures, ← c.deref-4.ensures, ← c.child.ensures, c.in_ok-read_query.ensures.value, ← c.child-2.ensures) (search rules)

pub read_sum-returns-clause-value : goal.read_sum-returns-clause-value
read_sum-returns-clause-value t c = rw (c.in-More.is, ← c.deref.ensures, c.in-More-deref.is, ← c.deref-2.ensures, c.in-End.is, ← c.deref-3.ensures, ← c.deref-4.ensures, ← c.child.ensures, c.in_ok-read_query.ensures.value, ← c.child-2.ensures, c.in_ok-read_expr.ensures.value) (search rules)

pub read_two-returns-in_err-read_expr-clause-fault : goal.read_two-returns-in_err-read_expr-clause-fault
read_two-returns-in_err-read_expr-clause-fault t c = rw (c.in-More.is, ← c.deref.ensures, c.in-More-deref.is, ← c.deref-2.ensures, c.in-End.is, ← c.deref-3.ensures, ← c.child.ensures) (search rules)

pub read_two-returns-in_err-read_expr-2-clause-fault : goal.read_two-returns-in_err-read_expr-2-clause-fault
read_two-returns-in_err-read_expr-2-clause-fault t c = rw (c.in-More.is, ← c.deref.ensures, c.in-More-deref.is, ← c.deref-2.ensures, c.in-End.is, ← c.deref-3.ensures, ← c.deref-4.ensures, ← c.child.ensures, c.in_ok-read_expr.ensures.value, ← c.child-2.ensures) (search rules)

pub read_two-returns-clause-value : goal.read_two-returns-clause-value
read_two-returns-clause-value t c = rw (c.in-More.is, ← c.deref.ensures, c.in-More-deref.is, ← c.deref-2.ensures, c.in-End.is, ← c.deref-3.ensures, ← c.deref-4.ensures, ← c.child.ensures, c.in_ok-read_expr.ensures.value, ← c.child-2.ensures, c.in_ok-read_expr-2.ensures.value) (search rules)

pub read_query-returns-in_err-cond-clause-fault : goal.read_query-returns-in_err-cond-clause-fault
read_query-returns-in_err-cond-clause-fault t c =
    let word : is_word (codes "from") (plain c.deref-5.result.now) ≡ true = search rules in
    let few : has_few (most_binders c.args.most) (plain c.deref-7.result.now) ≡ true = search rules in
    let at = path_of c.args.place.now in
    let step = question-parts (plain c.args.tree.now) (most_binders c.args.most) at (path_of c.child.result) (path_of c.child-2.result) (child at 3) (plain c.deref-5.result.now) (plain c.deref-7.result.now) (plain c.deref-8.result.now) (plain c.in-More-deref-3.order.value)
    (rw (c.in-List.is, c.in-More.is, ← c.deref.ensures, c.in-More-deref.is, ← c.deref-2.ensures, c.in-More-deref-2.is, ← c.deref-3.ensures, c.in-More-deref-3.is, ← c.deref-4.ensures, c.in-End.is, ← c.deref-5.ensures, ← c.deref-7.ensures, ← c.deref-8.ensures) refl) word few c.child.ensures c.child-2.ensures refl in
    subst (λ (q : Read Question). IfErr c.from_residual-in_err-cond.result (λ f. IsTrue (refuses f) → q ≡ refused f)) (sym step)
    (rw c.in_ok-binders.ensures.value (search rules))

pub read_query-returns-in_err-order-clause-fault :
    goal.read_query-returns-in_err-order-clause-fault
read_query-returns-in_err-order-clause-fault t c =
    let word : is_word (codes "from") (plain c.deref-5.result.now) ≡ true = search rules in
    let few : has_few (most_binders c.args.most) (plain c.deref-7.result.now) ≡ true = search rules in
    let at = path_of c.args.place.now in
    let step = question-parts (plain c.args.tree.now) (most_binders c.args.most) at (path_of c.child.result) (path_of c.child-2.result) (path_of c.child-3.result) (plain c.deref-5.result.now) (plain c.deref-7.result.now) (plain c.deref-8.result.now) (plain c.deref-9.result.now)
    (rw (c.in-List.is, c.in-More.is, ← c.deref.ensures, c.in-More-deref.is, ← c.deref-2.ensures, c.in-More-deref-2.is, ← c.deref-3.ensures, c.in-More-deref-3.is, ← c.deref-4.ensures, c.in-End.is, ← c.deref-5.ensures, ← c.deref-7.ensures, ← c.deref-8.ensures, ← c.deref-9.ensures) refl) word few c.child.ensures c.child-2.ensures c.child-3.ensures in
    subst (λ (q : Read Question). IfErr c.from_residual-in_err-order.result (λ f. IsTrue (refuses f) → q ≡ refused f)) (sym step)
    (rw (c.in_ok-binders.ensures.value, c.in_ok-cond.ensures.value) (search rules))

pub read_query-returns-clause-value : goal.read_query-returns-clause-value
read_query-returns-clause-value t c =
    let word : is_word (codes "from") (plain c.deref-5.result.now) ≡ true = search rules in
    let few : has_few (most_binders c.args.most) (plain c.deref-7.result.now) ≡ true = search rules in
    let at = path_of c.args.place.now in
    let step = question-parts (plain c.args.tree.now) (most_binders c.args.most) at (path_of c.child.result) (path_of c.child-2.result) (path_of c.child-3.result) (plain c.deref-5.result.now) (plain c.deref-7.result.now) (plain c.deref-8.result.now) (plain c.deref-9.result.now)
    (rw (c.in-List.is, c.in-More.is, ← c.deref.ensures, c.in-More-deref.is, ← c.deref-2.ensures, c.in-More-deref-2.is, ← c.deref-3.ensures, c.in-More-deref-3.is, ← c.deref-4.ensures, c.in-End.is, ← c.deref-5.ensures, ← c.deref-7.ensures, ← c.deref-8.ensures, ← c.deref-9.ensures) refl) word few c.child.ensures c.child-2.ensures c.child-3.ensures in
    step ∙ rw (c.in_ok-binders.ensures.value, c.in_ok-cond.ensures.value, c.in_ok-order.ensures.value) refl
