use Rattle.std.proofs.Common.{rules}
use Rattle.jac_forms.proofs.statements.+read.Goals as goal

pub read_create-returns-in_err-body-clause-fault : goal.read_create-returns-in_err-body-clause-fault
read_create-returns-in_err-body-clause-fault t c = rw (c.in-More.is, ← c.deref.ensures, c.in-More-deref.is, ← c.deref-2.ensures, c.in-More-deref-2.is, ← c.deref-3.ensures, ← c.deref-4.ensures, ← c.deref-5.ensures, ← c.deref-6.ensures, ← c.child.ensures, c.in_ok-name.ensures.value, ← c.child-2.ensures, c.in_ok-model.ensures.value, ← c.child-3.ensures, c.in_ok-cells.ensures.value, ← c.next_site.ensures) (search rules)

pub read_create-returns-clause-value : goal.read_create-returns-clause-value
read_create-returns-clause-value t c = rw (c.in-More.is, ← c.deref.ensures, c.in-More-deref.is, ← c.deref-2.ensures, c.in-More-deref-2.is, ← c.deref-3.ensures, ← c.deref-4.ensures, ← c.deref-5.ensures, ← c.deref-6.ensures, ← c.child.ensures, c.in_ok-name.ensures.value, ← c.child-2.ensures, c.in_ok-model.ensures.value, ← c.child-3.ensures, c.in_ok-cells.ensures.value, ← c.next_site.ensures, c.in_ok-body.ensures.value) (search rules)

pub read_if-returns-in_err-then-clause-fault : goal.read_if-returns-in_err-then-clause-fault
read_if-returns-in_err-then-clause-fault t c = rw (c.in-More.is, ← c.deref.ensures, c.in-More-deref.is, ← c.deref-2.ensures, c.in-More-deref-2.is, ← c.deref-3.ensures, c.in-End.is, ← c.deref-4.ensures, ← c.deref-5.ensures, ← c.child.ensures, c.in_ok-cond.ensures.value, ← c.child-2.ensures) (search rules)

pub read_if-returns-in_err-other-clause-fault : goal.read_if-returns-in_err-other-clause-fault
read_if-returns-in_err-other-clause-fault t c = rw (c.in-More.is, ← c.deref.ensures, c.in-More-deref.is, ← c.deref-2.ensures, c.in-More-deref-2.is, ← c.deref-3.ensures, c.in-End.is, ← c.deref-4.ensures, ← c.deref-5.ensures, ← c.deref-6.ensures, ← c.child.ensures, c.in_ok-cond.ensures.value, ← c.child-2.ensures, c.in_ok-then.ensures.value, ← c.child-3.ensures) (search rules)

pub read_if-returns-clause-value : goal.read_if-returns-clause-value
read_if-returns-clause-value t c = rw (c.in-More.is, ← c.deref.ensures, c.in-More-deref.is, ← c.deref-2.ensures, c.in-More-deref-2.is, ← c.deref-3.ensures, c.in-End.is, ← c.deref-4.ensures, ← c.deref-5.ensures, ← c.deref-6.ensures, ← c.child.ensures, c.in_ok-cond.ensures.value, ← c.child-2.ensures, c.in_ok-then.ensures.value, ← c.child-3.ensures, c.in_ok-other.ensures.value) (search rules)

pub read_let-returns-in_err-body-clause-fault : goal.read_let-returns-in_err-body-clause-fault
read_let-returns-in_err-body-clause-fault t c = rw (c.in-More.is, ← c.deref.ensures, c.in-More-deref.is, ← c.deref-2.ensures, ← c.deref-3.ensures, ← c.deref-4.ensures, ← c.child.ensures, c.in_ok-name.ensures.value, ← c.child-2.ensures, c.in_ok-value.ensures.value) (search rules)

pub read_let-returns-clause-value : goal.read_let-returns-clause-value
read_let-returns-clause-value t c = rw (c.in-More.is, ← c.deref.ensures, c.in-More-deref.is, ← c.deref-2.ensures, ← c.deref-3.ensures, ← c.deref-4.ensures, ← c.child.ensures, c.in_ok-name.ensures.value, ← c.child-2.ensures, c.in_ok-value.ensures.value, c.in_ok-body.ensures.value) (search rules)
