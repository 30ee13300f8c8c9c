use Rattle.std.proofs.Common.{rules}
use Rattle.jac_forms.proofs.expressions.read_only.Goals as goal

pub returns-in_err-e-clause-fault : goal.returns-in_err-e-clause-fault
returns-in_err-e-clause-fault c = rw (c.in-More.is, ← c.deref.ensures, c.in-End.is, ← c.deref-2.ensures, ← c.child.ensures) (search rules)

pub returns-clause-value : goal.returns-clause-value
returns-clause-value c = rw (c.in-More.is, ← c.deref.ensures, c.in-End.is, ← c.deref-2.ensures, ← c.child.ensures) c.in_ok-e.ensures.value
