use Rattle.std.proofs.Common.{◌≡◌, ◌≤◌, ◌+◌}
use Rattle.jac_lang.specs.Mirror.{statements_of}
use Rattle.jac_lang.specs.declared.statements.Stmts.{size-Stmts}
use Rattle.jac_forms.specs.Statements.{creates}
use Rattle.jac_forms.proofs.sites.+sites.Given as goal

-- The number so far plus that of the rest is the number of all.
abbrev pub invariant-count_sites-statements : goal.invariant-count_sites-statements
invariant-count_sites-statements l = record {
  no_deeper : size-Stmts l.left ≤ size-Stmts l.body;
  sum : l.number + creates (statements_of l.left) ≡ creates (statements_of l.body);
}
