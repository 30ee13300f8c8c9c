use Rattle.jac_sql_spec.specs.Statements.{founding}
use Rattle.jac_sqlkeep.proofs.Steps.{inside_then}
use Rattle.jac_sqlkeep.proofs.meta.found.Goals as goal

pub returns-clause-inside : goal.returns-clause-inside
unfolding founding
returns-clause-inside g c =
    let third = rw (c.params-to_sql.ensures, c.as_str.ensures) at c.run-3.ensures.inside in
    let second = inside_then g.S.Store _ _ _ _ _ _ _ c.in_ok-run-2.ensures.inside third in
    inside_then g.S.Store _ _ _ _ _ _ _ c.in_ok-run.ensures.inside second
