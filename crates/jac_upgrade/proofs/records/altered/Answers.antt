use Rattle.std.proofs.Common.{subst}
use Rattle.jac_keep.proofs.AlteringLaws.{are_of}
use Rattle.jac_upgrade.specs.Steps.{AreMet}
use Rattle.jac_upgrade.proofs.records.altered.Goals as goal

pub returns-clause-renewed : goal.returns-clause-renewed
returns-clause-renewed g c = record {
  of = are_of c.args.id c.in_ok-rows.rows c.in_ok-rows.ensures.own;
  met = subst (λ rows. AreMet rows) c.as_slice.ensures c.read_guards.ensures;
  shown = c.in_ok-rows.ensures.shown;
}
