use Rattle.std.proofs.Common.{rules, ◌∙◌}
use Rattle.jac_host.proofs.SinkLaws.{more_put}
use Rattle.jac_host.proofs.sinks.write_whole.Goals as goal

pub writes-preserved : goal.writes-preserved
writes-preserved g c = (
  search rules,
  more_put _ _ _ c.args.bytes.now c.writes.done c.in-Ok.count c.writes.invariant.1 c.in-Ok.ensures.took,
  c.write_some.ensures.aims ∙ c.writes.invariant.2,
)
