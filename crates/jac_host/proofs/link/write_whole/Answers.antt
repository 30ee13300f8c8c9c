use Rattle.std.proofs.Common.{rules}
use Rattle.jac_host.proofs.SinkLaws.{more_put}
use Rattle.jac_host.proofs.LinkLaws.{written_on}
use Rattle.jac_host.proofs.link.write_whole.Goals as goal

pub writes-preserved : goal.writes-preserved
writes-preserved c = (
  search rules,
  more_put _ _ _ c.args.bytes.now c.writes.done c.in-Ok.count c.writes.invariant.1 c.in-Ok.ensures.took,
  written_on _ _ _ c.writes.invariant.2 c.write_some.ensures.written,
)
