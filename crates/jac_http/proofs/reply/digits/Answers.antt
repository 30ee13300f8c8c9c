use Rattle.jac_http.proofs.Statuses.{has_digits}
use Rattle.jac_http.proofs.reply.digits.Goals as goal

pub unreachable-requires : goal.unreachable-requires
unreachable-requires c = c.in-Err.ensures (has_digits c.args.status c.requires).0
