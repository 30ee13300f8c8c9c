use Rattle.jac_dispatch.proofs.HandlingLemmas.{refusal_phrase}
use Rattle.jac_dispatch.proofs.handler.refused_lines.Goals as goal

pub refusal_reply-requires : goal.refusal_reply-requires
refusal_reply-requires c = refusal_phrase c.args.status c.requires.refusal
