use Rattle.jac_headline.proofs.EachReply.{each_reply}
use Rattle.jac_headline.proofs.laws.each_reply_is_right.Goals as goal

pub returns : goal.returns
returns g c serving top run ended = each_reply serving top run ended
