use Rattle.std.proofs.Common.{refl}
use Rattle.std.specs.Fmt.{digits}
use Rattle.jac_http.specs.Replies.{phrase_of, status_line, content_lines, further_lines}
use Rattle.jac_replies.proofs.still.still_text.Goals as goal

pub returns-in-Memory500-true : goal.returns-in-Memory500-true
unfolding phrase_of status_line content_lines further_lines digits
returns-in-Memory500-true c = rw (c.in-Memory500-true.is-0, c.in-Memory500-true.is-1) refl

pub returns-in-Memory500-false : goal.returns-in-Memory500-false
unfolding phrase_of status_line content_lines further_lines digits
returns-in-Memory500-false c = rw (c.in-Memory500-false.is-0, c.in-Memory500-false.is-1) refl

pub returns-in-Keeper503-true : goal.returns-in-Keeper503-true
unfolding phrase_of status_line content_lines further_lines digits
returns-in-Keeper503-true c = rw (c.in-Keeper503-true.is-0, c.in-Keeper503-true.is-1) refl

pub returns-in-Keeper503-false : goal.returns-in-Keeper503-false
unfolding phrase_of status_line content_lines further_lines digits
returns-in-Keeper503-false c = rw (c.in-Keeper503-false.is-0, c.in-Keeper503-false.is-1) refl
