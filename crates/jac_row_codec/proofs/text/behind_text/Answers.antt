use Rattle.std.proofs.Common.{rules}
use Rattle.jac_row_codec.proofs.Texts.{text_short, text_out, text_step, text_end}
use Rattle.jac_row_codec.proofs.text.behind_text.Goals as goal

pub returns-in_default-clause-stops : goal.returns-in_default-clause-stops
returns-in_default-clause-stops c = text_short c.args.long c.args.bytes.now c.bytes.unread c.bytes.rest.now c.bytes.invariant c.bytes-test.true (search rules)

pub returns-in_default-unread_behind-clause-stops : goal.returns-in_default-unread_behind-clause-stops
returns-in_default-unread_behind-clause-stops c = text_out c.args.long c.args.bytes.now c.bytes.unread c.in-Some.byte.now c.bytes.rest.now c.in-Some.after.now c.bytes.invariant (search rules) c.bytes-test.true (search rules)

pub bytes-preserved : goal.bytes-preserved
bytes-preserved c = text_step c.args.long c.args.bytes.now c.bytes.unread c.in-Some-unread_behind.next c.in-Some.byte.now c.bytes.rest.now c.in-Some.after.now c.bytes.invariant (search rules) c.bytes-test.true (search rules)

pub returns-clause-text : goal.returns-clause-text
returns-clause-text c = text_end c.args.long c.args.bytes.now c.bytes.unread c.bytes.rest.now c.bytes.invariant (search rules)
