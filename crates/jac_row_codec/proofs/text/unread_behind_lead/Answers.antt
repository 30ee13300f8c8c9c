use Rattle.std.proofs.Common.{rules, arith}
use Rattle.jac_row_codec.proofs.Texts.{behind_lead, never_lead}
use Rattle.jac_row_codec.proofs.text.unread_behind_lead.Goals.{then-not-is_lead-via-then-not-is_lead, then-not-is_lead-via-else-not-is_lead+then-left-inside}
use Rattle.jac_row_codec.proofs.text.unread_behind_lead.Goals as goal

pub returns-then-not-is_lead-clause-none : goal.returns-then-not-is_lead-clause-none
returns-then-not-is_lead-clause-none c =
    let length = c.continuation_len-inside.ensures in
    let lead = c.is_lead.ensures in
    λ none text is. never_lead c.args.unread c.args.byte c.requires.closed
    (elim c.then-not-is_lead.branch [
      | then-not-is_lead-via-then-not-is_lead w ↦ λ both. let no = w.if-not-is_lead in let yes = both.0 in cc
      | then-not-is_lead-via-else-not-is_lead+then-left-inside w ↦ λ both. let short = w.if-left-inside in let room = both.1 in absurd (omega (arith, length, short, room))
    ]) text is

pub returns-clause-next : goal.returns-clause-next
returns-clause-next c =
    let length = c.continuation_len-inside.ensures in
    let room = c.if-left-inside.false in
    search (rules, behind_lead c.args.unread c.args.byte c.requires.some c.requires.closed (search rules) (omega (arith, length, room)))
