use Rattle.std.proofs.Common.{◌∙◌, sym}
use Rattle.jac_keep.proofs.OrderLaws.{ordered_if_tested}
use Rattle.jac_shown_rows.proofs.lent_table.suit.Goals as goal

pub returns : goal.returns
returns c = λ tested. ordered_if_tested 0 c.args.rows.now (sym c.is_in_order.ensures ∙ tested)
