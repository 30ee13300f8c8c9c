use Rattle.std.proofs.Common.{sym, subst}
use Rattle.jac_row_merge.specs.Merged.{AreOfRecord, Shows}
use Rattle.jac_write.proofs.MergedLaws.{all_own, own_all, cells_kept}
use Rattle.jac_write.proofs.merged.merged_rows.Goals as goal

pub returns-clause-own : goal.returns-clause-own
returns-clause-own c id own =
    all_own id c.in_ok-merged.merged (c.in_ok-merged.ensures.own id (subst (AreOfRecord id) (sym c.from_vec.ensures) (own_all id c.args.rows.items own)))

pub returns-clause-shown : goal.returns-clause-shown
returns-clause-shown c =
    cells_kept c.args.rows.items c.in_ok-merged.merged (subst (λ rows. Shows rows c.in_ok-merged.merged) c.from_vec.ensures c.in_ok-merged.ensures.shown)
