use Rattle.std.proofs.Common.{◌≡◌, ◌<◌, length, None, Some, rules}
use Rattle.std.specs.BTreeMap.{get}
use Rattle.std.specs.Ordering.{nat_cmp}
use Rattle.jac_value.specs.Ids.{model_of_id}
use Rattle.jac_keep.proofs.Rewritten.{left_none, left_some, kept_some}
use Rattle.jac_keep.proofs.table_indexes.TableIndexes.put_altered.Goals as goal

pub returns-in_err-insert-clause-left : goal.returns-in_err-insert-clause-left
returns-in_err-insert-clause-left c =
    let id = c.args.alteration.now.id in
    let none : get nat_cmp c.insert.new.self (model_of_id id) ≡ None = search rules in
    left_none id c.args.rows.now c.args.alteration.now.rows (Some c.args.index) (get nat_cmp c.insert.new.self (model_of_id id)) none

pub returns-clause-left : goal.returns-clause-left
returns-clause-left c =
    let id = c.args.alteration.now.id in
    let at : get nat_cmp c.insert.new.self (model_of_id id) ≡ Some c.in_ok-after.after = rw c.id_model.ensures at c.in_ok-insert.ensures.updates.1 in
    let some : 0 < length c.args.rows.now = search rules in
    left_some id c.args.rows.now c.args.alteration.now.rows c.args.index c.in_ok-after.after (get nat_cmp c.insert.new.self (model_of_id id)) at c.in_ok-after.ensures.follows some

pub returns-clause-kept : goal.returns-clause-kept
returns-clause-kept c = λ some.
    let id = c.args.alteration.now.id in
    let at : get nat_cmp c.insert.new.self (model_of_id id) ≡ Some c.in_ok-after.after = rw c.id_model.ensures at c.in_ok-insert.ensures.updates.1 in
    kept_some c.args.index c.in_ok-after.after (get nat_cmp c.insert.new.self (model_of_id id)) at c.in_ok-after.ensures.kept
