use Rattle.std.proofs.Common.{◌≡◌, ◌<◌, length, None, Some, Option, OnOk, subst}
use Rattle.std.specs.BTreeMap.{get}
use Rattle.std.specs.Ordering.{nat_cmp}
use Rattle.jac_value.specs.Ids.{model_of_id}
use Rattle.jac_keep.specs.Indexed.{index_at, Remains, IsIndexKept}
use Rattle.jac_keep.specs.declared.table_index.TableIndex.{TableIndex}
use Rattle.jac_keep.proofs.Rewritten.{left_none}
use Rattle.jac_keep.proofs.table_indexes.TableIndexes.alter_one.Goals as goal

pub returns-in-Some-clause-left : goal.returns-in-Some-clause-left
returns-in-Some-clause-left c =
    let id = c.args.alteration.now.id in
    let was : Some c.in-Some.index ≡ index_at (model_of_id id) c.args.self.now = rw c.id_model.ensures at c.in-Some.ensures.value in
    subst (λ (before : Option TableIndex). Remains id c.args.rows.now c.args.alteration.now.rows before (index_at (model_of_id id) c.put_altered.new.self)) was c.put_altered.ensures.left

pub returns-in-Some-clause-kept : goal.returns-in-Some-clause-kept
returns-in-Some-clause-kept c =
    let id = c.args.alteration.now.id in
    let was : Some c.in-Some.index ≡ index_at (model_of_id id) c.args.self.now = rw c.id_model.ensures at c.in-Some.ensures.value in
    subst (λ (before : Option TableIndex). OnOk c.put_altered.result (0 < length c.args.rows.now → IsIndexKept before (index_at (model_of_id id) c.put_altered.new.self))) was c.put_altered.ensures.kept

pub returns-in-None-clause-left : goal.returns-in-None-clause-left
returns-in-None-clause-left c =
    let id = c.args.alteration.now.id in
    let none : get nat_cmp c.remove.new.self (model_of_id id) ≡ None = rw c.id_model.ensures at c.remove.ensures.updates.1 in
    left_none id c.args.rows.now c.args.alteration.now.rows (index_at (model_of_id id) c.args.self.now) (get nat_cmp c.remove.new.self (model_of_id id)) none
