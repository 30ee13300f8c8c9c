use Rattle.std.proofs.Common.{◌≡◌, ◌∙◌, ap, sym}
use Rattle.jac_rows.specs.Tables.{rows_or_none}
use Rattle.jac_table_cache.specs.Held.{rows_held}
use Rattle.jac_table_cache.proofs.HoldingLaws.{all_held, rows_of_all, are_indexes, is_holding}
use Rattle.jac_table_cache.proofs.held.find_in.Goals as goal

pub find-requires-clause-right : goal.find-requires-clause-right
find-requires-clause-right c =
    let tables = c.args.tables.now in
    let model = c.args.model in
    let same : rows_held model tables ≡ c.in-Some.rows.now = ap rows_or_none (sym c.in-Some.ensures) in
    (all_held tables, (are_indexes tables c.args.indexes.now c.requires, rows_of_all tables model ∙ same ∙ sym c.as_slice.ensures))

pub returns-in_err-found-in-Some-clause-holding : goal.returns-in_err-found-in-Some-clause-holding
returns-in_err-found-in-Some-clause-holding c =
    let tables = c.args.tables.now in
    let model = c.args.model in
    let same : rows_held model tables ≡ c.in-Some.rows.now = ap rows_or_none (sym c.in-Some.ensures) in
    is_holding tables c.args.indexes.now c.find.new.self c.requires
    (c.find.ensures.right (all_held tables) (rows_of_all tables model ∙ same ∙ sym c.as_slice.ensures) (are_indexes tables c.args.indexes.now c.requires))

pub returns-in_ok-found-in-Some-clause-holding : goal.returns-in_ok-found-in-Some-clause-holding
returns-in_ok-found-in-Some-clause-holding c =
    let tables = c.args.tables.now in
    let model = c.args.model in
    let same : rows_held model tables ≡ c.in-Some.rows.now = ap rows_or_none (sym c.in-Some.ensures) in
    is_holding tables c.args.indexes.now c.find.new.self c.requires
    (c.find.ensures.right (all_held tables) (rows_of_all tables model ∙ same ∙ sym c.as_slice.ensures) (are_indexes tables c.args.indexes.now c.requires))
