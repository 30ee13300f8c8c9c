use Rattle.std.proofs.Common.{◌∙◌, ap}
use Rattle.jac_value.specs.Ids.{model_of_id}
use Rattle.jac_keep.specs.WorkState.{state_of}
use Rattle.jac_plain.specs.Expressions.{stands}
use Rattle.jac_shown_rows.proofs.Rows.{record_of_alternatives}
use Rattle.jac_rows.specs.Tables.{rows_of}
use Rattle.jac_shown_rows.specs.Own.{are_own_rows, is_own_row}
use Rattle.jac_shown_rows.proofs.Lent.{lent_before}
use Rattle.jac_shown_rows.proofs.OwnRows.{all_alternatives}
use Rattle.jac_shown_rows.proofs.presence.record_stands.Goals as goal

pub returns-in-Some-looked-clause-value : goal.returns-in-Some-looked-clause-value
returns-in-Some-looked-clause-value g c told w agree =
    let id = c.args.id in
    let seen = g.K.Keeper.seen in
    c.in_ok-found.ensures.value w agree
    ∙ ap stands
    (record_of_alternatives w id (model_of_id id) (state_of seen c.args.work.now).tables c.in-Some-looked.rows.now
    (lent_before seen c.args.work.now _ id c.in-Some-looked.rows.now c.in_ok-near.ensures.reads.same told (c.in-Some-looked.ensures told)))

pub returns-in-Some-looked-clause-own : goal.returns-in-Some-looked-clause-own
returns-in-Some-looked-clause-own g c told this own before =
    let id = c.args.id in
    let seen = g.K.Keeper.seen in
    c.in_ok-found.ensures.own this
    (ap (are_own_rows this id) (lent_before seen c.args.work.now _ id c.in-Some-looked.rows.now c.in_ok-near.ensures.reads.same told (c.in-Some-looked.ensures told))
    ∙ all_alternatives (is_own_row this id) id (rows_of (state_of seen c.args.work.now).tables (model_of_id id)) own) (c.in_ok-near.ensures.own this before)

pub returns-clause-value : goal.returns-clause-value
returns-clause-value g c told w agree =
    let id = c.args.id in
    let seen = g.K.Keeper.seen in
    let reads = c.in_ok-rows.ensures.reads in
    c.in_ok-found-2.ensures.value w agree
    ∙ ap stands
    (record_of_alternatives w id (model_of_id id) (state_of seen c.args.work.now).tables c.as_slice.result.now
    (c.as_slice.ensures ∙ lent_before seen c.args.work.now _ id c.in_ok-rows.rows c.in_ok-near.ensures.reads.same (reads.same.told told) (c.in_ok-rows.ensures.exact told)))

pub returns-clause-own : goal.returns-clause-own
returns-clause-own g c told this own before =
    let id = c.args.id in
    let seen = g.K.Keeper.seen in
    let reads = c.in_ok-rows.ensures.reads in
    c.in_ok-found-2.ensures.own this
    (ap (are_own_rows this id) (c.as_slice.ensures ∙ lent_before seen c.args.work.now _ id c.in_ok-rows.rows c.in_ok-near.ensures.reads.same (reads.same.told told) (c.in_ok-rows.ensures.exact told))
    ∙ all_alternatives (is_own_row this id) id (rows_of (state_of seen c.args.work.now).tables (model_of_id id)) own) (c.in_ok-near.ensures.own this before)
