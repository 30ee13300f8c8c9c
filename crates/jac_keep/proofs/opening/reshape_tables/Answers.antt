use Rattle.std.proofs.Common.{◌≡◌, ◌-◌, ◌++◌, List, length, sym, ◌∙◌, ap, arith}
use Rattle.jac_rows.specs.declared.row.Row.{Row}
use Rattle.jac_keep.specs.Alterations.{overlaid}
use Rattle.jac_keep.specs.Opened.{rows_in}
use Rattle.jac_keep.specs.Schema.{empties}
use Rattle.jac_keep.proofs.OpeningLaws.{length-rows_in, can_place, altered_if_ready, same_unless_ready, rising_after}
use Rattle.jac_keep.proofs.opening.reshape_tables.Goals as goal

pub close_all-closed-requires-clause-room : goal.close_all-closed-requires-clause-room
close_all-closed-requires-clause-room c =
    let same : rows_in c.open_all-opened.result.0.items ≡ c.args.tables.now = c.open_all-opened.ensures.rows ∙ c.into_vec-old.ensures ∙ c.replace.ensures.value in
    let all : length c.open_all-opened.result.0.items ≡ length c.args.tables.now = sym (length-rows_in c.open_all-opened.result.0.items) ∙ ap length same in
    let count : length c.as_slice-count.result.now ≡ length c.args.tables.now = ap length c.as_slice-count.ensures in
    omega (arith, all, count, c.max.ensures, c.in_ok-closed.ensures.capacity)

pub close_all-closed-requires-clause-can : goal.close_all-closed-requires-clause-can
close_all-closed-requires-clause-can c = λ told.
    let same : rows_in c.open_all-opened.result.0.items ≡ c.args.tables.now = c.open_all-opened.ensures.rows ∙ c.into_vec-old.ensures ∙ c.replace.ensures.value in
    let ready = rw c.as_slice.ensures.items at c.open_all-opened.ensures.ready told in
    can_place 0 c.args.changed.now c.open_all-opened.result.0.items c.as_slice.ensures.apart.own (rw same c.requires.rising) ready

pub close_all-closed-requires-clause-rising : goal.close_all-closed-requires-clause-rising
close_all-closed-requires-clause-rising c =
    let same : rows_in c.open_all-opened.result.0.items ≡ c.args.tables.now = c.open_all-opened.ensures.rows ∙ c.into_vec-old.ensures ∙ c.replace.ensures.value in
    let ready = rw c.as_slice.ensures.items at c.open_all-opened.ensures.ready in
    rising_after c.open_all-opened.result.1 c.args.changed.now c.open_all-opened.result.0.items c.args.tables.now same ready c.requires.rising c.requires.stay

pub widen-requires : goal.widen-requires
widen-requires c = omega (arith, c.max.ensures, c.in_ok-closed.ensures.capacity, c.close_all-closed.ensures.capacity)

pub returns-then-ready-clause-ok : goal.returns-then-ready-clause-ok
returns-then-ready-clause-ok c =
    let same : rows_in c.open_all-opened.result.0.items ≡ c.args.tables.now = c.open_all-opened.ensures.rows ∙ c.into_vec-old.ensures ∙ c.replace.ensures.value in
    let ready = rw c.as_slice.ensures.items at c.open_all-opened.ensures.ready in
    let altered : c.close_all-closed.result.items ≡ overlaid c.args.changed.now c.args.tables.now =
    c.close_all-closed.ensures.rows ∙ altered_if_ready c.open_all-opened.result.1 c.args.changed.now c.open_all-opened.result.0.items c.args.tables.now same ready c.if-ready.true in
    c.from_vec.ensures ∙ c.widen.ensures ∙ ap (λ (ts : List (List Row)). ts ++ empties (c.args.models - length ts)) altered

pub returns-else-ready-clause-err : goal.returns-else-ready-clause-err
returns-else-ready-clause-err c =
    let same : rows_in c.open_all-opened.result.0.items ≡ c.args.tables.now = c.open_all-opened.ensures.rows ∙ c.into_vec-old.ensures ∙ c.replace.ensures.value in
    c.from_vec-else-ready.ensures ∙ c.close_all-closed.ensures.rows ∙ same_unless_ready c.open_all-opened.result.1 c.open_all-opened.result.0.items c.args.tables.now same c.if-ready.false
