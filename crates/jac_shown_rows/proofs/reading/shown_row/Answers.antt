use Rattle.std.proofs.Common.{rules, ◌≡◌, ◌∙◌, ◌∷◌, ◌==◌, ◌&&◌, if◌then◌else◌, true, false, Some, ap, sym, not, ◌||◌}
use Rattle.jac_world.specs.World.{holds}
use Rattle.jac_rows.specs.Project.{rows_at}
use Rattle.jac_plain.specs.World.{record_with}
use Rattle.jac_shown_rows.specs.Alike.{asked_alternative, joined_guard}
use Rattle.jac_shown_rows.proofs.Growing.{agrees_less, grows_then}
use Rattle.jac_shown_rows.proofs.Joining.{answer_of, answer_joined}
use Rattle.jac_shown_rows.specs.Own.{is_own_pair, is_own_row, names_own}
use Rattle.jac_shown_rows.proofs.OwnRows.{all_head, or_less}
use Rattle.jac_shown_rows.proofs.reading.shown_row.Goals as goal

pub returns-then-branch-clause-row : goal.returns-then-branch-clause-row
returns-then-branch-clause-row c w agree =
    let row = c.in-Some.row.now in
    let alike = c.in_ok-alike.alike in
    let guard = joined_guard alike.guard row in
    let guard_is : c.pairs.result.now ≡ guard = c.pairs.ensures.pairs ∙ c.guard_of.ensures in
    let left : c.rows.left.now ≡ row ∷ c.in-Some.more.now = search rules in
    let shows : true ≡ ((row.id == c.args.id) && holds w c.pairs.result.now) = rw c.if-branch.true at (c.in_ok-shows.ensures.value w agree) in
    sym
    (sym (c.rows.invariant.left w (agrees_less _ _ _ _ c.in_ok-shows.ensures.grows agree))
    ∙ ap (λ l. answer_of c.args.field (record_with c.args.id (rows_at w l))) left
    ∙ answer_joined w c.args.id c.args.field guard row c.in-Some.more.now alike.behind.now (c.in_ok-alike.ensures.same w)
    ∙ ap (λ b. if b then Some (asked_alternative c.args.field row.id row.cells) else answer_of c.args.field (record_with c.args.id (rows_at w alike.behind.now)))
    (ap (λ g. (row.id == c.args.id) && holds w g) (sym guard_is) ∙ sym shows))

pub rows-preserved : goal.rows-preserved
rows-preserved c =
    let before = c.rows.invariant in
    let row = c.in-Some.row.now in
    let alike = c.in_ok-alike.alike in
    let guard = joined_guard alike.guard row in
    let guard_is : c.pairs.result.now ≡ guard = c.pairs.ensures.pairs ∙ c.guard_of.ensures in
    let left : c.rows.left.now ≡ row ∷ c.in-Some.more.now = search rules in
    record {
      grown = grows_then _ _ _ before.grown c.in_ok-shows.ensures.grows;
      own = λ this all own.
          c.in_ok-shows.ensures.own this
          (ap (λ g. not (row.id == c.args.id) || names_own this g) guard_is
          ∙ or_less (not (row.id == c.args.id)) (names_own this row.guard) (names_own this guard) (c.in_ok-alike.ensures.fewer (is_own_pair this))
          (all_head (is_own_row this c.args.id) row c.in-Some.more.now c.rows.left.now left (before.rows_left this all)).0)
          (before.own this all own);
      rows_left = λ this all.
          c.in_ok-alike.ensures.left (is_own_row this c.args.id) (all_head (is_own_row this c.args.id) row c.in-Some.more.now c.rows.left.now left (before.rows_left this all)).1;
      left = λ w agree.
          let shows : false ≡ ((row.id == c.args.id) && holds w c.pairs.result.now) = rw c.if-branch.false at (c.in_ok-shows.ensures.value w agree) in
          sym
          (ap (λ l. answer_of c.args.field (record_with c.args.id (rows_at w l))) left
          ∙ answer_joined w c.args.id c.args.field guard row c.in-Some.more.now alike.behind.now (c.in_ok-alike.ensures.same w)
          ∙ ap (λ b. if b then Some (asked_alternative c.args.field row.id row.cells) else answer_of c.args.field (record_with c.args.id (rows_at w alike.behind.now)))
          (ap (λ g. (row.id == c.args.id) && holds w g) (sym guard_is) ∙ sym shows))
          ∙ before.left w (agrees_less _ _ _ _ c.in_ok-shows.ensures.grows agree);
    }

pub returns-then-branch-clause-own : goal.returns-then-branch-clause-own
returns-then-branch-clause-own c this all own =
    let row = c.in-Some.row.now in
    let alike = c.in_ok-alike.alike in
    let guard = joined_guard alike.guard row in
    let guard_is : c.pairs.result.now ≡ guard = c.pairs.ensures.pairs ∙ c.guard_of.ensures in
    let left : c.rows.left.now ≡ row ∷ c.in-Some.more.now = search rules in
    c.in_ok-shows.ensures.own this
    (ap (λ g. not (row.id == c.args.id) || names_own this g) guard_is
    ∙ or_less (not (row.id == c.args.id)) (names_own this row.guard) (names_own this guard) (c.in_ok-alike.ensures.fewer (is_own_pair this))
    (all_head (is_own_row this c.args.id) row c.in-Some.more.now c.rows.left.now left (c.rows.invariant.rows_left this all)).0)
    (c.rows.invariant.own this all own)
