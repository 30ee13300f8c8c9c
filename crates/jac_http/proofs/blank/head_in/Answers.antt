use Rattle.std.proofs.Common.{◌≡◌, ◌+◌, take, sym, ◌∙◌}
use Rattle.std.specs.List.{list_any}
use Rattle.jac_http.specs.Heads.{is_written}
use Rattle.jac_http.proofs.Blanks.{found_at, unfound_at, written_kept, written_here, not_first, not_second}
use Rattle.jac_http.proofs.blank.head_in.Goals as goal
use Rattle.jac_http.proofs.blank.head_in.Goals.{then-written, else-written, else-written-2-via-then-written-2+else-has_blank_end, else-written-2-via-else-written-2}

pub returns-then-has_blank_end-clause-head : goal.returns-then-has_blank_end-clause-head
returns-then-has_blank_end-clause-head c =
    let now : c.if-written.written ≡ list_any is_written (take (c.bytes.at + 1) c.args.bytes.now) = elim c.if-written.branch [
      | then-written w ↦ written_kept c.args.bytes.now c.bytes.at _ _ c.bytes.invariant.0 w.if-written.true w.written-is
      | else-written w ↦ written_here c.args.bytes.now c.bytes.at _ _ c.bytes-test.true c.bytes.invariant.0 w.if-written.false (w.written-is ∙ w.is_written-written.ensures)
    ] in
    found_at c.args.bytes.now c.bytes.at c.bytes-test.true c.bytes.invariant.1 (sym now ∙ c.if-written-2.true) (sym c.has_blank_end.ensures ∙ c.if-has_blank_end.true)

pub bytes-preserved : goal.bytes-preserved
bytes-preserved c =
    let now : c.if-written.written ≡ list_any is_written (take (c.bytes.at + 1) c.args.bytes.now) = elim c.if-written.branch [
      | then-written w ↦ written_kept c.args.bytes.now c.bytes.at _ _ c.bytes.invariant.0 w.if-written.true w.written-is
      | else-written w ↦ written_here c.args.bytes.now c.bytes.at _ _ c.bytes-test.true c.bytes.invariant.0 w.if-written.false (w.written-is ∙ w.is_written-written.ensures)
    ] in (
      now,
      elim c.else-written-2.branch [
        | else-written-2-via-then-written-2+else-has_blank_end w ↦ unfound_at c.args.bytes.now c.bytes.at c.bytes-test.true c.bytes.invariant.1 (not_second _ _ (sym w.has_blank_end.ensures ∙ w.if-has_blank_end.false))
        | else-written-2-via-else-written-2 w ↦ unfound_at c.args.bytes.now c.bytes.at c.bytes-test.true c.bytes.invariant.1 (not_first _ _ (sym now ∙ w.if-written-2.false))
      ],
    )
