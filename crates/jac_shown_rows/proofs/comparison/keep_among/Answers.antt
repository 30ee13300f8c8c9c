use Rattle.std.proofs.Common.{◌∙◌, ◌+◌, ap, sym, if◌then◌else◌, [], ◌∷◌, ◌++◌, drop, append-nil}
use Rattle.std.proofs.lemmas.List.{drop_all}
use Rattle.jac_rows.specs.Project.{rows_at}
use Rattle.jac_shown_rows.specs.Comparisons.{comparison_among, ids_compared}
use Rattle.jac_shown_rows.proofs.Compared.{compared_more}
use Rattle.jac_shown_rows.proofs.Growing.{agrees_less, grows_then}
use Rattle.jac_shown_rows.proofs.OwnRows.{rows_of_table}
use Rattle.jac_shown_rows.proofs.Working.{next}
use Rattle.jac_shown_rows.proofs.comparison.keep_among.Goals as goal

pub ids-preserved : goal.ids-preserved
ids-preserved c =
    let before = c.ids.invariant in
    let ids = c.args.ids.now in
    let i = c.ids.id-index in
    let id = c.id-item.result in
    record {
      grown = grows_then _ _ _ before.grown c.in_ok-truth.ensures.grows;
      own = λ this all own.
          c.in_ok-truth.ensures.own this (rows_of_table this id c.args.rows.now all) (before.own this all own);
      kept = λ w agree.
          let value = comparison_among (rows_at w c.args.rows.now) c.args.comparison.now in
          compared_more value c.ids.kept.items c.push_if.new.kept.items id (drop i ids) (drop (i + 1) ids)
          (ids_compared value ids) (next ids id i c.id-item.is c.ids-test.true)
          (c.in_ok-push_if.ensures
          ∙ ap (λ b. c.ids.kept.items ++ (if b then id ∷ [] else [])) (c.in_ok-truth.ensures.value w agree))
          (before.kept w (agrees_less _ _ _ _ c.in_ok-truth.ensures.grows agree));
    }

pub returns-clause-kept : goal.returns-clause-kept
returns-clause-kept c w agree =
    let value = comparison_among (rows_at w c.args.rows.now) c.args.comparison.now in
    let kept = c.ids.kept.items in
    sym (append-nil kept)
    ∙ ap (λ l. kept ++ ids_compared value l) (sym (drop_all c.ids.id-index c.args.ids.now c.ids-test.false))
    ∙ c.ids.invariant.kept w agree
