use Rattle.std.proofs.Common.{◌≡◌, ◌∙◌, ◌==◌, if◌then◌else◌, false, None, Option, List, IfSome, sym, ap, subst}
use Rattle.jac_rows.specs.Tables.{rows_or_none}
use Rattle.jac_rows.specs.declared.row.Row.{Row}
use Rattle.jac_keep.specs.Records.{AreOrdered}
use Rattle.jac_keep.proofs.PlacingLaws.{itself}
use Rattle.jac_table_cache.specs.Held.{held, IsAfter, IsLater}
use Rattle.jac_table_cache.proofs.HeldLaws.{apart_from, later_put}
use Rattle.jac_table_cache.proofs.HoldingLaws.{ordered_step}
use Rattle.jac_table_cache.proofs.held.renew_at.Goals as goal

pub returns-clause-later : goal.returns-clause-later
returns-clause-later c = λ m same.
    let changed = c.args.changed.now in
    let place = c.args.at in
    let old = c.args.tables.now.items in
    let new = c.put_at.new.tables.items in
    let put = c.altered_table-after.result in
    let is : held place new ≡ put =
    c.put_at.ensures.put place ∙ ap (λ b. if b then put else held place c.take_at-before.new.tables.items) (itself place) in
    subst (λ k. IsLater k changed (held k old) (held k new)) same
    (subst (IsLater place changed (held place old)) (sym is)
    (later_put place changed (held place old) put
    (subst (λ (t : Option (List Row)). IfSome put (IsAfter place changed t)) c.take_at-before.ensures.taken c.altered_table-after.ensures.altered)))

pub returns-clause-ordered : goal.returns-clause-ordered
returns-clause-ordered c = λ all m.
    let place = c.args.at in
    let put = c.altered_table-after.result in
    subst (λ (t : Option (List Row)). AreOrdered (rows_or_none t))
    (sym (c.put_at.ensures.put m ∙ ap (λ t. if place == m then put else t) (c.take_at-before.ensures.left m)))
    (ordered_step (place == m) put (held m c.args.tables.now.items) c.altered_table-after.ensures.ordered (all m))

pub returns-clause-others : goal.returns-clause-others
returns-clause-others c = λ m no.
    c.put_at.ensures.put m
    ∙ ap (λ b. if b then c.altered_table-after.result else held m c.take_at-before.new.tables.items) no
    ∙ c.take_at-before.ensures.left m
    ∙ ap (λ b. if b then None else held m c.args.tables.now.items) no

pub returns-clause-same : goal.returns-clause-same
returns-clause-same c = λ m none.
    let no : (c.args.at == m) ≡ false = apart_from c.args.at m c.args.changed.now c.requires.hit none in
    c.put_at.ensures.put m
    ∙ ap (λ b. if b then c.altered_table-after.result else held m c.take_at-before.new.tables.items) no
    ∙ c.take_at-before.ensures.left m
    ∙ ap (λ b. if b then None else held m c.args.tables.now.items) no
