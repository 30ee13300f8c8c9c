use Rattle.std.proofs.Common.{◌≡◌, ◌∙◌, sym, ap, false}
use Rattle.jac_keep.specs.Alterations.{alters}
use Rattle.jac_table_cache.specs.Held.{held}
use Rattle.jac_table_cache.proofs.HeldLaws.{later_same}
use Rattle.jac_table_cache.proofs.held.alter_at.Goals as goal

pub renew_at-requires-clause-hit : goal.renew_at-requires-clause-hit
renew_at-requires-clause-hit c =
    sym (c.is_altered.ensures ∙ ap (alters c.args.at) c.as_slice.ensures.items) ∙ c.if-is_altered.true

pub returns-clause-later : goal.returns-clause-later
returns-clause-later c = λ m same.
    let changed = c.args.changed.now in
    let none : alters c.args.at changed ≡ false =
    sym (c.is_altered.ensures ∙ ap (alters c.args.at) c.as_slice.ensures.items) ∙ c.if-is_altered.false in
    later_same m changed (held m c.args.tables.now.items) (ap (λ k. alters k changed) (sym same) ∙ none)
