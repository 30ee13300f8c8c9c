use Rattle.std.proofs.Common.{◌≡◌, refl, ◌∙◌, ◌-◌, ◌++◌, IsTrue, List, length, ap, subst, sym}
use Rattle.jac_rows.specs.declared.row.Row.{Row}
use Rattle.jac_keep.specs.Alterations.{overlaid}
use Rattle.jac_keep.specs.KeeperState.{KeeperState}
use Rattle.jac_keep.specs.ChangedState.{changed_state}
use Rattle.jac_keep.specs.Reshaping.{widened_state}
use Rattle.jac_keep.specs.Schema.{empties}
use Rattle.jac_keep.proofs.ReshapingLaws.{tables_if_fit, keeping_if_fit}
use Rattle.jac_keep.proofs.SoundLaws.{tables_of_sound}
use Rattle.jac_keep.proofs.memory_keeper.MemoryKeeperVault.reshape.Goals as goal

pub reshape_tables-requires-clause-rising : goal.reshape_tables-requires-clause-rising
reshape_tables-requires-clause-rising c = tables_of_sound c.self.inside.state c.self.invariant.sound

pub reshape_tables-requires-clause-stay : goal.reshape_tables-requires-clause-stay
reshape_tables-requires-clause-stay c =
    let same : c.self.inside.state ≡ c.args.self.now.state = ap (λ k. k.state) (c.self.view_is ∙ c.count_apply.ensures.left) in
    let fits = c.requires.schema in
    tables_if_fit fits.0 (changed_state c.args.change.now c.self.inside.state) (rw same (fits.2 refl))

pub invariant_of-self-2 : goal.invariant_of-self-2
invariant_of-self-2 c =
    let fits = c.requires.schema in
    let shapes = fits.0 in
    let change = c.args.change.now in
    let kept = c.self.view_is ∙ c.count_apply.ensures.left in
    let attached : IsTrue c.self.inside.attached = subst (λ (k : KeeperState). IsTrue k.store.attached) (sym kept) c.requires.attached in
    let ts = overlaid change.changed c.self.inside.state.tables in
    let tables : c.reshape_tables.new.tables ≡ ts ++ empties (length shapes - length ts) =
    c.in_ok-reshape_tables.ensures.ok ∙ ap (λ n. ts ++ empties (n - length ts)) (c.in_ok-models.ensures shapes fits.1) in
    keeping_if_fit shapes (changed_state change c.args.self.now.state) _ _ (fits.2 refl)
    (ap (λ (us : List (List Row)). record { tables = us; number = change.number }) tables
    ∙ ap (λ (k : KeeperState). widened_state (length shapes) (changed_state change k.state)) kept)
    (c.self.invariant.called attached)
