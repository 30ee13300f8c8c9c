use Rattle.std.proofs.Common.{◌≡◌, ◌∙◌, ◌++◌, ℕ, List, ap}
use Rattle.std.specs.Prelude.{length}
use Rattle.jac_world.specs.World.{shown_by}
use Rattle.jac_lang.specs.Mirror.{application_of}
use Rattle.jac_rows.specs.declared.row.Row.{Row}
use Rattle.jac_rows.specs.declared.state.State.{State}
use Rattle.jac_keep.specs.Alterations.{ArePlaced}
use Rattle.jac_policy_deps.specs.Altered.{alternatives_altered}
use Rattle.jac_policy_deps.specs.Marks.{models_marks, marked_labels, marked_groups}
use Rattle.jac_policy_deps.proofs.Marked.{covered}
use Rattle.jac_policy_deps.proofs.invalidation.invalidation_of.Goals as goal

pub returns-clause-covered : goal.returns-clause-covered
returns-clause-covered g c = λ told viewer.
    let k = g.K.Keeper in
    let s = (k.seen c.args.work.now.keeper.now).state in
    let over = c.args.work.now.over in
    let app = application_of c.args.app.now in
    let first = c.in_ok-add_altered.ensures.left in
    let later = c.in_ok-invalidation.ensures.left in
    let between = later.told told.told in
    let sound = c.requires.sound (first.told between) in
    let placed : ArePlaced over (length s.tables) = rw (later.same_state told.told ∙ first.same_state between) at told.placed in
    let rows : c.as_slice-3.result.now ≡ alternatives_altered s.tables over =
    c.as_slice-3.ensures.value
    ∙ c.in_ok-add_altered.ensures.rows between
    ∙ ap (λ (l : List Row). l ++ alternatives_altered s.tables c.as_slice.result.now) c.new-rows.ensures.items
    ∙ ap (alternatives_altered s.tables) c.as_slice.ensures.items in
    covered app s over sound c.as_slice.ensures.apart.own placed c.in_ok-invalidation.invalidation viewer
    (λ (j : ℕ). c.in_ok-invalidation.ensures.labels told.told j
    ∙ ap (λ (state : State). shown_by (marked_labels state.tables (models_marks app.models 0 c.as_slice-2.result.now c.as_slice-3.result.now app.models)) j) (first.same_state between)
    ∙ ap (λ o. shown_by (marked_labels s.tables (models_marks app.models 0 o c.as_slice-3.result.now app.models)) j) c.as_slice-2.ensures.items
    ∙ ap (λ (r : List Row). shown_by (marked_labels s.tables (models_marks app.models 0 over r app.models)) j) rows)
    (c.in_ok-invalidation.ensures.groups
    ∙ ap (λ o. marked_groups (models_marks app.models 0 o c.as_slice-3.result.now app.models)) c.as_slice-2.ensures.items
    ∙ ap (λ (r : List Row). marked_groups (models_marks app.models 0 over r app.models)) rows)
