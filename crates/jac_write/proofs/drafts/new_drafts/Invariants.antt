use Rattle.std.proofs.Common.{◌≡◌, ℕ, Bool, ◌∷◌, [], if◌then◌else◌, All, drop}
use Rattle.jac_expr.specs.Tupled.{all_at}
use Rattle.jac_lang.specs.Lookup.{fields_at}
use Rattle.jac_lang.specs.Mirror.{application_of}
use Rattle.jac_rows.specs.declared.row.Row.{Row}
use Rattle.jac_world.specs.World.{holds}
use Rattle.jac_write.specs.Writes.{cells_at, fitted_from}
use Rattle.jac_write.proofs.DraftLaws.{finished}
use Rattle.jac_write.proofs.drafts.new_drafts.Given as goal

abbrev pub invariant-fields : goal.invariant-fields
invariant-fields g l =
    All (λ (r : Row). r.id ≡ l.subject.id) l.drafts.items
    × ((w : ℕ → Bool) → finished (fitted_from (application_of l.subject.app.now).models (fields_at (application_of l.subject.app.now).models l.subject.model) l.field (all_at w (drop l.field l.cells))) (cells_at w l.drafts.items)
    ≡ (if holds w l.guard then fitted_from (application_of l.subject.app.now).models (fields_at (application_of l.subject.app.now).models l.subject.model) 0 (all_at w l.cells) ∷ [] else []))
