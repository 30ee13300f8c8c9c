use Rattle.std.proofs.Common.{◌≡◌, ℕ, Bool, ◌∷◌, [], All, drop, map}
use Rattle.jac_lang.specs.Mirror.{application_of}
use Rattle.jac_plain.specs.Records.{each_cell, shielded_cells}
use Rattle.jac_rows.specs.declared.row.Row.{Row}
use Rattle.jac_write.specs.Drafts.{named_by, stored_at}
use Rattle.jac_write.specs.Writes.{cells_at}
use Rattle.jac_write.proofs.DraftLaws.{finished}
use Rattle.jac_write.proofs.stored.stored_draft.Given as goal

abbrev pub invariant-fields : goal.invariant-fields
invariant-fields g l =
    All (λ (r : Row). r.id ≡ l.subject.id) l.stored.items
    × ((w : ℕ → Bool) → finished (each_cell (stored_at (application_of l.subject.app.now).models w l.subject.model l.subject.id (named_by (application_of l.subject.app.now).models l.subject.model w l.named) l.draft.cells) l.field (drop l.field l.draft.cells)) (cells_at w l.stored.items)
    ≡ map (shielded_cells (application_of l.subject.app.now).models w l.subject.model l.subject.id (named_by (application_of l.subject.app.now).models l.subject.model w l.named)) (cells_at w (l.draft ∷ [])))
