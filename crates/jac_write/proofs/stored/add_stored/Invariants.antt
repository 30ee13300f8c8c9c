use Rattle.std.proofs.Common.{◌≡◌, ℕ, Bool, ◌++◌, All, drop, map}
use Rattle.jac_lang.specs.Mirror.{application_of}
use Rattle.jac_plain.specs.Records.{shielded_cells}
use Rattle.jac_rows.specs.declared.row.Row.{Row}
use Rattle.jac_write.specs.Drafts.{named_by}
use Rattle.jac_write.specs.Writes.{cells_at}
use Rattle.jac_write.proofs.DraftLaws.{each_row}
use Rattle.jac_write.proofs.stored.add_stored.Given as goal

abbrev pub invariant-drafts : goal.invariant-drafts
invariant-drafts g l =
    All (λ (r : Row). r.id ≡ l.subject.id) l.out.items
    × ((w : ℕ → Bool) → cells_at w l.out.items ++ each_row w (shielded_cells (application_of l.subject.app.now).models w l.subject.model l.subject.id (named_by (application_of l.subject.app.now).models l.subject.model w l.named)) (drop l.draft-index l.drafts)
    ≡ cells_at w l.fn.out.items ++ map (shielded_cells (application_of l.subject.app.now).models w l.subject.model l.subject.id (named_by (application_of l.subject.app.now).models l.subject.model w l.named)) (cells_at w l.drafts))
