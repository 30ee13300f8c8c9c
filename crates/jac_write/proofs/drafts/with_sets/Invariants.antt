use Rattle.std.proofs.Common.{◌≡◌, ℕ, Bool, All, drop, map}
use Rattle.jac_lang.specs.Lookup.{fields_at}
use Rattle.jac_lang.specs.Mirror.{application_of}
use Rattle.jac_rows.specs.declared.row.Row.{Row}
use Rattle.jac_write.specs.Writes.{cells_at, put_in, sets_at}
use Rattle.jac_write.proofs.drafts.with_sets.Given as goal

abbrev pub invariant-sets : goal.invariant-sets
invariant-sets g l =
    All (λ (r : Row). r.id ≡ l.subject.id) l.drafts.items
    × ((w : ℕ → Bool) → map (put_in (application_of l.subject.app.now).models (fields_at (application_of l.subject.app.now).models l.subject.model) (sets_at w (drop l.set-index l.sets))) (cells_at w l.drafts.items)
    ≡ map (put_in (application_of l.subject.app.now).models (fields_at (application_of l.subject.app.now).models l.subject.model) (sets_at w l.sets)) (cells_at w l.fn.rows.items))
