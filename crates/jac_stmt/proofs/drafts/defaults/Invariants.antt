use Rattle.std.proofs.Common.{◌≡◌, ◌++◌, ℕ, Bool, drop, length}
use Rattle.jac_expr.specs.Tupled.{all_at}
use Rattle.jac_lang.specs.Lookup.{fields_at}
use Rattle.jac_lang.specs.Mirror.{application_of}
use Rattle.jac_plain.specs.Records.{default_cells}
use Rattle.jac_stmt.proofs.drafts.defaults.Given as goal

abbrev pub invariant-fields : goal.invariant-fields
invariant-fields l =
    let models = (application_of l.app).models in
    (length l.made.items ≡ l.field)
    × ((w : ℕ → Bool) → all_at w l.made.items ++ default_cells models (drop l.field (fields_at models l.model)) ≡ default_cells models (fields_at models l.model))
