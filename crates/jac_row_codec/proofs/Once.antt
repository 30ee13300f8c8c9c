-- A row is spelled in one way only.
use Rattle.std.proofs.Common.{◌≡◌, sym, ◌∙◌, ℕ, List}
use Rattle.jac_value.specs.declared.value.Kind.{Kind}
use Rattle.jac_rows.specs.declared.row.Row.{Row}
use Rattle.jac_row_codec.specs.Faults.{IsRowOf}
use Rattle.jac_row_codec.proofs.Rows.{cells_once}
use Rattle.jac_row_codec.proofs.Guards.{guard_once}

pub row_once : (id : ℕ) (kinds : List Kind) (jvars body : List ℕ) (r s : Row) → IsRowOf id kinds jvars body r → IsRowOf id kinds jvars body s → r ≡ s
row_once id kinds jvars body r s is also =
    let same = is.same_id ∙ sym also.same_id in
    let guards = guard_once r.guard s.guard is.guard also.guard (sym is.jvars_spelled ∙ also.jvars_spelled) in
    let cells = cells_once kinds r.cells s.cells is.cells also.cells (sym is.body_spelled ∙ also.body_spelled) in
    λ i. record { id = same i; guard = guards i; cells = cells i }

pub spelling_once : (id : ℕ) (kinds : List Kind) (jvars body other_jvars other_body : List ℕ) (r : Row) → IsRowOf id kinds jvars body r → IsRowOf id kinds other_jvars other_body r → (jvars ≡ other_jvars) × (body ≡ other_body)
spelling_once id kinds jvars body other_jvars other_body r is also = (is.jvars_spelled ∙ sym also.jvars_spelled, is.body_spelled ∙ sym also.body_spelled)
