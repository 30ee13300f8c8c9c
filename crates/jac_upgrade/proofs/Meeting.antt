-- Guards that hold under some assignment.
use Rattle.std.proofs.Common.{◌≡◌, ◌∙◌, ap, sym, ℕ, ◌+◌, ◌<◌, suc, List, ◌∷◌, add-one, drop, drop-cons, length, get_or, true}
use Rattle.jac_world.specs.World.{holds, guard_wants}
use Rattle.jac_rows.specs.declared.row.Row.{Row}
use Rattle.jac_upgrade.specs.Steps.{AreMet}

-- One more guard.
pub met_next : (rows : List Row) (r : Row) (i : ℕ) → r ≡ get_or rows i r → i < length rows → holds (guard_wants r.guard) r.guard ≡ true → AreMet (drop (i + 1) rows) → AreMet (drop i rows)
met_next rows r i item below can rest =
    let here : drop i rows ≡ r ∷ drop (i + 1) rows = rw add-one (drop-cons rows i r below ∙ ap (λ z. z ∷ drop (suc i) rows) (sym item)) in
    rw here (can, rest)
