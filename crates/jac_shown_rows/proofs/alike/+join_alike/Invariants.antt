use Rattle.std.proofs.Common.{◌≡◌, ◌≤◌, ℕ, Bool, true, ◌∷◌, ◌++◌, length}
use Rattle.std.specs.List.{list_all}
use Rattle.jac_rows.specs.declared.row.Row.{Row}
use Rattle.jac_shown_rows.specs.Alike.{asked_at, asked_where, joined_guard}
use Rattle.jac_shown_rows.proofs.alike.+join_alike.Given as goal

abbrev pub decreases-join_alike : goal.decreases-join_alike
decreases-join_alike l = length l.behind.now

-- The alternatives that were passed over count as one with the first.
abbrev pub invariant-alike : goal.invariant-alike
invariant-alike l =
    record {
      same : (w : ℕ → Bool) → asked_at w l.field (l.row ∷ l.behind) ≡ asked_where w (joined_guard l.guard l.row) l.field l.row ++ asked_at w l.field l.rest;
      fewer : (p : (ℕ × Bool) → Bool) → list_all p l.row.guard ≡ true → list_all p (joined_guard l.guard l.row) ≡ true;
      left : (p : Row → Bool) → list_all p l.behind ≡ true → list_all p l.rest ≡ true;
      no_more : length l.rest ≤ length l.behind;
    }

abbrev pub decreases-alike : goal.decreases-alike
decreases-alike l = length l.rest
