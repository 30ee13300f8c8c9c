-- One call of a keeper that opens its store again: what it preserves of the vault that was attached
-- first.
use Rattle.std.proofs.Common.{◌≡◌, ◌≤◌, inl, inr, ℕ, Option, Some, None, sym, subst, arith}
use Rattle.jac_io.specs.Faults.{Rose}
use Rattle.jac_keep.specs.KeeperSeen.{KeeperSeen}
use Rattle.jac_keep.specs.Preorder.{Preorder}
use Rattle.jac_reopen.specs.Reopened.{ReopenSeen, UntoldSeen, seen_reopening, GoesAlong, GivesUpAtFault}
use Rattle.jac_reopen.specs.GoesOn.{gives_up_joined}

module _ {V : Type 0} (seen : V → KeeperSeen) (goes : Preorder V) where
  abbrev pub Goes : ReopenSeen V → ReopenSeen V → Type 0
  Goes old new = GivesUpAtFault seen goes.holds old new

  -- The first vault was called.
  pub first_goes : (a b : V) (m n : Option ℕ) → (seen a).faults ≤ (seen b).faults → goes.holds a b → Goes (record { first = Some a; again = None; made = m }) (record { first = Some b; again = None; made = n })
  first_goes a b m n later on = record {
    later = later;
    fault = λ kept. inl kept;
    once = λ kept. kept;
    first = λ kept. on;
  }

  -- Then it was given up, because it had counted a fault.
  pub closed_goes : (a b : V) (m n : Option ℕ) (new : ReopenSeen V) → (seen a).faults ≤ (seen b).faults → goes.holds a b → Rose (seen a).faults (seen b).faults
      → (seen b).faults ≤ (seen_reopening seen new).faults → (new.again ≡ None → new ≡ record { first = Some b; again = None; made = n })
      → Goes (record { first = Some a; again = None; made = m }) new
  closed_goes a b m n new later on rose closed kept = record {
    later = omega (arith, later, closed);
    fault = λ still. inr (omega (arith, rose, closed));
    once = λ still. λ i. None;
    first = λ still. subst (λ (r : ReopenSeen V). GoesAlong goes.holds (Some a) r.first) (sym (kept still)) on;
  }

  -- Then it was tested.
  pub then_goes : (a b : V) (m n : Option ℕ) (new : ReopenSeen V) → (seen a).faults ≤ (seen b).faults → goes.holds a b → Goes (record { first = Some b; again = None; made = n }) new
      → Goes (record { first = Some a; again = None; made = m }) new
  then_goes a b m n new later on closed = gives_up_joined seen goes (record { first = Some a; again = None; made = m }) (record { first = Some b; again = None; made = n }) new (first_goes a b m n later on) closed

  -- The store that was opened again was called.
  pub again_goes : (first : Option V) (a b : UntoldSeen) (m n : Option ℕ) → a.faults ≤ b.faults → Goes (record { first = first; again = Some a; made = m }) (record { first = first; again = Some b; made = n })
  again_goes first a b m n later = record {
    later = later;
    fault = λ kept. absurd cc;
    once = λ kept. absurd cc;
    first = λ kept. absurd cc;
  }
