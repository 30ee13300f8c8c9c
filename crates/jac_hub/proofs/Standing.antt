-- The state of a connection after entries.
use Rattle.std.proofs.Common.{◌≡◌, ◌∙◌, ap, refl, ℕ, ◌==◌, Bool, true, false, Option, Some, List, [], ◌∷◌, arith}
use Rattle.std.proofs.lemmas.Bool.Decides.{nat_tests}
use Rattle.std.specs.Option.{option_map}
use Rattle.jac_hub.specs.Hearing.{Source, connection, Entry, Hearing}
use Rattle.jac_hub.specs.Heard.{Connection, Connections, set_at, with_entry, connections_after, after_entries, AreBrought}

-- A connection after entries.
abbrev pub with_entries : {I A : Type 0} → Hearing I A → List (Entry I A) → Connection I → Connection I
with_entries h [] known = known
with_entries h (entry ∷ log) known = with_entries h log (with_entry h entry known)

-- The value at a number after it was set there.
pub set-same : {X : Type 0} (c : ℕ) (x : Option X) (xs : ℕ → Option X) → set_at c x xs c ≡ x
set-same c x xs = let e : (c == c) ≡ true = grind (arith, nat_tests) in rw e refl

pub set-set : {X : Type 0} (c : ℕ) (x y : Option X) (xs : ℕ → Option X) → set_at c x (set_at c y xs) ≡ set_at c x xs
set-set {X = X} c x y xs = λ i d. at d (d == c) refl i
  where
    at : (d : ℕ) (b : Bool) → (d == c) ≡ b → set_at c x (set_at c y xs) d ≡ set_at c x xs d
    at d true e = rw e refl
    at d false e = rw e refl

-- All of the entries are of this connection.
abbrev pub AreOf : {I A : Type 0} → ℕ → List (Entry I A) → Type 0
AreOf c [] = Unit {0}
AreOf c (entry ∷ log) = (entry.source ≡ connection c) × AreOf c log

one_after : {I A : Type 0} (h : Hearing I A) (c : ℕ) (entry : Entry I A) (one : Connection I) (known : Connections I) → entry.source ≡ connection c
    → connections_after h entry.source entry (set_at c (Some one) known) ≡ set_at c (Some (with_entry h entry one)) known
one_after {I = I} h c entry one known e =
    ap (λ (s : Source). connections_after h s entry (set_at c (Some one) known)) e
    ∙ ap (λ (o : Option (Connection I)). set_at c (option_map (with_entry h entry) o) (set_at c (Some one) known)) (set-same c (Some one) known)
    ∙ set-set c (Some (with_entry h entry one)) (Some one) known

-- Entries of one connection change only that connection.
pub after-one : {I A : Type 0} (h : Hearing I A) (c : ℕ) (log : List (Entry I A)) (one : Connection I) (known : Connections I) → AreOf c log
    → after_entries h log (set_at c (Some one) known) ≡ set_at c (Some (with_entries h log one)) known
after-one h c [] one known all = refl
after-one h c (entry ∷ log) one known all =
    ap (after_entries h log) (one_after h c entry one known all.0) ∙ after-one h c log (with_entry h entry one) known all.1

pub brought-of : {I A : Type 0} (h : Hearing I A) (n c : ℕ) (known : Connection I) (log : List (Entry I A)) → AreBrought h n c known log → AreOf c log
brought-of h n c known [] brought = tt
brought-of h n c known (entry ∷ log) brought = (brought.0.source, brought-of h n c (with_entry h entry known) log brought.1)
