-- What is left of a file that wasn't attached, and of a vault that holds it.
use Rattle.std.proofs.Common.{◌≡◌, ◌⊎◌, ◌≤◌, inl, inr, refl, sym, ap, subst, ◌∙◌, ℕ, Bool, true, false, List, Option, Some, None, Result, Ok, Err, OnOk, OnErr, IsTrue, IsSomeAnd, arith}
use Rattle.sqlite_trees.specs.declared.store.Store.{Ghosts}
use Rattle.sqlite.specs.Held.{Held}
use Rattle.jac_io.specs.Faults.{Rose}
use Rattle.jac_keep.specs.KeeperSeen.{KeeperSeen}
use Rattle.jac_keep.specs.declared.vault.AttachFault.{AttachFault}
use Rattle.jac_keep.specs.declared.vault.AttachFault.TheVariants.{Failed, Memory, Other}
use Rattle.jac_sqlkeep.specs.Based.{Based}
use Rattle.jac_sqlkeep.specs.Kept.{Kept, untouched_keeper, HasStore, StoodAs, IsLeftAs, LearnsSchema}
use Rattle.jac_sqlkeep.specs.Opening.{one_or_none}
use Rattle.jac_reopen.specs.Reopened.{ReopenSeen}
use Rattle.jac_host_vault.specs.HostSeen.{HostSeen, IsStoreLeft}
use Rattle.jac_host_vault.specs.Content.{IsFileOf}
use Rattle.jac_host_vault.specs.Left.{IsOnlyFile, IsFileLeft}

some_injective : {A : Type 0} → (x y : A) → Some x ≡ Some y → x ≡ y
some_injective x y e = cc

-- Either one schema is known or none.
none_or_some : {A : Type 0} (schema : Option (List ℕ)) (stored : List ℕ) → schema ≡ None → schema ≡ Some stored → A
none_or_some schema stored none some = absurd (let e : ◌≡◌ {A = Option (List ℕ)} None (Some stored) = sym none ∙ some in cc)

both : {A : Type 0} (P Q : A → Type 0) (o : Option A) → IsSomeAnd o P → IsSomeAnd o Q → IsSomeAnd o (λ (a : A). P a × Q a)
both P Q None one two = absurd one
both P Q (Some a) one two = (one, two)

pub file_left : {S : Type 0} (g : Ghosts S) (Gives : Held S → Type 0) (new : Kept) (result : Result (Unit {0}) AttachFault) → IsLeftAs g Gives (untouched_keeper 0 0) new result → LearnsSchema (untouched_keeper 0 0) new result
    → ((stored : List ℕ) → result ≡ Err (Other stored) → IsSomeAnd new.refused (HasStore stored)) → (result ≡ Err Failed → Rose 0 new.faults) → OnErr result (IsFileLeft g Gives new)
file_left g Gives new (Ok done) left learns stored rose = tt
file_left g Gives new (Err Failed) left learns stored rose = record {
  other = λ text is. none_or_some new.store.schema text learns is;
  failed = λ none counted. left;
  stopped = λ none unfailed. let counted = rose refl in absurd (omega (arith, counted, unfailed));
}
file_left g Gives new (Err Memory) left learns stored rose = record {
  other = λ text is. none_or_some new.store.schema text learns.0 is;
  failed = λ none counted. absurd (omega (arith, counted, learns.1));
  stopped = λ none unfailed. left;
}
file_left g Gives new (Err (Other found)) left learns stored rose = record {
  other = λ text is. (
    left.0,
    subst (λ (x : List ℕ). IsSomeAnd new.refused (λ (b : Based). StoodAs g Gives b × HasStore x b)) (some_injective found text (sym learns ∙ is))
        (both (StoodAs g Gives) (HasStore found) new.refused left.1 (stored found refl)),
  );
  failed = λ none. none_or_some new.store.schema found none learns;
  stopped = λ none. none_or_some new.store.schema found none learns;
}

-- An attached file is the only one that was opened.
pub only_file : {S : Type 0} (g : Ghosts S) (Gives : Held S → Type 0) (schema : List ℕ) (new : Kept) (result : Result (Unit {0}) AttachFault) → IsLeftAs g Gives (untouched_keeper 0 0) new result → OnOk result (IsFileOf schema new)
    → OnOk result (IsOnlyFile schema new)
only_file g Gives schema new (Ok done) one is = (one, is)
only_file g Gives schema new (Err e) one is = tt

-- an opener that opens once gave one connection at most
pub one_at_most : (opened : Bool) → one_or_none opened ≤ 1
one_at_most true = omega arith
one_at_most false = omega arith

-- ---- the vault that holds it

-- A file that wasn't attached is the vault's file.
pub left_in : {V : Type 0} (Leaves : Option (List ℕ) → V → Type 0) (name : List ℕ) (h : HostSeen V) (f : ReopenSeen V) (result : Result (Unit {0}) AttachFault) → h.file ≡ Some f → f.again ≡ None
    → OnErr result (IsSomeAnd f.first (Leaves (Some name))) → OnErr result (IsStoreLeft Leaves (Some name) h)
left_in Leaves name h f (Ok done) some first left = tt
left_in Leaves name h f (Err e) some first left =
    inr (subst (λ (o : Option (ReopenSeen _)). IsSomeAnd o (λ (f : ReopenSeen _). (f.again ≡ None) × IsSomeAnd f.first (Leaves (Some name)))) (sym some) (first, left))
