-- Two steps of a keeper as one: a call that the keeper stopped, and then a test whether its store
-- is shut.
use Rattle.std.proofs.Common.{◌≡◌, ◌∙◌, ℕ, true≢false, sym, ap, List, Option, Some, Result, Err, IsTrue, arith}
use Rattle.jac_keep.specs.KeeperSeen.{KeeperSeen, Store, Keeps, Looks, Reads, IsLeft}
use Rattle.jac_keep.specs.Reshaping.{Reshapes}
use Rattle.jac_keep.specs.declared.alteration.Change.{Change}
use Rattle.jac_keep.specs.declared.stop.Stop.{Stop}
use Rattle.jac_rows.specs.Good.{IsSound}
use Rattle.jac_reopen.specs.Reopened.{KnownSeen, known_store, IsLeftUnattached}

pub left_then : (a b c : KeeperSeen) → IsLeft a b → IsLeft b c → IsLeft a c
left_then a b c one two = record {
  later = omega (arith, one.later, two.later);
  told = λ told. one.told (two.told told);
  same_state = λ told. two.same_state told ∙ one.same_state (two.told told);
  same_store = two.same_store ∙ one.same_store;
}

pub looks_then : {T : Type 0} (a b c : KeeperSeen) (result : Result T Stop) → IsLeft b c → Looks a b result → Looks a c result
looks_then a b c result left looks = record {
  left = left_then a b c looks.left left;
  rose = λ is. let rose = looks.rose is in omega (arith, rose, left.later);
}

module _ (a b c : KeeperSeen) (left : IsLeft b c) (good : IsTrue c.tells → IsSound c.state) where
  pub reads_then : {T : Type 0} (result : Result T Stop) → Reads a b result → Reads a c result
  reads_then result reads = record {
    left = left_then a b c reads.left left;
    good = good;
    rose = λ is. let rose = reads.rose is in omega (arith, rose, left.later);
  }

  pub keeps_then : {T : Type 0} (result : Result T Stop) → Keeps a b result → Keeps a c result
  keeps_then result keeps = record {
    cause = record {
      later = omega (arith, keeps.cause.later, left.later);
      rose = λ is. let rose = keeps.cause.rose is in omega (arith, rose, left.later);
    };
    told = λ told. keeps.told (left.told told);
    good = good;
    same_store = left.same_store ∙ keeps.same_store;
  }

  pub refused_then : (IsTrue b.tells → b.state ≡ a.state) → IsTrue c.tells → c.state ≡ a.state
  refused_then refused told = left.same_state told ∙ refused (left.told told)

pub reshapes_then : (a b c : KeeperSeen) (change : Change) (schema : List ℕ) (e : Stop) → IsLeft b c → Reshapes a b change schema (Err e) → Reshapes a c change schema (Err e)
reshapes_then a b c change schema e left reshapes = record {
  cause = record {
    later = omega (arith, reshapes.cause.later, left.later);
    rose = λ is. let rose = reshapes.cause.rose is in omega (arith, rose, left.later);
  };
  told = λ told. reshapes.told (left.told told);
  ok = tt;
  err = record {
    same_store = left.same_store ∙ reshapes.err.same_store;
    same_state = λ told. left.same_state told ∙ reshapes.err.same_state (left.told told);
  };
}

-- A store that was attached under this name, with this schema.
pub known_by : (s : Store) (k : KnownSeen) → IsTrue s.called → IsTrue s.attached → s.schema ≡ Some k.schema → s.name ≡ k.name → s ≡ known_store k
known_by s k called attached schema name = λ i. record { called = called i; attached = attached i; schema = schema i; name = name i }

-- ---- what is left if nothing was attached

-- An attached vault wasn't refused.
pub never_left : {V : Type 0} (seen : V → KeeperSeen) (Leaves : Option (List ℕ) → V → Type 0) (v : V) → IsTrue (seen v).store.attached → IsLeftUnattached seen Leaves v
never_left seen Leaves v attached un = absurd (true≢false (sym attached ∙ un))

-- It stays attached while its store is the same.
pub still_attached : {V : Type 0} (seen : V → KeeperSeen) (Leaves : Option (List ℕ) → V → Type 0) (a b : V) → IsTrue (seen a).store.attached → (seen b).store ≡ (seen a).store → IsLeftUnattached seen Leaves b
still_attached seen Leaves a b attached same = never_left seen Leaves b (ap (λ (s : Store). s.attached) same ∙ attached)

-- A vault that was refused is left as its maker says.
pub left_unattached : {V : Type 0} (seen : V → KeeperSeen) (Leaves : Option (List ℕ) → V → Type 0) (name : Option (List ℕ)) (v : V) → Leaves name v → IsLeftUnattached seen Leaves v
left_unattached seen Leaves name v left un = (name, left)
