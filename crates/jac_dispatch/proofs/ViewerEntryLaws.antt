-- Viewers' caches after an answer.
use Rattle.std.proofs.Common.{◌≡◌, ap, sym, subst, ℕ, Bool, IsTrue, ◌⊎◌, inl, inr, Option, Some, None, List, []}
use Rattle.jac_lang.specs.Syntax.{Application}
use Rattle.jac_rows.specs.Good.{IsGood}
use Rattle.jac_rows.specs.Project.{project_at}
use Rattle.jac_rows.specs.declared.state.State.{State}
use Rattle.jac_keep.specs.KeeperSeen.{KeeperSeen}
use Rattle.jac_keep.specs.declared.alteration.Change.{Change}
use Rattle.jac_plain.specs.Models.{shapes_of}
use Rattle.jac_plain.specs.Requests.{Worlds}
use Rattle.jac_policy_cache.specs.declared.viewer_cache.ViewerCache.{ViewerCache}
use Rattle.jac_policy_cache.specs.declared.invalidation.Invalidation.{Invalidation}
use Rattle.jac_policy_cache.specs.ViewerCache.{IsEmptyCache, Invalidates}
use Rattle.jac_policy_cache.specs.Affected.{IsCovered}
use Rattle.jac_resolve.specs.Rounds.{AreFewEvaluations}
use Rattle.jac_resolve.specs.ValidCache.{IsValidCache}
use Rattle.jac_replies.specs.declared.answer.Ask.{Ask}
use Rattle.jac_engine.specs.Answers.{IsAnswerTo, world_left}
use Rattle.jac_engine.specs.Prepared.{IsInvalidationOf, IsPrepared, KeepsCache, applied_if}
use Rattle.jac_engine.specs.Start.{IsStart}
use Rattle.jac_engine.specs.declared.answer.Prepared.{Prepared}
use Rattle.jac_engine.specs.declared.answer.PreparedWithCache.{PreparedWithCache}
use Rattle.jac_viewer_caches.specs.CacheEntries.{IsOneOf, entry_of}
use Rattle.jac_viewer_caches.specs.declared.viewer_caches.ViewerEntry.{ViewerEntry}
use Rattle.jac_dispatch.specs.Answered.{DispatcherOf, AreValidCaches, AreInvalidatedIf, HasNoCache, HasCache, AsksFewAtFirst, AreKeptFor}
use Rattle.jac_plain.specs.Shown.{worlds_of}

none_in : {P : Type 0} (s : ViewerEntry) (viewer_caches : List ViewerEntry) → viewer_caches ≡ [] → IsOneOf s viewer_caches → P
none_in s viewer_caches none is = let nothing : ⊥ = subst (λ (xs : List ViewerEntry). IsOneOf s xs) none is in absurd nothing

-- No cache is kept.
pub none_settled : (app : Application) (k : KeeperSeen) (viewer_caches : List ViewerEntry) → viewer_caches ≡ [] → AreValidCaches app k viewer_caches
none_settled app k viewer_caches none = record { each = λ told s is. none_in s viewer_caches none is }

-- A cache that is valid after an answer is valid for the same dispatcher on the same state.
pub still_kept : (was is : DispatcherOf) (a b : KeeperSeen) (viewer : Option ℕ) (it : PreparedWithCache) → is ≡ was → (IsTrue b.tells → b.state ≡ a.state)
    → KeepsCache b.tells was.app a.state viewer it → KeepsCache b.tells is.app b.state viewer it
still_kept was is a b viewer it same left kept = record {
  valid = λ told.
      subst (λ (of : DispatcherOf). IsValidCache of.app (worlds_of (applied_if it.prepared.change b.state)) viewer it.cache) (sym same)
      (subst (λ (s : State). IsValidCache was.app (worlds_of (applied_if it.prepared.change s)) viewer it.cache) (sym (left told)) (kept.valid told));
  affected = λ told.
      subst (λ (of : DispatcherOf). IsInvalidationOf of.app b.state it.prepared.change it.invalidation) (sym same)
      (subst (λ (s : State). IsInvalidationOf was.app s it.prepared.change it.invalidation) (sym (left told)) (kept.affected told));
}

-- Fewer caches are kept, on the same state.
pub fewer_valid : (app : Application) (a b : KeeperSeen) (before after : List ViewerEntry)
    → (IsTrue b.tells → IsTrue a.tells) → (IsTrue b.tells → b.state ≡ a.state)
    → ((s : ViewerEntry) → IsOneOf s after → IsOneOf s before)
    → AreValidCaches app a before → AreValidCaches app b after
fewer_valid app a b before after told same fewer valid = record {
  each = λ tells s is.
      subst (λ (t : State). IsValidCache app (worlds_of t) s.viewer s.cache) (sym (same tells)) (valid.each (told tells) s (fewer s is));
}

-- The cache that is taken out for a viewer is valid: it was kept, or it is empty.
pub taken_valid : (app : Application) (k : KeeperSeen) (viewer_caches : List ViewerEntry) (viewer : Option ℕ) (cache : ViewerCache)
    → ((app : Application) (worlds : Worlds) (viewer : Option ℕ) (cache : ViewerCache) → IsEmptyCache cache → IsValidCache app worlds viewer cache)
    → AreValidCaches app k viewer_caches → IsOneOf (entry_of viewer cache) viewer_caches ⊎ IsEmptyCache cache → IsTrue k.tells → IsValidCache app (worlds_of k.state) viewer cache
taken_valid app k viewer_caches viewer cache empty valid (inl kept) told = valid.each told (entry_of viewer cache) kept
taken_valid app k viewer_caches viewer cache empty valid (inr none) told = empty app (worlds_of k.state) viewer cache none

-- If no cache was kept, it has no labels.
pub taken_first : (viewer_caches : List ViewerEntry) (viewer : Option ℕ) (cache : ViewerCache) → HasNoCache viewer viewer_caches → IsOneOf (entry_of viewer cache) viewer_caches ⊎ IsEmptyCache cache → cache.labels ≡ None
taken_first viewer_caches viewer cache nothing (inl kept) = let never : ⊥ = nothing.none cache kept in absurd never
taken_first viewer_caches viewer cache nothing (inr empty) = empty.labels

-- A cache that is valid on the state before a change, and on the state after it.
record IsValidTwice (app : Application) (s later : State) (x : ViewerEntry) : Type 0 where
  before : IsValidCache app (worlds_of s) x.viewer x.cache
  behind : IsValidCache app (worlds_of later) x.viewer x.cache

abbrev IsKept : Application → State → List ViewerEntry → Type 0
IsKept app s viewer_caches = (x : ViewerEntry) → IsOneOf x viewer_caches → IsValidCache app (worlds_of s) x.viewer x.cache

module _ (moves : (app : Application) (worlds later : Worlds) (viewer : Option ℕ) (invalidation : Invalidation) (old new : ViewerCache) → IsValidCache app worlds viewer old → Invalidates invalidation viewer old new → IsCovered app worlds later invalidation viewer → IsValidCache app later viewer new)
    (nothing : (app : Application) (worlds : Worlds) (viewer : Option ℕ) (invalidation : Invalidation) → IsCovered app worlds worlds invalidation viewer)
    (app : Application) (s : State) where
  affected_twice : (change : Option Change) (invalidation : Option Invalidation) (old new : List ViewerEntry)
      → IsInvalidationOf app s change invalidation → AreInvalidatedIf invalidation old new → IsKept app s old → (x : ViewerEntry) → IsOneOf x new → IsValidTwice app s (applied_if change s) x
  affected_twice None None old new affected same kept x is =
      let it = kept x (subst (λ (xs : List ViewerEntry). IsOneOf x xs) same is) in record { before = it; behind = it }
  affected_twice (Some change) None old new affected same kept x is = absurd affected
  affected_twice None (Some invalidation) old new affected invalidated kept x is =
      let was = invalidated.each x is in
      let it = moves app (worlds_of s) (worlds_of s) x.viewer invalidation was.before x.cache (kept (entry_of x.viewer was.before) was.kept) was.invalidated (nothing app (worlds_of s) x.viewer invalidation) in
      record { before = it; behind = it }
  affected_twice (Some change) (Some invalidation) old new affected invalidated kept x is =
      let was = invalidated.each x is in
      let it = kept (entry_of x.viewer was.before) was.kept in
      record {
        before = moves app (worlds_of s) (worlds_of s) x.viewer invalidation was.before x.cache it was.invalidated (nothing app (worlds_of s) x.viewer invalidation);
        behind = moves app (worlds_of s) (worlds_of (applied_if (Some change) s)) x.viewer invalidation was.before x.cache it was.invalidated (affected x.viewer);
      }

-- After a change that was stored, or refused.
module _ (moves : (app : Application) (worlds later : Worlds) (viewer : Option ℕ) (invalidation : Invalidation) (old new : ViewerCache) → IsValidCache app worlds viewer old → Invalidates invalidation viewer old new → IsCovered app worlds later invalidation viewer → IsValidCache app later viewer new)
    (nothing : (app : Application) (worlds : Worlds) (viewer : Option ℕ) (invalidation : Invalidation) → IsCovered app worlds worlds invalidation viewer)
    (app : Application) (a b : KeeperSeen) (change : Option Change) (invalidation : Option Invalidation) (old mid : List ViewerEntry)
    (told : IsTrue b.tells → IsTrue a.tells) (affected : IsTrue a.tells → IsInvalidationOf app a.state change invalidation)
    (invalidated : AreInvalidatedIf invalidation old mid) (valid : AreValidCaches app a old) where
  pub stored_valid : (viewer : Option ℕ) (cache : ViewerCache) (after : List ViewerEntry) → (IsTrue b.tells → b.state ≡ applied_if change a.state)
      → (IsTrue a.tells → IsValidCache app (worlds_of (applied_if change a.state)) viewer cache)
      → ((x : ViewerEntry) → IsOneOf x after → (x ≡ entry_of viewer cache) ⊎ IsOneOf x mid) → AreValidCaches app b after
  stored_valid viewer cache after applied own put = record {
    each = λ tells x is.
        subst (λ (t : State). IsValidCache app (worlds_of t) x.viewer x.cache) (sym (applied tells))
        (elim (put x is) [
          | inl put ↦ subst (λ (y : ViewerEntry). IsValidCache app (worlds_of (applied_if change a.state)) y.viewer y.cache) (sym put) (own (told tells))
          | inr was ↦ (affected_twice moves nothing app a.state change invalidation old mid (affected (told tells)) invalidated (valid.each (told tells)) x was).behind
        ]);
  }

  pub refused_valid : (IsTrue b.tells → b.state ≡ a.state) → AreValidCaches app b mid
  refused_valid same = record {
    each = λ tells x is.
        subst (λ (t : State). IsValidCache app (worlds_of t) x.viewer x.cache) (sym (same tells))
        (affected_twice moves nothing app a.state change invalidation old mid (affected (told tells)) invalidated (valid.each (told tells)) x is).before;
  }

-- What was prepared on a state is prepared on the same state.
pub prepared_after : (lazy : Bool) (a b : KeeperSeen) (app : Application) (ask : Ask) (p : Prepared) (tells : Bool) → (IsTrue tells → IsTrue a.tells) → (IsTrue a.tells → a.state ≡ b.state)
    → IsPrepared lazy tells app b.state ask p → IsPrepared lazy tells app a.state ask p
prepared_after lazy a b app ask p tells told same is = record {
  form = is.form;
  stored = is.stored;
  answered = λ on. subst (λ (s : State). IsAnswerTo lazy app (worlds_of s) ask p.answer) (sym (same (told on))) (is.answered on);
  worlds = λ on w. subst (λ (s : State). project_at w (applied_if p.change s) ≡ world_left w app ask p.answer (project_at w s)) (sym (same (told on))) (is.worlds on w);
  start = λ on. subst (λ (s : State). IsStart app (applied_if p.change s)) (sym (same (told on))) (is.start on);
  good = λ on. subst (λ (s : State). IsGood (shapes_of app) s → IsGood (shapes_of app) (applied_if p.change s)) (sym (same (told on))) (is.good on);
}

-- Few policies were evaluated while the answer was prepared, and none while it was stored.
pub few_stored : (lazy told tells : Bool) (app : Application) (s later : State) (viewer : Option ℕ) (viewer_caches : List ViewerEntry) (before mid now : ℕ)
    → (IsTrue tells → IsTrue told) → (IsTrue tells → later ≡ s) → now ≡ mid → AsksFewAtFirst lazy told app s viewer viewer_caches before mid
    → AsksFewAtFirst lazy tells app later viewer viewer_caches before now
few_stored lazy told tells app s later viewer viewer_caches before mid now telling same asked bounded = record {
  few = λ eager is nothing.
      subst (λ (n : ℕ). AreFewEvaluations app later viewer before n) (sym asked)
      (subst (λ (x : State). AreFewEvaluations app x viewer before mid) (sym (same is)) (bounded.few eager (telling is) nothing));
}

-- ---- viewers for whom a cache is kept

pub kept_fewer : (viewer : Option ℕ) (before after : List ViewerEntry) → ((s : ViewerEntry) → IsOneOf s after → IsOneOf s before) → AreKeptFor viewer before after
kept_fewer viewer before after fewer = record { each = λ s is. inr (s.cache, fewer s is) }

kept_as : (viewer owner : Option ℕ) (before mid : List ViewerEntry) → AreKeptFor viewer before mid → (owner ≡ viewer) ⊎ HasCache owner mid → (owner ≡ viewer) ⊎ HasCache owner before
kept_as viewer owner before mid first (inl same) = inl same
kept_as viewer owner before mid first (inr was) = first.each (entry_of owner was.0) was.1

pub kept_then : (viewer : Option ℕ) (before mid after : List ViewerEntry) → AreKeptFor viewer before mid → AreKeptFor viewer mid after → AreKeptFor viewer before after
kept_then viewer before mid after first second = record { each = λ s is. kept_as viewer s.viewer before mid first (second.each s is) }

kept_invalidated : (viewer : Option ℕ) (invalidation : Option Invalidation) (old new : List ViewerEntry) → AreInvalidatedIf invalidation old new → AreKeptFor viewer old new
kept_invalidated viewer None old new same = record { each = λ s is. inr (s.cache, subst (λ (xs : List ViewerEntry). IsOneOf s xs) same is) }
kept_invalidated viewer (Some invalidation) old new invalidated = record {
  each = λ s is.
      let was = invalidated.each s is in
      inr (was.before, was.kept);
}

-- After a change that was stored, or refused.
module _ (viewer : Option ℕ) (invalidation : Option Invalidation) (old mid : List ViewerEntry) (invalidated : AreInvalidatedIf invalidation old mid) where
  pub kept_refused : AreKeptFor viewer old mid
  kept_refused = kept_invalidated viewer invalidation old mid invalidated

  pub kept_stored : (cache : ViewerCache) (after : List ViewerEntry)
      → ((x : ViewerEntry) → IsOneOf x after → (x ≡ entry_of viewer cache) ⊎ IsOneOf x mid) → AreKeptFor viewer old after
  kept_stored cache after put =
      kept_then viewer old mid after kept_refused (record {
        each = λ s is.
            elim (put s is) [
              | inl it ↦ inl (ap (λ (x : ViewerEntry). x.viewer) it)
              | inr was ↦ inr (s.cache, was)
            ];
      })
