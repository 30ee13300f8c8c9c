-- Settling labels again apart from others, over plain lists.
use Rattle.std.proofs.Common.{◌≡◌, ◌==◌, ◌&&◌, ◌||◌, ◌⊎◌, inl, inr, ℕ, Bool, true, false, not, List, [], ◌∷◌, Option, Some, None, refl, ap, sym, subst, ◌∙◌}
use Rattle.std.specs.List.{list_all}
use Rattle.std.specs.Option.{is_some}
use Rattle.std.proofs.lemmas.Bool.Decides.{Decides-eqb}
use Rattle.jac_world.specs.World.{shown_by}
use Rattle.jac_lang.specs.Syntax.{Application}
use Rattle.jac_plain.specs.Policies.{with_label, IsLiveLabel}
use Rattle.jac_plain.specs.Requests.{Worlds}
use Rattle.jac_policy_cache.specs.declared.policy_memo.PolicyMemo.{PolicyMemo}
use Rattle.jac_policy_cache.specs.declared.viewer_cache.ViewerCache.{ViewerCache}
use Rattle.jac_policy_cache.specs.Linked.{AreLinked}
use Rattle.jac_policy_cache.specs.Memo.{AreWatched, IsLinked, depends, recall}
use Rattle.jac_policy_cache.proofs.Rising.{bool_eq}
use Rattle.jac_resolve.specs.Live.{AreLiveOf}
use Rattle.jac_resolve.specs.RightMemo.{AreRefused, AreRight, IsUnderway, Retains}
use Rattle.jac_resolve.specs.Rounds.{Within}
use Rattle.jac_resolve.specs.ValidCache.{AreSettledBut, AreSettledButIf, IsValidCache, IsSettledApart, IsWidened, StandsRefused, cache_labels}
use Rattle.jac_resolve.proofs.CacheLemmas.{never, one_of, other_answer, recalled_is, refused_is, valid_passed, unhung}
use Rattle.jac_resolve.proofs.Underway.{either}

-- A label that isn't in a list isn't in a part of it.
apart_from : (xs ys : List ℕ) → ((k : ℕ) → shown_by xs k ≡ true → shown_by ys k ≡ true) → (k : ℕ) → shown_by ys k ≡ false → shown_by xs k ≡ false
apart_from xs ys among k apart = one_of (shown_by xs k) (shown_by xs k ≡ false) (λ s. never (shown_by ys k) (shown_by xs k ≡ false) (among k s) apart) (λ e. e)

module _ (app : Application) (worlds : Worlds) (viewer : Option ℕ) (labels stale near rest : List ℕ) (answers : PolicyMemo) (right : AreRight app worlds viewer answers) (watched : AreWatched answers)
    (kept : AreSettledBut app worlds answers labels stale) (linked : AreLinked answers stale near) (cut : (k : ℕ) → shown_by rest k ≡ (not (shown_by near k) && shown_by labels k)) where
  not_stale : (k : ℕ) → shown_by near k ≡ false → shown_by stale k ≡ false
  not_stale k apart = apart_from stale near linked.among k apart

  -- Apart from near labels, the same labels are shown.
  same : (k : ℕ) → shown_by near k ≡ false → shown_by rest k ≡ shown_by labels k
  same k apart = cut k ∙ ap (λ b. not b && shown_by labels k) apart

  was_shown : (k : ℕ) → shown_by rest k ≡ true → (shown_by near k ≡ false) × (shown_by labels k ≡ true)
  was_shown k s = by_near (shown_by near k) refl (sym (cut k) ∙ s)
    where
      by_near : (b : Bool) → shown_by near k ≡ b → (not b && shown_by labels k) ≡ true → (shown_by near k ≡ false) × (shown_by labels k ≡ true)
      by_near true e h = absurd cc
      by_near false e h = (e, h)

  -- The cached result of a label that isn't near depends on no near label.
  recalled_apart : (j : ℕ) → shown_by near j ≡ false → (v w : ℕ → Bool) → ((i : ℕ) → shown_by near i ≡ false → v i ≡ w i) → recall answers j v ≡ recall answers j w
  recalled_apart j apart v w alike =
      watched.each j v w
      (λ i watching. alike i (one_of (shown_by near i) (shown_by near i ≡ false) (λ n. never (shown_by near j) (shown_by near i ≡ false) (linked.linked.watchers i j n watching) apart) (λ e. e)))

  stays_if : (k : ℕ) → shown_by near k ≡ false → (recall answers k (shown_by labels) ≡ Some true) ⊎ ((shown_by stale k ≡ true) × ((w : ℕ → Bool) → recall answers k w ≡ None)) → recall answers k (shown_by labels) ≡ Some true
  stays_if k apart (inl e) = e
  stays_if k apart (inr p) = never (shown_by stale k) (recall answers k (shown_by labels) ≡ Some true) p.0 (not_stale k apart)

  stays_apart : (k : ℕ) → shown_by rest k ≡ true → recall answers k (shown_by rest) ≡ Some true
  stays_apart k s =
      let was = was_shown k s in
      recalled_apart k was.0 (shown_by rest) (shown_by labels) same ∙ stays_if k was.0 (kept.stays k was.1)

  -- Without the near labels, the invariant between two tries holds.
  pub underway_apart : IsUnderway app worlds viewer rest answers
  underway_apart = record {
    right = right;
    allowed = λ k s. sym (right.each k (shown_by rest) true (stays_apart k s));
    watched = watched;
    fitted = record { each = λ k s. ap is_some (stays_apart k s) };
  }

  stays_or : (j : ℕ) → (recall answers j (shown_by labels) ≡ Some true) ⊎ ((shown_by stale j ≡ true) × ((w : ℕ → Bool) → recall answers j w ≡ None)) →
      (recall answers j (shown_by labels) ≡ Some true) ⊎ (recall answers j (shown_by labels) ≡ None)
  stays_or j (inl e) = inl e
  stays_or j (inr p) = inr (p.1 (shown_by labels))

  -- If a label refuses one that isn't near, it isn't near either.
  refuses_apart : (k j : ℕ) → shown_by near k ≡ false → with_label k (shown_by labels) j ≡ true → recall answers j (with_label k (shown_by labels)) ≡ Some false → shown_by near j ≡ false
  refuses_apart k j apart s is = one_of (shown_by near j) (shown_by near j ≡ false) (λ n. near_if n (k == j) refl s) (λ e. e)
    where
      near_if : shown_by near j ≡ true → (b : Bool) → (k == j) ≡ b → (b || shown_by labels j) ≡ true → shown_by near j ≡ false
      near_if n true e h = ap (shown_by near) (sym ((Decides-eqb k j).0 e)) ∙ apart
      near_if n false e h =
          one_of (depends answers j k) (shown_by near j ≡ false) (λ depended. never (shown_by near k) (shown_by near j ≡ false) (linked.linked.dependent j k n depended) apart)
          (λ free. other_answer (recall answers j (shown_by labels)) (shown_by near j ≡ false) (sym (unhung answers j k free (shown_by labels)) ∙ is) (stays_or j (kept.stays j h)))

  module _ (now tried : List ℕ) (known : PolicyMemo) (live : AreLiveOf app worlds near tried) (within : Within tried rest now) (retains : Retains rest now answers known) where
    -- Apart from near labels, the same labels are shown after the tries.
    pub same_apart : (k : ℕ) → shown_by near k ≡ false → shown_by now k ≡ shown_by labels k
    same_apart k apart = bool_eq (shown_by now k) (shown_by rest k) (λ s. was_if (within k s)) (retains.shows k) ∙ same k apart
      where
        was_if : (shown_by rest k || shown_by tried k) ≡ true → shown_by rest k ≡ true
        was_if h = either (shown_by rest k) (shown_by tried k) (shown_by rest k ≡ true) h (λ s. s) (λ t. never (shown_by near k) (shown_by rest k ≡ true) (live.within k t) apart)

    live_now : (k : ℕ) → shown_by now k ≡ true → IsLiveLabel app worlds k
    live_now k s =
        either (shown_by rest k) (shown_by tried k) (IsLiveLabel app worlds k) (within k s)
        (λ r. (let was = was_shown k r in kept.live k was.1 (not_stale k was.0)))
        (λ t. live.only k t)

    refused_now : AreRight app worlds viewer known → (k : ℕ) → shown_by near k ≡ false → StandsRefused answers k (shown_by labels) → StandsRefused known k (shown_by now)
    refused_now right_now k apart one =
        let away = refuses_apart k one.label apart one.is_shown one.refused in
        let w = with_label k (shown_by now) in
        let still : recall answers one.label w ≡ Some false = recalled_apart one.label away w (with_label k (shown_by labels)) (λ i off. ap (λ b. (k == i) || b) (same_apart i off)) ∙ one.refused in
        record {
          label = one.label;
          is_shown = ap (λ b. (k == one.label) || b) (same_apart one.label away) ∙ one.is_shown;
          refused =
              recalled_is app worlds viewer known one.label w false right_now (retains.grown.kept one.label w (ap is_some still)) (sym (right.each one.label w false still));
        }

    pub valid_apart : (again : List ℕ) → IsUnderway app worlds viewer now known → AreRefused app worlds viewer known tried now → IsValidCache app worlds viewer (record { labels = Some now; answers = known; stale = again })
    valid_apart again underway refused =
        valid_passed app worlds viewer now again known underway live_now
        (λ k lives hidden. one_of (shown_by near k) (StandsRefused known k (shown_by now))
        (λ n. refused_is app worlds viewer known k (shown_by now) underway.right (refused.each k (live.every k lives n) hidden))
        (λ apart. refused_now underway.right k apart (kept.full k lives (sym (same_apart k apart) ∙ hidden) (not_stale k apart))))

-- The labels of a cache.
pub kept_some : (app : Application) (worlds : Worlds) (viewer : Option ℕ) (cache : ViewerCache) (labels : List ℕ) → cache.labels ≡ Some labels → IsValidCache app worlds viewer cache → AreSettledBut app worlds cache.answers labels cache.stale
kept_some app worlds viewer cache labels are valid = subst (λ (o : Option (List ℕ)). AreSettledButIf app worlds cache.answers o cache.stale) are valid.kept

-- Two caches show the same labels.
shows_alike : (old new : Option (List ℕ)) (labels now : List ℕ) (k : ℕ) → old ≡ Some labels → new ≡ Some now → shown_by now k ≡ shown_by labels k → shown_by (cache_labels new) k ≡ shown_by (cache_labels old) k
shows_alike old new labels now k is is_now same = ap (λ o. shown_by (cache_labels o) k) is_now ∙ same ∙ sym (ap (λ o. shown_by (cache_labels o) k) is)

pub settled_apart : (old new : ViewerCache) (near labels now : List ℕ) → AreLinked old.answers old.stale near → old.labels ≡ Some labels → new.labels ≡ Some now → ((k : ℕ) → shown_by near k ≡ false → shown_by now k ≡ shown_by labels k) →
    IsLinked new.answers near → IsSettledApart old new
settled_apart old new near labels now linked is is_now same closed = record {
  near = near;
  stale = linked.among;
  linked = closed;
  same = λ k apart. shows_alike old.labels new.labels labels now k is is_now (same k apart);
}

pub widened_apart : (old new : ViewerCache) (near labels now : List ℕ) → AreLinked old.answers old.stale near → old.labels ≡ Some labels → new.labels ≡ Some now → ((k : ℕ) → shown_by near k ≡ false → shown_by now k ≡ shown_by labels k) →
    ((k : ℕ) → shown_by near k ≡ true → shown_by new.stale k ≡ true) → IsWidened old new
widened_apart old new near labels now linked is is_now same more = record {
  stale = λ k s. more k (linked.among k s);
  same = λ k apart. shows_alike old.labels new.labels labels now k is is_now (same k (apart_from near new.stale more k apart));
}

-- The invariant between two widenings.
pub record StandsWidened (app : Application) (worlds : Worlds) (viewer : Option ℕ) (old new : ViewerCache) : Type 0 where
  pub valid : IsValidCache app worlds viewer new
  pub widened : IsWidened old new

-- Links to labels that are all in the list.

all_if : (p : ℕ → Bool) (x k : ℕ) (b same rest later : Bool) → p x ≡ b → (x == k) ≡ same → (b && rest) ≡ true → (same || later) ≡ true → (rest ≡ true → later ≡ true → p k ≡ true) → p k ≡ true
all_if p x k true true rest later e is all s on = ap p (sym ((Decides-eqb x k).0 is)) ∙ e
all_if p x k true false rest later e is all s on = on all s
all_if p x k false same rest later e is all s on = absurd cc

all_true : (p : ℕ → Bool) (xs : List ℕ) (k : ℕ) → list_all p xs ≡ true → shown_by xs k ≡ true → p k ≡ true
all_true p [] k all s = absurd cc
all_true p (x ∷ xs) k all s = all_if p x k (p x) (x == k) (list_all p xs) (shown_by xs k) refl refl all s (λ a t. all_true p xs k a t)

pub linked_back : (answers : PolicyMemo) (near all : List ℕ) → AreLinked answers near all → list_all (shown_by near) all ≡ true → IsLinked answers near
linked_back answers near all linked back = record {
  watchers = λ k j s w. all_true (shown_by near) all j back (linked.linked.watchers k j (linked.among k s) w);
  dependent = λ j k s h. all_true (shown_by near) all k back (linked.linked.dependent j k (linked.among j s) h);
}
