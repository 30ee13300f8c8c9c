-- What is kept of a cache when worlds change.
use Rattle.std.proofs.Common.{◌≡◌, ◌==◌, ◌||◌, ◌⊎◌, inl, inr, ℕ, Bool, true, false, if◌then◌else◌, List, Option, Some, None, refl, ap, sym, subst, ◌∙◌}
use Rattle.std.specs.Option.{is_some}
use Rattle.std.proofs.lemmas.Bool.Decides.{Decides-eqb}
use Rattle.jac_world.specs.World.{shown_by}
use Rattle.jac_lang.specs.Syntax.{Application}
use Rattle.jac_rows.specs.declared.row.Row.{Row}
use Rattle.jac_rows.specs.declared.state.State.{State}
use Rattle.jac_plain.specs.Policies.{with_label}
use Rattle.jac_plain.specs.Requests.{Worlds}
use Rattle.jac_policy_cache.specs.declared.policy_memo.LabelMemo.{LabelMemo}
use Rattle.jac_policy_cache.specs.declared.viewer_cache.ViewerCache.{ViewerCache}
use Rattle.jac_policy_cache.specs.declared.invalidation.Invalidation.{Invalidation}
use Rattle.jac_policy_cache.specs.Memo.{AreWatched, given_of, depends, recall, recall_in}
use Rattle.jac_policy_cache.specs.ViewerCache.{IsEmptyCache, Invalidates}
use Rattle.jac_policy_cache.specs.Affected.{IsCovered, affects}
use Rattle.jac_resolve.specs.RightMemo.{AreRight}
use Rattle.jac_resolve.specs.ValidCache.{AreSettledBut, AreSettledButIf, StandsRefused, IsValidCache}
use Rattle.jac_resolve.proofs.Alike.{live_alike, live_back}
use Rattle.jac_resolve.proofs.CacheLemmas.{never, one_of, other_answer, unhung}
use Rattle.jac_plain.specs.Shown.{worlds_of}

pub valid_empty : (app : Application) (worlds : Worlds) (viewer : Option ℕ) (cache : ViewerCache) → IsEmptyCache cache → IsValidCache app worlds viewer cache
valid_empty app worlds viewer cache empty = record {
  right = record { each = λ k w b is. absurd (let e : None ≡ Some b = sym (empty.recalls k w) ∙ is in cc) };
  watched = record { each = λ j v w alike. empty.recalls j v ∙ sym (empty.recalls j w) };
  kept = subst (λ (o : Option (List ℕ)). AreSettledButIf app worlds cache.answers o cache.stale) (sym empty.labels) tt;
}

-- A label for which a result is recalled has cached results.
asked_if : (given : Option LabelMemo) (w : ℕ → Bool) (b : Bool) → recall_in given w ≡ Some b → is_some given ≡ true
asked_if None w b is = absurd cc
asked_if (Some given) w b is = refl

module _ (app : Application) (worlds later : Worlds) (viewer : Option ℕ) (invalidation : Invalidation) (old new : ViewerCache) (valid : IsValidCache app worlds viewer old) (invalidates : Invalidates invalidation viewer old new)
    (covered : IsCovered app worlds later invalidation viewer) where
  -- A result that is still cached was cached before, for a label that isn't affected.
  still : (k : ℕ) (w : ℕ → Bool) (b : Bool) → recall new.answers k w ≡ Some b → (affects invalidation viewer k ≡ false) × (recall old.answers k w ≡ Some b)
  still k w b is = still_if (affects invalidation viewer k) refl (sym (invalidates.recalls k w) ∙ is)
    where
      still_if : (t : Bool) → affects invalidation viewer k ≡ t → (if t then None else recall old.answers k w) ≡ Some b → (affects invalidation viewer k ≡ false) × (recall old.answers k w ≡ Some b)
      still_if true e h = absurd cc
      still_if false e h = (e, h)

  right_later : AreRight app later viewer new.answers
  right_later = record {
    each = λ k w b is. (let one = still k w b is in valid.right.each k w b one.1 ∙ sym (covered.allowed k one.0 w));
  }

  watched_later : AreWatched new.answers
  watched_later = record {
    each = λ j v w alike.
        invalidates.recalls j v
        ∙ ap (λ (o : Option Bool). if affects invalidation viewer j then None else o) (valid.watched.each j v w (λ k watching. alike k (invalidates.watching k j ∙ watching)))
        ∙ sym (invalidates.recalls j w);
  }

  forgotten : (k : ℕ) (w : ℕ → Bool) → affects invalidation viewer k ≡ true → recall new.answers k w ≡ None
  forgotten k w t = invalidates.recalls k w ∙ ap (λ b. if b then None else recall old.answers k w) t

  none_new : (k : ℕ) (w : ℕ → Bool) → recall old.answers k w ≡ None → recall new.answers k w ≡ None
  none_new k w none = invalidates.recalls k w ∙ ap (λ o. if affects invalidation viewer k then None else o) none ∙ none_if (affects invalidation viewer k)
    where
      none_if : (t : Bool) → ◌≡◌ {A = Option Bool} (if t then None else None) None
      none_if true = refl
      none_if false = refl

  was_not_stale : (k : ℕ) → shown_by new.stale k ≡ false → shown_by old.stale k ≡ false
  was_not_stale k absent = one_of (shown_by old.stale k) (shown_by old.stale k ≡ false) (λ s. never (shown_by new.stale k) (shown_by old.stale k ≡ false) (invalidates.stale k s) absent) (λ e. e)

  not_named : (k : ℕ) → shown_by new.stale k ≡ false → shown_by invalidation.labels k ≡ false
  not_named k absent = one_of (shown_by invalidation.labels k) (shown_by invalidation.labels k ≡ false) (λ s. never (shown_by new.stale k) (shown_by invalidation.labels k ≡ false) (invalidates.named k s) absent) (λ e. e)

  kept_later : (labels : List ℕ) → AreSettledBut app worlds old.answers labels old.stale → AreSettledBut app later new.answers labels new.stale
  kept_later labels kept = record {
    stays = λ k s. stays_if k (kept.stays k s);
    live = λ k s absent. (covered.living k (not_named k absent)).0 (kept.live k s (was_not_stale k absent));
    full = λ k lives hidden absent. refused_later k absent (kept.full k ((covered.living k (not_named k absent)).1 lives) hidden (was_not_stale k absent));
  }
    where
      stays_if : (k : ℕ) → (recall old.answers k (shown_by labels) ≡ Some true) ⊎ ((shown_by old.stale k ≡ true) × ((w : ℕ → Bool) → recall old.answers k w ≡ None)) →
          (recall new.answers k (shown_by labels) ≡ Some true) ⊎ ((shown_by new.stale k ≡ true) × ((w : ℕ → Bool) → recall new.answers k w ≡ None))
      stays_if k (inl e) = affected_if (affects invalidation viewer k) refl
        where
          affected_if : (t : Bool) → affects invalidation viewer k ≡ t → (recall new.answers k (shown_by labels) ≡ Some true) ⊎ ((shown_by new.stale k ≡ true) × ((w : ℕ → Bool) → recall new.answers k w ≡ None))
          affected_if true t = inr (invalidates.dropped k t (asked_if (given_of old.answers.given k) (shown_by labels) true e), λ w. forgotten k w t)
          affected_if false t = inl (invalidates.recalls k (shown_by labels) ∙ ap (λ b. if b then None else recall old.answers k (shown_by labels)) t ∙ e)
      stays_if k (inr p) = inr (invalidates.stale k p.0, λ w. none_new k w (p.1 w))

      stays_or : (j : ℕ) → (recall old.answers j (shown_by labels) ≡ Some true) ⊎ ((shown_by old.stale j ≡ true) × ((w : ℕ → Bool) → recall old.answers j w ≡ None)) →
          (recall old.answers j (shown_by labels) ≡ Some true) ⊎ (recall old.answers j (shown_by labels) ≡ None)
      stays_or j (inl e) = inl e
      stays_or j (inr p) = inr (p.1 (shown_by labels))

      -- A label that refuses one that isn't stale isn't affected.
      refuses_untouched : (k j : ℕ) → shown_by new.stale k ≡ false → with_label k (shown_by labels) j ≡ true → recall old.answers j (with_label k (shown_by labels)) ≡ Some false → affects invalidation viewer j ≡ false
      refuses_untouched k j absent s is = one_of (affects invalidation viewer j) (affects invalidation viewer j ≡ false) (λ t. not_affected t (k == j) refl s) (λ e. e)
        where
          not_affected : affects invalidation viewer j ≡ true → (b : Bool) → (k == j) ≡ b → (b || shown_by labels j) ≡ true → affects invalidation viewer j ≡ false
          not_affected t true e h =
              let same : k ≡ j = (Decides-eqb k j).0 e in
              never (shown_by new.stale j) (affects invalidation viewer j ≡ false) (invalidates.dropped j t (asked_if (given_of old.answers.given j) (with_label k (shown_by labels)) false is)) (ap (shown_by new.stale) (sym same) ∙ absent)
          not_affected t false e h =
              one_of (depends old.answers j k) (affects invalidation viewer j ≡ false) (λ depended. never (shown_by new.stale k) (affects invalidation viewer j ≡ false) (invalidates.dependent j k t depended) absent)
              (λ apart. other_answer (recall old.answers j (shown_by labels)) (affects invalidation viewer j ≡ false) (sym (unhung old.answers j k apart (shown_by labels)) ∙ is) (stays_or j (kept.stays j h)))

      refused_later : (k : ℕ) → shown_by new.stale k ≡ false → StandsRefused old.answers k (shown_by labels) → StandsRefused new.answers k (shown_by labels)
      refused_later k absent one = record {
        label = one.label;
        is_shown = one.is_shown;
        refused =
            invalidates.recalls one.label (with_label k (shown_by labels))
            ∙ ap (λ b. if b then None else recall old.answers one.label (with_label k (shown_by labels))) (refuses_untouched k one.label absent one.is_shown one.refused)
            ∙ one.refused;
      }

  kept_if : (labels : Option (List ℕ)) → AreSettledButIf app worlds old.answers labels old.stale → AreSettledButIf app later new.answers labels new.stale
  kept_if None kept = tt
  kept_if (Some labels) kept = kept_later labels kept

  pub valid_later : IsValidCache app later viewer new
  valid_later = record {
    right = right_later;
    watched = watched_later;
    kept = subst (λ (o : Option (List ℕ)). AreSettledButIf app later new.answers o new.stale) (sym invalidates.labels) (kept_if old.labels valid.kept);
  }

module _ (app : Application) (s : State) (number : ℕ) (viewer : Option ℕ) (cache : ViewerCache) where
  kept_numbered : (labels : Option (List ℕ)) → AreSettledButIf app (worlds_of s) cache.answers labels cache.stale → AreSettledButIf app (worlds_of (record s { number = number })) cache.answers labels cache.stale
  kept_numbered None kept = tt
  kept_numbered (Some labels) kept = record {
    stays = kept.stays;
    live = λ k h absent. live_alike app s number viewer k (kept.live k h absent);
    full = λ k lives hidden absent. kept.full k (live_back app s number viewer k lives) hidden absent;
  }

  valid_numbered : IsValidCache app (worlds_of s) viewer cache → IsValidCache app (worlds_of (record s { number = number })) viewer cache
  valid_numbered is = record {
    right = record { each = λ k w b e. is.right.each k w b e };
    watched = is.watched;
    kept = kept_numbered cache.labels is.kept;
  }

pub valid_alike : (app : Application) (s t : State) (viewer : Option ℕ) (cache : ViewerCache) → s.tables ≡ t.tables → IsValidCache app (worlds_of s) viewer cache → IsValidCache app (worlds_of t) viewer cache
valid_alike app s t viewer cache same is =
    subst (λ (tables : List (List Row)). IsValidCache app (worlds_of (record { tables = tables; number = t.number })) viewer cache) same (valid_numbered app s t.number viewer cache is)
