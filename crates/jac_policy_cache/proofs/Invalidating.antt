-- What a change leaves of a cache, over plain lists.
use Rattle.std.proofs.Common.{◌≡◌, ◌==◌, ◌&&◌, ◌||◌, ℕ, Bool, true, false, if◌then◌else◌, List, [], ◌∷◌, Option, Some, None, refl, ap, ◌∙◌}
use Rattle.std.specs.Option.{is_some}
use Rattle.std.specs.List.{list_any}
use Rattle.std.proofs.lemmas.Bool.Decides.{Decides-eqb}
use Rattle.std.proofs.lemmas.Bool.{or_left, or_right, and_from}
use Rattle.jac_world.specs.World.{shown_by}
use Rattle.jac_policy_cache.specs.declared.policy_memo.PolicyMemo.{PolicyMemo}
use Rattle.jac_policy_cache.specs.declared.policy_memo.LabelMemo.{LabelMemo}
use Rattle.jac_policy_cache.specs.declared.viewer_cache.ViewerCache.{ViewerCache}
use Rattle.jac_policy_cache.specs.declared.invalidation.Invalidation.{Invalidation}
use Rattle.jac_policy_cache.specs.declared.invalidation.AffectedGroup.{AffectedGroup}
use Rattle.jac_policy_cache.specs.Memo.{given_of, depends, depends_in, is_asked, recall, recall_in, watches}
use Rattle.jac_policy_cache.specs.Affected.{is_for, is_in_group, affects}
use Rattle.jac_policy_cache.specs.ViewerCache.{Invalidates, is_marked}

-- A label without cached results recalls nothing and depends on no label.
not_asked : (given : Option LabelMemo) (w : ℕ → Bool) → is_some given ≡ false → recall_in given w ≡ None
not_asked None w h = refl
not_asked (Some given) w h = absurd cc

depended_asked : (given : Option LabelMemo) (k : ℕ) → depends_in given k ≡ true → is_some given ≡ true
depended_asked None k h = absurd cc
depended_asked (Some given) k h = refl

recall_if : (n g a b : Bool) (r : Option Bool) → b ≡ (n || ((n || g) && a)) → (a ≡ false → r ≡ None) → (if b then None else r) ≡ (if (n || g) then None else r)
recall_if true g a b r e h = ap (λ c. if c then None else r) e
recall_if false true true b r e h = ap (λ c. if c then None else r) e
recall_if false true false b r e h = ap (λ c. if c then None else r) e ∙ h refl
recall_if false false a b r e h = ap (λ c. if c then None else r) e

marked_itself : (answers : PolicyMemo) (ls : List ℕ) (k : ℕ) → shown_by ls k ≡ true → is_marked answers ls k ≡ true
marked_itself answers [] k s = absurd cc
marked_itself answers (x ∷ ls) k s = marked_if (x == k) (depends answers x k) (shown_by ls k) (is_marked answers ls k) s (marked_itself answers ls k)
  where
    marked_if : (a b c d : Bool) → (a || c) ≡ true → (c ≡ true → d ≡ true) → ((a || b) || d) ≡ true
    marked_if true b c d h later = refl
    marked_if false b c d h later = or_right b d (later h)

marked_dependent : (answers : PolicyMemo) (ls : List ℕ) (j k : ℕ) → shown_by ls j ≡ true → depends answers j k ≡ true → is_marked answers ls k ≡ true
marked_dependent answers [] j k s h = absurd cc
marked_dependent answers (x ∷ ls) j k s h =
    marked_if (x == j) (x == k) (depends answers x k) (shown_by ls j) (is_marked answers ls k) s
    (λ e. ap (λ (i : ℕ). depends answers i k) ((Decides-eqb x j).0 e) ∙ h)
    (λ later. marked_dependent answers ls j k later h)
  where
    marked_if : (same a b c d : Bool) → (same || c) ≡ true → (same ≡ true → b ≡ true) → (c ≡ true → d ≡ true) → ((a || b) || d) ≡ true
    marked_if true a b c d t here later = or_left (a || b) d (or_right a b (here refl))
    marked_if false a b c d t here later = or_right (a || b) d (later t)

-- What is forgotten and what is stale, by the affected labels that are named or have cached
-- results.
pub invalidates_by : (invalidation : Invalidation) (viewer : Option ℕ) (old new : ViewerCache) (affected : List ℕ) → new.labels ≡ old.labels →
    ((k : ℕ) → shown_by affected k ≡ (shown_by invalidation.labels k || (affects invalidation viewer k && is_asked old.answers k))) →
    ((k : ℕ) → shown_by new.stale k ≡ (shown_by old.stale k || is_marked old.answers affected k)) →
    ((k : ℕ) (w : ℕ → Bool) → recall new.answers k w ≡ (if shown_by affected k then None else recall old.answers k w)) →
    ((k j : ℕ) → watches new.answers k j ≡ watches old.answers k j) →
    Invalidates invalidation viewer old new
invalidates_by invalidation viewer old new affected labels are stale recalls watching = record {
  labels = labels;
  recalls = λ k w.
      recalls k w
      ∙ recall_if (shown_by invalidation.labels k) (list_any (λ (g : AffectedGroup). is_in_group g k && is_for g.viewer viewer) invalidation.groups.items) (is_asked old.answers k) (shown_by affected k) (recall old.answers k w) (are k)
      (not_asked (given_of old.answers.given k) w);
  watching = watching;
  stale = λ k s. stale k ∙ or_left (shown_by old.stale k) (is_marked old.answers affected k) s;
  named = λ k s. marked k (marked_itself old.answers affected k (are k ∙ or_left (shown_by invalidation.labels k) (affects invalidation viewer k && is_asked old.answers k) s));
  dropped = λ k t a. marked k (marked_itself old.answers affected k (among k t a));
  dependent = λ j k t h. marked k (marked_dependent old.answers affected j k (among j t (depended_asked (given_of old.answers.given j) k h)) h);
}
  where
    marked : (k : ℕ) → is_marked old.answers affected k ≡ true → shown_by new.stale k ≡ true
    marked k m = stale k ∙ or_right (shown_by old.stale k) (is_marked old.answers affected k) m

    among : (k : ℕ) → affects invalidation viewer k ≡ true → is_asked old.answers k ≡ true → shown_by affected k ≡ true
    among k t a = are k ∙ or_right (shown_by invalidation.labels k) (affects invalidation viewer k && is_asked old.answers k) (and_from (affects invalidation viewer k) (is_asked old.answers k) t a)
