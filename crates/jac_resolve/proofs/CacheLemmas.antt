-- A viewer's cache, over plain lists.
use Rattle.std.proofs.Common.{◌≡◌, ◌==◌, ◌||◌, ◌⊎◌, inl, inr, ℕ, Bool, true, false, List, [], Option, Some, None, refl, ap, sym, subst, ◌∙◌}
use Rattle.std.specs.Option.{is_some}
use Rattle.std.proofs.lemmas.Bool.Decides.{Decides-eqb}
use Rattle.jac_world.specs.World.{shown_by, IsAscending}
use Rattle.jac_lang.specs.Syntax.{Application}
use Rattle.jac_plain.specs.Policies.{is_allowed, with_label, IsLiveLabel, IsSettled}
use Rattle.jac_plain.specs.Requests.{Worlds}
use Rattle.jac_policy_cache.specs.declared.policy_memo.PolicyMemo.{PolicyMemo}
use Rattle.jac_policy_cache.specs.declared.viewer_cache.ViewerCache.{ViewerCache}
use Rattle.jac_policy_cache.specs.Memo.{given_of, depends, recall}
use Rattle.jac_policy_cache.proofs.Recalling.{recall_by}
use Rattle.jac_resolve.specs.RightMemo.{AreRight, IsPassed, IsUnderway, RemembersForbidden}
use Rattle.jac_resolve.specs.Rounds.{AreLive}
use Rattle.jac_resolve.specs.ValidCache.{AreSettledBut, AreSettledButIf, IsAtRest, StandsRefused, IsValidCache}

-- If the results of a label don't depend on a second one, whether the second one is shown doesn't
-- change what is recalled.
pub unhung : (answers : PolicyMemo) (j k : ℕ) → depends answers j k ≡ false → (w : ℕ → Bool) → recall answers j (with_label k w) ≡ recall answers j w
unhung answers j k absent w = recall_by (given_of answers.given j) (with_label k w) w (λ i h. differs i h (k == i) refl)
  where
    differs : (i : ℕ) → depends answers j i ≡ true → (b : Bool) → (k == i) ≡ b → (b || w i) ≡ w i
    differs i h true e = absurd (let same : true ≡ false = sym h ∙ ap (λ (n : ℕ). depends answers j n) (sym ((Decides-eqb k i).0 e)) ∙ absent in cc)
    differs i h false e = refl

-- Two cases, by whether a test of a label is true.
pub one_of : (b : Bool) (P : Type 0) → (b ≡ true → P) → (b ≡ false → P) → P
one_of true P there absent = there refl
one_of false P there absent = absent refl

pub never : (b : Bool) (P : Type 0) → b ≡ true → b ≡ false → P
never b P there absent = absurd (let e : true ≡ false = sym there ∙ absent in cc)

pub other_answer : (o : Option Bool) (P : Type 0) → o ≡ Some false → (o ≡ Some true) ⊎ (o ≡ None) → P
other_answer o P is (inl e) = absurd (let both : Some false ≡ Some true = sym is ∙ e in cc)
other_answer o P is (inr e) = absurd (let both : Some false ≡ None = sym is ∙ e in cc)

module _ (app : Application) (worlds : Worlds) (viewer : Option ℕ) where
  -- A cached result is the result of the policy.
  pub recalled_is : (answers : PolicyMemo) (k : ℕ) (w : ℕ → Bool) (b : Bool) → AreRight app worlds viewer answers → is_some (recall answers k w) ≡ true → is_allowed app (worlds w) viewer k ≡ b →
      recall answers k w ≡ Some b
  recalled_is answers k w b right some allowed = by_answer (recall answers k w) refl some
    where
      by_answer : (o : Option Bool) → recall answers k w ≡ o → is_some o ≡ true → recall answers k w ≡ Some b
      by_answer (Some c) e h = e ∙ ap Some (right.each k w c e ∙ allowed)
      by_answer None e h = absurd cc

  allowed_is : (answers : PolicyMemo) (k : ℕ) (w : ℕ → Bool) (b : Bool) → AreRight app worlds viewer answers → recall answers k w ≡ Some b → is_allowed app (worlds w) viewer k ≡ b
  allowed_is answers k w b right e = sym (right.each k w b e)

  pub refused_is : (answers : PolicyMemo) (k : ℕ) (w : ℕ → Bool) → AreRight app worlds viewer answers → RemembersForbidden app worlds viewer answers (with_label k w) → StandsRefused answers k w
  refused_is answers k w right one = record {
    label = one.label;
    is_shown = one.is_shown;
    refused = recalled_is answers one.label (with_label k w) false right one.known one.forbidden;
  }

  -- The labels after a pass, with any stale labels.
  pub valid_passed : (labels stale : List ℕ) (answers : PolicyMemo) → IsUnderway app worlds viewer labels answers → ((k : ℕ) → shown_by labels k ≡ true → IsLiveLabel app worlds k) →
      ((k : ℕ) → IsLiveLabel app worlds k → shown_by labels k ≡ false → StandsRefused answers k (shown_by labels)) →
      IsValidCache app worlds viewer (record { labels = Some labels; answers = answers; stale = stale })
  valid_passed labels stale answers underway live full = record {
    right = underway.right;
    watched = underway.watched;
    kept = record {
      stays = λ k s. inl (recalled_is answers k (shown_by labels) true underway.right (underway.fitted.each k s) (underway.allowed k s));
      live = λ k s not_stale. live k s;
      full = λ k lives hidden not_stale. full k lives hidden;
    };
  }

  -- After a pass over all live labels.
  pub valid_all : (labels live stale : List ℕ) (answers : PolicyMemo) → AreLive app worlds live → IsPassed app worlds viewer answers live labels →
      IsValidCache app worlds viewer (record { labels = Some labels; answers = answers; stale = stale })
  valid_all labels live stale answers are passed =
      valid_passed labels stale answers passed.underway (λ k s. are.only k (passed.within k s))
      (λ k lives hidden. refused_is answers k (shown_by labels) passed.underway.right (passed.refused.each k (are.every k lives) hidden))

  -- All live labels are tried, beginning with none shown.
  pub underway_valid : (cache : ViewerCache) → IsValidCache app worlds viewer cache → IsUnderway app worlds viewer [] cache.answers
  underway_valid cache valid = record {
    right = valid.right;
    allowed = λ k s. absurd cc;
    watched = valid.watched;
    fitted = record { each = λ k s. absurd cc };
  }

  -- The labels of a cache without stale labels are settled.
  pub settled_valid : (cache : ViewerCache) (labels : List ℕ) → IsAscending labels → cache.labels ≡ Some labels → IsAtRest cache → IsValidCache app worlds viewer cache → IsSettled app worlds viewer labels
  settled_valid cache labels ascending are rests valid =
      settled (subst (λ (stale : List ℕ). AreSettledBut app worlds cache.answers labels stale) rests.stale (subst (λ (o : Option (List ℕ)). AreSettledButIf app worlds cache.answers o cache.stale) are valid.kept))
    where
      settled : AreSettledBut app worlds cache.answers labels [] → IsSettled app worlds viewer labels
      settled kept = record {
        ascending = ascending;
        live = λ k s. kept.live k s refl;
        allowed = λ k s. allowed_if k (kept.stays k s);
        full = λ k lives hidden. (let one = kept.full k lives hidden refl in record {
          label = one.label;
          is_shown = one.is_shown;
          forbidden = allowed_is cache.answers one.label (with_label k (shown_by labels)) false valid.right one.refused;
        });
      }
        where
          allowed_if : (k : ℕ) → (recall cache.answers k (shown_by labels) ≡ Some true) ⊎ ((shown_by [] k ≡ true) × ((w : ℕ → Bool) → recall cache.answers k w ≡ None)) →
              is_allowed app (worlds (shown_by labels)) viewer k ≡ true
          allowed_if k (inl e) = allowed_is cache.answers k (shown_by labels) true valid.right e
          allowed_if k (inr p) = absurd (let e : false ≡ true = p.0 in cc)
