-- The result of a pass over consulted labels, if all labels that cached results depend on were
-- consulted.
use Rattle.std.proofs.Common.{◌≡◌, ◌∙◌, refl, sym, ℕ, Bool, true, false, List, Option, Some, None}
use Rattle.std.specs.Option.{is_some}
use Rattle.jac_world.specs.World.{shown_by, IsAscending}
use Rattle.jac_lang.specs.Syntax.{Application}
use Rattle.jac_plain.specs.Requests.{Worlds}
use Rattle.jac_plain.specs.Policies.{is_allowed}
use Rattle.jac_shown_rows.specs.Consulted.{Agrees}
use Rattle.jac_policy_cache.specs.declared.policy_memo.PolicyMemo.{PolicyMemo}
use Rattle.jac_policy_cache.specs.Memo.{AreWatched, recall, watches}
use Rattle.jac_resolve.specs.RightMemo.{AreRight, IsPassed, IsUnderway, RemembersForbidden}
use Rattle.jac_resolve.specs.Live.{AreLiveOf}
use Rattle.jac_lazy.specs.Steady.{AlwaysAllows, AlwaysForbids, IsSteady}

module _ (app : Application) (worlds : Worlds) (viewer : Option ℕ) (answers : PolicyMemo) (consulted : List ℕ) (named : (k j : ℕ) → watches answers k j ≡ true → shown_by consulted k ≡ true) where
  -- The cached results are the same under assignments that agree about what was consulted.
  recalled_alike : AreWatched answers → (j : ℕ) (v w : ℕ → Bool) → Agrees consulted v w → recall answers j v ≡ recall answers j w
  recalled_alike watched j v w agree = watched.each j v w (λ k watching. agree.each k (named k j watching))

  -- So are the results of policies that are cached.
  answered_alike : AreRight app worlds viewer answers → AreWatched answers → (j : ℕ) (w v : ℕ → Bool) (b : Bool) → is_some (recall answers j w) ≡ true → is_allowed app (worlds w) viewer j ≡ b →
      Agrees consulted w v → is_allowed app (worlds v) viewer j ≡ b
  answered_alike right watched j w v b known is agree = by_answer (recall answers j w) refl known
    where
      by_answer : (o : Option Bool) → recall answers j w ≡ o → is_some o ≡ true → is_allowed app (worlds v) viewer j ≡ b
      by_answer (Some x) e h = sym (right.each j v x (sym (recalled_alike watched j w v agree) ∙ e)) ∙ right.each j w x e ∙ is
      by_answer None e h = absurd cc

  always_allowed : (labels : List ℕ) (k : ℕ) → IsUnderway app worlds viewer labels answers → shown_by labels k ≡ true → AlwaysAllows app worlds viewer consulted (shown_by labels) k
  always_allowed labels k underway s = record {
    each = λ v agree. answered_alike underway.right underway.watched k (shown_by labels) v true (underway.fitted.each k s) (underway.allowed k s) agree;
  }

  always_forbidden : (w : ℕ → Bool) → AreRight app worlds viewer answers → AreWatched answers → RemembersForbidden app worlds viewer answers w → AlwaysForbids app worlds viewer consulted w
  always_forbidden w right watched one = record {
    label = one.label;
    is_shown = one.is_shown;
    forbidden = λ v agree. answered_alike right watched one.label w v false one.known one.forbidden agree;
  }

  pub passed_steady : (tried labels : List ℕ) → IsAscending labels → AreLiveOf app worlds consulted tried → IsPassed app worlds viewer answers tried labels → IsSteady app worlds viewer consulted labels
  passed_steady tried labels ascending are passed = record {
    ascending = ascending;
    within = λ k s. are.within k (passed.within k s);
    live = λ k s. are.only k (passed.within k s);
    allowed = λ k s. always_allowed labels k passed.underway s;
    full = λ k lives asked hidden. always_forbidden _ passed.underway.right passed.underway.watched (passed.refused.each k (are.every k lives asked) hidden);
  }
