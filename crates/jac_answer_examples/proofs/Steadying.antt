-- Which labels are steady over the served diary.
use Rattle.std.proofs.Common.{◌≡◌, ◌∙◌, refl, sym, ap, subst, ℕ, Bool, true, false, true≢false, List, [], ◌∷◌, Some, None}
use Rattle.std.proofs.lemmas.Option.{same_Some}
use Rattle.jac_world.specs.World.{shown_by}
use Rattle.jac_lang.specs.Syntax.{Application}
use Rattle.jac_plain.specs.Requests.{Visit, Worlds, page}
use Rattle.jac_plain.specs.Policies.{with_label, IsLiveLabel}
use Rattle.jac_shown_rows.specs.Consulted.{Agrees}
use Rattle.jac_lazy.specs.Steady.{AlwaysAllows, AlwaysForbids, IsSteady}
use Rattle.jac_replies.specs.declared.answer.Answer.{Answer}
use Rattle.jac_engine.specs.Answers.{lazy_answer, IsLazyPage}
use Rattle.jac_semantics_examples.specs.Diary.{guarded_diary}
use Rattle.jac_semantics_examples.proofs.Diaries.{one_shown, two_shown}
use Rattle.jac_answer_examples.specs.Served.{served_diary}

pub alike_itself : (consulted : List ℕ) (w : ℕ → Bool) → Agrees consulted w w
alike_itself consulted w = record { each = λ k s. refl }

pub place_is_live : IsLiveLabel served_diary guarded_diary 65553
place_is_live = record { group = refl; seen_by = λ k. true; stands = refl }

pub guest_steady : IsSteady served_diary guarded_diary (Some 4160) (65553 ∷ []) (65553 ∷ [])
guest_steady = record {
  ascending = (tt, tt);
  within = λ k s. s;
  live = λ k s. one_shown (IsLiveLabel served_diary guarded_diary) 65553 k place_is_live s;
  allowed = λ k s.
      one_shown (AlwaysAllows served_diary guarded_diary (Some 4160) (65553 ∷ []) (shown_by (65553 ∷ []))) 65553 k (record { each = λ v alike. refl }) s;
  full = λ k live consulted hidden. absurd (true≢false (sym consulted ∙ hidden));
}

pub nobody_steady : IsSteady served_diary guarded_diary None (65553 ∷ []) []
nobody_steady = record {
  ascending = tt;
  within = λ k s. absurd (let no : false ≡ true = s in cc);
  live = λ k s. absurd (let no : false ≡ true = s in cc);
  allowed = λ k s. absurd (let no : false ≡ true = s in cc);
  full = λ k live consulted hidden.
      one_shown (λ j. AlwaysForbids served_diary guarded_diary None (65553 ∷ []) (with_label j (shown_by []))) 65553 k
      (record { label = 65553; is_shown = refl; forbidden = λ v alike. refl }) consulted;
}

pub guest_steady_of_both : IsSteady served_diary guarded_diary (Some 4160) (65552 ∷ 65553 ∷ []) (65553 ∷ [])
guest_steady_of_both = record {
  ascending = (tt, tt);
  within = λ k s. one_shown (λ j. shown_by (65552 ∷ 65553 ∷ []) j ≡ true) 65553 k refl s;
  live = λ k s. one_shown (IsLiveLabel served_diary guarded_diary) 65553 k place_is_live s;
  allowed = λ k s.
      one_shown (AlwaysAllows served_diary guarded_diary (Some 4160) (65552 ∷ 65553 ∷ []) (shown_by (65553 ∷ []))) 65553 k
      (record { each = λ v alike. refl }) s;
  full = λ k live consulted hidden.
      two_shown
      (λ j. shown_by (65553 ∷ []) j ≡ false → AlwaysForbids served_diary guarded_diary (Some 4160) (65552 ∷ 65553 ∷ []) (with_label j (shown_by (65553 ∷ []))))
      65552 65553 k
      (λ h. record { label = 65552; is_shown = refl; forbidden = λ v alike. refl })
      (λ h. absurd (true≢false h)) consulted hidden;
}

-- The answer has the labels of a lazy page and the labels that it consulted.

made_itself : (app : Application) (worlds : Worlds) (visit : Visit) (answer : Answer) → (p : IsLazyPage app worlds visit answer)
    → answer ≡ lazy_answer p.labels p.consulted (page (shown_by p.labels) app (worlds (shown_by p.labels)) visit)
made_itself app worlds visit answer p = p.made (shown_by p.labels) (alike_itself p.consulted (shown_by p.labels))

labels_told : (app : Application) (worlds : Worlds) (visit : Visit) (answer : Answer) (labels : List ℕ)
    → answer.shown ≡ Some labels → (p : IsLazyPage app worlds visit answer) → p.labels ≡ labels
labels_told app worlds visit answer labels shown p = same_Some p.labels labels (sym (ap (λ (a : Answer). a.shown) (made_itself app worlds visit answer p)) ∙ shown)

consulted_told : (app : Application) (worlds : Worlds) (visit : Visit) (answer : Answer) (consulted : List ℕ)
    → answer.consulted ≡ Some consulted → (p : IsLazyPage app worlds visit answer) → p.consulted ≡ consulted
consulted_told app worlds visit answer consulted told p =
    same_Some p.consulted consulted (sym (ap (λ (a : Answer). a.consulted) (made_itself app worlds visit answer p)) ∙ told)

pub steady_as : (app : Application) (worlds : Worlds) (visit : Visit) (answer : Answer) (labels consulted : List ℕ)
    → answer.shown ≡ Some labels → answer.consulted ≡ Some consulted → IsLazyPage app worlds visit answer
    → IsSteady app worlds visit.viewer consulted labels
steady_as app worlds visit answer labels consulted shown told p =
    subst (IsSteady app worlds visit.viewer consulted) (labels_told app worlds visit answer labels shown p)
    (subst (λ (c : List ℕ). IsSteady app worlds visit.viewer c p.labels) (consulted_told app worlds visit answer consulted told p) p.steady)

pub made_as : (app : Application) (worlds : Worlds) (visit : Visit) (answer : Answer) (labels consulted : List ℕ)
    → answer.shown ≡ Some labels → answer.consulted ≡ Some consulted → IsLazyPage app worlds visit answer
    → (w : ℕ → Bool) → Agrees consulted (shown_by labels) w → answer ≡ lazy_answer labels consulted (page w app (worlds w) visit)
made_as app worlds visit answer labels consulted shown told p =
    subst (λ (l : List ℕ). (w : ℕ → Bool) → Agrees consulted (shown_by l) w → answer ≡ lazy_answer l consulted (page w app (worlds w) visit))
    (labels_told app worlds visit answer labels shown p)
    (subst
    (λ (c : List ℕ). (w : ℕ → Bool) → Agrees c (shown_by p.labels) w → answer ≡ lazy_answer p.labels c (page w app (worlds w) visit))
    (consulted_told app worlds visit answer consulted told p) p.made)
