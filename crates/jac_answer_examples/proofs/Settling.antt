-- What is settled over the served diary, before and after its event is opened.
use Rattle.std.proofs.Common.{◌≡◌, ◌∙◌, inl, inr, refl, sym, ap, subst, ℕ, Bool, true, false, true≢false, List, [], ◌∷◌, Option, Some, codes, if◌then◌else◌, arith}
use Rattle.std.proofs.lemmas.Option.{same_Some}
use Rattle.jac_world.specs.World.{shown_by}
use Rattle.jac_lang.specs.Syntax.{Application}
use Rattle.jac_rows.specs.declared.plain.PlainRow.{PlainRow}
use Rattle.jac_plain.specs.declared.page.Page.{Page}
use Rattle.jac_plain.specs.Requests.{Visit, Worlds, page}
use Rattle.jac_plain.specs.Policies.{is_allowed, with_label, IsLiveLabel, IsSettled}
use Rattle.jac_replies.specs.declared.answer.Answer.{Answer}
use Rattle.jac_engine.specs.Answers.{page_answer, IsPage}
use Rattle.jac_semantics_examples.specs.Diary.{diary_app, diary_with, event_row}
use Rattle.jac_semantics_examples.proofs.Diaries.{two_shown, live_with}
use Rattle.jac_answer_examples.specs.Served.{served_diary, opened_diary}

-- Which labels are live, and so which are settled, depends only on the models and the tables.

as_diary : (worlds : Worlds) (n k : ℕ) → IsLiveLabel served_diary (λ w. record (worlds w) { number = n }) k → IsLiveLabel diary_app worlds k
as_diary worlds n k live = record { group = live.group; seen_by = live.seen_by; stands = live.stands }

as_served : (worlds : Worlds) (n k : ℕ) → IsLiveLabel diary_app worlds k → IsLiveLabel served_diary (λ w. record (worlds w) { number = n }) k
as_served worlds n k live = record { group = live.group; seen_by = live.seen_by; stands = live.stands }

pub served : (worlds : Worlds) (n : ℕ) (viewer : Option ℕ) (labels : List ℕ) → IsSettled diary_app worlds viewer labels
    → IsSettled served_diary (λ w. record (worlds w) { number = n }) viewer labels
served worlds n viewer labels s = record {
  ascending = s.ascending;
  live = λ k h. as_served worlds n k (s.live k h);
  allowed = s.allowed;
  full = λ k live hidden.
      let f = s.full k (as_diary worlds n k live) hidden in
      record { label = f.label; is_shown = f.is_shown; forbidden = f.forbidden };
}

pub unserved : (worlds : Worlds) (n : ℕ) (viewer : Option ℕ) (labels : List ℕ)
    → IsSettled served_diary (λ w. record (worlds w) { number = n }) viewer labels → IsSettled diary_app worlds viewer labels
unserved worlds n viewer labels s = record {
  ascending = s.ascending;
  live = λ k h. as_diary worlds n k (s.live k h);
  allowed = s.allowed;
  full = λ k live hidden.
      let f = s.full k (as_served worlds n k live) hidden in
      record { label = f.label; is_shown = f.is_shown; forbidden = f.forbidden };
}

-- After the event is opened.

abbrev opened_event : (ℕ → Bool) → PlainRow
opened_event w = event_row (if w 65552 then codes "dentist" else codes "private") (Some 4096) true (if w 65553 then codes "clinic" else codes "with 4096")

title_lives : IsLiveLabel diary_app (λ w. diary_with (opened_event w)) 65552
title_lives = record { group = refl; seen_by = λ k. true; stands = refl }

place_lives : IsLiveLabel diary_app (λ w. diary_with (opened_event w)) 65553
place_lives = record { group = refl; seen_by = λ k. true; stands = refl }

guest_settled_after : IsSettled diary_app (λ w. diary_with (opened_event w)) (Some 4160) (65552 ∷ 65553 ∷ [])
guest_settled_after = record {
  ascending = (omega arith, (tt, tt));
  live = λ k s. two_shown (IsLiveLabel diary_app (λ w. diary_with (opened_event w))) 65552 65553 k title_lives place_lives s;
  allowed = λ k s.
      two_shown (λ j. is_allowed diary_app (diary_with (opened_event (shown_by (65552 ∷ 65553 ∷ [])))) (Some 4160) j ≡ true) 65552 65553 k refl refl s;
  full = λ k live hidden.
      elim (live_with opened_event (λ w. refl) k live) [
        | inl e ↦ absurd (let no : true ≡ false = rw e at hidden in cc)
        | inr e ↦ absurd (let no : true ≡ false = rw e at hidden in cc)
      ];
}

pub opened_settled : IsSettled served_diary opened_diary (Some 4160) (65552 ∷ 65553 ∷ [])
opened_settled = served (λ w. diary_with (opened_event w)) 4 (Some 4160) (65552 ∷ 65553 ∷ []) guest_settled_after

-- The title's label is missing, although everybody may see the title then.
pub opened_lacks_title : IsSettled served_diary opened_diary (Some 4160) (65553 ∷ []) → ⊥
opened_lacks_title s =
    let f = s.full 65552 (as_served (λ w. diary_with (opened_event w)) 4 65552 title_lives) refl in
    true≢false
    (sym
    (two_shown (λ j. is_allowed diary_app (diary_with (opened_event (with_label 65552 (shown_by (65553 ∷ []))))) (Some 4160) j ≡ true) 65552 65553 f.label refl refl f.is_shown)
    ∙ f.forbidden)

-- The labels of a page are those that the answer shows.

pub labels_of : (answer : Answer) (labels expected : List ℕ) (it : Page) → answer ≡ page_answer labels it → answer.shown ≡ Some expected → labels ≡ expected
labels_of answer labels expected it made shown = same_Some labels expected (sym (ap (λ (a : Answer). a.shown) made) ∙ shown)

pub settled_as : (app : Application) (before after : Worlds) (visit : Visit) (answer : Answer) (expected : List ℕ)
    → answer.shown ≡ Some expected → IsPage app before after visit answer → IsSettled app after visit.viewer expected
settled_as app before after visit answer expected shown p =
    subst (IsSettled app after visit.viewer) (labels_of answer p.labels expected (page (shown_by p.labels) app (before (shown_by p.labels)) visit) p.made shown) p.settled

pub made_as : (app : Application) (before after : Worlds) (visit : Visit) (answer : Answer) (expected : List ℕ)
    → answer.shown ≡ Some expected → IsPage app before after visit answer
    → answer ≡ page_answer expected (page (shown_by expected) app (before (shown_by expected)) visit)
made_as app before after visit answer expected shown p =
    subst
    (λ (l : List ℕ). answer ≡ page_answer l (page (shown_by l) app (before (shown_by l)) visit))
    (labels_of answer p.labels expected (page (shown_by p.labels) app (before (shown_by p.labels)) visit) p.made shown)
    p.made
