use Rattle.std.proofs.Common.{ap, inl, inr, refl, ◌==◌, true, false, true≢false, [], ◌∷◌, Some, None, codes, arith}
use Rattle.jac_replies.specs.declared.answer.Answer.{Answer}
use Rattle.jac_semantics_examples.specs.Diary.{guarded_diary}
use Rattle.jac_semantics_examples.proofs.Diaries.{guest_settled}
use Rattle.jac_replies.specs.Refused.{refusal}
use Rattle.jac_answer_examples.specs.Served.{asks_path, asks_of_event, sends_to, shows, used_up_diary}
use Rattle.jac_answer_examples.proofs.Settling.{served, opened_settled, opened_lacks_title, settled_as}
use Rattle.jac_answer_examples.proofs.Finding.{event_post, away_post, answered, answers}
use Rattle.jac_answer_examples.proofs.posts.answers_posts.Goals as goal

pub returns-clause-opened : goal.returns-clause-opened
returns-clause-opened c =
    answers false guarded_diary (asks_of_event (Some 4160) (codes "POST")) (shows (65552 ∷ 65553 ∷ []) (codes "dentist")) _ event_post
    (inr (λ w. omega arith, record { labels = 65552 ∷ 65553 ∷ []; made = refl; settled = opened_settled }))

pub returns-clause-sent_on : goal.returns-clause-sent_on
returns-clause-sent_on c =
    answers false guarded_diary (asks_path (Some 4160) (codes "POST") (codes "/away")) (sends_to (65553 ∷ []) (codes "/events")) _ away_post
    (inr (λ w. omega arith, record { labels = 65553 ∷ []; made = refl; settled = served guarded_diary 4 (Some 4160) (65553 ∷ []) guest_settled }))

pub returns-clause-used_up : goal.returns-clause-used_up
returns-clause-used_up c =
    answers false used_up_diary (asks_of_event (Some 4160) (codes "POST")) (refusal 507 None) _ event_post
    (inl (refl, λ w. refl))

pub returns-clause-settled_before : goal.returns-clause-settled_before
returns-clause-settled_before c answer =
    let h = answered false guarded_diary (asks_of_event (Some 4160) (codes "POST")) (shows (65553 ∷ []) (codes "private")) _ event_post answer in
    elim h [
      | inl refused ↦ true≢false (ap (λ (a : Answer). a.status == 200) refused.0)
      | inr page ↦ opened_lacks_title (settled_as _ _ _ _ _ (65553 ∷ []) refl page.1)
    ]

pub returns-clause-not_used_up : goal.returns-clause-not_used_up
returns-clause-not_used_up c answer =
    let h = answered false guarded_diary (asks_of_event (Some 4160) (codes "POST")) (refusal 507 None) _ event_post answer in
    elim h [
      | inl refused ↦ let n = refused.1 (λ k. true) in omega (arith, n)
      | inr page ↦ true≢false (ap (λ (a : Answer). a.status == 507) page.1.made)
    ]

pub returns-clause-no_number : goal.returns-clause-no_number
returns-clause-no_number c answer =
    let h = answered false used_up_diary (asks_of_event (Some 4160) (codes "POST")) (shows (65552 ∷ 65553 ∷ []) (codes "dentist")) _ event_post answer in
    elim h [
      | inl refused ↦ true≢false (ap (λ (a : Answer). a.status == 200) refused.0)
      | inr page ↦ let n = page.0 (λ k. true) in omega (arith, n)
    ]
