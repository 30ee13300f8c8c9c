use Rattle.std.proofs.Common.{◌≡◌, ◌∙◌, ap, inr, refl, sym, true, false, true≢false, [], ◌∷◌, Some, None, codes, is_some, arith}
use Rattle.std.specs.Str.{bytes_eq}
use Rattle.jac_world.specs.World.{shown_by}
use Rattle.jac_plain.specs.Policies.{is_allowed, with_label}
use Rattle.jac_replies.specs.declared.answer.Answer.{Answer}
use Rattle.jac_semantics_examples.specs.Diary.{guarded_diary}
use Rattle.jac_semantics_examples.proofs.Diaries.{one_shown}
use Rattle.jac_answer_examples.specs.Served.{served_diary, asks_of_event, asks_of_place, shows, shows_lazily}
use Rattle.jac_answer_examples.proofs.Settling.{opened_settled}
use Rattle.jac_answer_examples.proofs.Steadying.{alike_itself, place_is_live, guest_steady, nobody_steady, guest_steady_of_both, steady_as, made_as}
use Rattle.jac_answer_examples.proofs.Finding.{event_get, event_post, place_get, answered, answers}
use Rattle.jac_answer_examples.proofs.lazily.answers_lazily.Goals as goal

pub returns-clause-place : goal.returns-clause-place
returns-clause-place c =
    answers true guarded_diary (asks_of_place (Some 4160)) (shows_lazily (65553 ∷ []) (65553 ∷ []) (codes "clinic")) _ place_get
    (record {
      labels = 65553 ∷ [];
      consulted = 65553 ∷ [];
      steady = guest_steady;
      made = λ w alike. let shown : true ≡ w 65553 = alike.each 65553 refl in rw (sym shown) refl;
    })

pub returns-clause-place_for_nobody : goal.returns-clause-place_for_nobody
returns-clause-place_for_nobody c =
    answers true guarded_diary (asks_of_place None) (shows_lazily [] (65553 ∷ []) (codes "with 4096")) _ place_get
    (record {
      labels = [];
      consulted = 65553 ∷ [];
      steady = nobody_steady;
      made = λ w alike. let hidden : false ≡ w 65553 = alike.each 65553 refl in rw (sym hidden) refl;
    })

pub returns-clause-event : goal.returns-clause-event
returns-clause-event c =
    answers true guarded_diary (asks_of_event (Some 4160) (codes "GET")) (shows_lazily (65553 ∷ []) (65552 ∷ 65553 ∷ []) (codes "private at clinic")) _ event_get
    (record {
      labels = 65553 ∷ [];
      consulted = 65552 ∷ 65553 ∷ [];
      steady = guest_steady_of_both;
      made = λ w alike.
          let shown : true ≡ w 65553 = alike.each 65553 refl in
          let hidden : false ≡ w 65552 = alike.each 65552 refl in
          rw (sym shown) (rw (sym hidden) refl);
    })

pub returns-clause-opened : goal.returns-clause-opened
returns-clause-opened c =
    answers true guarded_diary (asks_of_event (Some 4160) (codes "POST")) (shows (65552 ∷ 65553 ∷ []) (codes "dentist")) _ event_post
    (inr (λ w. omega arith, record { labels = 65552 ∷ 65553 ∷ []; made = refl; settled = opened_settled }))

pub returns-clause-not_lazily : goal.returns-clause-not_lazily
returns-clause-not_lazily c answer =
    let p = answered true guarded_diary (asks_of_place (Some 4160)) (shows (65553 ∷ []) (codes "clinic")) _ place_get answer in
    true≢false (sym (ap (λ (a : Answer). is_some a.consulted) (p.made (shown_by p.labels) (record { each = λ k s. refl }))))

-- Under all labels the page is another one.

pub returns-clause-none_consulted : goal.returns-clause-none_consulted
returns-clause-none_consulted c answer =
    let p = answered true guarded_diary (asks_of_place None) (shows_lazily [] [] (codes "with 4096")) _ place_get answer in
    true≢false
    (sym
    (ap (λ (a : Answer). bytes_eq a.body (codes "clinic"))
    (made_as _ _ _ _ [] [] refl refl p (λ k. true) (record { each = λ k s. absurd (let no : false ≡ true = s in cc) }))))

pub returns-clause-forbidden : goal.returns-clause-forbidden
returns-clause-forbidden c answer =
    let p = answered true guarded_diary (asks_of_event (Some 4160) (codes "GET")) (shows_lazily (65552 ∷ 65553 ∷ []) (65552 ∷ 65553 ∷ []) (codes "dentist at clinic")) _ event_get answer in
    let steady = steady_as _ _ _ _ (65552 ∷ 65553 ∷ []) (65552 ∷ 65553 ∷ []) refl refl p in
    let both = shown_by (65552 ∷ 65553 ∷ []) in
    true≢false (sym ((steady.allowed 65552 refl).each both (alike_itself (65552 ∷ 65553 ∷ []) both)))

-- The place's label can be added.

pub returns-clause-lacking : goal.returns-clause-lacking
returns-clause-lacking c answer =
    let p = answered true guarded_diary (asks_of_place (Some 4160)) (shows_lazily [] (65553 ∷ []) (codes "with 4096")) _ place_get answer in
    let steady = steady_as _ _ _ _ [] (65553 ∷ []) refl refl p in
    let f = steady.full 65553 place_is_live refl refl in
    let more = with_label 65553 (shown_by []) in
    true≢false
    (sym (one_shown (λ j. is_allowed served_diary (guarded_diary more) (Some 4160) j ≡ true) 65553 f.label refl f.is_shown)
    ∙ f.forbidden more (alike_itself (65553 ∷ []) more))
