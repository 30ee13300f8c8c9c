use Rattle.std.proofs.Common.{refl, ap, ◌==◌, false, true≢false, [], ◌∷◌, Some, None, codes, is_some}
use Rattle.std.specs.Str.{bytes_eq}
use Rattle.jac_replies.specs.declared.answer.Answer.{Answer}
use Rattle.jac_semantics_examples.specs.Diary.{guarded_diary}
use Rattle.jac_semantics_examples.proofs.Diaries.{host_settled, guest_settled, nobody_settled, guest_lacks_place, guest_without_title}
use Rattle.jac_replies.specs.Refused.{refusal}
use Rattle.jac_answer_examples.specs.Served.{asks_of_event, shows, shows_lazily}
use Rattle.jac_answer_examples.proofs.Settling.{served, unserved, settled_as, made_as}
use Rattle.jac_answer_examples.proofs.Finding.{event_get, event_head, answered, answers}
use Rattle.jac_answer_examples.proofs.gets.answers_gets.Goals as goal

pub returns-clause-host : goal.returns-clause-host
returns-clause-host c =
    answers false guarded_diary (asks_of_event (Some 4096) (codes "GET")) (shows (65552 ∷ 65553 ∷ []) (codes "dentist at clinic")) _ event_get
    (record { labels = 65552 ∷ 65553 ∷ []; made = refl; settled = served guarded_diary 3 (Some 4096) (65552 ∷ 65553 ∷ []) host_settled })

pub returns-clause-guest : goal.returns-clause-guest
returns-clause-guest c =
    answers false guarded_diary (asks_of_event (Some 4160) (codes "GET")) (shows (65553 ∷ []) (codes "private at clinic")) _ event_get
    (record { labels = 65553 ∷ []; made = refl; settled = served guarded_diary 3 (Some 4160) (65553 ∷ []) guest_settled })

pub returns-clause-nobody : goal.returns-clause-nobody
returns-clause-nobody c =
    answers false guarded_diary (asks_of_event None (codes "GET")) (shows [] (codes "private at with 4096")) _ event_get
    (record { labels = []; made = refl; settled = served guarded_diary 3 None [] nobody_settled })

pub returns-clause-head : goal.returns-clause-head
returns-clause-head c =
    answers false guarded_diary (asks_of_event (Some 4160) (codes "HEAD")) (shows (65553 ∷ []) (codes "private at clinic")) _ event_head
    (record { labels = 65553 ∷ []; made = refl; settled = served guarded_diary 3 (Some 4160) (65553 ∷ []) guest_settled })

pub returns-clause-forbidden : goal.returns-clause-forbidden
returns-clause-forbidden c answer =
    let p = answered false guarded_diary (asks_of_event (Some 4160) (codes "GET")) (shows (65552 ∷ 65553 ∷ []) (codes "dentist at clinic")) _ event_get answer in
    guest_without_title (unserved guarded_diary 3 (Some 4160) (65552 ∷ 65553 ∷ []) (settled_as _ _ _ _ _ (65552 ∷ 65553 ∷ []) refl p))

pub returns-clause-lacking : goal.returns-clause-lacking
returns-clause-lacking c answer =
    let p = answered false guarded_diary (asks_of_event (Some 4160) (codes "GET")) (shows [] (codes "private at with 4096")) _ event_get answer in
    guest_lacks_place (unserved guarded_diary 3 (Some 4160) [] (settled_as _ _ _ _ _ [] refl p))

pub returns-clause-other_page : goal.returns-clause-other_page
returns-clause-other_page c answer =
    let p = answered false guarded_diary (asks_of_event (Some 4160) (codes "GET")) (shows (65553 ∷ []) (codes "dentist at clinic")) _ event_get answer in
    true≢false (ap (λ (a : Answer). bytes_eq a.body (codes "dentist at clinic")) (made_as _ _ _ _ _ (65553 ∷ []) refl p))

pub returns-clause-consulted : goal.returns-clause-consulted
returns-clause-consulted c answer =
    let p = answered false guarded_diary (asks_of_event (Some 4160) (codes "GET")) (shows_lazily (65553 ∷ []) (65552 ∷ 65553 ∷ []) (codes "private at clinic")) _ event_get answer in
    true≢false (ap (λ (a : Answer). is_some a.consulted) p.made)

pub returns-clause-refused : goal.returns-clause-refused
returns-clause-refused c answer =
    let p = answered false guarded_diary (asks_of_event (Some 4160) (codes "GET")) (refusal 404 None) _ event_get answer in
    true≢false (ap (λ (a : Answer). a.status == 404) (p.made))
