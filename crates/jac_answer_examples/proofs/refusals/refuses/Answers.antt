use Rattle.std.proofs.Common.{ap, refl, sym, ◌==◌, false, true≢false, [], Some, None, codes, is_some}
use Rattle.jac_replies.specs.declared.answer.Answer.{Answer}
use Rattle.jac_replies.specs.Refused.{refusal}
use Rattle.jac_semantics_examples.specs.Diary.{guarded_diary}
use Rattle.jac_answer_examples.specs.Served.{asks_path, asks_of_event, shows}
use Rattle.jac_answer_examples.proofs.Finding.{event_put, events_get, away_get, place_post, answers, answered}
use Rattle.jac_answer_examples.proofs.refusals.refuses.Goals as goal

pub returns-clause-no_view : goal.returns-clause-no_view
returns-clause-no_view c =
    answers false guarded_diary (asks_path None (codes "GET") (codes "/events")) (refusal 404 None) _ events_get
    refl

pub returns-clause-both : goal.returns-clause-both
returns-clause-both c =
    answers false guarded_diary (asks_of_event None (codes "PUT")) (refusal 405 (Some (codes "GET, HEAD, POST"))) _ event_put
    refl

pub returns-clause-gets_alone : goal.returns-clause-gets_alone
returns-clause-gets_alone c =
    answers false guarded_diary (asks_path None (codes "POST") (codes "/places/8194")) (refusal 405 (Some (codes "GET, HEAD"))) _ place_post
    refl

pub returns-clause-posts_alone : goal.returns-clause-posts_alone
returns-clause-posts_alone c =
    answers false guarded_diary (asks_path None (codes "GET") (codes "/away")) (refusal 405 (Some (codes "POST"))) _ away_get
    refl

pub returns-clause-page : goal.returns-clause-page
returns-clause-page c answer =
    let h = answered false guarded_diary (asks_path None (codes "GET") (codes "/events")) (shows [] []) _ events_get answer in
    true≢false (ap (λ (a : Answer). a.status == 200) h)

pub returns-clause-no_method : goal.returns-clause-no_method
returns-clause-no_method c answer =
    let h = answered false guarded_diary (asks_of_event None (codes "PUT")) (refusal 404 None) _ event_put answer in
    true≢false (ap (λ (a : Answer). a.status == 404) h)

pub returns-clause-allows_nothing : goal.returns-clause-allows_nothing
returns-clause-allows_nothing c answer =
    let h = answered false guarded_diary (asks_of_event None (codes "PUT")) (refusal 405 None) _ event_put answer in
    true≢false (sym (ap (λ (a : Answer). is_some a.allow) h))
