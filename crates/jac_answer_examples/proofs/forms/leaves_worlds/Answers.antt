use Rattle.std.proofs.Common.{ap, [], ◌∷◌, Some, None, codes}
use Rattle.jac_route.specs.declared.lookup.Found.{Found}
use Rattle.jac_engine.specs.Answers.{left_by, is_stored_by, stores_by}
use Rattle.jac_semantics_examples.specs.Diary.{guarded_diary}
use Rattle.jac_answer_examples.specs.Served.{served_diary, asks_path, asks_of_event}
use Rattle.jac_answer_examples.proofs.Finding.{event_get, event_head, event_post, event_put, events_post, away_post}
use Rattle.jac_answer_examples.proofs.forms.leaves_worlds.Goals as goal

pub returns-clause-opened : goal.returns-clause-opened
returns-clause-opened c w = ap (λ (f : Found). left_by f w served_diary (asks_of_event (Some 4160) (codes "POST")) (Some (65552 ∷ 65553 ∷ [])) (guarded_diary w)) event_post

pub returns-clause-refused : goal.returns-clause-refused
returns-clause-refused c w = ap (λ (f : Found). left_by f w served_diary (asks_of_event (Some 4160) (codes "POST")) (None) (guarded_diary w)) event_post

pub returns-clause-read : goal.returns-clause-read
returns-clause-read c w = ap (λ (f : Found). left_by f w served_diary (asks_of_event None (codes "GET")) (Some []) (guarded_diary w)) event_get

pub returns-clause-no_view : goal.returns-clause-no_view
returns-clause-no_view c w = ap (λ (f : Found). left_by f w served_diary (asks_path None (codes "POST") (codes "/events")) (Some []) (guarded_diary w)) events_post

pub returns-clause-change : goal.returns-clause-change
returns-clause-change c = ap (λ (f : Found). is_stored_by f served_diary (Some (65552 ∷ []))) event_post

pub returns-clause-no_change : goal.returns-clause-no_change
returns-clause-no_change c = ap (λ (f : Found). is_stored_by f served_diary (None)) event_post

pub returns-clause-no_change_read : goal.returns-clause-no_change_read
returns-clause-no_change_read c = ap (λ (f : Found). is_stored_by f served_diary (Some [])) event_get

pub returns-clause-no_change_unknown : goal.returns-clause-no_change_unknown
returns-clause-no_change_unknown c = ap (λ (f : Found). is_stored_by f served_diary (Some [])) events_post

pub returns-clause-no_change_method : goal.returns-clause-no_change_method
returns-clause-no_change_method c = ap (λ (f : Found). is_stored_by f served_diary (Some [])) event_put

pub returns-clause-may_change : goal.returns-clause-may_change
returns-clause-may_change c = ap (λ (f : Found). stores_by f served_diary) away_post

pub returns-clause-may_read : goal.returns-clause-may_read
returns-clause-may_read c = ap (λ (f : Found). stores_by f served_diary) event_head

pub returns-clause-unknown : goal.returns-clause-unknown
returns-clause-unknown c = ap (λ (f : Found). stores_by f served_diary) events_post

pub returns-clause-no_method : goal.returns-clause-no_method
returns-clause-no_method c = ap (λ (f : Found). stores_by f served_diary) event_put
