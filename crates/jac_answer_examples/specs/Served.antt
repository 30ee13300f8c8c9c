-- The diary with views, requests to it, and their answers.
use Rattle.std.specs.Prelude.{ℕ, ◌^◌, Bool, true, if◌then◌else◌, List, [], ◌∷◌, Option, Some, None, codes}
use Rattle.jac_lang.specs.declared.field_kinds.KindName.TheVariants as kinds
use Rattle.jac_lang.specs.declared.pages.Verb.{Verb}
use Rattle.jac_lang.specs.declared.pages.Verb.TheVariants as verbs
use Rattle.jac_lang.specs.Syntax.{Expression, Statement, Page as View, Application}
use Rattle.jac_rows.specs.declared.plain.PlainState.{PlainState}
use Rattle.jac_replies.specs.declared.answer.Answer.{Answer}
use Rattle.jac_replies.specs.declared.answer.Ask.{Ask}
use Rattle.jac_semantics_examples.specs.Terms.{word, truth, the, a_field, sets, steps}
use Rattle.jac_semantics_examples.specs.Diary.{diary_app, diary_with, event_row, guarded_diary}

-- A field of the event that the request names.
abbrev pub of_event : List ℕ → Expression
of_event field = Expression.get (codes "Event") field (the (codes "e"))

-- A view of an event.
abbrev pub view_of_event : Verb → List ℕ → List Statement → View
view_of_event method path ss = record {
  method = method;
  path = path;
  params = a_field (codes "e") (kinds.Ref (codes "Event")) ∷ [];
  body = steps ss;
}

-- One view shows the event's title and place. The other shows its place alone.
abbrev pub event_view : View
event_view = view_of_event verbs.Get (codes "/events/{e}") (Statement.put (of_event (codes "title"))
    ∷ Statement.put (word (codes " at ")) ∷ Statement.put (of_event (codes "place")) ∷ [])

abbrev pub place_view : View
place_view = view_of_event verbs.Get (codes "/places/{e}")
    (Statement.put (of_event (codes "place")) ∷ [])

-- Opens the event for everybody, and shows its title.
abbrev pub open_view : View
open_view = view_of_event verbs.Post (codes "/events/{e}")
    (Statement.update (codes "Event") (the (codes "e")) (sets (codes "open") (truth true) ∷ [])
    ∷ Statement.put (of_event (codes "title")) ∷ [])

-- Redirects every viewer.
abbrev pub away_view : View
away_view = record {
  method = verbs.Post;
  path = codes "/away";
  params = [];
  body = steps (Statement.redirect (word (codes "/events")) ∷ []);
}

abbrev pub served_diary : Application
served_diary = record diary_app {
  views = event_view ∷ open_view ∷ place_view ∷ away_view ∷ [];
}

abbrev pub asks_path : Option ℕ → List ℕ → List ℕ → Ask
asks_path viewer method path = record { viewer = viewer; method = method; path = path; pairs = [] }

-- A request for the event with this method. Another parameter of the request has the same name and
-- another value.
abbrev pub asks_of_event : Option ℕ → List ℕ → Ask
asks_of_event viewer method = record (asks_path viewer method (codes "/events/8194")) {
  pairs = record { name = codes "e"; value = codes "4096" } ∷ [];
}

abbrev pub asks_of_place : Option ℕ → Ask
asks_of_place viewer = asks_path viewer (codes "GET") (codes "/places/8194")

-- A page with these labels and this text.
abbrev pub shows : List ℕ → List ℕ → Answer
shows labels body = record {
  status = 200;
  location = None;
  allow = None;
  body = body;
  shown = Some labels;
  consulted = None;
}

-- A page with these labels that redirects to this path.
abbrev pub sends_to : List ℕ → List ℕ → Answer
sends_to labels path = record (shows labels []) { status = 303; location = Some path }

-- A page for which these labels were consulted, and no others resolved.
abbrev pub shows_lazily : List ℕ → List ℕ → List ℕ → Answer
shows_lazily labels consulted body = record (shows labels body) { consulted = Some consulted }

-- The diary after one more request, which opened its event.
abbrev pub opened_diary : (ℕ → Bool) → PlainState
opened_diary w = record (diary_with (event_row
    (if w 65552 then codes "dentist" else codes "private") (Some 4096) true
    (if w 65553 then codes "clinic" else codes "with 4096"))) { number = 4 }

-- The diary after its numbers are used up.
abbrev pub used_up_diary : (ℕ → Bool) → PlainState
used_up_diary w = record (guarded_diary w) { number = 2 ^ 40 }
