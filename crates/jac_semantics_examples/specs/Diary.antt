-- A diary with guarded fields, hidden records, and records that are made in a loop.
use Rattle.std.specs.Prelude.{ℕ, Bool, true, false, if◌then◌else◌, List, [], ◌∷◌, Option, Some, None, codes}
use Rattle.jac_value.specs.declared.value.Value.TheVariants as value
use Rattle.jac_world.specs.World.{shown_by}
use Rattle.jac_lang.specs.declared.field_kinds.KindName.TheVariants as kinds
use Rattle.jac_lang.specs.Syntax.{Entity, Expression, Statement, FieldGroup, Application}
use Rattle.jac_rows.specs.declared.plain.PlainRow.{PlainRow}
use Rattle.jac_rows.specs.declared.plain.PlainState.{PlainState}
use Rattle.jac_rows.specs.Tables.{rows_of}
use Rattle.jac_plain.specs.Requests.{body_of}
use Rattle.jac_plain.specs.Statements.{Setting, Run, leaves_all}
use Rattle.jac_semantics_examples.specs.Terms.{word, the, eq, and_also, or_also, cat_of, a_field, sets, steps}
use Rattle.jac_semantics_examples.specs.Library.{entity_user, row, begun_with, names_value}

-- Its records are made in a loop.
abbrev pub entity_invite : Entity
entity_invite = record {
  name = codes "Invite";
  nested = true;
  fields = a_field (codes "to") (kinds.Ref (codes "User")) ∷ [];
  groups = [];
}

-- The title is for the host, and for everybody if the event is open.
abbrev pub title_group : FieldGroup
title_group = record {
  guards = sets (codes "title") (word (codes "private")) ∷ [];
  hides = false;
  policy = or_also (Expression.get (codes "Event") (codes "open") Expression.this)
      (eq (Expression.get (codes "Event") (codes "host") Expression.this) Expression.viewer);
}

-- The place is for everybody who is logged in.
abbrev pub place_group : FieldGroup
place_group = record {
  guards = sets (codes "place") (cat_of (word (codes "with ") ∷ Expression.str
      (Expression.get (codes "Event") (codes "host") Expression.this) ∷ [])) ∷ [];
  hides = false;
  policy = Expression.live Expression.viewer;
}

abbrev pub entity_event : Entity
entity_event = record {
  name = codes "Event";
  nested = false;
  fields = a_field (codes "title") kinds.Text ∷ a_field (codes "host") (kinds.Ref (codes "User"))
      ∷ a_field (codes "open") kinds.Bool ∷ a_field (codes "place") kinds.Text ∷ [];
  groups = title_group ∷ place_group ∷ [];
}

-- Only the owner sees an entry.
abbrev pub entry_group : FieldGroup
entry_group = record {
  guards = [];
  hides = true;
  policy = and_also (Expression.live Expression.viewer)
      (eq (Expression.get (codes "Entry") (codes "owner") Expression.this) Expression.viewer);
}

abbrev pub entity_entry : Entity
entity_entry = record {
  name = codes "Entry";
  nested = false;
  fields = a_field (codes "words") kinds.Text
      ∷ a_field (codes "owner") (kinds.Ref (codes "User")) ∷ [];
  groups = entry_group ∷ [];
}

abbrev pub diary_models : List Entity
diary_models = entity_user ∷ entity_invite ∷ entity_event ∷ entity_entry ∷ []

abbrev pub diary_app : Application
diary_app = record { viewer = Some (codes "User"); models = diary_models; views = [] }

abbrev pub couple : List PlainRow
couple = row 4096 (value.Text (codes "Ann") ∷ []) ∷ row 4160 (value.Text (codes "Bob") ∷ []) ∷ []

abbrev pub bare_diary : List (List PlainRow)
bare_diary = couple ∷ [] ∷ [] ∷ [] ∷ []

-- An event of Ann's with this title, host and place, open or not.
abbrev pub event_row : List ℕ → Option ℕ → Bool → List ℕ → PlainRow
event_row title host is_open place = row 8194 (value.Text title ∷ value.Ref host
    ∷ value.Bool is_open ∷ value.Text place ∷ [])

abbrev pub dentist : PlainRow
dentist = event_row (codes "dentist") (Some 4096) false (codes "clinic")

abbrev pub diary_with : PlainRow → PlainState
diary_with event = record { tables = couple ∷ [] ∷ (event ∷ []) ∷ [] ∷ []; number = 3 }

-- Notes with guarded words. Other viewers see the number of the record instead.
abbrev pub numbered_models : List Entity
numbered_models = record {
  name = codes "Note";
  nested = false;
  fields = a_field (codes "words") kinds.Text ∷ [];
  groups = record {
    guards = sets (codes "words") (Expression.str Expression.this) ∷ [];
    hides = false;
    policy = Expression.bool false;
  } ∷ [];
} ∷ []

-- A request of Ann's with this number, under these labels.
abbrev pub asked_for : List ℕ → ℕ → Setting
asked_for labels number = record {
  models = diary_models;
  shown = shown_by labels;
  viewer = Some 4096;
  number = number;
  around = None;
}

-- The events after these statements, with `e` bound to the event of the second request.
abbrev pub events_left : List ℕ → List Statement → List (List PlainRow) → List PlainRow
events_left labels ss tables = rows_of (leaves_all (asked_for labels 2) (steps ss)
    (begun_with (names_value (codes "e") (value.Ref (Some 8194)) ∷ []) tables)).tables 2

-- What statements of the request with this number leave if there is no event.
abbrev pub leaves_diary : List ℕ → ℕ → List Statement → Run
leaves_diary labels number ss =
    leaves_all (asked_for labels number) (steps ss) (begun_with [] bare_diary)

abbrev pub diary_puts : ℕ → List Statement → List ℕ
diary_puts number ss = body_of (leaves_diary [] number ss).pieces

-- A create for a visit to the dentist.
abbrev pub make_dentist : Statement
make_dentist = Statement.create (codes "d") (codes "Event") 0
    (sets (codes "title") (word (codes "dentist")) ∷ sets (codes "host") Expression.viewer
    ∷ sets (codes "place") (word (codes "clinic")) ∷ []) (steps [])

-- An event of this site, with these statements inside.
abbrev pub makes_event : ℕ → List Statement → Statement
makes_event site ss = Statement.create (codes "d") (codes "Event") site [] (steps ss)

-- A create for an invitation.
abbrev pub makes_invite : Statement
makes_invite = Statement.create (codes "i") (codes "Invite") 0
    (sets (codes "to") (the (codes "u")) ∷ []) (steps [])

abbrev pub make_entry : Statement
make_entry = Statement.create (codes "n") (codes "Entry") 1
    (sets (codes "words") (word (codes "hm")) ∷ sets (codes "owner") Expression.viewer ∷ [])
    (steps (Statement.put (the (codes "n")) ∷ []))

-- The diary with an entry of this owner.
abbrev pub entry_state : Option ℕ → PlainState
entry_state owner = record {
  tables = couple ∷ [] ∷ [] ∷ (row 8259 (value.Text (codes "hm") ∷ value.Ref owner ∷ []) ∷ []) ∷ [];
  number = 3;
}

-- The diary with an event of Ann's at the dentist, as an assignment shows it.
abbrev pub guarded_diary : (ℕ → Bool) → PlainState
guarded_diary w = diary_with (event_row (if w 65552 then codes "dentist" else codes "private")
    (Some 4096) false (if w 65553 then codes "clinic" else codes "with 4096"))
