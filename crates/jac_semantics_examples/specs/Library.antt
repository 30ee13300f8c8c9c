-- The library of docs/LANGUAGE.md, and what its view `/fill` stores.
use Rattle.std.specs.Prelude.{ℕ, pos, true, false, List, [], ◌∷◌, Some, None, codes}
use Rattle.jac_value.specs.declared.value.Value.{Value}
use Rattle.jac_value.specs.declared.value.Value.TheVariants as value
use Rattle.jac_lang.specs.declared.bindings.Binding.{Binding}
use Rattle.jac_lang.specs.declared.field_kinds.KindName.TheVariants as kinds
use Rattle.jac_lang.specs.declared.pages.Verb.TheVariants as verbs
use Rattle.jac_lang.specs.declared.queries.Order.TheVariants as orders
use Rattle.jac_lang.specs.Syntax.{Entity, Expression, Question, Statement, Page, Application}
use Rattle.jac_rows.specs.declared.plain.PlainRow.{PlainRow}
use Rattle.jac_rows.specs.declared.plain.PlainState.{PlainState}
use Rattle.jac_rows.specs.Tables.{rows_of}
use Rattle.jac_plain.specs.World.{World}
use Rattle.jac_plain.specs.Expressions.{mean, answers}
use Rattle.jac_plain.specs.Statements.{Setting, Run, leaves_all}
use Rattle.jac_plain.specs.Requests.{Visit, body_of}
use Rattle.jac_semantics_examples.specs.Terms.{word, num, truth, sole, a_field, sets, steps}

abbrev pub entity_user : Entity
entity_user = record {
  name = codes "User";
  nested = false;
  fields = a_field (codes "name") kinds.Text ∷ [];
  groups = [];
}

abbrev pub entity_reader : Entity
entity_reader = record {
  name = codes "Reader";
  nested = false;
  fields = a_field (codes "name") kinds.Text ∷ [];
  groups = [];
}

abbrev pub entity_book : Entity
entity_book = record {
  name = codes "Book";
  nested = false;
  fields = a_field (codes "title") kinds.Text ∷ a_field (codes "cents") kinds.Int ∷ [];
  groups = [];
}

abbrev pub entity_loan : Entity
entity_loan = record {
  name = codes "Loan";
  nested = false;
  fields = a_field (codes "book") (kinds.Ref (codes "Book"))
      ∷ a_field (codes "reader") (kinds.Ref (codes "Reader")) ∷ [];
  groups = [];
}

abbrev pub library_models : List Entity
library_models = entity_user ∷ entity_reader ∷ entity_book ∷ entity_loan ∷ []

-- The record of a model that was made first.
abbrev pub first_made : List ℕ → Expression
first_made m = Expression.first (sole (codes "x") m) (truth true) orders.Key

abbrev pub fill_steps : List Statement
fill_steps =
    Statement.create (codes "ann") (codes "User") 0 (sets (codes "name") (word (codes "Ann")) ∷ [])
    (steps (Statement.create (codes "bea") (codes "Reader") 1
    (sets (codes "name") (word (codes "Bea")) ∷ [])
    (steps (Statement.create (codes "ada") (codes "Reader") 2
    (sets (codes "name") (word (codes "Ada")) ∷ [])
    (steps (Statement.create (codes "emma") (codes "Book") 3
    (sets (codes "title") (word (codes "Emma")) ∷ sets (codes "cents") (num 900) ∷ [])
    (steps (Statement.create (codes "odyssey") (codes "Book") 4
    (sets (codes "title") (word (codes "Odyssey")) ∷ sets (codes "cents") (num 2500) ∷ [])
    (steps (Statement.create (codes "loan") (codes "Loan") 5
    (sets (codes "book") (first_made (codes "Book"))
    ∷ sets (codes "reader") (first_made (codes "Reader")) ∷ [])
    (steps []) ∷ [])) ∷ [])) ∷ [])) ∷ [])) ∷ [])) ∷ []

abbrev pub fill_view : Page
fill_view = record {
  method = verbs.Post;
  path = codes "/fill";
  params = [];
  body = steps fill_steps;
}

-- A view that shows how many books there are, and a view that says that there is nothing.
abbrev pub books_view : Page
books_view = record {
  method = verbs.Get;
  path = codes "/books";
  params = [];
  body = steps (Statement.put
      (Expression.count (sole (codes "b") (codes "Book")) (truth true) orders.Key) ∷ []);
}

abbrev pub gone_view : Page
gone_view = record {
  method = verbs.Get;
  path = codes "/gone";
  params = [];
  body = steps (Statement.missing ∷ Statement.put (word (codes "gone")) ∷ []);
}

-- A view that shows its parameter and the viewer's id.
abbrev pub word_view : Page
word_view = record {
  method = verbs.Get;
  path = codes "/word";
  params = a_field (codes "w") kinds.Text ∷ [];
  body = steps (Statement.put (Expression.name (codes "w")) ∷ Statement.put Expression.viewer ∷ []);
}

abbrev pub library_app : Application
library_app = record {
  viewer = Some (codes "User");
  models = library_models;
  views = fill_view ∷ books_view ∷ gone_view ∷ word_view ∷ [];
}

abbrev pub row : ℕ → List Value → PlainRow
row id cells = record { id = id; cells = cells }

abbrev pub users : List PlainRow
users = row 4096 (value.Text (codes "Ann") ∷ []) ∷ []

abbrev pub readers : List PlainRow
readers = row 4161 (value.Text (codes "Bea") ∷ []) ∷ row 4225 (value.Text (codes "Ada") ∷ []) ∷ []

abbrev pub emma : PlainRow
emma = row 4290 (value.Text (codes "Emma") ∷ value.Int (pos 900) ∷ [])

abbrev pub odyssey : PlainRow
odyssey = row 4354 (value.Text (codes "Odyssey") ∷ value.Int (pos 2500) ∷ [])

abbrev pub loans : List PlainRow
loans = row 4419 (value.Ref (Some 4290) ∷ value.Ref (Some 4161) ∷ []) ∷ []

-- What `/fill` stores. The first request makes the records 64 * (64 + place) + model.
abbrev pub library_tables : List (List PlainRow)
library_tables = users ∷ readers ∷ (emma ∷ odyssey ∷ []) ∷ loans ∷ []

abbrev pub empty_library : PlainState
empty_library = record { tables = [] ∷ [] ∷ [] ∷ [] ∷ []; number = 1 }

abbrev pub library_state : PlainState
library_state = record { tables = library_tables; number = 2 }

-- The library, with Ann as the viewer.
abbrev pub library : World
library = record {
  models = library_models;
  this = None;
  viewer = Some 4096;
  tables = library_tables;
}

-- The value of an expression in the library, with these bindings or with none.
abbrev pub bound_there : List Binding → Expression → Value
bound_there env e = mean library e env

abbrev pub in_library : Expression → Value
in_library e = mean library e []

-- The answers of a query in the library.
abbrev pub found_there : Question → List (List ℕ)
found_there q = answers library q []

-- Binds the name to the value.
abbrev pub names_value : List ℕ → Value → Binding
names_value x v = record { name = x; bound_to = v }

-- A request of Ann's with this number.
abbrev pub asked_by_ann : ℕ → Setting
asked_by_ann number = record {
  models = library_models;
  shown = λ k. false;
  viewer = Some 4096;
  number = number;
  around = None;
}

abbrev pub begun_with : List Binding → List (List PlainRow) → Run
begun_with env tables = record { tables = tables; env = env; pieces = [] }

-- What statements of the second request leave of the library.
abbrev pub leaves_library : List Statement → Run
leaves_library ss = leaves_all (asked_by_ann 2) (steps ss) (begun_with [] library_tables)

-- What these statements put on the page.
abbrev pub puts : List Statement → List ℕ
puts ss = body_of (leaves_library ss).pieces

-- The books after these statements.
abbrev pub books_left : List Statement → List PlainRow
books_left ss = rows_of (leaves_library ss).tables 2

abbrev pub visit_by_ann : ℕ → Visit
visit_by_ann view = record { view = view; env = []; viewer = Some 4096 }
