-- The syntax of the language, as plain data without pointers.
use Rattle.std.specs.Prelude.{ℕ, ℤ, Bool, true, false, List, Option}
use Rattle.jac_lang.specs.declared.expressions.Op.{Op}
use Rattle.jac_lang.specs.declared.field_kinds.Field.{Field}
use Rattle.jac_lang.specs.declared.queries.Binder.{Binder}
use Rattle.jac_lang.specs.declared.queries.Order.{Order}
use Rattle.jac_lang.specs.declared.pages.Verb.{Verb}

mutual
  -- An expression. A query inside it is given by its binders, its condition and its order.
  pub data Expression : Type 0 where
    int : ℤ → Expression
    text : List ℕ → Expression
    bool : Bool → Expression
    none_of : List ℕ → Expression
    name : List ℕ → Expression
    this : Expression
    viewer : Expression
    get : List ℕ → List ℕ → Expression → Expression
    live : Expression → Expression
    two : Op → Expression → Expression → Expression
    negated : Expression → Expression
    cat : Expressions → Expression
    str : Expression → Expression
    pick : Expression → Expression → Expression → Expression
    count : List Binder → Expression → Order → Expression
    sum : List Binder → Expression → Order → Expression → Expression
    any_of : List Binder → Expression → Order → Expression
    first : List Binder → Expression → Order → Expression

  -- The parts of a `cat`.
  pub data Expressions : Type 0 where
    none : Expressions
    more : Expression → Expressions → Expressions

-- A query.
pub record Question : Type 0 where
  pub binders : List Binder
  pub cond : Expression
  pub order : Order

-- A field, and the expression for its value.
pub record Assigned : Type 0 where
  pub field : List ℕ
  pub value : Expression

mutual
  -- A statement.
  pub data Statement : Type 0 where
    put : Expression → Statement
    escape : Expression → Statement
    bind : List ℕ → Expression → Statements → Statement
    assign : List ℕ → Expression → Statement
    branch : Expression → Statements → Statements → Statement
    each : Question → Statements → Statement
    create : List ℕ → List ℕ → ℕ → List Assigned → Statements → Statement
    update : List ℕ → Expression → List Assigned → Statement
    delete : List ℕ → Expression → Statement
    missing : Statement
    redirect : Expression → Statement
    template : List ℕ → Statement
    block : Statements → Statement

  -- Statements, one after another.
  pub data Statements : Type 0 where
    none : Statements
    more : Statement → Statements → Statements

-- The fields that one policy guards, each with its public value. If `hides` is set, the policy
-- hides the whole record.
pub record FieldGroup : Type 0 where
  pub guards : List Assigned
  pub hides : Bool
  pub policy : Expression

-- A model. Records of a nested model are created in loops.
pub record Entity : Type 0 where
  pub name : List ℕ
  pub nested : Bool
  pub fields : List Field
  pub groups : List FieldGroup

-- A view.
pub record Page : Type 0 where
  pub method : Verb
  pub path : List ℕ
  pub params : List Field
  pub body : Statements

-- An application.
pub record Application : Type 0 where
  pub viewer : Option (List ℕ)
  pub models : List Entity
  pub views : List Page

-- The expression is `this`.
abbrev pub is_this : Expression → Bool
is_this Expression.this = true
is_this e = false
