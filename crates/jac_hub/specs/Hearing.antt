-- How bytes and lines are read as requests.
use Rattle.std.specs.Prelude.{ℕ, Bool, Option, List}
use Rattle.jac_http.specs.declared.taken.Request.{Request}
use Rattle.jac_http.specs.declared.taken.Taken.{Taken}

-- The source of a request: an `ask` line or a connection.
pub data Source : Type 0 where
  asked : Source
  connection : ℕ → Source

-- What is answered. `whole` is a request, understood as an I, and whether it closes its connection.
-- `refused` is the status of a refusal. `broken` is a connection for which memory ran out.
pub data Subject (I : Type 0) : Type 0 where
  whole : I → Bool → Subject I
  refused : ℕ → Subject I
  broken : Subject I

-- A subject with its answer.
pub record Entry (I A : Type 0) : Type 0 where
  -- The place of its event among the events, from 0.
  pub place : ℕ
  pub source : Source
  pub subject : Subject I
  pub answer : A

pub record Hearing (I A : Type 0) : Type 1 where
  -- What is at the front of these bytes.
  pub reads : List ℕ → Taken → Type 0
  -- How the request of a connection is understood.
  pub wants : Request → I
  -- How the request of an `ask` line is understood: its viewer, method, path, query and body.
  pub asks : Option ℕ → List ℕ → List ℕ → List ℕ → List ℕ → I
  -- The answer closes its connection.
  pub ends : A → Bool
