-- Relations that hold over a sequence of steps if they hold for each step.
use Rattle.std.specs.Prelude.{⊤}

-- A reflexive and transitive relation.
pub record Preorder (A : Type 0) : Type 1 where
  pub holds : A → A → Type 0
  pub same : (a : A) → holds a a
  pub joined : (a b c : A) → holds a b → holds b c → holds a c

-- The relation that holds between any two values.
abbrev pub of_any : {A : Type 0} → Preorder A
of_any = record { holds = λ a b. ⊤; same = λ a. tt; joined = λ a b c one two. tt }
