-- The labels that a viewer is shown, and the worlds of a state.
use Rattle.std.specs.Prelude.{ℕ, List, Option}
use Rattle.jac_lang.specs.Mirror.{application_of}
use Rattle.jac_lang.specs.Syntax.{Application}
use Rattle.jac_rows.specs.declared.state.State.{State}
use Rattle.jac_plain.specs.Requests.{Worlds}
use Rattle.jac_why.specs.declared.viewer_context.ViewerContext.{ViewerContext}
use Rattle.jac_plain.specs.Shown.{worlds_of}

pub record PlainContext : Type 0 where
  pub app : Application
  pub worlds : Worlds
  pub viewer : Option ℕ
  pub labels : List ℕ

abbrev pub context_on : State → ViewerContext → PlainContext
context_on s context = record {
  app = application_of context.app.now;
  worlds = worlds_of s;
  viewer = context.viewer;
  labels = context.labels.now;
}
