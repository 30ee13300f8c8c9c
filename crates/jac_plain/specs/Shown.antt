-- The world and the bindings that an assignment shows.
use Rattle.std.specs.Prelude.{ℕ, Bool, List}
use Rattle.jac_lang.specs.declared.application.App.{App}
use Rattle.jac_lang.specs.Mirror.{application_of}
use Rattle.jac_rows.specs.Project.{project_at}
use Rattle.jac_rows.specs.declared.state.State.{State}
use Rattle.jac_plain.specs.declared.context.Ctx.{Ctx}
use Rattle.jac_plain.specs.Requests.{Worlds}
use Rattle.jac_plain.specs.Statements.{Setting, loop_of}
use Rattle.jac_plain.specs.World.{World}

-- The world in which an expression is evaluated under an assignment.
abbrev pub world_at : App → Ctx → State → (ℕ → Bool) → World
world_at app ctx s w =
    record {
      models = (application_of app).models;
      this = ctx.this;
      viewer = ctx.viewer;
      tables = (project_at w s).tables;
    }

-- What stays the same while statements run.
abbrev pub setting_at : App → Ctx → (ℕ → Bool) → Setting
setting_at app ctx w = record {
  models = (application_of app).models;
  shown = w;
  viewer = ctx.viewer;
  number = ctx.number;
  around = ctx.around;
}

-- The same for the body of a loop, for one of the query's answers.
abbrev pub setting_around : App → Ctx → List ℕ → (ℕ → Bool) → Setting
setting_around app ctx ids w = record (setting_at app ctx w) { around = loop_of ids }

-- The worlds of a faceted state.
abbrev pub worlds_of : State → Worlds
worlds_of s w = project_at w s
