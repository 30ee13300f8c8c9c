use Rattle.std.proofs.Common.{◌∙◌, ap, Bool, if◌then◌else◌}
use Rattle.jac_rows.specs.Project.{project_at}
use Rattle.jac_headline.proofs.laws.update_leaves_others.Goals as goal

pub returns : goal.returns
returns c step pc old new n writes sound w not =
    (writes n sound).left w ∙ ap (λ (b : Bool). if b then step w (project_at w old).tables else (project_at w old).tables) not
