-- Statements and applications without templates.
use Rattle.std.specs.Prelude.{◌&&◌, Bool, true, false, List, [], ◌∷◌}
use Rattle.jac_lang.specs.Syntax.{Statement, Statements, Page}

abbrev mutual
  -- The statement has no template.
  pub is_untemplated : Statement → Bool
  is_untemplated (Statement.bind x e body) = are_untemplated body
  is_untemplated (Statement.branch c first second) = are_untemplated first && are_untemplated second
  is_untemplated (Statement.each q body) = are_untemplated body
  is_untemplated (Statement.create x m site cells body) = are_untemplated body
  is_untemplated (Statement.template t) = false
  is_untemplated (Statement.block body) = are_untemplated body
  is_untemplated s = true

  pub are_untemplated : Statements → Bool
  are_untemplated Statements.none = true
  are_untemplated (Statements.more s rest) = is_untemplated s && are_untemplated rest

-- No view has a template.
abbrev pub are_untemplated_views : List Page → Bool
are_untemplated_views [] = true
are_untemplated_views (v ∷ vs) = are_untemplated v.body && are_untemplated_views vs
