-- Statements that write nothing.
use Rattle.std.specs.Prelude.{Bool, true, false, ◌&&◌}
use Rattle.jac_lang.specs.Syntax.{Statement, Statements}

abbrev mutual
  -- Whether the statement contains no create, update or delete.
  pub is_reading : Statement → Bool
  is_reading (Statement.put e) = true
  is_reading (Statement.escape e) = true
  is_reading (Statement.bind x e body) = are_reading body
  is_reading (Statement.assign x e) = true
  is_reading (Statement.branch c first second) = are_reading first && are_reading second
  is_reading (Statement.each q body) = are_reading body
  is_reading (Statement.create x m site cells body) = false
  is_reading (Statement.update m e cells) = false
  is_reading (Statement.delete m e) = false
  is_reading Statement.missing = true
  is_reading (Statement.redirect e) = true
  is_reading (Statement.template t) = true
  is_reading (Statement.block body) = are_reading body

  pub are_reading : Statements → Bool
  are_reading Statements.none = true
  are_reading (Statements.more s rest) = is_reading s && are_reading rest
