-- Where a view may create a record: outside of loops, or in one loop over one binder.
use Rattle.std.specs.Prelude.{Bool, true, false, not, ◌&&◌, List, [], ◌∷◌}
use Rattle.jac_lang.specs.declared.queries.Binder.{Binder}
use Rattle.jac_lang.specs.Lookup.{is_nested_named}
use Rattle.jac_lang.specs.Syntax.{Entity, Statement, Statements}

-- The loops around a statement: none, one, or several. `one` says whether a nested record may be
-- created for each tuple of the loop's query.
pub data Loops : Type 0 where
  none : Loops
  one : Bool → Loops
  several : Loops

-- Whether there is one binder, and its model isn't nested.
abbrev pub is_flat : List Entity → List Binder → Bool
is_flat models [] = false
is_flat models (b ∷ []) = not (is_nested_named models b.model)
is_flat models (b ∷ (c ∷ bs)) = false

-- The loops around the body of a `for` over these binders.
abbrev pub behind_for : List Entity → List Binder → Loops → Loops
behind_for models bs Loops.none = Loops.one (is_flat models bs)
behind_for models bs (Loops.one flat) = Loops.several
behind_for models bs Loops.several = Loops.several

-- A record of a model that isn't nested is created outside of loops. A record of a nested model is
-- created in one loop, which must be flat.
abbrev pub may_create : Bool → Loops → Bool
may_create false Loops.none = true
may_create false (Loops.one flat) = false
may_create false Loops.several = false
may_create true Loops.none = false
may_create true (Loops.one flat) = flat
may_create true Loops.several = false

abbrev mutual
  -- Each `create` of the statement is where it may be.
  pub is_placed : List Entity → Loops → Statement → Bool
  is_placed models loops (Statement.put e) = true
  is_placed models loops (Statement.escape e) = true
  is_placed models loops (Statement.bind x e body) = are_placed models loops body
  is_placed models loops (Statement.assign x e) = true
  is_placed models loops (Statement.branch c first second) = are_placed models loops first &&
      are_placed models loops second
  is_placed models loops (Statement.each q body) = are_placed models (behind_for models q.binders
      loops) body
  is_placed models loops (Statement.create x m site cells body) =
      may_create (is_nested_named models m) loops && are_placed models loops body
  is_placed models loops (Statement.update m e cells) = true
  is_placed models loops (Statement.delete m e) = true
  is_placed models loops Statement.missing = true
  is_placed models loops (Statement.redirect e) = true
  is_placed models loops (Statement.template t) = true
  is_placed models loops (Statement.block body) = are_placed models loops body

  pub are_placed : List Entity → Loops → Statements → Bool
  are_placed models loops Statements.none = true
  are_placed models loops (Statements.more s rest) = is_placed models loops s && are_placed models
      loops rest
