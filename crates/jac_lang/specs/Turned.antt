-- Lists in reverse order, followed by other lists.
use Rattle.std.specs.Prelude.{List, [], ◌∷◌}
use Rattle.jac_lang.specs.Syntax.{Expressions, Statements}

-- The first list in reverse order, and then the second.
abbrev pub turned_round : {A : Type 0} → List A → List A → List A
turned_round [] out = out
turned_round (x ∷ xs) out = turned_round xs (x ∷ out)

-- The same for expressions.
abbrev pub turned_onto : Expressions → Expressions → Expressions
turned_onto Expressions.none out = out
turned_onto (Expressions.more e es) out = turned_onto es (Expressions.more e out)

-- The same for statements.
abbrev pub body_onto : Statements → Statements → Statements
body_onto Statements.none out = out
body_onto (Statements.more s ss) out = body_onto ss (Statements.more s out)
