-- Statements and the next site, as a loop gathers them.
use Rattle.std.proofs.Common.{ℕ, List}
use Rattle.jac_lang.specs.Syntax.{Statements}
use Rattle.jac_lang.specs.Turned.{body_onto}
use Rattle.jac_tree.specs.Plain.{PlainTrees}
use Rattle.jac_forms.specs.Reads.{Read, read_map}
use Rattle.jac_forms.specs.Statements.{Body, body, statements_in_trees}

-- The first statements in reverse order, and then those of the body.
abbrev pub body_onto_body : Statements → Body → Body
body_onto_body ss b = body b.next (body_onto ss b.statements)

-- The statements so far, which are in reverse order, and then those of these trees.
abbrev pub gathered : Statements → List ℕ → ℕ → PlainTrees → ℕ → Read Body
gathered back at k ts n = read_map (body_onto_body back) (statements_in_trees at k ts n)
