-- One statement of each form, and statements that contain another one.
use Rattle.std.specs.Prelude.{ℕ, List, [], ◌∷◌, true, codes}
use Rattle.jac_lang.specs.declared.queries.Order.TheVariants as orders
use Rattle.jac_lang.specs.Syntax.{Statement}
use Rattle.jac_semantics_examples.specs.Terms.{num, word, truth, sole, asks, steps}

-- One statement of each form, in the order of `Statement`.
abbrev pub all_forms : List Statement
all_forms = Statement.put (num 1) ∷ Statement.escape (num 1)
    ∷ Statement.bind (codes "x") (num 1) (steps []) ∷ Statement.assign (codes "x") (num 1)
    ∷ Statement.branch (truth true) (steps []) (steps [])
    ∷ Statement.each (asks (sole (codes "b") (codes "Book")) (truth true) orders.Key) (steps [])
    ∷ Statement.create (codes "b") (codes "Book") 0 [] (steps [])
    ∷ Statement.update (codes "Book") (num 1) [] ∷ Statement.delete (codes "Book") (num 1)
    ∷ Statement.missing ∷ Statement.redirect (word (codes "/"))
    ∷ Statement.template (codes "a") ∷ Statement.block (steps []) ∷ []

-- The statement inside others: a `let`, both sides of an `if`, a `for` and a block.
abbrev pub inside_others : Statement → List Statement
inside_others s = Statement.bind (codes "x") (num 1) (steps (s ∷ []))
    ∷ Statement.branch (truth true) (steps (s ∷ [])) (steps [])
    ∷ Statement.branch (truth true) (steps []) (steps (s ∷ []))
    ∷ Statement.each (asks (sole (codes "b") (codes "Book")) (truth true) orders.Key)
    (steps (s ∷ []))
    ∷ Statement.block (steps (s ∷ [])) ∷ []

-- A create at this site.
abbrev pub siting : ℕ → Statement
siting site = Statement.create (codes "b") (codes "Book") site [] (steps [])
