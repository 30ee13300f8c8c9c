use Rattle.std.proofs.Common.{◌≡◌, ℕ, List, Option, map, drop}
use Rattle.jac_http.specs.Parts.{first_some, session_value, stripped_of_blanks}
use Rattle.jac_http.proofs.values.session_among.Given as goal

abbrev pub invariant-pieces : goal.invariant-pieces
invariant-pieces l =
    let value : List ℕ → Option (List ℕ) = λ piece. session_value (stripped_of_blanks piece) in
    first_some value (map (λ v. v.now) (drop l.piece-index l.pieces)) ≡ first_some value (map (λ v. v.now) l.pieces)
