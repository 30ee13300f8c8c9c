use Rattle.std.proofs.Common.{arith}
use Rattle.std.proofs.lemmas.Str.{IsUtf8-take}
use Rattle.jac_events.proofs.ask.path_and_query.Goals as goal

-- An ASCII byte begins a character.
pub returns-in-Some-clause-text : goal.returns-in-Some-clause-text
returns-in-Some-clause-text c = λ utf8. IsUtf8-take c.args.target.now c.in-Some.at utf8
    (omega (arith, c.in-Some.ensures.within), λ lt big. omega (arith, c.in-Some.ensures.found))
