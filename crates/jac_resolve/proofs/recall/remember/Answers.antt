use Rattle.jac_resolve.proofs.Underway.{grown_by, right_by}
use Rattle.jac_resolve.proofs.Room.{own_by}
use Rattle.jac_resolve.proofs.recall.remember.Goals as goal

pub returns-clause-right : goal.returns-clause-right
returns-clause-right c app worlds viewer before one =
    right_by c.args.answers.now c.put.new.self c.args.label c.args.known c.in_ok-put.ensures.watches c.in_ok-put.ensures.recalls app worlds viewer before one

pub returns-clause-grown : goal.returns-clause-grown
returns-clause-grown c = grown_by c.args.answers.now c.put.new.self c.args.label c.args.known c.in_ok-put.ensures.watches c.in_ok-put.ensures.recalls

pub returns-clause-own : goal.returns-clause-own
returns-clause-own c labels before among of_record =
    own_by c.args.answers.now c.put.new.self c.args.label c.args.known labels c.in_ok-put.ensures.watches c.in_ok-put.ensures.recalls before among of_record
