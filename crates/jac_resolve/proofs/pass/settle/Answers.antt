use Rattle.std.proofs.Common.{rules}
use Rattle.jac_world.specs.World.{IsAscending}
use Rattle.jac_lang.specs.Mirror.{application_of}
use Rattle.jac_keep.specs.WorkState.{state_of}
use Rattle.jac_resolve.proofs.Greedy.{passed_settled}
use Rattle.jac_resolve.proofs.Room.{all_asked, own_start}
use Rattle.jac_resolve.proofs.pass.settle.Goals as goal
use Rattle.jac_plain.specs.Shown.{worlds_of}

pub returns-clause-settled : goal.returns-clause-settled
returns-clause-settled g c told =
    let before = c.in_ok-assignment.ensures.reads.same.told told in
    let rises : IsAscending c.in_ok-assignment.assignment = search rules in
    passed_settled (application_of c.args.app.now) (worlds_of (state_of g.K.Keeper.seen c.args.work.now)) c.args.viewer.now c.settle_among.new.answers c.args.labels.now c.in_ok-assignment.assignment rises
    (c.requires.live before) (c.in_ok-assignment.ensures.passed told)

pub returns-clause-bounded : goal.returns-clause-bounded
returns-clause-bounded g c told local =
    let labels = c.args.labels.now in
    let answers = c.empty-answers.result in
    all_asked labels c.args.evaluations.now c.settle_among.new.evaluations answers
    (c.in_ok-assignment.ensures.most told local (own_start labels answers c.empty-answers.ensures.recalls c.empty-answers.ensures.watches))

pub returns-in_err-assignment-clause-bounded : goal.returns-in_err-assignment-clause-bounded
returns-in_err-assignment-clause-bounded g c told local =
    let labels = c.args.labels.now in
    let answers = c.empty-answers.result in
    all_asked labels c.args.evaluations.now c.settle_among.new.evaluations answers
    (c.in_err-assignment.ensures.most told local (own_start labels answers c.empty-answers.ensures.recalls c.empty-answers.ensures.watches))
