use Rattle.std.proofs.Common.{refl, []}
use Rattle.jac_command_base.proofs.AskedLemmas.{asks_none}
use Rattle.jac_command_base.proofs.ExitReasonLemmas.{WentAimed-on}
use Rattle.jac_app.proofs.program.take_steps.Goals as goal

pub returns-in-Check-clause-ends : goal.returns-in-Check-clause-ends
returns-in-Check-clause-ends g c = rw c.in-Check.is (WentAimed-on _ _ _ (λ out audit ends. (ends, refl, refl)) c.check.ensures.ends)

pub returns-in-Replay-clause-ends : goal.returns-in-Replay-clause-ends
returns-in-Replay-clause-ends g c = rw c.in-Replay.is (WentAimed-on _ _ _ (λ out audit ends. (ends, refl)) c.replay.ensures.ends)

pub returns-in-Demo-clause-ends : goal.returns-in-Demo-clause-ends
returns-in-Demo-clause-ends g c = rw c.in-Demo.is (WentAimed-on _ _ _ (λ out audit ends. (ends, refl)) c.demo.ensures.ends)

pub returns-in-Dump-clause-ends : goal.returns-in-Dump-clause-ends
returns-in-Dump-clause-ends g c = rw c.in-Dump.is (WentAimed-on _ _ _ (λ out audit ends. (ends, refl, refl)) c.dump.ensures.ends)

pub returns-in-Upgrade-clause-ends : goal.returns-in-Upgrade-clause-ends
returns-in-Upgrade-clause-ends g c = rw c.in-Upgrade.is (WentAimed-on _ _ _ (λ out audit ends. (ends, refl)) c.upgrade.ensures.ends)

pub returns-in-Why-clause-ends : goal.returns-in-Why-clause-ends
returns-in-Why-clause-ends g c = rw c.in-Why.is (WentAimed-on _ _ _ (λ out audit ends. (ends, refl, refl)) c.explain.ensures.ends)

pub returns-in-Check-clause-asks : goal.returns-in-Check-clause-asks
returns-in-Check-clause-asks g c = rw c.in-Check.is c.check.ensures.asks

pub returns-in-Replay-clause-asks : goal.returns-in-Replay-clause-asks
returns-in-Replay-clause-asks g c = rw c.in-Replay.is c.replay.ensures.asks

pub returns-in-Serve-clause-asks : goal.returns-in-Serve-clause-asks
returns-in-Serve-clause-asks g c = rw c.in-Serve.is c.serve.ensures.asks

pub returns-in-Dump-clause-asks : goal.returns-in-Dump-clause-asks
returns-in-Dump-clause-asks g c = rw c.in-Dump.is c.dump.ensures.asks

pub returns-in-Upgrade-clause-asks : goal.returns-in-Upgrade-clause-asks
returns-in-Upgrade-clause-asks g c = rw c.in-Upgrade.is c.upgrade.ensures.asks

pub returns-in-Why-clause-asks : goal.returns-in-Why-clause-asks
returns-in-Why-clause-asks g c = rw c.in-Why.is c.explain.ensures.asks

pub returns-in-Demo-clause-asks : goal.returns-in-Demo-clause-asks
returns-in-Demo-clause-asks g c = rw c.in-Demo.is (asks_none (g.F.Files.seen c.args.files.now) [] _ (λ done. refl))
