use Rattle.std.specs.Bool.{Decides}
use Rattle.std.proofs.Common.{◌≡◌}
use Rattle.std.proofs.lemmas.Slice.Eq.{slice_eq-Decides}
use Rattle.jac_world.proofs.Alike.{pairs_decide, told_equal, told_alike}
use Rattle.jac_world.proofs.guard.Guard.is_same.Goals as goal

told : (c : goal.After-eq) → Decides c.eq.result (c.args.self.now ≡ c.args.other.now)
told c =
    told_equal c.args.self.now c.args.other.now c.pairs.result.now c.pairs-2.result.now c.eq.result c.pairs.ensures.pairs c.pairs-2.ensures.pairs
    (slice_eq-Decides pairs_decide c.pairs.result.now c.pairs-2.result.now c.eq.result c.eq.ensures)

pub returns-clause-equal : goal.returns-clause-equal
returns-clause-equal c = told c

pub returns-clause-alike : goal.returns-clause-alike
returns-clause-alike c =
    told_alike c.args.self.now c.args.other.now c.eq.result c.pairs.ensures.rising c.pairs-2.ensures.rising (told c)
