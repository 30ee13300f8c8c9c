use Rattle.std.proofs.Common.{◌≡◌, ◌∷◌, [], not, Some, None, rules}
use Rattle.jac_world.specs.World.{IsMeet}
use Rattle.jac_world.specs.CutOff.{AddsMeet}
use Rattle.jac_world.proofs.Cutting.{Cutting, cut_step, cut_last}
use Rattle.jac_world.proofs.guard.Guard.cut_off.Goals as goal

pub cut-preserved : goal.cut-preserved
cut-preserved c =
    let r : c.cut.rest.now ≡ c.in-Some.pair.now ∷ c.in-Some.more.now = search rules in
    let m : Cutting c.args.self.now c.args.cut.now c.cut.items.items c.cut.prefix (c.in-Some.pair.now ∷ c.in-Some.more.now) = rw (← r) c.cut.invariant in
    let a : AddsMeet c.cut.prefix ((c.in-Some.pair.now.0, not c.in-Some.pair.now.1) ∷ []) c.cut.items.items c.add_meet.new.items.items = search rules in
    let n : IsMeet c.cut.prefix (c.in-Some.pair.now ∷ []) (Some c.in-Some-2.next) = search rules in
    cut_step _ _ _ _ _ _ _ _ m a n

pub returns-in-None : goal.returns-in-None
returns-in-None c =
    let r : c.cut.rest.now ≡ c.in-Some.pair.now ∷ c.in-Some.more.now = search rules in
    let m : Cutting c.args.self.now c.args.cut.now c.cut.items.items c.cut.prefix (c.in-Some.pair.now ∷ c.in-Some.more.now) = rw (← r) c.cut.invariant in
    let a : AddsMeet c.cut.prefix ((c.in-Some.pair.now.0, not c.in-Some.pair.now.1) ∷ []) c.cut.items.items c.from_vec.result = search rules in
    let n : IsMeet c.cut.prefix (c.in-Some.pair.now ∷ []) None = search rules in
    cut_last _ _ _ _ _ _ _ m a n
