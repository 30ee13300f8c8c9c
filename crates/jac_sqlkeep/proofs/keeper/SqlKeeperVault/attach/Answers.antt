use Rattle.std.proofs.Common.{◌≡◌, ◌+◌, ap, subst, sym, ◌∙◌, List, Option, Some, None, Result, Ok, Err, rules, IsTrue, is_some, IsSomeAnd, arith}
use Rattle.jac_sqlkeep.specs.Based.{Based}
use Rattle.jac_sqlkeep.specs.Kept.{Kept}
use Rattle.jac_sqlkeep.proofs.Attached.{attached_now, fit_now, begins_as, left_other, left_failed, learns_other, learns_failed}
use Rattle.jac_sqlkeep.proofs.keeper.SqlKeeperVault.attach.Goals as goal

pub returns-in-Ok-None-clause-attaches : goal.returns-in-Ok-None-clause-attaches
returns-in-Ok-None-clause-attaches g c =
    let known = subst (λ (k : Kept). IsTrue (is_some k.database) → IsTrue k.store.called) c.self.view_is c.self.invariant.0 in
    let now = c.begin.ensures in
    let is : c.open-database.result.1 ≡ Ok None = search rules in
    attached_now c.args.self.now c.begin.new.self _ _ c.in-Ok.known.shape.kinds c.in-Ok.known.shape.nested c.open-database.result.0 known c.requires.first
    (ap (λ (k : Kept). k.store.called) now)
    (ap (λ (k : Kept). k.store.attached) now)
    (ap (λ (k : Kept). k.store.name) now ∙ c.in-Ok.ensures.name)
    (ap (λ (k : Kept). k.store.schema) now ∙ ap Some c.in-Ok.ensures.schema)
    (omega (arith, ap (λ (k : Kept). k.faults) now, ap (λ (k : Kept). k.faults) c.self.view_is))
    (ap (λ (k : Kept). k.database) now)
    c.in-Ok.ensures.shape
    (fit_now _ _ _ _ _ _ _ c.open-database.ensures is)

pub returns-in-Ok-None-clause-begins : goal.returns-in-Ok-None-clause-begins
returns-in-Ok-None-clause-begins g c =
    let is : c.open-database.result.1 ≡ Ok None = search rules in
    begins_as _ _ _ _ _ _ _ _ c.open-database.ensures c.in-Ok-open.ensures.gives c.begin.new.self.database (ap (λ (k : Kept). k.database) c.begin.ensures) is c.in-Ok.ensures.shape

pub returns-in-Ok-None-clause-left : goal.returns-in-Ok-None-clause-left
returns-in-Ok-None-clause-left g c =
    ap (λ (k : Kept). k.given) c.begin.ensures ∙ (c.in-Ok-open.ensures.counts ∙ ap (λ (k : Kept). k.given + 1) c.self.view_is)

pub returns-in-Ok-Some-clause-left : goal.returns-in-Ok-Some-clause-left
returns-in-Ok-Some-clause-left g c =
    let is : c.open-database.result.1 ≡ Ok (Some c.in-Ok-Some.stored) = search rules in
    left_other _ _ _ _ _ _ _ _ c.open-database.ensures c.in-Ok-open.ensures.gives c.args.self.now
    (record { store = _; faults = _; unopened = _; given = _; database = _; refused = c.self.inside.refused }) c.refuse.new.self c.in-Ok-Some.stored c.refuse.result
    (c.in-Ok-open.ensures.counts ∙ ap (λ (k : Kept). k.given + 1) c.self.view_is) is c.refuse.ensures.refused

pub returns-in-Err-told-clause-left : goal.returns-in-Err-told-clause-left
returns-in-Err-told-clause-left g c =
    let is : c.open-database.result.1 ≡ Err c.in-Err-told.unfit = search rules in
    left_failed _ _ _ _ _ _ _ _ c.open-database.ensures c.in-Ok-open.ensures.gives c.args.self.now c.fail.new.self c.in-Err-told.unfit c.fail.result
    (ap (λ (k : Kept). k.given) c.fail.ensures.same ∙ (c.in-Ok-open.ensures.counts ∙ ap (λ (k : Kept). k.given + 1) c.self.view_is)) is (ap (λ (k : Kept). k.refused) c.fail.ensures.same)

pub returns-in-Ok-Some-clause-learns : goal.returns-in-Ok-Some-clause-learns
returns-in-Ok-Some-clause-learns g c =
    learns_other c.args.self.now (record { store = _; faults = _; unopened = _; given = _; database = _; refused = c.self.inside.refused }) c.refuse.new.self c.open-database.result.0 c.in-Ok-Some.stored c.refuse.result
    (ap (λ (k : Kept). k.store.schema) c.self.view_is) (ap (λ (k : Kept). k.faults) c.self.view_is) c.refuse.ensures.refused

pub returns-in-Err-told-clause-learns : goal.returns-in-Err-told-clause-learns
returns-in-Err-told-clause-learns g c =
    learns_failed c.args.self.now c.fail.new.self c.fail.result
    (ap (λ (k : Kept). k.store.schema) c.fail.ensures.same ∙ ap (λ (k : Kept). k.store.schema) c.self.view_is)
    (λ memory. c.fail.ensures.uncounted memory ∙ ap (λ (k : Kept). k.faults) c.self.view_is) c.fail.ensures.other
