use Rattle.std.proofs.Common.{rules, ◌≡◌, ◌∙◌, true, false, Some, None}
use Rattle.jac_lang.specs.Lookup.{same_text}
use Rattle.jac_lang.specs.Mirror.{application_of, binders_of}
use Rattle.jac_check.specs.Scope.{meaning_of, named_binders}
use Rattle.jac_check.specs.Mirror.{names_of}
use Rattle.jac_check.proofs.Bound.{bound-hit, bound-miss, bound-within, bound-without}
use Rattle.jac_check.proofs.names.look_up.Goals as goal

pub returns-then-eq : goal.returns-then-eq
returns-then-eq c =
    let models = (application_of c.args.app.now).models in
    let same : same_text c.in-Bound.bound.now c.args.name.now ≡ true = search rules in
    bound-hit (names_of models c.in-Bound.outer.now) c.in-Bound.bound.now c.args.name.now c.in-Bound.kind c.in-Bound.by_let same
    ∙ (rw c.in-Bound.is at c.outwards.invariant)

pub outwards-preserved-in-Bound : goal.outwards-preserved-in-Bound
outwards-preserved-in-Bound c =
    let models = (application_of c.args.app.now).models in
    let other : same_text c.in-Bound.bound.now c.args.name.now ≡ false = search rules in
    bound-miss (names_of models c.in-Bound.outer.now) c.in-Bound.bound.now c.args.name.now c.in-Bound.kind c.in-Bound.by_let other
    ∙ (rw c.in-Bound.is at c.outwards.invariant)

pub returns-in-Some : goal.returns-in-Some
returns-in-Some c =
    let models = (application_of c.args.app.now).models in
    let found : Some c.in-Some.found ≡ meaning_of (named_binders models (binders_of c.in-Binders.binders.now)) c.args.name.now = search rules in
    bound-within (names_of models c.in-Binders.outer.now) (named_binders models (binders_of c.in-Binders.binders.now)) c.args.name.now c.in-Some.found found
    ∙ (rw c.in-Binders.is at c.outwards.invariant)

pub outwards-preserved : goal.outwards-preserved
outwards-preserved c =
    let models = (application_of c.args.app.now).models in
    let none : None ≡ meaning_of (named_binders models (binders_of c.in-Binders.binders.now)) c.args.name.now = search rules in
    bound-without (names_of models c.in-Binders.outer.now) (named_binders models (binders_of c.in-Binders.binders.now)) c.args.name.now none
    ∙ (rw c.in-Binders.is at c.outwards.invariant)
