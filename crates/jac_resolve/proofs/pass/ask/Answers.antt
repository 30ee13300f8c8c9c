use Rattle.std.proofs.Common.{◌≡◌, ◌∙◌, ap, sym, None, true, is_some}
use Rattle.jac_world.specs.World.{shown_by}
use Rattle.jac_plain.specs.Policies.{with_label}
use Rattle.jac_policy_cache.specs.Memo.{recall}
use Rattle.jac_resolve.proofs.Room.{most_asked, spends_asked}
use Rattle.jac_resolve.proofs.Underway.{shows_own}
use Rattle.jac_resolve.proofs.pass.ask.Goals as goal

pub returns-in_err-known-in-None-clause-most : goal.returns-in_err-known-in-None-clause-most
returns-in_err-known-in-None-clause-most g c told local labels among own =
    let w = with_label c.args.label (shown_by c.args.a.now) in
    let none : recall c.args.answers.now c.args.label w ≡ None = sym c.recalled.ensures ∙ c.in-None.is in
    most_asked labels c.args.evaluations.now c.evaluate.new.evaluations c.args.answers.now c.args.label w among own none c.evaluate.ensures.once

pub returns-in_err-remember-in-None-clause-most : goal.returns-in_err-remember-in-None-clause-most
returns-in_err-remember-in-None-clause-most g c told local labels among own =
    let w = with_label c.args.label (shown_by c.args.a.now) in
    let none : recall c.args.answers.now c.args.label w ≡ None = sym c.recalled.ensures ∙ c.in-None.is in
    most_asked labels c.args.evaluations.now c.evaluate.new.evaluations c.args.answers.now c.args.label w among own none c.evaluate.ensures.once

pub returns-in_ok-remember-in-None-clause-most : goal.returns-in_ok-remember-in-None-clause-most
returns-in_ok-remember-in-None-clause-most g c told local labels among own =
    let w = with_label c.args.label (shown_by c.args.a.now) in
    let none : recall c.args.answers.now c.args.label w ≡ None = sym c.recalled.ensures ∙ c.in-None.is in
    most_asked labels c.args.evaluations.now c.evaluate.new.evaluations c.args.answers.now c.args.label w among own none c.evaluate.ensures.once

pub returns-in_ok-remember-in-None-clause-spends : goal.returns-in_ok-remember-in-None-clause-spends
returns-in_ok-remember-in-None-clause-spends g c told local labels among own =
    let v = shown_by c.args.a.now in
    let label = c.args.label in
    let w = with_label label v in
    let new = c.remember.new.answers in
    let none : recall c.args.answers.now label w ≡ None = sym c.recalled.ensures ∙ c.in-None.is in
    let own_new = c.in_ok-remember-in-None.ensures.own labels own among (c.in_ok-known-in-None.ensures.own told local) in
    let fits = c.in_ok-remember-in-None.ensures.fits v c.in_ok-known-in-None.ensures.fits in
    let fitting : is_some (recall new label w) ≡ true = ap (λ u. is_some (recall new label u)) (shows_own v label c.requires.own) ∙ fits in
    spends_asked labels c.args.evaluations.now c.evaluate.new.evaluations c.args.answers.now new label w among c.in_ok-remember-in-None.ensures.grown own own_new none fitting c.evaluate.ensures.once
