use Rattle.std.proofs.Common.{◌≡◌, ◌+◌, ◌≤◌, true, drop, length, refl, sym, subst, rules}
use Rattle.jac_lang.specs.Mirror.{application_of}
use Rattle.jac_rows.specs.declared.state.State.{State}
use Rattle.jac_keep.specs.WorkState.{state_of}
use Rattle.jac_shown_rows.proofs.Working.{next}
use Rattle.jac_why.specs.Context.{context_on}
use Rattle.jac_why.specs.Whys.{is_standing}
use Rattle.jac_admin.proofs.ExplainLemmas.{lines_end, lines_on, standing_parts, none_behind}
use Rattle.jac_admin.proofs.hidden.push_checked.Goals as goal

pub whys-init : goal.whys-init
whys-init g c = record { told = λ told stand. (refl, stand); same = search rules }

pub whys-preserved : goal.whys-preserved
whys-preserved g c =
    let k = g.K.Keeper in
    let asking = c.args.context.now in
    let app = application_of asking.app.now in
    let all = c.args.whys.now in
    let x = c.why-item.result in
    let i = c.whys.why-index in
    let text = c.whys.text.items in
    let new = c.push_if_standing.new.text.items in
    let same = c.whys.invariant.same in
    let is = next all x i c.why-item.is c.whys-test.true in
    record {
      told = λ told stand.
          let before = c.in_ok-push_if_standing.ensures.reads.same.told told in
          let moved = same.same_state before in
          let so_far = c.whys.invariant.told before stand in
          let parts = standing_parts (is_standing (context_on (state_of k.seen c.args.work.now) asking)) (drop i all) (drop (i + 1) all) x is so_far.1 in
          let stands_now = subst (λ (s : State). is_standing (context_on s asking) x ≡ true) (sym moved) parts.0 in
          (lines_on app.models (drop i all) (drop (i + 1) all) x text new _ is (c.in_ok-push_if_standing.ensures.text told stands_now) so_far.0, parts.1);
      same = search rules;
    }

pub returns-clause-text : goal.returns-clause-text
returns-clause-text g c told stand =
    let app = application_of c.args.context.now.app.now in
    let all = c.args.whys.now in
    let past : length all ≤ c.whys.why-index = search rules in
    lines_end app.models (drop c.whys.why-index all) c.whys.text.items _ (none_behind all c.whys.why-index past) (c.whys.invariant.told told stand).0
