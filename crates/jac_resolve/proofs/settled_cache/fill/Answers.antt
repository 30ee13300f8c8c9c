use Rattle.std.proofs.Common.{◌≡◌, ℕ, List, ap, sym, subst, rules, arith}
use Rattle.jac_lang.specs.Mirror.{application_of}
use Rattle.jac_rows.specs.declared.state.State.{State}
use Rattle.jac_keep.specs.WorkState.{state_of}
use Rattle.jac_resolve.specs.RightMemo.{IsUnderway, Retains}
use Rattle.jac_resolve.specs.Rounds.{Within}
use Rattle.jac_resolve.specs.ValidCache.{cache_labels}
use Rattle.jac_resolve.proofs.Greedy.{retains_same, retains_then, within_same, within_then}
use Rattle.jac_resolve.proofs.settled_cache.fill.Goals as goal
use Rattle.jac_plain.specs.Shown.{worlds_of}

pub rounds-init : goal.rounds-init
rounds-init g c =
    let worlds = worlds_of (state_of g.K.Keeper.seen c.args.work.now) in
    let tried = c.args.tried.now in
    let start = cache_labels c.args.cache.now.labels in
    let answers = c.args.cache.now.answers in
    let same : start ≡ c.in_ok-labels.labels = ap cache_labels c.in_ok-labels.ensures in
    record {
      later = omega arith;
      within = subst (λ (l : List ℕ). Within tried start l) same (within_same tried start);
      retains = subst (λ (l : List ℕ). Retains start l answers answers) same (retains_same start answers);
      working = record {
        told = λ told. subst (λ (l : List ℕ). IsUnderway (application_of c.args.app.now) worlds c.args.viewer.now l answers) same (c.requires.underway told);
        same = search rules;
      };
    }

pub rounds-preserved : goal.rounds-preserved
rounds-preserved g c =
    let app = application_of c.args.app.now in
    let viewer = c.args.viewer.now in
    let tried = c.args.tried.now in
    let start = cache_labels c.args.cache.now.labels in
    let old = c.rounds.labels in
    let new = c.try_labels.new.a in
    let first = c.args.cache.now.answers in
    let answers = c.rounds.cache.answers in
    let known = c.try_labels.new.answers in
    let so_far = c.rounds.invariant in
    let round = c.in_ok-added.ensures in
    record {
      later = omega (arith, so_far.later, round.later);
      within = within_then tried start old new so_far.within round.within;
      retains = retains_then start old new first answers known so_far.retains round.retains;
      working = record {
        told = λ told.
            let before = round.reads.same.told told in
            let moved = so_far.working.same.same_state before in
            subst (λ (s : State). IsUnderway app (worlds_of s) viewer new known) moved
            (round.underway told (subst (λ (s : State). IsUnderway app (worlds_of s) viewer old answers) (sym moved) (so_far.working.told before)));
        same = search rules;
      };
    }
