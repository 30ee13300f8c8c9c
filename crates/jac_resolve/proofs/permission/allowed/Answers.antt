use Rattle.std.proofs.Common.{rules, sym, subst, Some, ℕ}
use Rattle.jac_value.specs.Ids.{model_of_id}
use Rattle.jac_world.specs.World.{shown_by}
use Rattle.jac_lang.specs.Mirror.{application_of, field_group_of}
use Rattle.jac_keep.specs.WorkState.{state_of}
use Rattle.jac_rows.specs.declared.state.State.{State}
use Rattle.jac_shown_rows.specs.Local.{IsLocalCase}
use Rattle.jac_shown_rows.specs.Own.{IsOwn}
use Rattle.jac_shown_rows.proofs.Growing.{agrees_less, agrees_same}
use Rattle.jac_pruned.proofs.Owning.{table_own}
use Rattle.jac_resolve.proofs.Local.{own_label, own_none, policy_local}
use Rattle.jac_resolve.proofs.permission.allowed.Goals as goal

pub returns-then-not-stands-clause-ticks : goal.returns-then-not-stands-clause-ticks
returns-then-not-stands-clause-ticks g c told =
    let stands = c.in_ok-stands-in-Some.ensures.value told (shown_by c.args.a.now) (agrees_same _ _) in
    search rules

pub returns-in_ok-holds-in-Some-clause-ticks : goal.returns-in_ok-holds-in-Some-clause-ticks
returns-in_ok-holds-in-Some-clause-ticks g c told =
    let before = c.in_ok-holds-in-Some.ensures.reads.same.told told in
    let stands = c.in_ok-stands-in-Some.ensures.value before (shown_by c.args.a.now) (agrees_same _ _) in
    search rules

pub returns-in_ok-holds-in-Some-clause-value : goal.returns-in_ok-holds-in-Some-clause-value
returns-in_ok-holds-in-Some-clause-value g c told w agree =
    let before = c.in_ok-holds-in-Some.ensures.reads.same.told told in
    let stands = c.in_ok-stands-in-Some.ensures.value before w (agrees_less _ _ _ _ c.in_ok-holds-in-Some.ensures.grows agree) in
    let holds = c.in_ok-holds-in-Some.ensures.value told w agree in
    search rules

pub returns-then-not-stands-clause-own : goal.returns-then-not-stands-clause-own
returns-then-not-stands-clause-own g c told case =
    let id = c.record_of-id.result in
    let own : IsOwn (Some id) c.record_stands.new.support =
    c.in_ok-stands-in-Some.ensures.own told (Some id) (table_own (application_of c.args.app.now) (state_of g.K.Keeper.seen c.args.work.now) c.args.viewer case id (model_of_id id))
    (subst (IsOwn (Some id)) (sym c.empty-support.ensures) (own_none (Some id))) in
    own_label c.args.label c.record_stands.new.support (subst (λ (i : ℕ). IsOwn (Some i) c.record_stands.new.support) c.record_of-id.ensures own)

pub returns-in_ok-holds-in-Some-clause-own : goal.returns-in_ok-holds-in-Some-clause-own
returns-in_ok-holds-in-Some-clause-own g c told case =
    let app = application_of c.args.app.now in
    let id = c.record_of-id.result in
    let before = c.in_ok-holds-in-Some.ensures.reads.same.told told in
    let own : IsOwn (Some id) c.record_stands.new.support =
    c.in_ok-stands-in-Some.ensures.own before (Some id) (table_own app (state_of g.K.Keeper.seen c.args.work.now) c.args.viewer case id (model_of_id id))
    (subst (IsOwn (Some id)) (sym c.empty-support.ensures) (own_none (Some id))) in
    let all : IsOwn (Some id) c.policy_holds.new.support =
    c.in_ok-holds-in-Some.ensures.own told
    (subst (λ (s : State). IsLocalCase app s c.args.viewer) (sym (c.in_ok-stands-in-Some.ensures.reads.same.same_state before)) case)
    (policy_local app c.args.label (field_group_of c.in-Some.group.now) case.policies c.in-Some.ensures) own in
    own_label c.args.label c.policy_holds.new.support (subst (λ (i : ℕ). IsOwn (Some i) c.policy_holds.new.support) c.record_of-id.ensures all)
