use Rattle.std.proofs.Common.{◌<◌, ◌^◌, ◌∙◌, ap, refl, inr, arith, IsTrue}
use Rattle.jac_lang.specs.Mirror.{application_of, page_of_view}
use Rattle.jac_lang.proofs.Places.{length-entities}
use Rattle.jac_engine.specs.Answers.{asked_with, page_answer, visit_of}
use Rattle.jac_engine.proofs.AnswerLaws.{page_stored, change_stored, settled_after}
use Rattle.jac_engine.proofs.ServedLaws.{storing_runs}
use Rattle.jac_engine.proofs.ViewLaws.{ready_to_store}
use Rattle.jac_engine.specs.Viewed.{Stores}
use Rattle.jac_engine.proofs.answer.store.Goals as goal

pub stored_page-requires-clause-tables : goal.stored_page-requires-clause-tables
stored_page-requires-clause-tables g c = λ told.
    let left = c.in_ok-number.ensures.reads.left in
    let start = c.requires.start (left.told told) in
    rw (left.same_state told, ← length-entities c.args.visited.now.app.now.models) start.tables

pub stored_page-requires-clause-sound : goal.stored_page-requires-clause-sound
stored_page-requires-clause-sound g c = λ told.
    let left = c.in_ok-number.ensures.reads.left in
    rw (left.same_state told) (c.requires.start (left.told told)).sound

pub stored_page-requires-clause-valid : goal.stored_page-requires-clause-valid
stored_page-requires-clause-valid g c = λ told.
    let left = c.in_ok-number.ensures.reads.left in
    rw (left.same_state told) (c.requires.valid (left.told told))

pub stored_page-requires-clause-runnable : goal.stored_page-requires-clause-runnable
stored_page-requires-clause-runnable g c =
    let some : 0 < c.in_ok-number.number = omega (arith, c.in_ok-number.ensures.in_range.0) in
    let few : c.in_ok-number.number < 2 ^ 40 = omega (arith, c.in_ok-number.ensures.in_range.1, c.if-number-eq-LAST_NUMBER.false) in
    storing_runs (application_of c.args.visited.now.app.now).models c.in_ok-number.number _ some few c.requires.served

pub stored_page-requires-clause-ready : goal.stored_page-requires-clause-ready
stored_page-requires-clause-ready g c = λ told.
    let left = c.in_ok-number.ensures.reads.left in
    let start = c.requires.start (left.told told) in
    let few : c.in_ok-number.number < 2 ^ 40 = omega (arith, c.in_ok-number.ensures.in_range.1, c.if-number-eq-LAST_NUMBER.false) in
    rw (left.same_state told) (ready_to_store (application_of c.args.visited.now.app.now) (page_of_view c.args.visited.now.view.now) (asked_with c.args.visited.now.path.now c.args.visited.now.ask.now) c.in_ok-number.number (g.K.Keeper.seen c.args.keeper.now).state c.requires.served start
    c.requires.few (c.in_ok-number.ensures.exact told) few)

pub returns-clause-stored : goal.returns-clause-stored
returns-clause-stored g c =
    let app = application_of c.args.visited.now.app.now in
    let left = c.in_ok-number.ensures.reads.left in
    let s = (g.K.Keeper.seen c.args.keeper.now).state in
    let n = c.in_ok-number.number in
    let v = page_of_view c.args.visited.now.view.now in
    let few : n < 2 ^ 40 = omega (arith, c.in_ok-number.ensures.in_range.1, c.if-number-eq-LAST_NUMBER.false) in
    let made = c.in_ok-stored.ensures.made in
    let shown = c.in_ok-stored.stored.shown in
    let stores : IsTrue (g.K.Keeper.seen c.stored_page.new.keeper).tells → Stores app s (visit_of app (asked_with c.args.visited.now.path.now c.args.visited.now.ask.now) c.args.visited.now.place) c.in_ok-stored.stored.change = λ told.
    let before = c.in_ok-stored.ensures.left.told told in
    change_stored app v (asked_with c.args.visited.now.path.now c.args.visited.now.ask.now) c.args.visited.now.place n s c.in_ok-stored.stored.change c.requires.view c.requires.method c.requires.served
    (c.in_ok-number.ensures.exact before) few (c.requires.start (left.told before)) c.requires.few c.in_ok-stored.ensures.number
    (rw (left.same_state before) at (c.in_ok-stored.ensures.stored told)) in
    inr record {
      change = c.in_ok-stored.stored.change;
      changes = refl;
      form = record { labels = shown.labels; pieces = made.0; made = c.answer_of.ensures.answer ∙ ap (page_answer shown.labels) made.1; ascending = c.answer_of.ensures.ascending };
      shows = λ told.
          let before = c.in_ok-stored.ensures.left.told told in
          record {
            labels = shown.labels;
            made =
                c.answer_of.ensures.answer
                ∙ page_stored app v (asked_with c.args.visited.now.path.now c.args.visited.now.ask.now) c.args.visited.now.place n s shown.labels shown.page c.requires.view c.requires.served
                (c.in_ok-number.ensures.exact before) few (c.requires.start (left.told before)) c.requires.few (rw (left.same_state before) at (c.in_ok-stored.ensures.page told));
            settled = settled_after app s (asked_with c.args.visited.now.path.now c.args.visited.now.ask.now) c.args.visited.now.place c.in_ok-stored.stored.change shown.labels (stores told) ((rw (left.same_state before) at (c.in_ok-stored.ensures.settles told)).settled c.in_ok-stored.stored.change.number);
          };
      stores = stores;
    }

pub returns-clause-keeps : goal.returns-clause-keeps
returns-clause-keeps g c =
    let left = c.in_ok-number.ensures.reads.left in
    let change = c.in_ok-stored.stored.change in
    record {
      valid = λ told. (rw (left.same_state (c.in_ok-stored.ensures.left.told told)) at (c.in_ok-stored.ensures.settles told)).valid change.number;
      affected = λ told. (rw (left.same_state (c.in_ok-stored.ensures.left.told told)) at (c.in_ok-stored.ensures.settles told)).affected change.number;
    }

pub returns-clause-bounded : goal.returns-clause-bounded
returns-clause-bounded g c =
    let left = c.in_ok-number.ensures.reads.left in
    let change = c.in_ok-stored.stored.change in
    record { few = λ eager told none. (rw (left.same_state (c.in_ok-stored.ensures.left.told told)) at (c.in_ok-stored.ensures.bounded told)).few change.number none }
