use Rattle.std.proofs.Common.{◌∙◌, refl, ap}
use Rattle.std.proofs.lemmas.Bool.{and_parts}
use Rattle.jac_lang.specs.Mirror.{application_of, page_of_view, statements_of}
use Rattle.jac_plain.specs.Reading.{are_reading}
use Rattle.jac_engine.specs.Answers.{asked_with, page_answer}
use Rattle.jac_engine.proofs.AnswerLaws.{page_shown}
use Rattle.jac_engine.proofs.ViewLaws.{ready_to_show}
use Rattle.jac_engine.proofs.answer.show.Goals as goal
use Rattle.jac_lang.specs.Untemplated.{are_untemplated}

pub shown_page-requires-clause-reading : goal.shown_page-requires-clause-reading
shown_page-requires-clause-reading g c =
    let body = statements_of c.args.visited.now.view.now.body in
    (and_parts (are_untemplated body) (are_reading body) c.requires.served).1

pub shown_page-requires-clause-ready : goal.shown_page-requires-clause-ready
shown_page-requires-clause-ready g c = λ told.
    let left = c.in_ok-number.ensures.reads.left in
    let start = c.requires.start (left.told told) in
    rw (left.same_state told) (ready_to_show (application_of c.args.visited.now.app.now) (page_of_view c.args.visited.now.view.now) (asked_with c.args.visited.now.path.now c.args.visited.now.ask.now) c.in_ok-number.number (g.K.Keeper.seen c.args.keeper.now).state c.requires.served start.sound
    (c.in_ok-number.ensures.exact told))

pub shown_page-requires-clause-valid : goal.shown_page-requires-clause-valid
shown_page-requires-clause-valid g c = λ told.
    let left = c.in_ok-number.ensures.reads.left in
    rw (left.same_state told) (c.requires.valid (left.told told))

pub returns-clause-shown : goal.returns-clause-shown
returns-clause-shown g c =
    let app = application_of c.args.visited.now.app.now in
    let left = c.in_ok-number.ensures.reads.left in
    let made = c.in_ok-shown.ensures.made in
    let labels = c.in_ok-shown.shown.labels in
    let s = (g.K.Keeper.seen c.args.keeper.now).state in
    record {
      change = refl;
      form = record { labels = labels; pieces = made.0; made = c.answer_of.ensures.answer ∙ ap (page_answer labels) made.1; ascending = c.answer_of.ensures.ascending };
      shows = λ told.
          let before = c.in_ok-shown.ensures.left.told told in
          record {
            labels = labels;
            made =
                c.answer_of.ensures.answer
                ∙ page_shown app (page_of_view c.args.visited.now.view.now) (asked_with c.args.visited.now.path.now c.args.visited.now.ask.now) c.args.visited.now.place c.in_ok-number.number s labels c.in_ok-shown.shown.page c.requires.view c.requires.served
                (c.in_ok-number.ensures.exact before) (c.requires.start (left.told before)) (rw (left.same_state before) at (c.in_ok-shown.ensures.page told));
            settled = rw (left.same_state before) at (c.in_ok-shown.ensures.settled told);
          };
    }

pub returns-clause-keeps : goal.returns-clause-keeps
returns-clause-keeps g c =
    let left = c.in_ok-number.ensures.reads.left in
    record {
      valid = λ told. rw (left.same_state (c.in_ok-shown.ensures.left.told told)) at (c.in_ok-shown.ensures.valid told);
      affected = λ told. tt;
    }

pub returns-clause-bounded : goal.returns-clause-bounded
returns-clause-bounded g c =
    let left = c.in_ok-number.ensures.reads.left in
    record { few = λ eager told none. rw (left.same_state (c.in_ok-shown.ensures.left.told told)) at (c.in_ok-shown.ensures.bounded told none) }
