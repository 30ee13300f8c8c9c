use Rattle.std.proofs.Common.{◌∙◌, refl, ap, sym}
use Rattle.std.proofs.lemmas.Bool.{and_parts}
use Rattle.jac_lang.specs.Mirror.{statements_of}
use Rattle.jac_plain.specs.Reading.{are_reading}
use Rattle.jac_rows.specs.declared.state.State.{State}
use Rattle.jac_engine.specs.Answers.{lazy_answer}
use Rattle.jac_engine.specs.Visits.{app_of, visit_at}
use Rattle.jac_engine.proofs.AnswerLaws.{lazily_shown}
use Rattle.jac_engine.proofs.answer.show_lazily.Goals as goal
use Rattle.jac_plain.specs.Shown.{worlds_of}
use Rattle.jac_lang.specs.Untemplated.{are_untemplated}

pub shown_lazily-requires-clause-reading : goal.shown_lazily-requires-clause-reading
shown_lazily-requires-clause-reading g c =
    let body = statements_of c.args.visited.now.view.now.body in
    (and_parts (are_untemplated body) (are_reading body) c.requires.served).1

pub shown_lazily-requires-clause-number : goal.shown_lazily-requires-clause-number
shown_lazily-requires-clause-number g c = λ told.
    c.in_ok-number.ensures.exact told ∙ ap (λ (s : State). s.number) (sym (c.in_ok-number.ensures.reads.left.same_state told))

pub returns-clause-shown : goal.returns-clause-shown
returns-clause-shown g c =
    let visited = c.args.visited.now in
    let left = c.in_ok-number.ensures.reads.left in
    let made = c.in_ok-shown.ensures.made in
    let it = c.in_ok-shown.shown in
    let s = (g.K.Keeper.seen c.args.keeper.now).state in
    let is = c.lazy_answer_of.ensures.answer in
    record {
      change = refl;
      form = record {
        labels = it.shown;
        consulted = it.consulted;
        pieces = made.0;
        made = is ∙ ap (lazy_answer it.shown it.consulted) made.1;
        ascending = c.lazy_answer_of.ensures.ascending;
        rising = c.lazy_answer_of.ensures.rising;
      };
      shows = λ told.
          let same = left.same_state (c.in_ok-shown.ensures.left.told told) in
          lazily_shown (app_of visited) (worlds_of s) (visit_at visited) it.shown it.consulted it.page _ is
          (rw same at (c.in_ok-shown.ensures.steady told)) (rw same at (c.in_ok-shown.ensures.page told));
    }
