use Rattle.std.proofs.Common.{◌∙◌, ap, subst, ℕ, List}
use Rattle.jac_http.specs.Heads.{head_in}
use Rattle.jac_http.specs.Requests.{IsAnswered}
use Rattle.jac_http.proofs.Takes.{taken_with, taken_without}
use Rattle.jac_http.proofs.take.take_request.Goals as goal

pub returns-in_ok-taken-in-Some : goal.returns-in_ok-taken-in-Some
returns-in_ok-taken-in-Some c =
    taken_with c.args.bytes.now c.in-Some.front.now c.in_ok-taken-in-Some.taken (c.in-Some.ensures.head ∙ ap head_in c.window.ensures.start)
    (subst (λ (rest : List ℕ). IsAnswered c.in-Some.front.now rest c.in_ok-taken-in-Some.taken) c.split_at.ensures.back c.in_ok-taken-in-Some.ensures)

pub returns-in-None : goal.returns-in-None
returns-in-None c = taken_without c.args.bytes.now c.without_head.result (c.in-None.ensures.head ∙ ap head_in c.window.ensures.start) c.without_head.ensures
