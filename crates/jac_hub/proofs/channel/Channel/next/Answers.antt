use Rattle.std.proofs.Common.{subst, refl, inr, List, ℕ}
use Rattle.jac_http.specs.Requests.{IsTaken}
use Rattle.jac_http.specs.declared.taken.Taken.{Taken}
use Rattle.jac_http.specs.declared.taken.Taken.TheVariants.{More, Whole, Refused}
use Rattle.jac_hub.proofs.channel.Channel.next.Goals as goal

pub returns-in-Ok-More-clause-next : goal.returns-in-Ok-More-clause-next
returns-in-Ok-More-clause-next g c =
    let read = subst (λ (taken : Taken). IsTaken c.unused.result.now taken) c.in-Ok-More.field-0-is c.in-Ok-More.ensures.read in
    inr (More, subst (λ (bytes : List ℕ). IsTaken bytes More) c.unused.ensures read, (refl, c.wait.ensures.waits))

pub returns-in-Ok-Whole-clause-next : goal.returns-in-Ok-Whole-clause-next
returns-in-Ok-Whole-clause-next g c =
    let whole : Taken = Whole c.in-Ok-Whole.request c.in-Ok-Whole.used in
    let read = subst (λ (taken : Taken). IsTaken c.unused.result.now taken) c.in-Ok-Whole.field-0-is c.in-Ok-Whole.ensures.read in
    inr (whole, subst (λ (bytes : List ℕ). IsTaken bytes whole) c.unused.ensures read, c.answer.ensures.answered)

pub returns-in-Ok-Refused-clause-next : goal.returns-in-Ok-Refused-clause-next
returns-in-Ok-Refused-clause-next g c =
    let refused : Taken = Refused c.in-Ok-Refused.status in
    let read = subst (λ (taken : Taken). IsTaken c.unused.result.now taken) c.in-Ok-Refused.field-0-is c.in-Ok-Refused.ensures.read in
    inr (refused, subst (λ (bytes : List ℕ). IsTaken bytes refused) c.unused.ensures read, c.refuse.ensures.answered)
