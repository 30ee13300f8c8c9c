-- The plain hearing: a request is understood as itself, and its answer is what is sent.
use Rattle.std.proofs.Common.{refl, ℕ}
use Rattle.jac_hub.specs.declared.handler.Heard.{Heard}
use Rattle.jac_hub.specs.declared.handler.Heard.TheVariants.{Whole, Refused}
use Rattle.jac_hub.specs.declared.sent.Sent.{Sent}
use Rattle.jac_hub.specs.Served.{AgreesSent, plain_hearing, sends}
use Rattle.jac_hub.proofs.Following.{Tells}

agrees : (heard : Heard) (sent : Sent) → AgreesSent plain_hearing heard sent sent
agrees (Whole request) sent = refl
agrees (Refused status) sent = tt

pub plain-tells : {H : Type 0} (handles : H → ℕ → Heard → Sent → H → Type 0) → Tells plain_hearing handles (sends handles)
plain-tells handles = λ before after c heard sent handled. (sent, (handled, refl), agrees heard sent)
