-- The status is 0 only if nothing ended early.
use Rattle.std.proofs.Common.{◌≡◌, ◌∙◌, refl, sym, inl, inr, ℕ, IsOk, Result, Ok, Err, List}
use Rattle.jac_io.specs.Seen.{SinkSeen}
use Rattle.jac_serve_events.specs.Outside.{Span}
use Rattle.jac_cli.specs.declared.words.Command.{Command}
use Rattle.jac_command_base.specs.declared.exit_reason.ExitReason.{ExitReason}
use Rattle.jac_command_base.specs.declared.exit_reason.ExitReason.TheVariants as exits
use Rattle.jac_command_base.specs.declared.status.Status.{Status}
use Rattle.jac_command_base.specs.declared.status.Status.TheVariants as statuses
use Rattle.jac_command_base.specs.ExitReason.{fault_line, status_of, Closes, Finishes}

pub not_done : (exit_reason : ExitReason) → status_of exit_reason ≡ statuses.Done → ⊥
not_done (exits.ReadFault role) e = cc
not_done (exits.TooLong role) e = cc
not_done (exits.AppRefused line) e = cc
not_done (exits.NewRefused line) e = cc
not_done (exits.UpgradeRefused line) e = cc
not_done (exits.LineRefused event_fault) e = cc
not_done (exits.SessionsRefused line) e = cc
not_done exits.WriteFault e = cc
not_done exits.StoreFault e = cc
not_done exits.DoorFault e = cc
not_done (exits.OtherStore stored wanted) e = cc
not_done exits.Memory e = cc

pub no_usage : statuses.Usage ≡ statuses.Done → ⊥
no_usage e = cc

pub no_memory : statuses.Memory ≡ statuses.Done → ⊥
no_memory e = cc

no_write : statuses.WriteFault ≡ statuses.Done → ⊥
no_write e = cc

pub closes_not_done : (out : Span SinkSeen) (line put : List ℕ) (status answer : Status) → (status ≡ statuses.Done → ⊥)
    → Closes out line status put answer → answer ≡ statuses.Done → ⊥
closes_not_done out line put status answer never (inl h) done = never (sym h.1 ∙ done)
closes_not_done out line put status answer never (inr h) done = no_write (sym h.1 ∙ done)

pub done_ended : (out : Span SinkSeen) (command : Command) (ended : Result (Unit {0}) ExitReason) (put : List ℕ) (answer : Status)
    → Finishes out command ended put answer → answer ≡ statuses.Done → IsOk ended
done_ended out command (Ok finished) put answer finishes done = refl
done_ended out command (Err exit_reason) put answer finishes done =
    absurd (closes_not_done out (fault_line command exit_reason) put (status_of exit_reason) answer (not_done exit_reason) finishes done)
