-- An application's requests may start from a store that was attached for it.
use Rattle.std.proofs.Common.{IsTrue, Result, Ok, Err, OnOk, Option, List, ℕ}
use Rattle.jac_lang.specs.Syntax.{Application}
use Rattle.jac_keep.specs.KeeperSeen.{KeeperSeen}
use Rattle.jac_engine.specs.Start.{IsStart}
use Rattle.jac_serve_events.specs.Outside.{Span}
use Rattle.jac_command_base.specs.declared.exit_reason.ExitReason.{ExitReason}
use Rattle.jac_command_base.specs.Attached.{AttachesAs}
use Rattle.jac_dispatch.proofs.StartLaws.{starts}

pub starts_attached : (db : Option (List ℕ)) (app : Application) (k : Span KeeperSeen) (result : Result (Unit {0}) ExitReason)
    → AttachesAs db app k result → IsTrue k.after.tells → OnOk result (IsStart app k.after.state)
starts_attached db app k (Ok done) h told = starts app k.after.state (h.1 told)
starts_attached db app k (Err exit_reason) h told = tt
