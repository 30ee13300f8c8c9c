-- What each reply of a serve is: the right page, the refusal of its cause, or the report that
-- memory ran out or that the store failed.
use Rattle.std.specs.Prelude.{◌≡◌, ◌⊎◌, ℕ, Bool, Option, Some, None, List, [], ◌∷◌, ◌++◌}
use Rattle.jac_io.specs.Faults.{Rose}
use Rattle.jac_lang.specs.Syntax.{Application}
use Rattle.jac_keep.specs.KeeperSeen.{KeeperSeen}
use Rattle.jac_plain.specs.Requests.{Worlds}
use Rattle.jac_hub.specs.Hearing.{whole, refused, broken}
use Rattle.jac_route.specs.Found.{found}
use Rattle.jac_replies.specs.Refused.{refusal}
use Rattle.jac_serve_events.specs.AnswerSpec.{LogSubject, LogEntry}
use Rattle.jac_serve_events.specs.Outside.{Span}
use Rattle.jac_headline.specs.Headline.{IsRightPage, IsRefusedAsFound, HasEntry, world_behind}

-- The reply is the right page under the labels that its audit line names.
pub record IsPageReply (lazy : Bool) (app : Application) (before behind : Worlds)
    (entry : LogEntry) : Type 0 where
  pub labels : List ℕ
  pub shown : entry.answer.shown ≡ Some labels
  pub right : IsRightPage lazy app before behind entry labels

-- The request finds no view, or there are no numbers left, or its bytes are no request.
abbrev pub IsRefusedFor : Application → Worlds → LogSubject → ℕ → Type 0
IsRefusedFor app worlds (whole ask closes) status =
    IsRefusedAsFound (found app ask.method ask.path) worlds status
IsRefusedFor app worlds (refused code) status = status ≡ code
IsRefusedFor app worlds broken status = ⊥

-- The reply has no page, and it has the status of its cause.
pub record IsRefusalReply (app : Application) (before : Worlds) (entry : LogEntry) : Type 0 where
  pub no_page : entry.answer.shown ≡ None
  pub cause : IsRefusedFor app before entry.subject entry.answer.status

-- The reply says that the request ran out of memory.
abbrev pub IsMemoryReply : LogEntry → Type 0
IsMemoryReply entry = entry.answer ≡ refusal 500 None

-- The reply reports a fault of the store, and the store's count of faults rose.
pub record IsFaultReply (store : Span KeeperSeen) (entry : LogEntry) : Type 0 where
  pub answer : entry.answer ≡ refusal 503 None
  pub rose : Rose store.before.faults store.after.faults

abbrev pub IsRightReply : Bool → Application → Span KeeperSeen → Worlds → Worlds → LogEntry → Type 0
IsRightReply lazy app store before behind entry =
    IsPageReply lazy app before behind entry ⊎ IsRefusalReply app before entry
    ⊎ IsMemoryReply entry ⊎ IsFaultReply store entry

-- Each entry of the log is right, in the worlds after the entries before it.
abbrev pub AreRightReplies : Bool → Application → Span KeeperSeen → List LogEntry → Type 0
AreRightReplies lazy app store log =
    (before : List LogEntry) (entry : LogEntry) → HasEntry log before entry
    → IsRightReply lazy app store (world_behind app store.before.state before)
    (world_behind app store.before.state (before ++ entry ∷ [])) entry
