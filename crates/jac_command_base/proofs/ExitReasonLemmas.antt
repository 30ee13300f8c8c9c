-- How the steps of a command end.
use Rattle.std.proofs.Common.{◌≡◌, ◌∙◌, ap, sym, subst, refl, ℕ, ◌≤◌, ◌<◌, ◌⊎◌, inl, inr, is_some, IsTrue, IsSomeAnd, Ok, Err, Option, Some, None, List, [], ◌++◌, length, arith}
use Rattle.jac_io.specs.Seen.{FilesSeen, SinkSeen, Lasts, Aims}
use Rattle.jac_lang.specs.Syntax.{Application}
use Rattle.jac_keep.specs.KeeperSeen.{KeeperSeen}
use Rattle.jac_route.specs.declared.sessions.Session.{Session}
use Rattle.jac_cli.specs.declared.words.Command.{Command}
use Rattle.jac_command_base.specs.declared.exit_reason.ExitReason.{ExitReason}
use Rattle.jac_command_base.specs.declared.exit_reason.ExitReason.TheVariants as exits
use Rattle.jac_cli.specs.declared.role.Role.{Role}
use Rattle.jac_cli.specs.declared.role.Role.TheVariants as roles
use Rattle.jac_app_load.specs.Application.{IsApplication}
use Rattle.jac_app_load.specs.Refusal.{HasRefusal, refusal_text}
use Rattle.jac_app_load.specs.declared.refusal.Refusal.{Refusal}
use Rattle.jac_app_load.specs.declared.refusal.Refusal.TheVariants as refusals
use Rattle.jac_serve_events.specs.Outside.{Span, span, Sinks, sinks, Took, Went, WentAimed, AWriteFailed}
use Rattle.jac_cli.specs.Commands.{file_of, name_of, name_or_empty, limit_of}
use Rattle.jac_command_base.specs.Files.{Sight, IsReadAs, IsRead, HasSessions, HasBadLine, IsSessionless, HasApplication, IsReached, IsAimed, IsIdle, IsUnread, IsUnopened, IsNextUnopened, of_next}
use Rattle.jac_command_base.specs.ExitReason.{Closed}
use Rattle.jac_command_base.specs.Attached.{IsAttached, AttachesAs}
use Rattle.jac_command_base.specs.Early.{EndsOpening}
use Rattle.jac_serve_events.proofs.OutsideLemmas.{Lasts-none, Took-none, Rose-widen, failed_later}

-- What is seen of files between two moments of a run.
pub record IsWithin (files part : Span FilesSeen) : Type 0 where
  pub earlier : files.before.faults ≤ part.before.faults
  pub later : part.after.faults ≤ files.after.faults
  pub told : IsTrue files.after.tells → IsTrue part.after.tells
  pub same_file : IsTrue files.after.tells → part.before.file ≡ files.before.file

-- A file that wasn't read ends the steps.
pub unread_ends : (seen : Sight) (command : Command) (role : Role) (part : Span FilesSeen) (exit_reason : ExitReason)
    → IsReached seen command role → IsWithin seen.files part
    → IsUnread part (name_of command role) role exit_reason → EndsOpening seen command exit_reason
unread_ends seen command role part (exits.ReadFault r) reached within h = (
  subst (λ (q : Role). IsReached seen command q) (sym h.0) reached,
  Rose-widen _ _ _ _ within.earlier within.later h.1,
)
unread_ends seen command role part (exits.TooLong r) reached within h = (
  subst (λ (q : Role). IsReached seen command q) (sym h.0) reached,
  λ told.
      subst (λ (q : Role). IsSomeAnd (seen.files.before.file (name_of command q)) (λ bytes. limit_of q < length bytes)) (sym h.0)
      (subst (λ (f : List ℕ → Option (List ℕ)). IsSomeAnd (f (name_of command role)) (λ bytes. limit_of role < length bytes)) (within.same_file told)
      (h.1 (within.told told))),
)
unread_ends seen command role part exits.Memory reached within h = tt
unread_ends seen command role part (exits.AppRefused line) reached within h = absurd h
unread_ends seen command role part (exits.NewRefused line) reached within h = absurd h
unread_ends seen command role part (exits.UpgradeRefused line) reached within h = absurd h
unread_ends seen command role part (exits.LineRefused n) reached within h = absurd h
unread_ends seen command role part (exits.SessionsRefused line) reached within h = absurd h
unread_ends seen command role part exits.WriteFault reached within h = absurd h
unread_ends seen command role part exits.StoreFault reached within h = absurd h
unread_ends seen command role part exits.DoorFault reached within h = absurd h
unread_ends seen command role part (exits.OtherStore stored wanted) reached within h = absurd h

-- What was read between two moments of a run was read in the run.
pub read_within : (files part : Span FilesSeen) → IsWithin files part → (name : List ℕ) (role : Role) (bytes : List ℕ) → IsReadAs part name role bytes → IsReadAs files name role bytes
read_within files part within name role bytes read = record {
  short = read.short;
  told = λ told. ap (λ (f : List ℕ → Option (List ℕ)). f name) (sym (within.same_file told)) ∙ read.told (within.told told);
}

pub sessions_within : (files part : Span FilesSeen) → IsWithin files part → (name : Option (List ℕ)) (sessions : List Session) → HasSessions part name sessions → HasSessions files name sessions
sessions_within files part within None sessions h = h
sessions_within files part within (Some name) sessions h = (h.0, read_within files part within name roles.Sessions h.0 h.1, h.2)

pub bad_line_within : (files part : Span FilesSeen) → IsWithin files part → (name : Option (List ℕ)) (line : ℕ) → HasBadLine part name line → HasBadLine files name line
bad_line_within files part within None line h = absurd h
bad_line_within files part within (Some name) line h = (h.0, read_within files part within name roles.Sessions h.0 h.1, h.2)

-- Sessions that couldn't be read end the steps.
pub sessionless_named : (seen : Sight) (command : Command) (part : Span FilesSeen) (exit_reason : ExitReason) (name : Option (List ℕ)) → file_of command roles.Sessions ≡ name
    → (app : Application) × HasApplication seen command app → IsWithin seen.files part
    → IsSessionless part name exit_reason → EndsOpening seen command exit_reason
sessionless_named seen command part exit_reason None is reached within h = absurd h
sessionless_named seen command part exit_reason (Some name) is reached within (inl h) =
    unread_ends seen command roles.Sessions part exit_reason
    (reached, subst (λ (o : Option (List ℕ)). IsTrue (is_some o)) (sym is) refl)
    within
    (subst (λ (o : Option (List ℕ)). IsUnread part (name_or_empty o) roles.Sessions exit_reason) (sym is) h)
sessionless_named seen command part exit_reason (Some name) is reached within (inr h) =
    subst (λ (e : ExitReason). EndsOpening seen command e) (sym h.1)
    (reached, subst (λ (o : Option (List ℕ)). HasBadLine seen.files o h.0) (sym is) (bad_line_within seen.files part within (Some name) h.0 h.2))

pub sessionless_ends : (seen : Sight) (command : Command) (part : Span FilesSeen) (exit_reason : ExitReason)
    → (app : Application) × HasApplication seen command app → IsWithin seen.files part
    → IsSessionless part (file_of command roles.Sessions) exit_reason → EndsOpening seen command exit_reason
sessionless_ends seen command part exit_reason reached within h = sessionless_named seen command part exit_reason (file_of command roles.Sessions) refl reached within h

-- A refusal ends the steps with its line, unless memory ran out. Running out of memory has no line.
pub refused_ends : (bytes : List ℕ) (r : Refusal) (exit_reason : ExitReason)
    → (r ≡ refusals.Memory) ⊎ HasRefusal bytes r → (r ≡ refusals.Memory) ⊎ ((app : Application) → IsApplication bytes app → ⊥)
    → (¬ (r ≡ refusals.Memory) × (exit_reason ≡ exits.AppRefused (refusal_text r))) ⊎ (exit_reason ≡ exits.Memory) → IsUnopened bytes exit_reason
refused_ends bytes r exit_reason has none (inr memory) = inr memory
refused_ends bytes r exit_reason (inl memory) none (inl told) = absurd (told.0 memory)
refused_ends bytes r exit_reason (inr has) (inl memory) (inl told) = absurd (told.0 memory)
refused_ends bytes r exit_reason (inr has) (inr none) (inl told) = inl (refusal_text r, told.1, record { refusal = r; has = has; told = refl; none = none })

-- Bytes that give no application end the steps.
pub unopened_ends : (seen : Sight) (command : Command) (bytes : List ℕ) (exit_reason : ExitReason)
    → IsRead seen command roles.App bytes → IsUnopened bytes exit_reason → EndsOpening seen command exit_reason
unopened_ends seen command bytes exit_reason read (inl refused) = subst (λ (e : ExitReason). EndsOpening seen command e) (sym refused.1) (bytes, read, refused.2)
unopened_ends seen command bytes exit_reason read (inr memory) = subst (λ (e : ExitReason). EndsOpening seen command e) (sym memory) tt

-- Bytes that give no application to upgrade a store to end the steps.
pub next_unopened : (bytes : List ℕ) (exit_reason : ExitReason) → IsUnopened bytes exit_reason → IsNextUnopened bytes (of_next exit_reason)
next_unopened bytes exit_reason (inl refused) = inl (refused.0, ap of_next refused.1, refused.2)
next_unopened bytes exit_reason (inr memory) = inr (ap of_next memory)

pub next_unopened_ends : (seen : Sight) (command : Command) (bytes : List ℕ) (exit_reason : ExitReason)
    → IsReached seen command roles.New → IsRead seen command roles.New bytes → IsNextUnopened bytes exit_reason → EndsOpening seen command exit_reason
next_unopened_ends seen command bytes exit_reason reached read (inl refused) =
    subst (λ (e : ExitReason). EndsOpening seen command e) (sym refused.1) (reached, (bytes, read, refused.2))
next_unopened_ends seen command bytes exit_reason reached read (inr memory) = subst (λ (e : ExitReason). EndsOpening seen command e) (sym memory) tt

-- If the store wasn't attached, that isn't because a write failed.
pub attach_writes_nothing : (db : Option (List ℕ)) (app : Application) (k : Span KeeperSeen) → AttachesAs db app k (Err exits.WriteFault) → ⊥
attach_writes_nothing db app k h = h

-- A store that was attached is that of the steps around it.
pub is_attached : (db : Option (List ℕ)) (app : Application) (before opened after : KeeperSeen)
    → AttachesAs db app (span before opened) (Ok tt) → after.store ≡ opened.store → IsAttached db app (span before after) opened
is_attached db app before opened after h stays = record { attaches = h.0; fit = h.1; stays = stays }

-- The audit was aimed, and then only written to.
pub aimed_once : (a b c : SinkSeen) (name : Option (List ℕ)) (done : Unit {0}) → Aims a b name (Ok done) → Lasts b c → IsAimed name (span a c)
aimed_once a b c name done aims lasts = λ told. lasts.same_aims told ∙ aims.ok (lasts.told told)

pub took_once : (a b c : SinkSeen) (name : Option (List ℕ)) (done : Unit {0}) (bytes : List ℕ) → Aims a b name (Ok done) → Lasts b c → Took (span b c) bytes → Took (span a c) bytes
took_once a b c name done bytes aims lasts took = λ told. took told ∙ ap (λ (held : List ℕ). held ++ bytes) (aims.same_held (lasts.told told))

-- The steps after the audit was aimed.
module _ (out_before out_after audit_before audit_aimed audit_after : SinkSeen) (name : Option (List ℕ)) (done : Unit {0}) (aims : Aims audit_before audit_aimed name (Ok done)) where
  pub went_aimed : (P Q : List ℕ → List ℕ → Type 0) → (IsAimed name (span audit_before audit_after) → (o a : List ℕ) → P o a → Q o a)
      → Went (sinks out_before out_after audit_aimed audit_after) P → WentAimed (sinks out_before out_after audit_before audit_after) Q
  went_aimed P Q f went = record {
    out = went.out;
    audit = went.audit;
    out_lasts = went.out_lasts;
    audit_later = omega (arith, aims.later, went.audit_lasts.later);
    out_took = went.out_took;
    audit_took = took_once audit_before audit_aimed audit_after name done went.audit aims went.audit_lasts went.audit_took;
    holds = f (aimed_once audit_before audit_aimed audit_after name done aims went.audit_lasts) went.out went.audit went.holds;
  }

  pub failed_behind : AWriteFailed (sinks out_before out_after audit_aimed audit_after) → AWriteFailed (sinks out_before out_after audit_before audit_after)
  failed_behind failed =
      failed_later (sinks out_before out_after audit_before audit_after) (sinks out_before out_after audit_aimed audit_after)
      (omega arith) aims.later (omega arith) (omega arith) failed

-- The steps ended before the audit was aimed.
pub idle_ends : (out audit : SinkSeen) (P : List ℕ → List ℕ → Type 0) → P [] [] → WentAimed (sinks out out audit audit) P
idle_ends out audit P h = record {
  out = [];
  audit = [];
  out_lasts = Lasts-none out;
  audit_later = omega arith;
  out_took = Took-none out;
  audit_took = Took-none audit;
  holds = h;
}

pub still_idle : (audit : SinkSeen) (k : KeeperSeen) → IsIdle (span audit audit) (span k k) [] []
still_idle audit k = record { no_out = refl; no_audit = refl; unaimed = λ told. refl; still = refl }

pub WentAimed-on : (s : Sinks) (P Q : List ℕ → List ℕ → Type 0) → ((o a : List ℕ) → P o a → Q o a) → WentAimed s P → WentAimed s Q
WentAimed-on s P Q f went = record {
  out = went.out;
  audit = went.audit;
  out_lasts = went.out_lasts;
  audit_later = went.audit_later;
  out_took = went.out_took;
  audit_took = went.audit_took;
  holds = f went.out went.audit went.holds;
}

-- A consequence of what was put.
pub Closed-on : (out : Span SinkSeen) (P Q : List ℕ → Type 0) → ((put : List ℕ) → P put → Q put) → Closed out P → Closed out Q
Closed-on out P Q f c = record { put = c.put; lasts = c.lasts; took = c.took; holds = f c.put c.holds }

-- Nothing was put.
pub Closed-none : (out : SinkSeen) (P : List ℕ → Type 0) → P [] → Closed (span out out) P
Closed-none out P h = record { put = []; lasts = Lasts-none out; took = Took-none out; holds = h }
