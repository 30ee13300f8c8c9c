-- A run that ends with status 9 attached no store.
use Rattle.std.proofs.Common.{◌≡◌, ◌∙◌, refl, sym, subst, inl, inr, ℕ, false, Result, Ok, Err, Option, List, []}
use Rattle.jac_io.specs.Seen.{SinkSeen}
use Rattle.jac_io.specs.Linked.{LinkSeen, DoorSeen}
use Rattle.jac_lang.specs.Syntax.{Application}
use Rattle.jac_keep.specs.KeeperSeen.{KeeperSeen}
use Rattle.jac_serve_events.specs.Outside.{Span, span, Sinks}
use Rattle.jac_serve_events.specs.RunSeen.{RunCounts, RunSeen, keepers}
use Rattle.jac_cli.specs.Commands.{db_of}
use Rattle.jac_cli.specs.declared.words.Command.{Command}
use Rattle.jac_cli.specs.declared.words.Command.TheVariants as commands
use Rattle.jac_command_base.specs.declared.exit_reason.ExitReason.{ExitReason}
use Rattle.jac_command_base.specs.declared.exit_reason.ExitReason.TheVariants as exits
use Rattle.jac_command_base.specs.declared.status.Status.{Status}
use Rattle.jac_command_base.specs.declared.status.Status.TheVariants as statuses
use Rattle.jac_command_base.specs.Attached.{IsUnattached, IsOther, AttachesAs}
use Rattle.jac_command_base.specs.ExitReason.{Closes, Finishes, fault_line, status_of}
use Rattle.jac_command_base.specs.Files.{Sight, sinks_of, standing_at}
use Rattle.jac_admin.specs.Upgrade.{IsKept, EndsReshaping, EndsUpgrading}
use Rattle.jac_admin.specs.Explain.{asker_in, EndsExplained, EndsExplaining}
use Rattle.jac_app.specs.declared.summary.Summary.{Summary}
use Rattle.jac_app.specs.Demo.{EndsCounting, EndsTallying, PutsSummary}
use Rattle.jac_app.specs.Held.{held_of}
use Rattle.jac_app.specs.Run.{Ends, Runs, usage_line}
use Rattle.jac_run_laws.specs.Replayed.{TopRun, IsTopRun, counts_of}
use Rattle.jac_main.specs.Refused.{IsOtherLeft}

-- Two equal endings have the same reason.
same_reason : {T : Type 0} (a b : ExitReason) → ◌≡◌ {A = Result T ExitReason} (Err a) (Err b) → a ≡ b
same_reason a b same = cc

-- ---- a store of another schema was found

module _ (stored wanted : List ℕ) where
  -- The reason why the steps end.
  abbrev other : ExitReason
  other = exits.OtherStore stored wanted

  module _ (keeper : Span KeeperSeen) (before : keeper.before.store.attached ≡ false) where
    left_by : (out audit : List ℕ) → IsOther keeper stored wanted → IsUnattached keeper out audit → IsOtherLeft keeper
    left_by out audit found unattached = record {
      stored = stored;
      known = found.known;
      unattached = unattached.unattached ∙ before;
      refused = unattached.refused;
    }

    attaching_other : (db : Option (List ℕ)) (app : Application) (reason : ExitReason) → ◌≡◌ {A = Result (Unit {0}) ExitReason} (Err other) (Err reason) → AttachesAs db app keeper (Err reason) → IsOtherLeft keeper
    attaching_other db app reason same attaches =
        let it : AttachesAs db app keeper (Err other) = subst (λ (e : ExitReason). AttachesAs db app keeper (Err e)) (sym (same_reason other reason same)) attaches in
        left_by [] [] it.1 it.2

  -- No call over an attached store ends with this reason.
  never_kept : {A : Type 0} (k : Span KeeperSeen) (put : List ℕ) → IsKept k (Err other) put → A
  never_kept k put kept = elim kept.ended [
    | inl failed ↦ absurd (let same = same_reason other exits.StoreFault failed.0 in cc)
    | inr memory ↦ absurd (let same = same_reason other exits.Memory memory in cc)
  ]

  never_reshaped : {A : Type 0} (old new : Application) (out : Span SinkSeen) (k : Span KeeperSeen) (put : List ℕ) → EndsReshaping old new out k (Err other) put → A
  never_reshaped old new out k put (inl h) = absurd h.puts
  never_reshaped old new out k put (inr h) = never_kept k put h

  never_explained : {A : Type 0} (app : Application) (viewer : Option ℕ) (out : Span SinkSeen) (k : Span KeeperSeen) (put : List ℕ) → EndsExplained app viewer out k (Err other) put → A
  never_explained app viewer out k put (inl h) = absurd h.puts
  never_explained app viewer out k put (inr h) = never_kept k put h

  -- ---- by command

  module _ (out : Span SinkSeen) (keeper : Span KeeperSeen) (before : keeper.before.store.attached ≡ false) (put : List ℕ) where
    upgrading_other : (db : Option (List ℕ)) (old new : Application) → EndsUpgrading db old new out keeper (Err other) put → IsOtherLeft keeper
    upgrading_other db old new (inl h) = elim h.told [
      | inl lacks ↦ absurd (let same = same_reason other _ lacks in cc)
      | inr memory ↦ absurd (let same = same_reason other exits.Memory memory in cc)
    ]
    upgrading_other db old new (inr h) = elim h.1 [
      | inl unmoved ↦ attaching_other keeper before db old unmoved.exit_reason unmoved.ended unmoved.attaches
      | inr moved ↦ never_reshaped old new out (span moved.opened keeper.after) put moved.ends
    ]

    explaining_other : (db : Option (List ℕ)) (app : Application) (viewer : Option ℕ) → EndsExplaining db app viewer out keeper (Err other) put → IsOtherLeft keeper
    explaining_other db app viewer (inl h) = attaching_other keeper before db app h.exit_reason h.ended h.attaches
    explaining_other db app viewer (inr h) = never_explained app viewer out (span h.opened keeper.after) put h.ends

  module _ (s : Sinks) (app : Application) (k : Span RunSeen) (before : k.before.keeper.store.attached ≡ false) (count : ℕ) (out audit : List ℕ) where
    told_other : (ended : Result Summary ExitReason) → EndsTallying app k count ended audit → PutsSummary s.out ended (Err other) out → IsOtherLeft (keepers k)
    told_other (Ok summary) ends told = absurd told
    told_other (Err reason) ends told =
        let it : EndsTallying app k count (Err other) audit = subst (λ (e : ExitReason). EndsTallying app k count (Err e) audit) (sym (same_reason other reason told.0)) ends in
        left_by (keepers k) before [] audit it.1 it.2.unattached

    counting_other : EndsCounting s app k count (Err other) out audit → IsOtherLeft (keepers k)
    counting_other (inl h) = absurd (let same = same_reason other exits.WriteFault h.fault in cc)
    counting_other (inr h) = told_other h.1.ended h.1.ends h.1.told

  module _ {L : Type 0} (line : L → LinkSeen) (seen : Sight) (door : Span (DoorSeen L)) (counts : Span RunCounts) (before : seen.keeper.before.store.attached ≡ false) (out audit : List ℕ) where
    ends_other : (command : Command) → Ends line seen door counts command (Err other) out audit → IsOtherLeft seen.keeper
    ends_other (commands.Check app) (inl h, uncalled, unsplit) = absurd h.0
    ends_other (commands.Check app) (inr h, uncalled, unsplit) = absurd h.text
    ends_other (commands.Replay replay) (inl h, uncalled) = absurd h.0.0
    ends_other (commands.Replay replay) (inr h, uncalled) = left_by seen.keeper before out audit h.ends.1.1 h.ends.1.2.unattached
    ends_other (commands.Serve serving) (inl h) = absurd h.0.0
    ends_other (commands.Serve serving) (inr h) = left_by seen.keeper before out audit h.ends.1.1 h.ends.1.2.unstarted.unattached
    ends_other (commands.Demo n) (inl h, uncalled) = elim h.0 [
      | inl refused ↦ absurd (let same = refused.1 in cc)
      | inr memory ↦ absurd (let same = memory in cc)
    ]
    ends_other (commands.Demo n) (inr h, uncalled) = counting_other (sinks_of seen) h.app (held_of seen counts) before n out audit h.ends
    ends_other (commands.Dump dumping) (inl h, uncalled, unsplit) = absurd h.0
    ends_other (commands.Dump dumping) (inr h, uncalled, unsplit) = left_by seen.keeper before out [] h.ends.1 h.ends.2
    ends_other (commands.Upgrade upgrading) (inl h, uncalled) = absurd h.0
    ends_other (commands.Upgrade upgrading) (inr h, uncalled) = upgrading_other seen.out seen.keeper before out (db_of (commands.Upgrade upgrading)) h.old h.new h.ends
    ends_other (commands.Why explaining) (inl h, uncalled, unsplit) = absurd h.0
    ends_other (commands.Why explaining) (inr h, uncalled, unsplit) = explaining_other seen.out seen.keeper before out (db_of (commands.Why explaining)) h.app (asker_in (commands.Why explaining) h.app) h.ends

-- ---- and then its line is put

-- Only this ending has the status.
record IsOtherReason (reason : ExitReason) : Type 0 where
  pub stored : List ℕ
  pub wanted : List ℕ
  pub is : reason ≡ exits.OtherStore stored wanted

reason_of : (reason : ExitReason) → status_of reason ≡ statuses.OtherStore → IsOtherReason reason
reason_of (exits.OtherStore stored wanted) same = record { stored = stored; wanted = wanted; is = refl }
reason_of (exits.ReadFault role) same = absurd cc
reason_of (exits.TooLong role) same = absurd cc
reason_of (exits.AppRefused text) same = absurd cc
reason_of (exits.NewRefused text) same = absurd cc
reason_of (exits.UpgradeRefused text) same = absurd cc
reason_of (exits.LineRefused event_fault) same = absurd cc
reason_of (exits.SessionsRefused n) same = absurd cc
reason_of exits.WriteFault same = absurd cc
reason_of exits.StoreFault same = absurd cc
reason_of exits.DoorFault same = absurd cc
reason_of exits.Memory same = absurd cc

-- The line that was put is the line of the status.
closes_other : (out : Span SinkSeen) (text put : List ℕ) (status : Status) → Closes out text status put statuses.OtherStore → status ≡ statuses.OtherStore
closes_other out text put status (inl h) = sym h.1
closes_other out text put status (inr h) = absurd (let same = h.1 in cc)

module _ {L : Type 0} (line : L → LinkSeen) (seen : Sight) (door : Span (DoorSeen L)) (counts : Span RunCounts) (before : seen.keeper.before.store.attached ≡ false) where
  finishes_other : (standing : SinkSeen) (command : Command) (ended : Result (Unit {0}) ExitReason) (served audit last : List ℕ) → Ends line (standing_at seen standing) door counts command ended served audit
      → Finishes (span standing seen.out.after) command ended last statuses.OtherStore → IsOtherLeft seen.keeper
  finishes_other standing command (Ok done) served audit last ends h = absurd (let same = h.1 in cc)
  finishes_other standing command (Err reason) served audit last ends h =
      let it = reason_of reason (closes_other (span standing seen.out.after) (fault_line command reason) last (status_of reason) h) in
      ends_other it.stored it.wanted line (standing_at seen standing) door counts before served audit command
      (subst (λ (e : ExitReason). Ends line (standing_at seen standing) door counts command (Err e) served audit) it.is ends)

  runs_other : (words : List (List ℕ)) (out audit : List ℕ) → Runs line seen door counts words statuses.OtherStore out audit → IsOtherLeft seen.keeper
  runs_other words out audit (inl r) = finishes_other r.standing r.command r.ended r.served audit r.last r.ends r.finishes
  runs_other words out audit (inr (inl r)) = absurd (let same = closes_other seen.out usage_line out statuses.Usage r.closes in cc)
  runs_other words out audit (inr (inr r)) = absurd (let same = closes_other seen.out _ out statuses.Memory r.closes in cc)

pub other_left : {L : Type 0} (words : List (List ℕ)) (top : TopRun L) → top.seen.keeper.before.store.attached ≡ false → IsTopRun words top → top.status ≡ statuses.OtherStore → IsOtherLeft top.seen.keeper
other_left words top before ran is =
    runs_other top.line top.seen top.door (counts_of top) before words ran.ran.out ran.ran.audit
    (subst (λ (s : Status). Runs top.line top.seen top.door (counts_of top) words s ran.ran.out ran.ran.audit) is ran.ran.holds)
