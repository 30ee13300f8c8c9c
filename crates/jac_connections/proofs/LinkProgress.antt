-- Serving one piece of a link after another.
use Rattle.std.proofs.Common.{◌≡◌, ◌∙◌, ap, sym, subst, refl, inl, inr, ℕ, ◌+◌, ◌-◌, ◌≤◌, ◌<◌, ◌==◌, ◌||◌, ◌&&◌, ◌⊎◌, not, nat_le, Bool, true, false, IsTrue, IsSome, Option, Some, None, Ok, Err, List, [], ◌∷◌, ◌++◌, length, drop, append_assoc, append-nil, length-append, length-take, length-drop, if◌then◌else◌, arith}
use Rattle.std.proofs.lemmas.Bool.Decides.{nat_tests}
use Rattle.std.specs.List.{concat}
use Rattle.std.proofs.lemmas.Bool.{and_from}
use Rattle.jac_io.specs.Faults.{Rose}
use Rattle.jac_io.specs.Linked.{LinkSeen}
use Rattle.jac_serve_events.specs.RunSeen.{RunSeen}
use Rattle.jac_replies.specs.declared.answer.Ask.{Ask}
use Rattle.jac_events.specs.declared.event.Event.{Event}
use Rattle.jac_events.specs.declared.event.Event.TheVariants.{Begin, Piece, Finish}
use Rattle.jac_http.specs.declared.taken.Taken.TheVariants.{Whole}
use Rattle.jac_http.specs.Reading.{IsReading}
use Rattle.jac_http.specs.Requests.{IsTaken}
use Rattle.jac_hub.specs.declared.hub.Turn.TheVariants.{Idle}
use Rattle.jac_hub.specs.Channel.{LIMIT, ChannelSeen, new_channel}
use Rattle.jac_hub.specs.Hearing.{Subject as SubjectOf, whole, refused, broken}
use Rattle.jac_hub.specs.Heard.{Connection, Connections, no_connections, new_connection, set_at, with_bytes, with_entry, is_closed, may_close, closes_connection, bytes_counted, StandAt, IsNextEntry, AreBrought, AreBegun, PieceBrings, PieceBegins, IsBroughtBy, IsHeardFrom, after_both}
use Rattle.jac_hub.specs.Hub.{HubSeen}
use Rattle.jac_hub.specs.Served.{AreLikeAt, AreLike, is_shut, closing}
use Rattle.jac_hub.proofs.Events.{piece-left, piece-closings}
use Rattle.jac_hub.proofs.Following.{new-like}
use Rattle.jac_hub.proofs.Standing.{with_entries, set-same, brought-of}
use Rattle.jac_hub.proofs.Statuses.{all_sound}
use Rattle.jac_serve_events.specs.declared.outputs.EventOutcome.{EventOutcome}
use Rattle.jac_connections.specs.declared.link.Halt.TheVariants as halts
use Rattle.jac_serve_events.specs.declared.outputs.FailedSink.{FailedSink}
use Rattle.jac_serve_events.specs.declared.outputs.FailedSink.TheVariants as losses
use Rattle.jac_replies.specs.declared.reply.Spelling.TheVariants as spellings
use Rattle.jac_connections.specs.Link.{pieces_of, events_of, closes_in, is_over, StopsAtClosing, IsLinkServed}
use Rattle.jac_connections.specs.LinkSteps.{Gave, begun_hub, IsPieceOn, IsPieceBegun, IsTornOn, IsQuiet}
use Rattle.jac_serve_events.specs.AnswerSpec.{LogEntry, hearing, IsHeardBy, AnswerSpec, IsAnswerSpec}
use Rattle.jac_serve_events.specs.Log.{replies_on, audited_from, Brings, event_text}
use Rattle.jac_serve_events.specs.Outside.{Span, span}
use Rattle.jac_serve_events.specs.Serve.{IsServed, IsLastLost, has_closed, outs_on}
use Rattle.jac_serve_events.proofs.BringsLemmas.{brings-push, brings-part, brings-begun}
use Rattle.jac_serve_events.proofs.EntriesLemmas.{entries-still, replies-append}
use Rattle.jac_connections.proofs.LinkClosing.{begun_whole, stops_next}
use Rattle.jac_connections.proofs.LostReplies.{audited_on, last_behind}
use Rattle.jac_serve_events.proofs.OutsideLemmas.{Rose-widen}
use Rattle.jac_serve_events.proofs.ProgressLemmas.{is_served_by}

-- ---- how many entries a connection may have

abbrev pub is_whole : SubjectOf Ask → Bool
is_whole (whole ask close) = true
is_whole (refused status) = false
is_whole broken = false

abbrev pub all_whole : List (SubjectOf Ask) → Bool
all_whole [] = true
all_whole (subject ∷ subjects) = is_whole subject && all_whole subjects

-- Each subject of a connection except the last uses at least one of the bytes that count, so there
-- are at most LIMIT + 1 subjects.
pub record IsFew (one : Connection Ask) : Type 0 where
  pub whole_ones : one.ended ≡ false → all_whole one.heard ≡ true
  pub few : length one.heard ≤ LIMIT + 1

and_left : (a b : Bool) → (a && b) ≡ true → a ≡ true
and_left true b h = refl
and_left false b h = absurd cc

and_right : (a b : Bool) → (a && b) ≡ true → b ≡ true
and_right true b h = h
and_right false b h = absurd cc

or_left : (a b : Bool) → (a || b) ≡ false → a ≡ false
or_left true b h = absurd cc
or_left false b h = refl

or_right : (a b : Bool) → (a || b) ≡ false → b ≡ false
or_right true b h = absurd cc
or_right false b h = h

used_less : (used : ℕ) (from rest : List ℕ) → 0 < used → used ≤ length from → rest ≡ drop used from → length rest + 1 ≤ length from
used_less used from rest some within is = let l = ap length is in let d = length-drop used from in omega (arith, l, d, some, within)

module _ (app : AnswerSpec) (law : IsReading IsTaken) where
  stand_few : (subjects : List (SubjectOf Ask)) (from to : List ℕ) → all_whole subjects ≡ true → StandAt (hearing app) subjects from to → length subjects + length to ≤ length from
  stand_few [] from to all is = let l = ap length is in omega (arith, l)
  stand_few (whole ask close ∷ subjects) from to all (rest, (request, used, reads, wants, closes_it, is), more) =
      let sound = all_sound law from (Ok (Whole request used)) reads in
      let less = used_less used from rest sound.0 sound.1 is in
      let others = stand_few subjects rest to all more in
      omega (arith, less, others)
  stand_few (refused status ∷ subjects) from to all h = absurd cc
  stand_few (broken ∷ subjects) from to all h = absurd cc

  whole_last : (subjects : List (SubjectOf Ask)) (subject : SubjectOf Ask) → all_whole subjects ≡ true → is_whole subject ≡ true → all_whole (subjects ++ subject ∷ []) ≡ true
  whole_last [] subject all one = and_from (is_whole subject) true one refl
  whole_last (s ∷ subjects) subject all one =
      and_from (is_whole s) (all_whole (subjects ++ subject ∷ [])) (and_left (is_whole s) (all_whole subjects) all)
      (whole_last subjects subject (and_right (is_whole s) (all_whole subjects) all) one)

  whole_open : (subject : SubjectOf Ask) → closes_connection subject ≡ false → is_whole subject ≡ true
  whole_open (whole ask close) h = refl
  whole_open (refused status) h = absurd cc
  whole_open broken h = absurd cc

  counted_few : (one : Connection Ask) → length (bytes_counted one) ≤ LIMIT
  counted_few one = let l = length-take LIMIT one.bytes in omega (arith, l)

  few_next : (n c : ℕ) (one : Connection Ask) (entry : LogEntry) → IsFew one → IsNextEntry (hearing app) n c one entry → IsFew (with_entry (hearing app) entry one)
  few_next n c one entry few next =
      let all = few.whole_ones next.open_still in
      let standing = next.subject in
      let less = stand_few one.heard (bytes_counted one) standing.0 all standing.2 in
      let most = counted_few one in
      let long = length-append one.heard (entry.subject ∷ []) in
      record {
        whole_ones = λ open_still.
            whole_last one.heard entry.subject all
            (whole_open entry.subject (or_left (closes_connection entry.subject) ((hearing app).ends entry.answer) (or_right one.ended (may_close (hearing app) entry) open_still)));
        few = omega (arith, less, most, long);
      }

  few_begun : (n c : ℕ) (one : Connection Ask) (mine : List LogEntry) → IsFew one → AreBegun (hearing app) n c one mine → IsFew (with_entries (hearing app) mine one)
  few_begun n c one [] few begun = few
  few_begun n c one (entry ∷ mine) few begun =
      few_begun n c (with_entry (hearing app) entry one) mine (few_next n c one entry few begun.0) begun.1

  few_brought : (n c : ℕ) (one : Connection Ask) (mine : List LogEntry) → IsFew one → AreBrought (hearing app) n c one mine → IsFew (with_entries (hearing app) mine one)
  few_brought n c one [] few brought = few
  few_brought n c one (entry ∷ mine) few brought =
      few_brought n c (with_entry (hearing app) entry one) mine (few_next n c one entry few brought.0) brought.1

  -- ---- a connection after entries

  entries_bytes : (mine : List LogEntry) (one : Connection Ask) → (with_entries (hearing app) mine one).bytes ≡ one.bytes
  entries_bytes [] one = refl
  entries_bytes (entry ∷ mine) one = entries_bytes mine (with_entry (hearing app) entry one)

  entries_heard : (mine : List LogEntry) (one : Connection Ask) → length (with_entries (hearing app) mine one).heard ≡ length one.heard + length mine
  entries_heard [] one = omega arith
  entries_heard (entry ∷ mine) one =
      let more = entries_heard mine (with_entry (hearing app) entry one) in
      let long = length-append one.heard (entry.subject ∷ []) in
      omega (arith, more, long)

  or_assoc : (a b c : Bool) → ((a || b) || c) ≡ (a || (b || c))
  or_assoc true b c = refl
  or_assoc false b c = refl

  or_none : (a : Bool) → a ≡ (a || false)
  or_none true = refl
  or_none false = refl

  entries_ended : (mine : List LogEntry) (one : Connection Ask) → (with_entries (hearing app) mine one).ended ≡ (one.ended || closes_in app mine)
  entries_ended [] one = or_none one.ended
  entries_ended (entry ∷ mine) one =
      entries_ended mine (with_entry (hearing app) entry one) ∙ or_assoc one.ended (may_close (hearing app) entry) (closes_in app mine)

  closes-append : (xs ys : List LogEntry) → closes_in app (xs ++ ys) ≡ (closes_in app xs || closes_in app ys)
  closes-append [] ys = refl
  closes-append (x ∷ xs) ys =
      ap (λ (b : Bool). may_close (hearing app) x || b) (closes-append xs ys)
      ∙ sym (or_assoc (may_close (hearing app) x) (closes_in app xs) (closes_in app ys))

  -- ---- what a piece of an open connection brings

  true_false : (b : Bool) (P : Type 0) → b ≡ true → b ≡ false → P
  true_false b P e f = absurd cc

  brought_by_some : (n c : ℕ) (bytes : List ℕ) (one : Connection Ask) (mine : List LogEntry) → is_closed one ≡ false → PieceBrings (hearing app) n c bytes (Some one) mine
      → AreBrought (hearing app) n c (with_bytes bytes one) mine
  brought_by_some n c bytes one mine open_still (inl h) = true_false (is_closed one) _ h.0 open_still
  brought_by_some n c bytes one mine open_still (inr h) = h.1

  begun_by_some : (n c : ℕ) (bytes : List ℕ) (one : Connection Ask) (mine : List LogEntry) → is_closed one ≡ false → PieceBegins (hearing app) n c bytes (Some one) mine
      → AreBegun (hearing app) n c (with_bytes bytes one) mine
  begun_by_some n c bytes one mine open_still (inl h) = true_false (is_closed one) _ h.0 open_still
  begun_by_some n c bytes one mine open_still (inr h) = h.1

  closed_is : (c : ℕ) (b : Bool) → has_closed (closing c b) ≡ b
  closed_is c true = refl
  closed_is c false = refl

  -- That the connection was closed isn't written to it.
  closed_raw : (c : ℕ) (b : Bool) → outs_on spellings.Raw (closing c b) ≡ []
  closed_raw c true = refl
  closed_raw c false = refl

-- ---- lists

pieces_push : (c : ℕ) (xs : List (List ℕ)) (bytes : List ℕ) → pieces_of c (xs ++ bytes ∷ []) ≡ pieces_of c xs ++ Piece c bytes ∷ []
pieces_push c [] bytes = refl
pieces_push c (x ∷ xs) bytes = ap (λ (es : List Event). Piece c x ∷ es) (pieces_push c xs bytes)

concat_push : (xs : List (List ℕ)) (bytes : List ℕ) → concat (xs ++ bytes ∷ []) ≡ concat xs ++ bytes
concat_push [] bytes = append-nil bytes
concat_push (x ∷ xs) bytes = ap (λ (t : List ℕ). x ++ t) (concat_push xs bytes) ∙ sym (append_assoc x (concat xs) bytes)

gave_on : (a b c : LinkSeen) (xs : List (List ℕ)) (bytes : List ℕ) → (IsTrue c.tells → IsTrue b.tells) → Gave (span a b) (concat xs) → Gave (span b c) bytes → Gave (span a c) (concat (xs ++ bytes ∷ []))
gave_on a b c xs bytes back one two = λ told.
    one (back told) ∙ ap (λ (l : List ℕ). concat xs ++ l) (two told) ∙ sym (append_assoc (concat xs) bytes c.left)
    ∙ ap (λ (l : List ℕ). l ++ c.left) (sym (concat_push xs bytes))

gave_same : (a b c : LinkSeen) (bytes : List ℕ) → (IsTrue c.tells → IsTrue b.tells) → Gave (span a b) bytes → Gave (span b c) [] → Gave (span a c) bytes
gave_same a b c bytes back one two = λ told. one (back told) ∙ ap (λ (l : List ℕ). bytes ++ l) (two told)

-- ---- the pieces so far

-- These pieces were served. After them the connection is closed or not.
pub record LinkProgress (app : AnswerSpec) (c first : ℕ) (hub : HubSeen) (link : Span LinkSeen) (k : Span RunSeen) (count : ℕ) (closed : Bool) (out audit : List ℕ) : Type 0 where
  pub pieces : List (List ℕ)
  pub log : List LogEntry
  pub known : Connections Ask
  pub one : Connection Ask
  pub text : List ℕ
  pub here : known c ≡ Some one
  pub is_closed_now : is_closed one ≡ closed
  pub bytes : one.bytes ≡ concat pieces
  pub ended : one.ended ≡ closes_in app log
  pub heard : length one.heard ≡ length log
  pub few : IsFew one
  pub closing : StopsAtClosing pieces log
  pub gave : Gave link (concat pieces)
  pub brings : Brings app no_connections 0 (Begin c ∷ pieces_of c pieces) log text known
  pub entries : app.entries k log
  pub count_is : count ≡ first + length log
  pub like : AreLike (hearing app) hub.channels known
  pub idle : hub.turn ≡ Idle
  pub out_text : out ≡ replies_on spellings.Raw log
  pub audit_text : audit ≡ audited_from (first + 1) log

-- The number of bytes that a hub has taken from a connection.
abbrev pub taken_in : Option ChannelSeen → ℕ
taken_in None = 0
taken_in (Some channel) = channel.taken

abbrev pub taken_by : HubSeen → ℕ → ℕ
taken_by hub c = taken_in (hub.channels c)

-- A hub has taken all bytes of an open connection, and they are fewer than the limit.
taken_open : (app : AnswerSpec) (o : Option ChannelSeen) (one : Connection Ask) → AreLikeAt (hearing app) o (Some one) → is_closed one ≡ false
    → (taken_in o ≡ length one.bytes) × (length one.bytes < LIMIT)
taken_open app None one like open_still = absurd like
taken_open app (Some channel) one like open_still =
    let l = (like.1 open_still).taken in
    let less : nat_le LIMIT (length one.bytes) ≡ false = or_right one.ended (nat_le LIMIT (length one.bytes)) open_still in
    let fewer : length one.bytes < LIMIT = grind (arith, nat_tests, less) in
    (omega (arith, l, fewer), fewer)

open_some : (app : AnswerSpec) (o : Option ChannelSeen) (one : Connection Ask) → AreLikeAt (hearing app) o (Some one) → IsSome o
open_some app None one like = absurd like
open_some app (Some channel) one like = refl

abbrev pub open_at : ℕ → Connections Ask
open_at c = set_at c (Some new_connection) no_connections

begun_like : (app : AnswerSpec) (c : ℕ) → AreLike (hearing app) (begun_hub c).channels (open_at c)
unfolding LIMIT
begun_like app c = λ d. at (d == c)
  where
    at : (b : Bool) → AreLikeAt (hearing app) (if b then Some new_channel else None) (if b then Some new_connection else None)
    at true = (refl, λ open_still. new-like (hearing app))
    at false = tt

new_open : is_closed {I = Ask} new_connection ≡ false
unfolding LIMIT
new_open = refl

limit_some : 1 ≤ LIMIT
unfolding LIMIT
limit_some = omega arith

-- No piece was served yet.
pub link_start : (app : AnswerSpec) (lawful : IsAnswerSpec app) (c first : ℕ) (link : LinkSeen) (k : RunSeen) → app.ready k
    → LinkProgress app c first (begun_hub c) (span link link) (span k k) first false [] []
link_start app lawful c first link k start = record {
  pieces = [];
  log = [];
  known = open_at c;
  one = new_connection;
  text = [];
  here = set-same c (Some new_connection) no_connections;
  is_closed_now = new_open;
  bytes = refl;
  ended = refl;
  heard = refl;
  few = record { whole_ones = λ open_still. refl; few = omega arith };
  closing = record { takes = tt; last = tt };
  gave = λ told. refl;
  brings = ([], [], [], refl, refl, refl, (refl, refl, refl));
  entries = lawful.none k start;
  count_is = omega arith;
  like = begun_like app c;
  idle = refl;
  out_text = refl;
  audit_text = refl;
}

module _ (app : AnswerSpec) (lawful : IsAnswerSpec app) (law : IsReading IsTaken) (c first : ℕ) (hub : HubSeen) (la lb lc : LinkSeen) (a b d : RunSeen) (count : ℕ) (o au p bu : List ℕ)
    (back : IsTrue lc.tells → IsTrue lb.tells)
    (so_far : LinkProgress app c first hub (span la lb) (span a b) count false o au) where
  -- The number of the next event.
  abbrev pub place : ℕ
  place = 0 + length (Begin c ∷ pieces_of c so_far.pieces)

  brought_next : (bytes : List ℕ) (mine : List LogEntry) → IsBroughtBy (hearing app) place (Piece c bytes) so_far.known mine
      → AreBrought (hearing app) place c (with_bytes bytes so_far.one) mine
  brought_next bytes mine h =
      brought_by_some app law place c bytes so_far.one mine so_far.is_closed_now
      (subst (λ (x : Option (Connection Ask)). PieceBrings (hearing app) place c bytes x mine) so_far.here h)

  -- One more piece.
  pub link_on : (new : HubSeen) (brought : EventOutcome) → IsPieceOn app c new (span lb lc) (span b d) count brought place so_far.known p bu
      → LinkProgress app c first new (span la lc) (span a d) brought.count brought.closed (o ++ p) (au ++ bu)
  link_on new brought s =
      let h = hearing app in
      let mine = s.heard.mine in
      let given = brought_next s.bytes mine s.heard.brought_by in
      let all = brought-of h place c (with_bytes s.bytes so_far.one) mine given in
      let one : Connection Ask = with_entries h mine (with_bytes s.bytes so_far.one) in
      let later = after_both h (Piece c s.bytes) mine so_far.known in
      record {
        pieces = so_far.pieces ++ s.bytes ∷ [];
        log = so_far.log ++ mine;
        known = later;
        one = one;
        text = so_far.text ++ event_text app (Piece c s.bytes) so_far.known mine;
        here = ap (λ (k : Connections Ask). k c) (piece-left h c s.bytes so_far.one so_far.known mine so_far.here all) ∙ set-same c (Some one) so_far.known;
        is_closed_now =
            sym (s.heard.closed_is
            ∙ ap has_closed (piece-closings h c s.bytes so_far.one so_far.known mine so_far.here so_far.is_closed_now all)
            ∙ closed_is app law c (is_closed one));
        bytes =
            entries_bytes app law mine (with_bytes s.bytes so_far.one)
            ∙ ap (λ (l : List ℕ). l ++ s.bytes) so_far.bytes ∙ sym (concat_push so_far.pieces s.bytes);
        ended =
            entries_ended app law mine (with_bytes s.bytes so_far.one)
            ∙ ap (λ (x : Bool). x || closes_in app mine) so_far.ended ∙ sym (closes-append app law so_far.log mine);
        heard =
            let more = entries_heard app law mine (with_bytes s.bytes so_far.one) in
            let before = so_far.heard in
            let long = length-append so_far.log mine in
            omega (arith, more, before, long);
        few =
            few_brought app law place c (with_bytes s.bytes so_far.one) mine
            (record { whole_ones = so_far.few.whole_ones; few = so_far.few.few }) given;
        closing =
            stops_next app c so_far.pieces so_far.log so_far.one s.bytes mine so_far.closing so_far.bytes so_far.ended so_far.is_closed_now s.is_take
            (begun_whole app place c (with_bytes s.bytes so_far.one) mine given);
        gave = gave_on la lb lc so_far.pieces s.bytes back so_far.gave s.gave;
        brings =
            subst (λ (es : List Event). Brings app no_connections 0 es (so_far.log ++ mine) (so_far.text ++ event_text app (Piece c s.bytes) so_far.known mine) later)
            (ap (λ (es : List Event). Begin c ∷ es) (sym (pieces_push c so_far.pieces s.bytes)))
            (brings-push app (Begin c ∷ pieces_of c so_far.pieces) no_connections so_far.known 0 so_far.log mine so_far.text (Piece c s.bytes) so_far.brings s.heard.brought_by);
        entries = lawful.joined a b d so_far.log mine so_far.entries s.heard.entries;
        count_is =
            let long = length-append so_far.log mine in
            let before = so_far.count_is in
            let more = s.heard.count_is in
            omega (arith, long, before, more);
        like = s.heard.like;
        idle = s.heard.idle;
        out_text =
            ap (λ (t : List ℕ). t ++ p) so_far.out_text
            ∙ ap (λ (t : List ℕ). replies_on spellings.Raw so_far.log ++ t)
            (s.heard.out_text ∙ ap (λ (t : List ℕ). replies_on spellings.Raw mine ++ t) (closed_raw app law c (not (is_shut (so_far.known c)) && is_shut (later c)))
            ∙ append-nil (replies_on spellings.Raw mine))
            ∙ sym (replies-append spellings.Raw so_far.log mine);
        audit_text =
            ap (λ (t : List ℕ). t ++ bu) so_far.audit_text ∙ ap (λ (t : List ℕ). audited_from (first + 1) so_far.log ++ t) s.heard.audit_text
            ∙ audited_on first count so_far.log mine so_far.count_is;
      }

-- The connection has begun.
pub link_begun : (app : AnswerSpec) (c first : ℕ) (hub : HubSeen) (link : Span LinkSeen) (k : Span RunSeen) (count : ℕ) (closed : Bool) (o au : List ℕ)
    → LinkProgress app c first hub link k count closed o au → IsSome (hub.channels c)
link_begun app c first hub link k count closed o au s =
    open_some app (hub.channels c) s.one (subst (λ (x : Option (Connection Ask)). AreLikeAt (hearing app) (hub.channels c) x) s.here (s.like c))

-- The number of bytes that were taken from an open connection.
link_taken : (app : AnswerSpec) (c first : ℕ) (hub : HubSeen) (link : Span LinkSeen) (k : Span RunSeen) (count : ℕ) (o au : List ℕ)
    → (s : LinkProgress app c first hub link k count false o au) → (taken_by hub c ≡ length (concat s.pieces)) × (length (concat s.pieces) < LIMIT)
link_taken app c first hub link k count o au s =
    let t = taken_open app (hub.channels c) s.one (subst (λ (x : Option (Connection Ask)). AreLikeAt (hearing app) (hub.channels c) x) s.here (s.like c)) s.is_closed_now in
    (t.0 ∙ ap (λ (l : List ℕ). length l) s.bytes, subst (λ (l : List ℕ). length l < LIMIT) s.bytes t.1)

-- After a piece that gave bytes, fewer are left to take.
pub link_less : (app : AnswerSpec) (c first : ℕ) (hub new : HubSeen) (link later : Span LinkSeen) (k now : Span RunSeen) (count more : ℕ) (o au p bu : List ℕ) (bytes : List ℕ)
    → (s : LinkProgress app c first hub link k count false o au) (t : LinkProgress app c first new later now more false p bu)
    → t.pieces ≡ s.pieces ++ bytes ∷ [] → 0 < length bytes → LIMIT - taken_by new c < LIMIT - taken_by hub c
link_less app c first hub new link later k now count more o au p bu bytes s t is some =
    let old = link_taken app c first hub link k count o au s in
    let next = link_taken app c first new later now more p bu t in
    let one = old.0 in
    let few = old.1 in
    let two = next.0 in
    let fewer = next.1 in
    let joined : length (concat t.pieces) ≡ length (concat s.pieces ++ bytes) = ap (λ (xs : List (List ℕ)). length (concat xs)) is ∙ ap (λ (l : List ℕ). length l) (concat_push s.pieces bytes) in
    let long = length-append (concat s.pieces) bytes in
    omega (arith, one, few, two, fewer, joined, long, some)

-- So it is after each step of an open connection.
pub link_nearer : (app : AnswerSpec) (lawful : IsAnswerSpec app) (law : IsReading IsTaken) (c first : ℕ) (hub new : HubSeen) (la lb lc : LinkSeen) (a b d : RunSeen) (count more : ℕ) (o au p bu : List ℕ)
    (back : IsTrue lc.tells → IsTrue lb.tells) (s : LinkProgress app c first hub (span la lb) (span a b) count false o au)
    → IsPieceOn app c new (span lb lc) (span b d) count (record { count = more; closed = false }) (place app lawful law c first hub la lb lc a b d count o au p bu back s) s.known p bu
    → LIMIT - taken_by new c < LIMIT - taken_by hub c
unfolding link_on
link_nearer app lawful law c first hub new la lb lc a b d count more o au p bu back s piece =
    link_less app c first hub new (span la lb) (span la lc) (span a b) (span a d) count more o au (o ++ p) (au ++ bu) piece.bytes s
    (link_on app lawful law c first hub la lb lc a b d count o au p bu back s new (record { count = more; closed = false }) piece) refl piece.is_take.0

-- ---- the end

-- The end of a connection brings no entries.
brings_end : (app : AnswerSpec) (c : ℕ) (events : List Event) (known later : Connections Ask) (n : ℕ) (log : List LogEntry) (text : List ℕ)
    → Brings app known n events log text later → IsHeardFrom (hearing app) known n (events ++ Finish c ∷ []) log
brings_end app c [] known later n log text (no_log, no_text, same) = ([], [], no_log, refl, refl)
brings_end app c (first ∷ events) known later n log text (front, others, rest, parts, texts, brought, after) =
    (front, others, parts, brought, brings_end app c events (after_both (hearing app) first front known) later (n + 1) others rest after)

pieces_split : (c : ℕ) (xs : List (List ℕ)) (bytes : List ℕ) (rest : List Event) → pieces_of c (xs ++ bytes ∷ []) ++ rest ≡ pieces_of c xs ++ Piece c bytes ∷ rest
pieces_split c [] bytes rest = refl
pieces_split c (x ∷ xs) bytes rest = ap (λ (es : List Event). Piece c x ∷ es) (pieces_split c xs bytes rest)

pub limit_is : LIMIT ≡ 16777216
unfolding LIMIT
limit_is = refl

-- Nothing was taken, put or asked.
pub link_quiet : (app : AnswerSpec) (c first : ℕ) (hub : HubSeen) (la lb lc : LinkSeen) (a b d : RunSeen) (count : ℕ) (closed : Bool) (o au p bu : List ℕ)
    → (IsTrue lc.tells → IsTrue lb.tells) → LinkProgress app c first hub (span la lb) (span a b) count closed o au → IsQuiet (span lb lc) (span b d) p bu
    → LinkProgress app c first hub (span la lc) (span a d) count closed (o ++ p) (au ++ bu)
link_quiet app c first hub la lb lc a b d count closed o au p bu back s quiet = record {
  pieces = s.pieces;
  log = s.log;
  known = s.known;
  one = s.one;
  text = s.text;
  here = s.here;
  is_closed_now = s.is_closed_now;
  bytes = s.bytes;
  ended = s.ended;
  heard = s.heard;
  few = s.few;
  closing = s.closing;
  gave = gave_same la lb lc (concat s.pieces) back s.gave quiet.gave;
  brings = s.brings;
  entries = entries-still app a b d s.log s.entries quiet.still;
  count_is = s.count_is;
  like = s.like;
  idle = s.idle;
  out_text = ap (λ (t : List ℕ). o ++ t) quiet.no_out ∙ append-nil o ∙ s.out_text;
  audit_text = ap (λ (t : List ℕ). au ++ t) quiet.no_audit ∙ append-nil au ∙ s.audit_text;
}

few_log : (heard log : ℕ) → heard ≡ log → heard ≤ LIMIT + 1 → log ≤ 16777217
few_log heard log same few = let l = limit_is in omega (arith, same, few, l)

rest_count : (count first log n : ℕ) → count ≡ first + log → n + first ≡ count → n ≡ log
rest_count count first log n is less = omega (arith, is, less)

module _ (app : AnswerSpec) (c first : ℕ) (hub : HubSeen) (la lb : LinkSeen) (a b : RunSeen) (count : ℕ) (closed : Bool) (o au : List ℕ)
    (s : LinkProgress app c first hub (span la lb) (span a b) count closed o au) where
  over : closed ≡ true → is_over app s.pieces s.log ≡ true
  over is =
      ap (λ (x : Bool). x || nat_le LIMIT (length (concat s.pieces))) (sym s.ended)
      ∙ ap (λ (l : List ℕ). s.one.ended || nat_le LIMIT (length l)) (sym s.bytes) ∙ s.is_closed_now ∙ is

  -- The input was heard whole.
  pub link_whole : (n : ℕ) → n + first ≡ count → (IsTrue lb.tells → lb.left ≡ []) ⊎ (closed ≡ true) → IsLinkServed app c first (span la lb) (span a b) (Ok n) o au
  link_whole n less ended = record {
    pieces = s.pieces;
    log = s.log;
    part = false;
    taken = s.gave;
    ended = λ whole. by_end ended;
    cause = λ part. absurd cc;
    served = is_served_by false app a b (events_of c s.pieces) s.log (brings_end app c (Begin c ∷ pieces_of c s.pieces) no_connections s.known 0 s.log s.text s.brings) s.entries;
    closing = s.closing;
    few = few_log (length s.one.heard) (length s.log) s.heard s.few.few;
    count = rest_count count first (length s.log) n s.count_is less;
    puts = inl (record { out_text = s.out_text; audit_text = s.audit_text });
  }
    where
      by_end : (IsTrue lb.tells → lb.left ≡ []) ⊎ (closed ≡ true) → (IsTrue lb.tells → lb.left ≡ []) ⊎ (is_over app s.pieces s.log ≡ true)
      by_end (inl none) = inl none
      by_end (inr is) = inr (over is)

  -- The link failed while a piece was taken.
  pub link_missed : (n : ℕ) → n + first ≡ count → Rose la.faults lb.faults → IsLinkServed app c first (span la lb) (span a b) (Ok n) o au
  link_missed n less rose = record {
    pieces = s.pieces;
    log = s.log;
    part = true;
    taken = s.gave;
    ended = λ whole. absurd cc;
    cause = λ part. inl rose;
    served = is_served_by true app a b (events_of c s.pieces) s.log
        (brings-part app (Begin c ∷ pieces_of c s.pieces) (Finish c ∷ []) no_connections s.known 0 s.log s.text s.brings) s.entries;
    closing = s.closing;
    few = few_log (length s.one.heard) (length s.log) s.heard s.few.few;
    count = rest_count count first (length s.log) n s.count_is less;
    puts = inl (record { out_text = s.out_text; audit_text = s.audit_text });
  }

  -- Memory ran out while a piece was taken.
  pub link_wanting : IsLinkServed app c first (span la lb) (span a b) (Err halts.Memory) o au
  link_wanting = record {
    pieces = s.pieces;
    log = s.log;
    part = true;
    taken = s.gave;
    ended = λ whole. absurd cc;
    cause = λ part. inr refl;
    served = is_served_by true app a b (events_of c s.pieces) s.log
        (brings-part app (Begin c ∷ pieces_of c s.pieces) (Finish c ∷ []) no_connections s.known 0 s.log s.text s.brings) s.entries;
    closing = s.closing;
    few = few_log (length s.one.heard) (length s.log) s.heard s.few.few;
    count = tt;
    puts = record { out_text = s.out_text; audit_text = s.audit_text };
  }

-- Nothing was taken, because memory ran out.
pub link_unbegun : (app : AnswerSpec) (lawful : IsAnswerSpec app) (c first : ℕ) (link : LinkSeen) (k : RunSeen) → app.ready k
    → IsLinkServed app c first (span link link) (span k k) (Err halts.Memory) [] []
link_unbegun app lawful c first link k start =
    link_wanting app c first (begun_hub c) link link k k first false [] [] (link_start app lawful c first link k start)

module _ (app : AnswerSpec) (lawful : IsAnswerSpec app) (law : IsReading IsTaken) (c first : ℕ) (hub : HubSeen) (la lb lc : LinkSeen) (a b d : RunSeen) (count : ℕ) (o au p bu : List ℕ)
    (back : IsTrue lc.tells → IsTrue lb.tells)
    (s : LinkProgress app c first hub (span la lb) (span a b) count false o au) (mine : List LogEntry)
    (piece : IsPieceBegun app c (span lb lc) (span b d) (place app lawful law c first hub la lb lc a b d count o au p bu back s) s.known mine) where
  lost_heard : IsHeardBy true (hearing app) (events_of c (s.pieces ++ piece.bytes ∷ [])) (s.log ++ mine)
  lost_heard =
      subst (λ (es : List Event). IsHeardBy true (hearing app) es (s.log ++ mine))
      (ap (λ (es : List Event). Begin c ∷ es) (sym (pieces_split c s.pieces piece.bytes (Finish c ∷ []))))
      (brings-begun app (Begin c ∷ pieces_of c s.pieces) (Finish c ∷ []) (Piece c piece.bytes) no_connections s.known 0 s.log mine s.text s.brings piece.begun)

  lost_begun : AreBegun (hearing app) (place app lawful law c first hub la lb lc a b d count o au p bu back s) c (with_bytes piece.bytes s.one) mine
  lost_begun =
      let n = place app lawful law c first hub la lb lc a b d count o au p bu back s in
      begun_by_some app law n c piece.bytes s.one mine s.is_closed_now
      (subst (λ (x : Option (Connection Ask)). PieceBegins (hearing app) n c piece.bytes x mine) s.here piece.begun)

  lost_closing : StopsAtClosing (s.pieces ++ piece.bytes ∷ []) (s.log ++ mine)
  lost_closing = stops_next app c s.pieces s.log s.one piece.bytes mine s.closing s.bytes s.ended s.is_closed_now piece.is_take lost_begun

  lost_few : length (s.log ++ mine) ≤ 16777217
  lost_few =
      let n = place app lawful law c first hub la lb lc a b d count o au p bu back s in
      let few =
      few_begun app law n c (with_bytes piece.bytes s.one) mine (record { whole_ones = s.few.whole_ones; few = s.few.few }) lost_begun in
      let most = few.few in
      let heard = entries_heard app law mine (with_bytes piece.bytes s.one) in
      let before = s.heard in
      let long = length-append s.log mine in
      let limit = limit_is in
      omega (arith, most, heard, before, long, limit)

  lost_served : IsServed true app (span a d) (events_of c (s.pieces ++ piece.bytes ∷ [])) (s.log ++ mine)
  lost_served =
      is_served_by true app a d (events_of c (s.pieces ++ piece.bytes ∷ [])) (s.log ++ mine) lost_heard
      (lawful.joined a b d s.log mine s.entries piece.entries)

  lost_behind : (lost : FailedSink) → IsLastLost spellings.Raw lost count mine p bu → IsLastLost spellings.Raw lost first (s.log ++ mine) (o ++ p) (au ++ bu)
  lost_behind lost last = last_behind lost first count s.log mine o au p bu s.count_is s.out_text s.audit_text last

  -- A put on the audit failed.
  pub link_cut : IsLastLost spellings.Raw losses.Audit count mine p bu → IsLinkServed app c first (span la lc) (span a d) (Err halts.Write) (o ++ p) (au ++ bu)
  link_cut last = record {
    pieces = s.pieces ++ piece.bytes ∷ [];
    log = s.log ++ mine;
    part = true;
    taken = gave_on la lb lc s.pieces piece.bytes back s.gave piece.gave;
    ended = λ whole. absurd cc;
    cause = λ part. inr refl;
    served = lost_served;
    closing = lost_closing;
    few = lost_few;
    count = tt;
    puts = lost_behind losses.Audit last;
  }

  -- A put on the link failed.
  pub link_torn : (last n : ℕ) → n + first ≡ last → IsTornOn (span lb lc) count last mine p bu → la.faults ≤ lb.faults
      → IsLinkServed app c first (span la lc) (span a d) (Ok n) (o ++ p) (au ++ bu)
  link_torn last n less torn later =
      let rose = Rose-widen la.faults lb.faults lc.faults lc.faults later (omega arith) torn.rose in
      record {
        pieces = s.pieces ++ piece.bytes ∷ [];
        log = s.log ++ mine;
        part = true;
        taken = gave_on la lb lc s.pieces piece.bytes back s.gave piece.gave;
        ended = λ whole. absurd cc;
        cause = λ part. inl rose;
        served = lost_served;
        closing = lost_closing;
        few = lost_few;
        count =
            let long = length-append s.log mine in
            let before = s.count_is in
            let last_is = torn.count_is in
            omega (arith, long, before, less, last_is);
        puts = inr (lost_behind losses.Out torn.lost, rose);
      }
