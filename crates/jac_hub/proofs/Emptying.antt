-- What the calls of `next` put out until one returns none.
use Rattle.std.proofs.Common.{◌≡◌, ◌∙◌, ap, sym, subst, refl, ℕ, Bool, true, false, Option, Some, None, List, [], ◌∷◌, ◌++◌, inl}
use Rattle.jac_hub.specs.declared.handler.Heard.{Heard}
use Rattle.jac_hub.specs.declared.sent.Sent.{Sent}
use Rattle.jac_hub.specs.declared.channel.Given.{Given}
use Rattle.jac_hub.specs.declared.channel.Given.TheVariants.{Reply as GivenReply, Closed as GivenClosed}
use Rattle.jac_hub.specs.declared.hub.HubOut.{HubOut}
use Rattle.jac_hub.specs.declared.hub.HubOut.TheVariants.{Reply, Closed}
use Rattle.jac_hub.specs.declared.hub.Turn.{Turn}
use Rattle.jac_hub.specs.declared.hub.Turn.TheVariants.{Idle, Serving, Breaking, Closing, Done}
use Rattle.jac_hub.specs.Hearing.{connection, broken, Entry, Hearing}
use Rattle.jac_hub.specs.Heard.{Connection, set_at, with_entry, is_closed, IsNextEntry, IsNextIn, AreBrought}
use Rattle.jac_hub.specs.Channel.{ChannelSeen, shut, fixed_500}
use Rattle.jac_hub.specs.Hub.{HubSeen, with_channel, out_of, turn_behind, NextServing, NextBreaking, Nexts}
use Rattle.jac_hub.specs.Served.{IsLike, IsLikeAfter, IsEmptied, closing, IsEntryAnswered, AreEntriesAnswered}
use Rattle.jac_hub.proofs.Standing.{with_entries, set-same, set-set}
use Rattle.jac_hub.proofs.Following.{Tells, Gave, GaveReply, next-gave}

some_same : (out other : HubOut) → Some out ≡ Some other → out ≡ other
some_same out other e = cc

none_some : (out : HubOut) → None ≡ Some out → ⊥
none_some out e = cc

some_none : (out : HubOut) → Some out ≡ None → ⊥
some_none out e = cc

-- The calls of `next` put out `given`, left the hub idle, and didn't change the handler.
pub record GaveOnly {H : Type 0} (given : List HubOut) (hub : HubSeen) (outs : List HubOut) (new : HubSeen) (before after : H) : Type 0 where
  pub put : outs ≡ given
  pub made : new ≡ record hub { turn = Idle }
  pub same : after ≡ before

-- What the calls of `next` put out for one connection, given its state before them.
pub record Empties {I A H : Type 0} (h : Hearing I A) (told : H → ℕ → Heard → Sent → H → A → Type 0) (memory : A) (n c : ℕ) (known : Connection I)
    (hub : HubSeen) (outs : List HubOut) (new : HubSeen) (before after : H) : Type 0 where
  pub mine : List (Entry I A)
  pub replies : List HubOut
  pub brought : AreBrought h n c known mine
  pub answered : AreEntriesAnswered h told memory before mine replies after
  pub put : outs ≡ replies ++ closing c (is_closed (with_entries h mine known))
  pub later : ChannelSeen
  pub like : IsLikeAfter h later (with_entries h mine known)
  pub made : new ≡ record { channels = set_at c (Some later) hub.channels; turn = Idle }

module _ {I A H : Type 0} (h : Hearing I A) (handles : H → ℕ → Heard → Sent → H → Type 0) where
  pub idle-empties : (outs : List HubOut) (hub new : HubSeen) (before after : H) → hub.turn ≡ Idle
      → IsEmptied h.reads handles hub outs new before after → GaveOnly [] hub outs new before after
  idle-empties [] hub new before after turn emptied =
      let e : Nexts h.reads handles hub Idle None new before after = subst (λ (t : Turn). Nexts h.reads handles hub t None new before after) turn emptied in
      record { put = refl; made = e.2 ∙ (λ i. record hub { turn = turn i }); same = e.0 }
  idle-empties (out ∷ outs) hub new before after turn (later, between, next, rest) =
      let e : Nexts h.reads handles hub Idle (Some out) later before between = subst (λ (t : Turn). Nexts h.reads handles hub t (Some out) later before between) turn next in
      absurd (some_none out e.1)

  pub done-empties : (outs : List HubOut) (hub new : HubSeen) (before after : H) → hub.turn ≡ Done
      → IsEmptied h.reads handles hub outs new before after → GaveOnly [] hub outs new before after
  done-empties [] hub new before after turn emptied =
      let e : Nexts h.reads handles hub Done None new before after = subst (λ (t : Turn). Nexts h.reads handles hub t None new before after) turn emptied in
      record { put = refl; made = e.2; same = e.0 }
  done-empties (out ∷ outs) hub new before after turn (later, between, next, rest) =
      let e : Nexts h.reads handles hub Done (Some out) later before between = subst (λ (t : Turn). Nexts h.reads handles hub t (Some out) later before between) turn next in
      absurd (some_none out e.1)

  closing_empties : (c : ℕ) (outs : List HubOut) (hub new : HubSeen) (before after : H) → hub.turn ≡ Closing c
      → IsEmptied h.reads handles hub outs new before after → GaveOnly (Closed c ∷ []) hub outs new before after
  closing_empties c [] hub new before after turn emptied =
      let e : Nexts h.reads handles hub (Closing c) None new before after = subst (λ (t : Turn). Nexts h.reads handles hub t None new before after) turn emptied in
      absurd (none_some (Closed c) e.1)
  closing_empties c (out ∷ outs) hub new before after turn (later, between, next, rest) =
      let e : Nexts h.reads handles hub (Closing c) (Some out) later before between = subst (λ (t : Turn). Nexts h.reads handles hub t (Some out) later before between) turn next in
      let last = done-empties outs later new between after (ap (λ (l : HubSeen). l.turn) e.2) rest in
      let first : out ≡ Closed c = some_same out (Closed c) e.1 in
      record {
        put = λ i. first i ∷ last.put i;
        made = last.made ∙ ap (λ (l : HubSeen). record { channels = l.channels; turn = Idle }) e.2;
        same = last.same ∙ e.0;
      }

-- One reply, after which the connection is closed.
closes_behind : {I A H : Type 0} (h : Hearing I A) (handles : H → ℕ → Heard → Sent → H → Type 0) (told : H → ℕ → Heard → Sent → H → A → Type 0) (memory : A)
    (n c : ℕ) (known : Connection I) (entry : Entry I A) (sent : Sent) (channel : ChannelSeen) (hub between_hub new : HubSeen) (out : HubOut) (outs : List HubOut)
    (before between after : H) → IsNextEntry h n c known entry → (with_entry h entry known).ended ≡ true → channel.closed ≡ true
    → IsEntryAnswered h told memory c entry.subject entry.answer sent before between → out ≡ Reply c sent
    → between_hub ≡ with_channel c (Some channel) (Closing c) hub → IsEmptied h.reads handles between_hub outs new between after
    → Empties h told memory n c known hub (out ∷ outs) new before after
closes_behind h handles told memory n c known entry sent channel hub between_hub new out outs before between after next ended closed answered is made rest =
    let last = closing_empties h handles c outs between_hub new between after (ap (λ (l : HubSeen). l.turn) made) rest in
    let shut_now : is_closed (with_entry h entry known) ≡ true = rw ended refl in
    record {
      mine = entry ∷ [];
      replies = Reply c sent ∷ [];
      brought = (next, inl ended);
      answered = (c, sent, [], between, next.source, refl, answered, (refl, last.same));
      put = subst (λ (b : Bool). out ∷ outs ≡ Reply c sent ∷ closing c b) (sym shut_now) (λ i. is i ∷ last.put i);
      later = channel;
      like = (closed ∙ sym shut_now, λ open_after. absurd (false_true (is_closed (with_entry h entry known)) open_after shut_now));
      made = last.made ∙ ap (λ (l : HubSeen). record { channels = l.channels; turn = Idle }) made;
    }
  where
    false_true : (b : Bool) → b ≡ false → b ≡ true → ⊥
    false_true b e f = cc

-- What follows a reply after which the connection is served on.
goes_on : {I A H : Type 0} (h : Hearing I A) (told : H → ℕ → Heard → Sent → H → A → Type 0) (memory : A)
    (n c : ℕ) (known : Connection I) (entry : Entry I A) (sent : Sent) (channel : ChannelSeen) (hub between_hub new : HubSeen) (out : HubOut) (outs : List HubOut)
    (before between after : H) → IsNextEntry h n c known entry
    → IsEntryAnswered h told memory c entry.subject entry.answer sent before between → out ≡ Reply c sent
    → between_hub ≡ with_channel c (Some channel) (Serving c) hub → Empties h told memory n c (with_entry h entry known) between_hub outs new between after
    → Empties h told memory n c known hub (out ∷ outs) new before after
goes_on h told memory n c known entry sent channel hub between_hub new out outs before between after next answered is made rest = record {
  mine = entry ∷ rest.mine;
  replies = Reply c sent ∷ rest.replies;
  brought = (next, rest.brought);
  answered = (c, sent, rest.replies, between, next.source, refl, answered, rest.answered);
  put = λ i. is i ∷ rest.put i;
  later = rest.later;
  like = rest.like;
  made =
      rest.made
      ∙ ap (λ (l : HubSeen). record { channels = set_at c (Some rest.later) l.channels; turn = Idle }) made
      ∙ ap (λ (channels : ℕ → Option ChannelSeen). record { channels = channels; turn = Idle }) (set-set c (Some rest.later) (Some channel) hub.channels);
}

-- The last call, which returned none.
last_gave : {I A H : Type 0} (h : Hearing I A) (told : H → ℕ → Heard → Sent → H → A → Type 0) (memory : A) (n c : ℕ) (known : Connection I)
    (given : Option Given) (later : ChannelSeen) (hub new : HubSeen) (before after : H) → Gave h told memory n c known given later before after
    → None ≡ out_of c given → new ≡ with_channel c (Some later) (turn_behind c given later.closed) hub → Empties h told memory n c known hub [] new before after
last_gave h told memory n c known None later hub new before after gave is made = record {
  mine = [];
  replies = [];
  brought = gave.brought;
  answered = (refl, gave.same);
  put = subst (λ (b : Bool). [] ≡ closing c b) (sym gave.is_closed) refl;
  later = later;
  like = gave.like;
  made = made;
}
last_gave h told memory n c known (Some (GivenReply sent)) later hub new before after gave is made = absurd (none_some (Reply c sent) is)
last_gave h told memory n c known (Some GivenClosed) later hub new before after gave is made = absurd (none_some (Closed c) is)

-- A call that returned a reply, by whether the connection is closed after it.
replied : {I A H : Type 0} (h : Hearing I A) (handles : H → ℕ → Heard → Sent → H → Type 0) (told : H → ℕ → Heard → Sent → H → A → Type 0) (memory : A)
    (n c : ℕ) (known : Connection I) (sent : Sent) (later : ChannelSeen) (closed : Bool) (hub between_hub new : HubSeen) (out : HubOut) (outs : List HubOut)
    (before between after : H) → GaveReply h told memory n c known sent later before between → later.closed ≡ closed → out ≡ Reply c sent
    → between_hub ≡ with_channel c (Some later) (turn_behind c (Some (GivenReply sent)) closed) hub → IsEmptied h.reads handles between_hub outs new between after
    → ((channel : ChannelSeen) (now : Connection I) → between_hub.turn ≡ Serving c → between_hub.channels c ≡ Some channel → IsLike h channel now → channel.closed ≡ false
    → Empties h told memory n c now between_hub outs new between after)
    → Empties h told memory n c known hub (out ∷ outs) new before after
replied h handles told memory n c known sent later true hub between_hub new out outs before between after gave closed is made rest more =
    closes_behind h handles told memory n c known gave.entry sent later hub between_hub new out outs before between after gave.gets.next
    (sym gave.gets.like.closed ∙ closed) closed gave.answered is made rest
replied h handles told memory n c known sent later false hub between_hub new out outs before between after gave open_still is made rest more =
    goes_on h told memory n c known gave.entry sent later hub between_hub new out outs before between after gave.gets.next gave.answered is made
    (more later (with_entry h gave.entry known) (ap (λ (l : HubSeen). l.turn) made)
    (ap (λ (l : HubSeen). l.channels c) made ∙ set-same c (Some later) hub.channels) gave.gets.like open_still)

call_gave : {I A H : Type 0} (h : Hearing I A) (handles : H → ℕ → Heard → Sent → H → Type 0) (told : H → ℕ → Heard → Sent → H → A → Type 0) (memory : A)
    (n c : ℕ) (known : Connection I) (given : Option Given) (later : ChannelSeen) (hub between_hub new : HubSeen) (out : HubOut) (outs : List HubOut)
    (before between after : H) → Gave h told memory n c known given later before between → Some out ≡ out_of c given
    → between_hub ≡ with_channel c (Some later) (turn_behind c given later.closed) hub → IsEmptied h.reads handles between_hub outs new between after
    → ((channel : ChannelSeen) (now : Connection I) → between_hub.turn ≡ Serving c → between_hub.channels c ≡ Some channel → IsLike h channel now → channel.closed ≡ false
    → Empties h told memory n c now between_hub outs new between after)
    → Empties h told memory n c known hub (out ∷ outs) new before after
call_gave h handles told memory n c known None later hub between_hub new out outs before between after gave is made rest more = absurd (some_none out is)
call_gave h handles told memory n c known (Some (GivenReply sent)) later hub between_hub new out outs before between after gave is made rest more =
    replied h handles told memory n c known sent later later.closed hub between_hub new out outs before between after gave refl
    (some_same out (Reply c sent) is) made rest more
call_gave h handles told memory n c known (Some GivenClosed) later hub between_hub new out outs before between after gave is made rest more =
    let last = done-empties h handles outs between_hub new between after (ap (λ (l : HubSeen). l.turn) made) rest in
    let first : out ≡ Closed c = some_same out (Closed c) is in
    record {
      mine = [];
      replies = [];
      brought = gave.brought;
      answered = (refl, last.same ∙ gave.same);
      put = subst (λ (b : Bool). out ∷ outs ≡ closing c b) (sym gave.is_closed) (λ i. first i ∷ last.put i);
      later = later;
      like = gave.like;
      made = last.made ∙ ap (λ (l : HubSeen). record { channels = l.channels; turn = Idle }) made;
    }

-- For a connection that is served, the calls put out one reply for each entry that its bytes bring,
-- in order. Then they put out that it is closed, if it is.
pub serving-empties : {I A H : Type 0} (h : Hearing I A) (handles : H → ℕ → Heard → Sent → H → Type 0) (told : H → ℕ → Heard → Sent → H → A → Type 0) (memory : A)
    (n c : ℕ) → Tells h handles told
    → (outs : List HubOut) (hub new : HubSeen) (channel : ChannelSeen) (known : Connection I) (before after : H)
    → hub.turn ≡ Serving c → hub.channels c ≡ Some channel → IsLike h channel known → channel.closed ≡ false
    → IsEmptied h.reads handles hub outs new before after → Empties h told memory n c known hub outs new before after
serving-empties h handles told memory n c tells [] hub new channel known before after turn at like open_still emptied =
    let e : NextServing h.reads handles hub c (Some channel) None new before after =
    subst (λ (o : Option ChannelSeen). NextServing h.reads handles hub c o None new before after) at
    (subst (λ (t : Turn). Nexts h.reads handles hub t None new before after) turn emptied) in
    last_gave h told memory n c known e.0 e.1 hub new before after
    (next-gave h handles told memory n c channel known e.0 e.1 before after tells like open_still e.2) e.3 e.4
serving-empties h handles told memory n c tells (out ∷ outs) hub new channel known before after turn at like open_still (between_hub, between, next, rest) =
    let e : NextServing h.reads handles hub c (Some channel) (Some out) between_hub before between =
    subst (λ (o : Option ChannelSeen). NextServing h.reads handles hub c o (Some out) between_hub before between) at
    (subst (λ (t : Turn). Nexts h.reads handles hub t (Some out) between_hub before between) turn next) in
    call_gave h handles told memory n c known e.0 e.1 hub between_hub new out outs before between after
    (next-gave h handles told memory n c channel known e.0 e.1 before between tells like open_still e.2) e.3 e.4 rest
    (λ later now t a l o. serving-empties h handles told memory n c tells outs between_hub new later now between after t a l o rest)

-- For a connection that ran out of memory, the calls put out the reply for that, and that it is
-- closed.
pub breaking-empties : {I A H : Type 0} (h : Hearing I A) (handles : H → ℕ → Heard → Sent → H → Type 0) (told : H → ℕ → Heard → Sent → H → A → Type 0) (memory : A)
    (n c : ℕ)
    → (outs : List HubOut) (hub new : HubSeen) (channel : ChannelSeen) (known : Connection I) (before after : H)
    → hub.turn ≡ Breaking c → hub.channels c ≡ Some channel → IsNextIn h known broken → known.ended ≡ false
    → IsEmptied h.reads handles hub outs new before after → Empties h told memory n c known hub outs new before after
breaking-empties h handles told memory n c [] hub new channel known before after turn at next_in open_still emptied =
    let e : (after ≡ before) × NextBreaking hub c (Some channel) None new =
    subst (λ (o : Option ChannelSeen). (after ≡ before) × NextBreaking hub c o None new) at
    (subst (λ (t : Turn). Nexts h.reads handles hub t None new before after) turn emptied) in
    absurd (none_some (Reply c fixed_500) e.1.0)
breaking-empties {I = I} {A = A} h handles told memory n c (out ∷ outs) hub new channel known before after turn at next_in open_still (between_hub, between, next, rest) =
    let e : (between ≡ before) × NextBreaking hub c (Some channel) (Some out) between_hub =
    subst (λ (o : Option ChannelSeen). (between ≡ before) × NextBreaking hub c o (Some out) between_hub) at
    (subst (λ (t : Turn). Nexts h.reads handles hub t (Some out) between_hub before between) turn next) in
    let entry : Entry I A = record { place = n; source = connection c; subject = broken; answer = memory } in
    let is_next : IsNextEntry h n c known entry = record { place = refl; source = refl; open_still = open_still; subject = next_in } in
    closes_behind h handles told memory n c known entry fixed_500 (shut channel) hub between_hub new out outs before between after
    is_next (rw open_still refl) refl (e.0, refl, refl) (some_same out (Reply c fixed_500) e.1.0) e.1.1 rest
