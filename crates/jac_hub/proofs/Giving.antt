-- What some calls of `next` put out.
use Rattle.std.proofs.Common.{◌≡◌, ◌∙◌, ap, sym, subst, refl, ℕ, Bool, true, false, Option, Some, None, List, [], ◌∷◌, ◌++◌, inl, inr, ◌⊎◌}
use Rattle.jac_http.specs.declared.taken.Taken.{Taken}
use Rattle.jac_hub.specs.declared.handler.Heard.{Heard}
use Rattle.jac_hub.specs.declared.sent.Sent.{Sent}
use Rattle.jac_hub.specs.declared.channel.Given.{Given}
use Rattle.jac_hub.specs.declared.channel.Given.TheVariants.{Reply as GivenReply, Closed as GivenClosed}
use Rattle.jac_hub.specs.declared.hub.HubOut.{HubOut}
use Rattle.jac_hub.specs.declared.hub.HubOut.TheVariants.{Reply, Closed}
use Rattle.jac_hub.specs.declared.hub.Turn.{Turn}
use Rattle.jac_hub.specs.declared.hub.Turn.TheVariants.{Idle, Serving, Breaking, Closing, Done}
use Rattle.jac_hub.specs.Hearing.{connection, broken, Entry, Hearing}
use Rattle.jac_hub.specs.Heard.{Connection, with_entry, is_closed, IsNextEntry, IsNextIn, AreBrought, AreBegun}
use Rattle.jac_hub.specs.Channel.{ChannelSeen, fixed_500}
use Rattle.jac_hub.specs.Hub.{HubSeen, with_channel, out_of, turn_behind, NextServing, NextBreaking, Nexts}
use Rattle.jac_hub.specs.Served.{IsLike, IsEmptied, IsGiven, IsEntryAnswered, AreEntriesAnswered}
use Rattle.jac_hub.proofs.Standing.{with_entries, set-same}
use Rattle.jac_hub.proofs.Following.{Tells, Gave, GaveReply, next-gave}

some_same : (out other : HubOut) → Some out ≡ Some other → out ≡ other
some_same out other e = cc

some_none : (out : HubOut) → Some out ≡ None → ⊥
some_none out e = cc

-- One more call.
pub given-push : {H : Type 0} (reads : List ℕ → Taken → Type 0) (handles : H → ℕ → Heard → Sent → H → Type 0) (outs : List HubOut) (hub between_hub new : HubSeen) (out : HubOut)
    (before between after : H) → IsGiven reads handles hub outs between_hub before between → Nexts reads handles between_hub between_hub.turn (Some out) new between after
    → IsGiven reads handles hub (outs ++ out ∷ []) new before after
given-push {H = H} reads handles [] hub between_hub new out before between after (same, kept) next =
    subst (λ (l : HubSeen). IsGiven reads handles l (out ∷ []) new before after) same
    (subst (λ (b : H). IsGiven reads handles between_hub (out ∷ []) new b after) kept (new, after, next, (refl, refl)))
given-push reads handles (first ∷ outs) hub between_hub new out before between after (later, then, call, rest) next =
    (later, then, call, given-push reads handles outs later between_hub new out then between after rest next)

-- A last call that returns none.
pub given-all : {H : Type 0} (reads : List ℕ → Taken → Type 0) (handles : H → ℕ → Heard → Sent → H → Type 0) (outs : List HubOut) (hub between_hub new : HubSeen)
    (before between after : H) → IsGiven reads handles hub outs between_hub before between → Nexts reads handles between_hub between_hub.turn None new between after
    → IsEmptied reads handles hub outs new before after
given-all {H = H} reads handles [] hub between_hub new before between after (same, kept) next =
    subst (λ (l : HubSeen). IsEmptied reads handles l [] new before after) same
    (subst (λ (b : H). IsEmptied reads handles between_hub [] new b after) kept next)
given-all reads handles (first ∷ outs) hub between_hub new before between after (later, then, call, rest) next =
    (later, then, call, given-all reads handles outs later between_hub new then between after rest next)

-- What some calls put out for one connection, given its state before them.
pub record Gives {I A H : Type 0} (h : Hearing I A) (told : H → ℕ → Heard → Sent → H → A → Type 0) (memory : A) (n c : ℕ) (known : Connection I)
    (outs : List HubOut) (before after : H) : Type 0 where
  pub mine : List (Entry I A)
  pub replies : List HubOut
  pub begun : AreBegun h n c known mine
  pub answered : AreEntriesAnswered h told memory before mine replies after
  pub put : (outs ≡ replies) ⊎ (AreBrought h n c known mine × (is_closed (with_entries h mine known) ≡ true) × (outs ≡ replies ++ Closed c ∷ []))

module _ {I A H : Type 0} (h : Hearing I A) (handles : H → ℕ → Heard → Sent → H → Type 0) where
  pub idle-gives : (outs : List HubOut) (hub new : HubSeen) (before after : H) → hub.turn ≡ Idle
      → IsGiven h.reads handles hub outs new before after → (outs ≡ []) × (after ≡ before)
  idle-gives [] hub new before after turn given = (refl, given.1)
  idle-gives (out ∷ outs) hub new before after turn (later, between, next, rest) =
      let e : Nexts h.reads handles hub Idle (Some out) later before between = subst (λ (t : Turn). Nexts h.reads handles hub t (Some out) later before between) turn next in
      absurd (some_none out e.1)

  pub done-gives : (outs : List HubOut) (hub new : HubSeen) (before after : H) → hub.turn ≡ Done
      → IsGiven h.reads handles hub outs new before after → (outs ≡ []) × (after ≡ before)
  done-gives [] hub new before after turn given = (refl, given.1)
  done-gives (out ∷ outs) hub new before after turn (later, between, next, rest) =
      let e : Nexts h.reads handles hub Done (Some out) later before between = subst (λ (t : Turn). Nexts h.reads handles hub t (Some out) later before between) turn next in
      absurd (some_none out e.1)

  closing_gives : (c : ℕ) (outs : List HubOut) (hub new : HubSeen) (before after : H) → hub.turn ≡ Closing c
      → IsGiven h.reads handles hub outs new before after → ((outs ≡ []) ⊎ (outs ≡ Closed c ∷ [])) × (after ≡ before)
  closing_gives c [] hub new before after turn given = (inl refl, given.1)
  closing_gives c (out ∷ outs) hub new before after turn (later, between, next, rest) =
      let e : Nexts h.reads handles hub (Closing c) (Some out) later before between = subst (λ (t : Turn). Nexts h.reads handles hub t (Some out) later before between) turn next in
      let last = done-gives outs later new between after (ap (λ (l : HubSeen). l.turn) e.2) rest in
      let first : out ≡ Closed c = some_same out (Closed c) e.1 in
      (inr (λ i. first i ∷ last.0 i), last.1 ∙ e.0)

-- One reply before what later calls put out.
put_behind : {I A : Type 0} (h : Hearing I A) (n c : ℕ) (known : Connection I) (entry : Entry I A) (mine : List (Entry I A)) (out first : HubOut) (outs replies : List HubOut)
    → IsNextEntry h n c known entry → out ≡ first
    → (outs ≡ replies) ⊎ (AreBrought h n c (with_entry h entry known) mine × (is_closed (with_entries h mine (with_entry h entry known)) ≡ true) × (outs ≡ replies ++ Closed c ∷ []))
    → (out ∷ outs ≡ first ∷ replies)
    ⊎ (AreBrought h n c known (entry ∷ mine) × (is_closed (with_entries h (entry ∷ mine) known) ≡ true) × (out ∷ outs ≡ (first ∷ replies) ++ Closed c ∷ []))
put_behind h n c known entry mine out first outs replies next is (inl some) = inl (λ i. is i ∷ some i)
put_behind h n c known entry mine out first outs replies next is (inr (all, closed, told_closed)) = inr ((next, all), closed, λ i. is i ∷ told_closed i)

-- What follows one reply.
goes_on : {I A H : Type 0} (h : Hearing I A) (told : H → ℕ → Heard → Sent → H → A → Type 0) (memory : A)
    (n c : ℕ) (known : Connection I) (entry : Entry I A) (sent : Sent) (out : HubOut) (outs : List HubOut)
    (before between after : H) → IsNextEntry h n c known entry → IsEntryAnswered h told memory c entry.subject entry.answer sent before between → out ≡ Reply c sent
    → Gives h told memory n c (with_entry h entry known) outs between after → Gives h told memory n c known (out ∷ outs) before after
goes_on h told memory n c known entry sent out outs before between after next answered is rest = record {
  mine = entry ∷ rest.mine;
  replies = Reply c sent ∷ rest.replies;
  begun = (next, rest.begun);
  answered = (c, sent, rest.replies, between, next.source, refl, answered, rest.answered);
  put = put_behind h n c known entry rest.mine out (Reply c sent) outs rest.replies next is rest.put;
}

-- A connection that an entry closed puts out nothing but that it is closed.
closed_gives : {I A H : Type 0} (h : Hearing I A) (told : H → ℕ → Heard → Sent → H → A → Type 0) (memory : A) (n c : ℕ) (known : Connection I) (outs : List HubOut)
    (before after : H) → known.ended ≡ true → (outs ≡ []) ⊎ (outs ≡ Closed c ∷ []) → after ≡ before → Gives h told memory n c known outs before after
closed_gives h told memory n c known outs before after ended put same = record {
  mine = [];
  replies = [];
  begun = tt;
  answered = (refl, same);
  put = by put;
}
  where
    by : (outs ≡ []) ⊎ (outs ≡ Closed c ∷ []) → (outs ≡ []) ⊎ (AreBrought h n c known [] × (is_closed known ≡ true) × (outs ≡ Closed c ∷ []))
    by (inl none) = inl none
    by (inr one) = inr (inl ended, rw ended refl, one)

closes_behind : {I A H : Type 0} (h : Hearing I A) (handles : H → ℕ → Heard → Sent → H → Type 0) (told : H → ℕ → Heard → Sent → H → A → Type 0) (memory : A)
    (n c : ℕ) (known : Connection I) (entry : Entry I A) (sent : Sent) (between_hub new : HubSeen) (out : HubOut) (outs : List HubOut)
    (before between after : H) → IsNextEntry h n c known entry → (with_entry h entry known).ended ≡ true
    → IsEntryAnswered h told memory c entry.subject entry.answer sent before between → out ≡ Reply c sent
    → between_hub.turn ≡ Closing c → IsGiven h.reads handles between_hub outs new between after
    → Gives h told memory n c known (out ∷ outs) before after
closes_behind h handles told memory n c known entry sent between_hub new out outs before between after next ended answered is turn rest =
    let last = closing_gives h handles c outs between_hub new between after turn rest in
    goes_on h told memory n c known entry sent out outs before between after next answered is
    (closed_gives h told memory n c (with_entry h entry known) outs between after ended last.0 last.1)

-- A call that returned a reply, by whether the connection is closed after it.
replied : {I A H : Type 0} (h : Hearing I A) (handles : H → ℕ → Heard → Sent → H → Type 0) (told : H → ℕ → Heard → Sent → H → A → Type 0) (memory : A)
    (n c : ℕ) (known : Connection I) (sent : Sent) (later : ChannelSeen) (closed : Bool) (hub between_hub new : HubSeen) (out : HubOut) (outs : List HubOut)
    (before between after : H) → GaveReply h told memory n c known sent later before between → later.closed ≡ closed → out ≡ Reply c sent
    → between_hub ≡ with_channel c (Some later) (turn_behind c (Some (GivenReply sent)) closed) hub → IsGiven h.reads handles between_hub outs new between after
    → ((channel : ChannelSeen) (now : Connection I) → between_hub.turn ≡ Serving c → between_hub.channels c ≡ Some channel → IsLike h channel now → channel.closed ≡ false
    → Gives h told memory n c now outs between after)
    → Gives h told memory n c known (out ∷ outs) before after
replied h handles told memory n c known sent later true hub between_hub new out outs before between after gave closed is made rest more =
    closes_behind h handles told memory n c known gave.entry sent between_hub new out outs before between after gave.gets.next
    (sym gave.gets.like.closed ∙ closed) gave.answered is (ap (λ (l : HubSeen). l.turn) made) rest
replied h handles told memory n c known sent later false hub between_hub new out outs before between after gave open_still is made rest more =
    goes_on h told memory n c known gave.entry sent out outs before between after gave.gets.next gave.answered is
    (more later (with_entry h gave.entry known) (ap (λ (l : HubSeen). l.turn) made)
    (ap (λ (l : HubSeen). l.channels c) made ∙ set-same c (Some later) hub.channels) gave.gets.like open_still)

call_gives : {I A H : Type 0} (h : Hearing I A) (handles : H → ℕ → Heard → Sent → H → Type 0) (told : H → ℕ → Heard → Sent → H → A → Type 0) (memory : A)
    (n c : ℕ) (known : Connection I) (given : Option Given) (later : ChannelSeen) (hub between_hub new : HubSeen) (out : HubOut) (outs : List HubOut)
    (before between after : H) → Gave h told memory n c known given later before between → Some out ≡ out_of c given
    → between_hub ≡ with_channel c (Some later) (turn_behind c given later.closed) hub → IsGiven h.reads handles between_hub outs new between after
    → ((channel : ChannelSeen) (now : Connection I) → between_hub.turn ≡ Serving c → between_hub.channels c ≡ Some channel → IsLike h channel now → channel.closed ≡ false
    → Gives h told memory n c now outs between after)
    → Gives h told memory n c known (out ∷ outs) before after
call_gives h handles told memory n c known None later hub between_hub new out outs before between after gave is made rest more = absurd (some_none out is)
call_gives h handles told memory n c known (Some (GivenReply sent)) later hub between_hub new out outs before between after gave is made rest more =
    replied h handles told memory n c known sent later later.closed hub between_hub new out outs before between after gave refl
    (some_same out (Reply c sent) is) made rest more
call_gives h handles told memory n c known (Some GivenClosed) later hub between_hub new out outs before between after gave is made rest more =
    let last = done-gives h handles outs between_hub new between after (ap (λ (l : HubSeen). l.turn) made) rest in
    let first : out ≡ Closed c = some_same out (Closed c) is in
    record {
      mine = [];
      replies = [];
      begun = tt;
      answered = (refl, last.1 ∙ gave.same);
      put = inr (gave.brought, gave.is_closed, λ i. first i ∷ last.0 i);
    }

-- A connection that is served.
pub serving-gives : {I A H : Type 0} (h : Hearing I A) (handles : H → ℕ → Heard → Sent → H → Type 0) (told : H → ℕ → Heard → Sent → H → A → Type 0) (memory : A)
    (n c : ℕ) → Tells h handles told
    → (outs : List HubOut) (hub new : HubSeen) (channel : ChannelSeen) (known : Connection I) (before after : H)
    → hub.turn ≡ Serving c → hub.channels c ≡ Some channel → IsLike h channel known → channel.closed ≡ false
    → IsGiven h.reads handles hub outs new before after → Gives h told memory n c known outs before after
serving-gives h handles told memory n c tells [] hub new channel known before after turn at like open_still given =
    record { mine = []; replies = []; begun = tt; answered = (refl, given.1); put = inl refl }
serving-gives h handles told memory n c tells (out ∷ outs) hub new channel known before after turn at like open_still (between_hub, between, next, rest) =
    let e : NextServing h.reads handles hub c (Some channel) (Some out) between_hub before between =
    subst (λ (o : Option ChannelSeen). NextServing h.reads handles hub c o (Some out) between_hub before between) at
    (subst (λ (t : Turn). Nexts h.reads handles hub t (Some out) between_hub before between) turn next) in
    call_gives h handles told memory n c known e.0 e.1 hub between_hub new out outs before between after
    (next-gave h handles told memory n c channel known e.0 e.1 before between tells like open_still e.2) e.3 e.4 rest
    (λ later now t a l o. serving-gives h handles told memory n c tells outs between_hub new later now between after t a l o rest)

-- A connection that ran out of memory.
pub breaking-gives : {I A H : Type 0} (h : Hearing I A) (handles : H → ℕ → Heard → Sent → H → Type 0) (told : H → ℕ → Heard → Sent → H → A → Type 0) (memory : A)
    (n c : ℕ)
    → (outs : List HubOut) (hub new : HubSeen) (channel : ChannelSeen) (known : Connection I) (before after : H)
    → hub.turn ≡ Breaking c → hub.channels c ≡ Some channel → IsNextIn h known broken → known.ended ≡ false
    → IsGiven h.reads handles hub outs new before after → Gives h told memory n c known outs before after
breaking-gives h handles told memory n c [] hub new channel known before after turn at next_in open_still given =
    record { mine = []; replies = []; begun = tt; answered = (refl, given.1); put = inl refl }
breaking-gives {I = I} {A = A} h handles told memory n c (out ∷ outs) hub new channel known before after turn at next_in open_still (between_hub, between, next, rest) =
    let e : (between ≡ before) × NextBreaking hub c (Some channel) (Some out) between_hub =
    subst (λ (o : Option ChannelSeen). (between ≡ before) × NextBreaking hub c o (Some out) between_hub) at
    (subst (λ (t : Turn). Nexts h.reads handles hub t (Some out) between_hub before between) turn next) in
    let entry : Entry I A = record { place = n; source = connection c; subject = broken; answer = memory } in
    let is_next : IsNextEntry h n c known entry = record { place = refl; source = refl; open_still = open_still; subject = next_in } in
    closes_behind h handles told memory n c known entry fixed_500 between_hub new out outs before between after
    is_next (rw open_still refl) (e.0, refl, refl) (some_same out (Reply c fixed_500) e.1.0) (ap (λ (l : HubSeen). l.turn) e.1.1) rest
