-- What an event brings, and what a hub puts out for it.
use Rattle.std.proofs.Common.{◌≡◌, ◌∙◌, ap, sym, subst, refl, ℕ, ◌==◌, ◌&&◌, not, Bool, true, false, Option, Some, None, Result, Err, List, [], ◌++◌, arith, inl, inr}
use Rattle.std.proofs.lemmas.Bool.Decides.{nat_tests}
use Rattle.std.specs.Option.{option_map}
use Rattle.jac_events.specs.declared.event.Event.{Event}
use Rattle.jac_events.specs.declared.event.Event.TheVariants.{Ask, Begin, Piece, Finish}
use Rattle.jac_http.specs.Reading.{IsReading}
use Rattle.jac_hub.specs.declared.handler.Heard.{Heard}
use Rattle.jac_hub.specs.declared.sent.Sent.{Sent}
use Rattle.jac_hub.specs.declared.hub.HubFault.{HubFault}
use Rattle.jac_hub.specs.declared.hub.HubFault.TheVariants.{Memory}
use Rattle.jac_hub.specs.declared.hub.HubOut.{HubOut}
use Rattle.jac_hub.specs.declared.hub.Turn.TheVariants.{Idle, Done}
use Rattle.jac_hub.specs.Hearing.{broken, Entry, Hearing}
use Rattle.jac_hub.specs.Heard.{Connection, Connections, new_connection, begun_connection, set_at, with_bytes, after_event, after_entries, after_both, is_closed, IsNextIn, PieceBrings, IsBroughtBy}
use Rattle.jac_hub.specs.Channel.{LIMIT, ChannelSeen, new_channel, channel_with}
use Rattle.jac_hub.specs.Hub.{HubSeen, StepsBegin, StepsPiece, StepsFinish, Steps}
use Rattle.jac_hub.specs.Served.{IsLike, IsLikeAfter, AreLikeAt, AreLike, IsEmptied, is_shut, closing, closings, IsLost, IsBrought}
use Rattle.jac_hub.proofs.Standing.{with_entries, set-same, set-set, AreOf, after-one, brought-of}
use Rattle.jac_hub.proofs.Longer.{closed-longer}
use Rattle.jac_hub.proofs.Following.{Tells, grown-like, new-like}
use Rattle.jac_hub.proofs.Emptying.{GaveOnly, Empties, idle-empties, done-empties, serving-empties, breaking-empties}

false_true : (b : Bool) → b ≡ false → b ≡ true → ⊥
false_true b e f = cc

-- ---- connections beside channels

none_like : {I A : Type 0} (h : Hearing I A) (o : Option (Connection I)) → AreLikeAt h None o → o ≡ None
none_like h None like = refl
none_like h (Some one) like = absurd like

pub record IsBegun {I A : Type 0} (h : Hearing I A) (channel : ChannelSeen) (o : Option (Connection I)) : Type 0 where
  pub one : Connection I
  pub is : o ≡ Some one
  pub like : IsLikeAfter h channel one

some_like : {I A : Type 0} (h : Hearing I A) (channel : ChannelSeen) (o : Option (Connection I)) → AreLikeAt h (Some channel) o → IsBegun h channel o
some_like h channel None like = absurd like
some_like h channel (Some one) like = record { one = one; is = refl; like = like }

pub none-too : {I A : Type 0} (h : Hearing I A) (channels : ℕ → Option ChannelSeen) (known : Connections I) (c : ℕ) → AreLike h channels known
    → channels c ≡ None → known c ≡ None
none-too h channels known c like at = none_like h (known c) (subst (λ (o : Option ChannelSeen). AreLikeAt h o (known c)) at (like c))

pub begun-too : {I A : Type 0} (h : Hearing I A) (channels : ℕ → Option ChannelSeen) (known : Connections I) (c : ℕ) (channel : ChannelSeen) → AreLike h channels known
    → channels c ≡ Some channel → IsBegun h channel (known c)
begun-too h channels known c channel like at = some_like h channel (known c) (subst (λ (o : Option ChannelSeen). AreLikeAt h o (known c)) at (like c))

set_like : {I A : Type 0} (h : Hearing I A) (channels : ℕ → Option ChannelSeen) (known : Connections I) (c : ℕ) (x : Option ChannelSeen) (y : Option (Connection I))
    → AreLike h channels known → AreLikeAt h x y → AreLike h (set_at c x channels) (set_at c y known)
set_like h channels known c x y like here = λ d. at d (d == c) refl
  where
    at : (d : ℕ) (b : Bool) → (d == c) ≡ b → AreLikeAt h (set_at c x channels d) (set_at c y known d)
    at d true e = rw e here
    at d false e = rw e (like d)

-- Setting the value that is there already changes nothing.
set_known : {X : Type 0} (c : ℕ) (x : Option X) (xs : ℕ → Option X) → xs c ≡ x → set_at c x xs ≡ xs
set_known {X = X} c x xs is = λ i d. at d (d == c) refl i
  where
    at : (d : ℕ) (b : Bool) → (d == c) ≡ b → set_at c x xs d ≡ xs d
    at d true e = let same : d ≡ c = grind (arith, nat_tests, e) in rw e (sym is ∙ ap xs (sym same))
    at d false e = rw e refl

begun_like : {I A : Type 0} (h : Hearing I A) → IsLikeAfter h new_channel new_connection
unfolding LIMIT
begun_like h = (refl, λ open_still. new-like h)

-- ---- events that bring nothing

-- The hub puts out nothing, and its connections agree with those of the definition.
brings_nothing : {I A H : Type 0} (h : Hearing I A) (told : H → ℕ → Heard → Sent → H → A → Type 0) (memory : A) (n : ℕ) (event : Event) (known after_known : Connections I)
    (channels : ℕ → Option ChannelSeen) (hub new : HubSeen) (outs : List HubOut) (before after : H)
    → IsBroughtBy h n event known [] → after_event event known ≡ after_known → closings event known after_known ≡ [] → AreLike h channels after_known
    → hub.channels ≡ channels → GaveOnly [] hub outs new before after → IsBrought h told memory n event known outs new before after
brings_nothing {I = I} h told memory n event known after_known channels hub new outs before after brought is quiet like same gave = record {
  mine = [];
  brought = brought;
  replies = [];
  answered = (refl, gave.same);
  put = gave.put ∙ sym quiet ∙ ap (closings event known) (sym is);
  like =
      subst (λ (cs : ℕ → Option ChannelSeen). AreLike h cs (after_event event known)) (sym same ∙ sym (ap (λ (l : HubSeen). l.channels) gave.made))
      (subst (λ (k : Connections I). AreLike h channels k) (sym is) like);
  idle = ap (λ (l : HubSeen). l.turn) gave.made;
}

-- An event that the hub refused.
refused_event : {I A H : Type 0} (h : Hearing I A) (handles : H → ℕ → Heard → Sent → H → Type 0) (told : H → ℕ → Heard → Sent → H → A → Type 0) (memory : A) (n : ℕ)
    (event : Event) (known : Connections I) (old stepped new : HubSeen) (outs : List HubOut) (before after : H) → old.turn ≡ Idle → AreLike h old.channels known
    → stepped ≡ old → IsBroughtBy h n event known [] → after_event event known ≡ known → closings event known known ≡ []
    → IsEmptied h.reads handles stepped outs new before after → IsBrought h told memory n event known outs new before after
refused_event h handles told memory n event known old stepped new outs before after idle like same brought is quiet emptied =
    brings_nothing h told memory n event known known old.channels stepped new outs before after brought is quiet like (ap (λ (l : HubSeen). l.channels) same)
    (idle-empties h handles outs stepped new before after (ap (λ (l : HubSeen). l.turn) same ∙ idle) emptied)

-- An event that the hub took, and that brings nothing.
taken_event : {I A H : Type 0} (h : Hearing I A) (handles : H → ℕ → Heard → Sent → H → Type 0) (told : H → ℕ → Heard → Sent → H → A → Type 0) (memory : A) (n : ℕ)
    (event : Event) (known after_known : Connections I) (channels : ℕ → Option ChannelSeen) (stepped new : HubSeen) (outs : List HubOut) (before after : H)
    → stepped ≡ record { channels = channels; turn = Done } → IsBroughtBy h n event known [] → after_event event known ≡ after_known
    → closings event known after_known ≡ [] → AreLike h channels after_known
    → IsEmptied h.reads handles stepped outs new before after → IsBrought h told memory n event known outs new before after
taken_event h handles told memory n event known after_known channels stepped new outs before after made brought is quiet like emptied =
    brings_nothing h told memory n event known after_known channels stepped new outs before after brought is quiet like (ap (λ (l : HubSeen). l.channels) made)
    (done-empties h handles outs stepped new before after (ap (λ (l : HubSeen). l.turn) made) emptied)

-- ---- each kind of event

begin_served : {I A H : Type 0} (h : Hearing I A) (handles : H → ℕ → Heard → Sent → H → Type 0) (told : H → ℕ → Heard → Sent → H → A → Type 0) (memory : A) (n c : ℕ)
    (o : Option ChannelSeen) (known : Connections I) (result : Result (Unit {0}) HubFault) (old stepped new : HubSeen) (outs : List HubOut) (before after : H)
    → old.turn ≡ Idle → AreLike h old.channels known → old.channels c ≡ o → StepsBegin old c o result stepped → (result ≡ Err Memory → ⊥)
    → IsEmptied h.reads handles stepped outs new before after → IsBrought h told memory n (Begin c) known outs new before after
begin_served {I = I} h handles told memory n c None known result old stepped new outs before after idle like at (inl (ok, made)) kept emptied =
    let is : after_event (Begin c) known ≡ set_at c (Some new_connection) known =
    ap (λ (o : Option (Connection I)). set_at c (begun_connection o) known) (none-too h old.channels known c like at) in
    taken_event h handles told memory n (Begin c) known (set_at c (Some new_connection) known) (set_at c (Some new_channel) old.channels) stepped new outs before after
    made refl is refl (set_like h old.channels known c (Some new_channel) (Some new_connection) like (begun_like h)) emptied
begin_served h handles told memory n c None known result old stepped new outs before after idle like at (inr (memory_out, same)) kept emptied =
    absurd (kept memory_out)
begin_served {I = I} h handles told memory n c (Some channel) known result old stepped new outs before after idle like at (refused, same) kept emptied =
    let b = begun-too h old.channels known c channel like at in
    let is : after_event (Begin c) known ≡ known =
    ap (λ (o : Option (Connection I)). set_at c (begun_connection o) known) b.is ∙ set_known c (Some b.one) known b.is in
    refused_event h handles told memory n (Begin c) known old stepped new outs before after idle like same refl is refl emptied

finish_served : {I A H : Type 0} (h : Hearing I A) (handles : H → ℕ → Heard → Sent → H → Type 0) (told : H → ℕ → Heard → Sent → H → A → Type 0) (memory : A) (n c : ℕ)
    (o : Option ChannelSeen) (known : Connections I) (result : Result (Unit {0}) HubFault) (old stepped new : HubSeen) (outs : List HubOut) (before after : H)
    → old.turn ≡ Idle → AreLike h old.channels known → old.channels c ≡ o → StepsFinish old c o result stepped
    → IsEmptied h.reads handles stepped outs new before after → IsBrought h told memory n (Finish c) known outs new before after
finish_served h handles told memory n c None known result old stepped new outs before after idle like at (refused, same) emptied =
    refused_event h handles told memory n (Finish c) known old stepped new outs before after idle like same refl
    (set_known c None known (none-too h old.channels known c like at)) refl emptied
finish_served h handles told memory n c (Some channel) known result old stepped new outs before after idle like at (ok, made) emptied =
    taken_event h handles told memory n (Finish c) known (set_at c None known) (set_at c None old.channels) stepped new outs before after
    made refl refl refl (set_like h old.channels known c None None like tt) emptied

-- The connections after a piece, if its connection has begun.
pub piece-left : {I A : Type 0} (h : Hearing I A) (c : ℕ) (bytes : List ℕ) (one : Connection I) (known : Connections I) (mine : List (Entry I A)) → known c ≡ Some one
    → AreOf c mine → after_both h (Piece c bytes) mine known ≡ set_at c (Some (with_entries h mine (with_bytes bytes one))) known
piece-left {I = I} h c bytes one known mine is all =
    ap (λ (o : Option (Connection I)). after_entries h mine (set_at c (option_map (with_bytes bytes) o) known)) is
    ∙ after-one h c mine (with_bytes bytes one) known all

-- If the connection was open before the piece, `Closed` is put out exactly if it is closed after
-- it.
pub piece-closings : {I A : Type 0} (h : Hearing I A) (c : ℕ) (bytes : List ℕ) (one : Connection I) (known : Connections I) (mine : List (Entry I A)) → known c ≡ Some one
    → is_closed one ≡ false → AreOf c mine
    → closings (Piece c bytes) known (after_both h (Piece c bytes) mine known) ≡ closing c (is_closed (with_entries h mine (with_bytes bytes one)))
piece-closings {I = I} h c bytes one known mine is open_still all =
    let now : Connection I = with_entries h mine (with_bytes bytes one) in
    ap (closings (Piece c bytes) known) (piece-left h c bytes one known mine is all)
    ∙ ap (λ (o : Option (Connection I)). closing c (not (is_shut (known c)) && is_shut o)) (set-same c (Some now) known)
    ∙ ap (λ (o : Option (Connection I)). closing c (not (is_shut o) && is_closed now)) is
    ∙ ap (λ (b : Bool). closing c (not b && is_closed now)) open_still

-- What the calls put out for a connection that was open.
piece_served : {I A H : Type 0} (h : Hearing I A) (told : H → ℕ → Heard → Sent → H → A → Type 0) (memory : A) (n c : ℕ) (bytes : List ℕ)
    (one : Connection I) (known : Connections I) (channels : ℕ → Option ChannelSeen) (hub new : HubSeen) (outs : List HubOut) (before after : H)
    → AreLike h channels known → known c ≡ Some one → is_closed one ≡ false → ((x : Option ChannelSeen) → set_at c x hub.channels ≡ set_at c x channels)
    → Empties h told memory n c (with_bytes bytes one) hub outs new before after → IsBrought h told memory n (Piece c bytes) known outs new before after
piece_served {I = I} h told memory n c bytes one known channels hub new outs before after like is open_still others e =
    let now : Connection I = with_entries h e.mine (with_bytes bytes one) in
    let all = brought-of h n c (with_bytes bytes one) e.mine e.brought in
    let channels_after : new.channels ≡ set_at c (Some e.later) channels = ap (λ (l : HubSeen). l.channels) e.made ∙ others (Some e.later) in
    record {
      mine = e.mine;
      brought = subst (λ (o : Option (Connection I)). PieceBrings h n c bytes o e.mine) (sym is) (inr (open_still, e.brought));
      replies = e.replies;
      answered = e.answered;
      put = e.put ∙ ap (λ (l : List HubOut). e.replies ++ l) (sym (piece-closings h c bytes one known e.mine is open_still all));
      like =
          subst (λ (cs : ℕ → Option ChannelSeen). AreLike h cs (after_both h (Piece c bytes) e.mine known)) (sym channels_after)
          (subst (λ (k : Connections I). AreLike h (set_at c (Some e.later) channels) k) (sym (piece-left h c bytes one known e.mine is all))
          (set_like h channels known c (Some e.later) (Some now) like e.like));
      idle = ap (λ (l : HubSeen). l.turn) e.made;
    }

pieces_served : {I A H : Type 0} (h : Hearing I A) → IsReading h.reads → (handles : H → ℕ → Heard → Sent → H → Type 0) (told : H → ℕ → Heard → Sent → H → A → Type 0)
    (memory : A) (n c : ℕ) → Tells h handles told → (bytes : List ℕ)
    (o : Option ChannelSeen) (known : Connections I) (result : Result (Unit {0}) HubFault) (old stepped new : HubSeen) (outs : List HubOut) (before after : H)
    → old.turn ≡ Idle → AreLike h old.channels known → old.channels c ≡ o → StepsPiece old c bytes o result stepped
    → IsEmptied h.reads handles stepped outs new before after → IsBrought h told memory n (Piece c bytes) known outs new before after
pieces_served {I = I} h law handles told memory n c tells bytes None known result old stepped new outs before after idle like at (refused, same) emptied =
    let none : known c ≡ None = none-too h old.channels known c like at in
    let is : after_event (Piece c bytes) known ≡ known =
    ap (λ (o : Option (Connection I)). set_at c (option_map (with_bytes bytes) o) known) none ∙ set_known c None known none in
    refused_event h handles told memory n (Piece c bytes) known old stepped new outs before after idle like same
    (subst (λ (o : Option (Connection I)). PieceBrings h n c bytes o []) (sym none) refl) is
    (ap (λ (o : Option (Connection I)). closing c (not (is_shut o) && is_shut o)) none) emptied
pieces_served {I = I} h law handles told memory n c tells bytes (Some channel) known result old stepped new outs before after idle like at (inl (closed, ok, made)) emptied =
    let b = begun-too h old.channels known c channel like at in
    let shut_before : is_closed b.one ≡ true = sym b.like.0 ∙ closed in
    let shut_after : is_closed (with_bytes bytes b.one) ≡ true = closed-longer b.one bytes shut_before in
    let is : after_event (Piece c bytes) known ≡ set_at c (Some (with_bytes bytes b.one)) known =
    ap (λ (o : Option (Connection I)). set_at c (option_map (with_bytes bytes) o) known) b.is in
    let quiet : closings (Piece c bytes) known (set_at c (Some (with_bytes bytes b.one)) known) ≡ [] =
    ap (λ (o : Option (Connection I)). closing c (not (is_shut o) && is_shut (set_at c (Some (with_bytes bytes b.one)) known c))) b.is
    ∙ ap (λ (t : Bool). closing c (not t && is_shut (set_at c (Some (with_bytes bytes b.one)) known c))) shut_before in
    let same_channels : set_at c (Some channel) old.channels ≡ old.channels = set_known c (Some channel) old.channels at in
    let here : IsLikeAfter h channel (with_bytes bytes b.one) = (closed ∙ sym shut_after, λ open_after. absurd (false_true _ open_after shut_after)) in
    taken_event h handles told memory n (Piece c bytes) known (set_at c (Some (with_bytes bytes b.one)) known) old.channels stepped new outs before after made
    (subst (λ (o : Option (Connection I)). PieceBrings h n c bytes o []) (sym b.is) (inl (shut_before, refl))) is quiet
    (subst (λ (cs : ℕ → Option ChannelSeen). AreLike h cs (set_at c (Some (with_bytes bytes b.one)) known)) same_channels
    (set_like h old.channels known c (Some channel) (Some (with_bytes bytes b.one)) like here)) emptied
pieces_served h law handles told memory n c tells bytes (Some channel) known result old stepped new outs before after idle like at (inr (inl (open_still, ok, made))) emptied =
    let b = begun-too h old.channels known c channel like at in
    let open_before : is_closed b.one ≡ false = sym b.like.0 ∙ open_still in
    let now = grown-like h law channel b.one bytes (b.like.1 open_before) in
    let others : (x : Option ChannelSeen) → set_at c x stepped.channels ≡ set_at c x old.channels =
    λ x. ap (λ (l : HubSeen). set_at c x l.channels) made ∙ set-set c x (Some (channel_with bytes channel)) old.channels in
    piece_served h told memory n c bytes b.one known old.channels stepped new outs before after like b.is open_before others
    (serving-empties h handles told memory n c tells outs stepped new (channel_with bytes channel) (with_bytes bytes b.one) before after
    (ap (λ (l : HubSeen). l.turn) made) (ap (λ (l : HubSeen). l.channels c) made ∙ set-same c (Some (channel_with bytes channel)) old.channels) now open_still emptied)
pieces_served h law handles told memory n c tells bytes (Some channel) known result old stepped new outs before after idle like at (inr (inr (open_still, lost, made))) emptied =
    let b = begun-too h old.channels known c channel like at in
    let open_before : is_closed b.one ≡ false = sym b.like.0 ∙ open_still in
    let was : IsLike h channel b.one = b.like.1 open_before in
    let now = grown-like h law channel b.one bytes was in
    let next_in : IsNextIn h (with_bytes bytes b.one) broken = ((channel_with bytes channel).unused, (channel_with bytes channel).unused, now.unused, refl) in
    piece_served h told memory n c bytes b.one known old.channels stepped new outs before after like b.is open_before
    (λ x. ap (λ (l : HubSeen). set_at c x l.channels) made)
    (breaking-empties h handles told memory n c outs stepped new channel (with_bytes bytes b.one) before after
    (ap (λ (l : HubSeen). l.turn) made) (ap (λ (l : HubSeen). l.channels c) made ∙ at) next_in (sym was.closed ∙ open_still) emptied)

-- For an event that a hub took, the calls of `next` put out what the definition brings.
pub event-served : {I A H : Type 0} (h : Hearing I A) → IsReading h.reads → (handles : H → ℕ → Heard → Sent → H → Type 0) (told : H → ℕ → Heard → Sent → H → A → Type 0)
    (memory : A) (n : ℕ) → Tells h handles told
    → (event : Event) (known : Connections I) (result : Result (Unit {0}) HubFault) (old stepped new : HubSeen) (outs : List HubOut) (before after : H)
    → old.turn ≡ Idle → AreLike h old.channels known → Steps old event result stepped → (IsLost event result → ⊥)
    → IsEmptied h.reads handles stepped outs new before after → IsBrought h told memory n event known outs new before after
event-served h law handles told memory n tells (Ask viewer method path query body) known result old stepped new outs before after idle like steps kept emptied =
    absurd steps
event-served h law handles told memory n tells (Begin c) known result old stepped new outs before after idle like steps kept emptied =
    begin_served h handles told memory n c (old.channels c) known result old stepped new outs before after idle like refl steps kept emptied
event-served h law handles told memory n tells (Piece c bytes) known result old stepped new outs before after idle like steps kept emptied =
    pieces_served h law handles told memory n c tells bytes (old.channels c) known result old stepped new outs before after idle like refl steps emptied
event-served h law handles told memory n tells (Finish c) known result old stepped new outs before after idle like steps kept emptied =
    finish_served h handles told memory n c (old.channels c) known result old stepped new outs before after idle like refl steps emptied
