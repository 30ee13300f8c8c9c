-- The beginning of what an event brings, and what a hub has put out so far.
use Rattle.std.proofs.Common.{◌≡◌, ◌∙◌, ap, sym, subst, refl, ℕ, true, false, Option, Some, None, Result, List, [], ◌∷◌, ◌++◌, inl, inr, ◌⊎◌}
use Rattle.jac_events.specs.declared.event.Event.{Event}
use Rattle.jac_events.specs.declared.event.Event.TheVariants.{Ask, Begin, Piece, Finish}
use Rattle.jac_http.specs.Reading.{IsReading}
use Rattle.jac_hub.specs.declared.handler.Heard.{Heard}
use Rattle.jac_hub.specs.declared.sent.Sent.{Sent}
use Rattle.jac_hub.specs.declared.hub.HubFault.{HubFault}
use Rattle.jac_hub.specs.declared.hub.HubOut.{HubOut}
use Rattle.jac_hub.specs.declared.hub.HubOut.TheVariants.{Closed}
use Rattle.jac_hub.specs.declared.hub.Turn.TheVariants.{Idle}
use Rattle.jac_hub.specs.Hearing.{broken, Entry, Hearing}
use Rattle.jac_hub.specs.Heard.{Connection, Connections, with_bytes, after_both, is_closed, IsNextIn, AreBrought, PieceBrings, PieceBegins, IsBroughtBy, IsBegunBy}
use Rattle.jac_hub.specs.Channel.{ChannelSeen, channel_with}
use Rattle.jac_hub.specs.Hub.{HubSeen, StepsBegin, StepsPiece, StepsFinish, Steps}
use Rattle.jac_hub.specs.Served.{IsLike, AreLike, IsGiven, closing, closings, IsServedInPart}
use Rattle.jac_hub.proofs.Standing.{with_entries, set-same, brought-of}
use Rattle.jac_hub.proofs.Following.{Tells, grown-like}
use Rattle.jac_hub.proofs.Giving.{Gives, idle-gives, done-gives, serving-gives, breaking-gives}
use Rattle.jac_hub.proofs.Events.{none-too, begun-too, piece-closings}

-- Nothing is put out.
quiet_part : {I A H : Type 0} (h : Hearing I A) (told : H → ℕ → Heard → Sent → H → A → Type 0) (memory : A) (n : ℕ) (event : Event) (known : Connections I)
    (outs : List HubOut) (before after : H) → IsBegunBy h n event known [] → (outs ≡ []) × (after ≡ before) → IsServedInPart h told memory n event known outs before after
quiet_part h told memory n event known outs before after begun given =
    record { mine = []; replies = []; begun = begun; answered = (refl, given.1); put = inl given.0 }

begin_part : {I A H : Type 0} (h : Hearing I A) (handles : H → ℕ → Heard → Sent → H → Type 0) (c : ℕ)
    (o : Option ChannelSeen) (result : Result (Unit {0}) HubFault) (old stepped new : HubSeen) (outs : List HubOut) (before after : H)
    → old.turn ≡ Idle → StepsBegin old c o result stepped → IsGiven h.reads handles stepped outs new before after → (outs ≡ []) × (after ≡ before)
begin_part h handles c None result old stepped new outs before after idle (inl (ok, made)) given =
    done-gives h handles outs stepped new before after (ap (λ (l : HubSeen). l.turn) made) given
begin_part h handles c None result old stepped new outs before after idle (inr (lost, same)) given =
    idle-gives h handles outs stepped new before after (ap (λ (l : HubSeen). l.turn) same ∙ idle) given
begin_part h handles c (Some channel) result old stepped new outs before after idle (refused, same) given =
    idle-gives h handles outs stepped new before after (ap (λ (l : HubSeen). l.turn) same ∙ idle) given

finish_part : {I A H : Type 0} (h : Hearing I A) (handles : H → ℕ → Heard → Sent → H → Type 0) (c : ℕ)
    (o : Option ChannelSeen) (result : Result (Unit {0}) HubFault) (old stepped new : HubSeen) (outs : List HubOut) (before after : H)
    → old.turn ≡ Idle → StepsFinish old c o result stepped → IsGiven h.reads handles stepped outs new before after → (outs ≡ []) × (after ≡ before)
finish_part h handles c None result old stepped new outs before after idle (refused, same) given =
    idle-gives h handles outs stepped new before after (ap (λ (l : HubSeen). l.turn) same ∙ idle) given
finish_part h handles c (Some channel) result old stepped new outs before after idle (ok, made) given =
    done-gives h handles outs stepped new before after (ap (λ (l : HubSeen). l.turn) made) given

part_put : {I A : Type 0} (h : Hearing I A) (n c : ℕ) (bytes : List ℕ) (one : Connection I) (known : Connections I) (mine : List (Entry I A)) (outs replies : List HubOut)
    → known c ≡ Some one → is_closed one ≡ false
    → (outs ≡ replies) ⊎ (AreBrought h n c (with_bytes bytes one) mine × (is_closed (with_entries h mine (with_bytes bytes one)) ≡ true) × (outs ≡ replies ++ Closed c ∷ []))
    → (outs ≡ replies) ⊎ (IsBroughtBy h n (Piece c bytes) known mine × (outs ≡ replies ++ closings (Piece c bytes) known (after_both h (Piece c bytes) mine known)))
part_put h n c bytes one known mine outs replies is open_still (inl some) = inl some
part_put {I = I} h n c bytes one known mine outs replies is open_still (inr (all, closed, put)) =
    let shut_now : closings (Piece c bytes) known (after_both h (Piece c bytes) mine known) ≡ Closed c ∷ [] =
    piece-closings h c bytes one known mine is open_still (brought-of h n c (with_bytes bytes one) mine all) ∙ ap (closing c) closed in
    inr (
      subst (λ (o : Option (Connection I)). PieceBrings h n c bytes o mine) (sym is) (inr (open_still, all)),
      put ∙ ap (λ (l : List HubOut). replies ++ l) (sym shut_now),
    )

piece_part : {I A H : Type 0} (h : Hearing I A) (told : H → ℕ → Heard → Sent → H → A → Type 0) (memory : A) (n c : ℕ) (bytes : List ℕ)
    (one : Connection I) (known : Connections I) (outs : List HubOut) (before after : H) → known c ≡ Some one → is_closed one ≡ false
    → Gives h told memory n c (with_bytes bytes one) outs before after → IsServedInPart h told memory n (Piece c bytes) known outs before after
piece_part {I = I} h told memory n c bytes one known outs before after is open_still gives = record {
  mine = gives.mine;
  replies = gives.replies;
  begun = subst (λ (o : Option (Connection I)). PieceBegins h n c bytes o gives.mine) (sym is) (inr (open_still, gives.begun));
  answered = gives.answered;
  put = part_put h n c bytes one known gives.mine outs gives.replies is open_still gives.put;
}

pieces_part : {I A H : Type 0} (h : Hearing I A) → IsReading h.reads → (handles : H → ℕ → Heard → Sent → H → Type 0) (told : H → ℕ → Heard → Sent → H → A → Type 0)
    (memory : A) (n c : ℕ) → Tells h handles told → (bytes : List ℕ)
    (o : Option ChannelSeen) (known : Connections I) (result : Result (Unit {0}) HubFault) (old stepped new : HubSeen) (outs : List HubOut) (before after : H)
    → old.turn ≡ Idle → AreLike h old.channels known → old.channels c ≡ o → StepsPiece old c bytes o result stepped
    → IsGiven h.reads handles stepped outs new before after → IsServedInPart h told memory n (Piece c bytes) known outs before after
pieces_part {I = I} h law handles told memory n c tells bytes None known result old stepped new outs before after idle like at (refused, same) given =
    quiet_part h told memory n (Piece c bytes) known outs before after
    (subst (λ (o : Option (Connection I)). PieceBegins h n c bytes o []) (sym (none-too h old.channels known c like at)) refl)
    (idle-gives h handles outs stepped new before after (ap (λ (l : HubSeen). l.turn) same ∙ idle) given)
pieces_part {I = I} h law handles told memory n c tells bytes (Some channel) known result old stepped new outs before after idle like at (inl (closed, ok, made)) given =
    let b = begun-too h old.channels known c channel like at in
    let shut_before : is_closed b.one ≡ true = sym b.like.0 ∙ closed in
    quiet_part h told memory n (Piece c bytes) known outs before after
    (subst (λ (o : Option (Connection I)). PieceBegins h n c bytes o []) (sym b.is) (inl (shut_before, refl)))
    (done-gives h handles outs stepped new before after (ap (λ (l : HubSeen). l.turn) made) given)
pieces_part h law handles told memory n c tells bytes (Some channel) known result old stepped new outs before after idle like at (inr (inl (open_still, ok, made))) given =
    let b = begun-too h old.channels known c channel like at in
    let open_before : is_closed b.one ≡ false = sym b.like.0 ∙ open_still in
    piece_part h told memory n c bytes b.one known outs before after b.is open_before
    (serving-gives h handles told memory n c tells outs stepped new (channel_with bytes channel) (with_bytes bytes b.one) before after
    (ap (λ (l : HubSeen). l.turn) made) (ap (λ (l : HubSeen). l.channels c) made ∙ set-same c (Some (channel_with bytes channel)) old.channels)
    (grown-like h law channel b.one bytes (b.like.1 open_before)) open_still given)
pieces_part h law handles told memory n c tells bytes (Some channel) known result old stepped new outs before after idle like at (inr (inr (open_still, lost, made))) given =
    let b = begun-too h old.channels known c channel like at in
    let open_before : is_closed b.one ≡ false = sym b.like.0 ∙ open_still in
    let was : IsLike h channel b.one = b.like.1 open_before in
    let now = grown-like h law channel b.one bytes was in
    let next_in : IsNextIn h (with_bytes bytes b.one) broken = ((channel_with bytes channel).unused, (channel_with bytes channel).unused, now.unused, refl) in
    piece_part h told memory n c bytes b.one known outs before after b.is open_before
    (breaking-gives h handles told memory n c outs stepped new channel (with_bytes bytes b.one) before after
    (ap (λ (l : HubSeen). l.turn) made) (ap (λ (l : HubSeen). l.channels c) made ∙ at) next_in (sym was.closed ∙ open_still) given)

-- After an event and some calls of `next`, the hub has put out the beginning of what the definition
-- brings.
pub event-served_in_part : {I A H : Type 0} (h : Hearing I A) → IsReading h.reads → (handles : H → ℕ → Heard → Sent → H → Type 0)
    (told : H → ℕ → Heard → Sent → H → A → Type 0) (memory : A) (n : ℕ) → Tells h handles told
    → (event : Event) (known : Connections I) (result : Result (Unit {0}) HubFault) (old stepped new : HubSeen) (outs : List HubOut) (before after : H)
    → old.turn ≡ Idle → AreLike h old.channels known → Steps old event result stepped
    → IsGiven h.reads handles stepped outs new before after → IsServedInPart h told memory n event known outs before after
event-served_in_part h law handles told memory n tells (Ask viewer method path query body) known result old stepped new outs before after idle like steps given =
    absurd steps
event-served_in_part h law handles told memory n tells (Begin c) known result old stepped new outs before after idle like steps given =
    quiet_part h told memory n (Begin c) known outs before after refl (begin_part h handles c (old.channels c) result old stepped new outs before after idle steps given)
event-served_in_part h law handles told memory n tells (Piece c bytes) known result old stepped new outs before after idle like steps given =
    pieces_part h law handles told memory n c tells bytes (old.channels c) known result old stepped new outs before after idle like refl steps given
event-served_in_part h law handles told memory n tells (Finish c) known result old stepped new outs before after idle like steps given =
    quiet_part h told memory n (Finish c) known outs before after refl (finish_part h handles c (old.channels c) result old stepped new outs before after idle steps given)
