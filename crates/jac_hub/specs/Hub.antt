-- The connections of a hub, and what its calls do to them.
use Rattle.std.specs.Prelude.{◌≡◌, ℕ, ◌+◌, ◌⊎◌, Bool, true, false, if◌then◌else◌, Option, Some, None, Result, Ok, Err, List, length}
use Rattle.std.specs.Ordering.{nat_cmp}
use Rattle.std.specs.BTreeMap.{get}
use Rattle.jac_events.specs.declared.event.Event.{Event}
use Rattle.jac_events.specs.declared.event.Event.TheVariants.{Ask, Begin, Piece, Finish}
use Rattle.jac_http.specs.declared.taken.Taken.{Taken}
use Rattle.jac_hub.specs.declared.handler.Heard.{Heard}
use Rattle.jac_hub.specs.declared.sent.Sent.{Sent}
use Rattle.jac_hub.specs.declared.channel.Given.{Given}
use Rattle.jac_hub.specs.declared.channel.Given.TheVariants.{Reply as GivenReply, Closed as GivenClosed}
use Rattle.jac_hub.specs.declared.hub.Hub.{Hub}
use Rattle.jac_hub.specs.declared.hub.HubFault.{HubFault}
use Rattle.jac_hub.specs.declared.hub.HubFault.TheVariants.{NotOpen, AlreadyOpen, Memory}
use Rattle.jac_hub.specs.declared.hub.HubOut.{HubOut}
use Rattle.jac_hub.specs.declared.hub.HubOut.TheVariants.{Reply, Closed}
use Rattle.jac_hub.specs.declared.hub.Turn.{Turn}
use Rattle.jac_hub.specs.declared.hub.Turn.TheVariants.{Idle, Serving, Breaking, Closing, Done}
use Rattle.jac_hub.specs.Heard.{set_at}
use Rattle.jac_hub.specs.Channel.{ChannelSeen, new_channel, channel_with, shut, fixed_500, NextOfChannel}

-- The connections that have begun, by number, and what is still to come for the last event.
pub record HubSeen : Type 0 where
  pub channels : ℕ → Option ChannelSeen
  pub turn : Turn

abbrev pub hub_seen : Hub → HubSeen
hub_seen hub = record { channels = get nat_cmp hub.channels; turn = hub.turn }

abbrev pub new_hub : HubSeen
new_hub = record { channels = λ c. None; turn = Idle }

-- The hub with this channel at c and this turn.
abbrev pub with_channel : ℕ → Option ChannelSeen → Turn → HubSeen → HubSeen
with_channel c channel turn hub = record { channels = set_at c channel hub.channels; turn = turn }

-- An event of a connection.
abbrev pub IsOfConnection : Event → Type 0
IsOfConnection (Ask viewer method path query body) = ⊥
IsOfConnection (Begin c) = Unit {0}
IsOfConnection (Piece c bytes) = Unit {0}
IsOfConnection (Finish c) = Unit {0}

abbrev pub StepsBegin : HubSeen → ℕ → Option ChannelSeen → Result (Unit {0}) HubFault → HubSeen
    → Type 0
StepsBegin old c None result new =
    ((result ≡ Ok tt) × (new ≡ with_channel c (Some new_channel) Done old))
    ⊎ ((result ≡ Err Memory) × (new ≡ old))
StepsBegin old c (Some channel) result new = (result ≡ Err (AlreadyOpen c)) × (new ≡ old)

-- A piece of a closed connection changes nothing. If memory runs out, none of its bytes are taken.
abbrev pub StepsPiece : HubSeen → ℕ → List ℕ → Option ChannelSeen → Result (Unit {0}) HubFault
    → HubSeen → Type 0
StepsPiece old c bytes None result new = (result ≡ Err (NotOpen c)) × (new ≡ old)
StepsPiece old c bytes (Some channel) result new =
    ((channel.closed ≡ true) × (result ≡ Ok tt) × (new ≡ record old { turn = Done }))
    ⊎ ((channel.closed ≡ false) × (result ≡ Ok tt)
    × (new ≡ with_channel c (Some (channel_with bytes channel)) (Serving c) old))
    ⊎ ((channel.closed ≡ false) × (result ≡ Err Memory) × (new ≡ record old { turn = Breaking c }))

abbrev pub StepsFinish : HubSeen → ℕ → Option ChannelSeen → Result (Unit {0}) HubFault → HubSeen
    → Type 0
StepsFinish old c None result new = (result ≡ Err (NotOpen c)) × (new ≡ old)
StepsFinish old c (Some channel) result new = (result ≡ Ok tt)
    × (new ≡ with_channel c None Done old)

-- What `step` does on an idle hub.
abbrev pub Steps : HubSeen → Event → Result (Unit {0}) HubFault → HubSeen → Type 0
Steps old (Ask viewer method path query body) result new = ⊥
Steps old (Begin c) result new = StepsBegin old c (old.channels c) result new
Steps old (Piece c bytes) result new = StepsPiece old c bytes (old.channels c) result new
Steps old (Finish c) result new = StepsFinish old c (old.channels c) result new

-- What is put out for what a connection gives.
abbrev pub out_of : ℕ → Option Given → Option HubOut
out_of c None = None
out_of c (Some (GivenReply sent)) = Some (Reply c sent)
out_of c (Some GivenClosed) = Some (Closed c)

-- The turn after what a connection gave. After a reply, the connection is served on, or that it is
-- closed is put out next.
abbrev pub turn_behind : ℕ → Option Given → Bool → Turn
turn_behind c None closed = Idle
turn_behind c (Some (GivenReply sent)) closed = if closed then Closing c else Serving c
turn_behind c (Some GivenClosed) closed = Done

abbrev pub NextServing : {H : Type 0} → (List ℕ → Taken → Type 0) → (H → ℕ → Heard → Sent → H
    → Type 0)
    → HubSeen → ℕ → Option ChannelSeen → Option HubOut → HubSeen → H → H → Type 0
NextServing reads handles old c None result new before after = (after ≡ before) × (result ≡ None)
    × (new ≡ record old { turn = Idle })
NextServing reads handles old c (Some channel) result new before after =
    (given : Option Given) × (later : ChannelSeen) × NextOfChannel reads handles c channel given
    later before after
    × (result ≡ out_of c given)
    × (new ≡ with_channel c (Some later) (turn_behind c given later.closed) old)

-- The reply for a connection that ran out of memory.
abbrev pub NextBreaking : HubSeen → ℕ → Option ChannelSeen → Option HubOut → HubSeen → Type 0
NextBreaking old c None result new = (result ≡ Some (Reply c fixed_500))
    × (new ≡ record old { turn = Closing c })
NextBreaking old c (Some channel) result new = (result ≡ Some (Reply c fixed_500))
    × (new ≡ with_channel c (Some (shut channel)) (Closing c) old)

-- What `next` does, by the turn.
abbrev pub Nexts : {H : Type 0} → (List ℕ → Taken → Type 0) → (H → ℕ → Heard → Sent → H → Type 0)
    → HubSeen → Turn → Option HubOut → HubSeen → H → H → Type 0
Nexts reads handles old Idle result new before after = (after ≡ before) × (result ≡ None)
    × (new ≡ old)
Nexts reads handles old (Serving c) result new before after = NextServing reads handles old c
    (old.channels c) result new before after
Nexts reads handles old (Breaking c) result new before after = (after ≡ before)
    × NextBreaking old c (old.channels c) result new
Nexts reads handles old (Closing c) result new before after = (after ≡ before)
    × (result ≡ Some (Closed c)) × (new ≡ record old { turn = Done })
Nexts reads handles old Done result new before after = (after ≡ before) × (result ≡ None)
    × (new ≡ record old { turn = Idle })

abbrev pub unused_in : Option ChannelSeen → ℕ
unused_in None = 0
unused_in (Some channel) = length channel.unused

-- The most that `next` may still put out.
abbrev pub puts_left_by : Turn → (ℕ → Option ChannelSeen) → ℕ
puts_left_by Idle channels = 0
puts_left_by (Serving c) channels = unused_in (channels c) + 4
puts_left_by (Breaking c) channels = 3
puts_left_by (Closing c) channels = 2
puts_left_by Done channels = 1

abbrev pub puts_left : HubSeen → ℕ
puts_left hub = puts_left_by hub.turn hub.channels
