-- The state of one connection in the hub.
use Rattle.std.specs.Prelude.{◌≡◌, ℕ, ◌<◌, ◌+◌, ◌-◌, ◌||◌, ◌⊎◌, nat_le, Bool, true, false, Option, Some, None, List, [], ◌++◌, length, take, drop}
use Rattle.jac_http.specs.declared.taken.Taken.{Taken}
use Rattle.jac_http.specs.declared.taken.Taken.TheVariants.{More, Whole, Refused}
use Rattle.jac_http.specs.declared.reply.Fixed.TheVariants.{Memory500}
use Rattle.jac_hub.specs.declared.handler.Heard.{Heard}
use Rattle.jac_hub.specs.declared.handler.Heard.TheVariants.{Whole as HeardWhole, Refused as HeardRefused}
use Rattle.jac_hub.specs.declared.sent.Sent.{Sent}
use Rattle.jac_hub.specs.declared.sent.Sent.TheVariants.{Made, Still}
use Rattle.jac_hub.specs.declared.channel.Given.{Given}
use Rattle.jac_hub.specs.declared.channel.Given.TheVariants.{Reply, Closed}

-- The number of bytes of a connection that count: 16 MiB.
unfoldable pub LIMIT : ℕ
LIMIT = 16777216

-- The bytes that no answered request used, the number of bytes that were taken, and whether the
-- connection is closed.
pub record ChannelSeen : Type 0 where
  pub unused : List ℕ
  pub taken : ℕ
  pub closed : Bool

abbrev pub new_channel : ChannelSeen
new_channel = record { unused = []; taken = 0; closed = false }

-- The channel with those bytes of a piece that still count.
abbrev pub channel_with : List ℕ → ChannelSeen → ChannelSeen
channel_with bytes channel = record channel {
  unused = channel.unused ++ take (LIMIT - channel.taken) bytes;
  taken = channel.taken + length (take (LIMIT - channel.taken) bytes);
}

abbrev pub shut : ChannelSeen → ChannelSeen
shut channel = record channel { closed = true }

-- The reply when memory runs out.
abbrev pub fixed_500 : Sent
fixed_500 = Still Memory500 false None

-- The connection is closed after what was sent.
abbrev pub sent_closes : Sent → Bool
sent_closes (Made line audit close) = close
sent_closes (Still status head viewer) = true

-- The bytes are the beginning of a request. If all bytes that count were taken, the connection is
-- closed. If not, it waits.
abbrev pub Waits : ChannelSeen → Option Given → ChannelSeen → Type 0
Waits channel result new =
    ((nat_le LIMIT channel.taken ≡ true) × (result ≡ Some Closed) × (new ≡ shut channel))
    ⊎ ((nat_le LIMIT channel.taken ≡ false) × (result ≡ None) × (new ≡ channel))

-- A request or a refusal is answered by one call of the handler, which `handles` relates.
abbrev pub AnswersFront : {H : Type 0} → (H → ℕ → Heard → Sent → H → Type 0) → ℕ → ChannelSeen
    → Taken → Option Given → ChannelSeen → H → H → Type 0
AnswersFront handles c channel More result new before after = (after ≡ before)
    × Waits channel result new
AnswersFront handles c channel (Whole request used) result new before after =
    (sent : Sent) × handles before c (HeardWhole request) sent after × (result ≡ Some (Reply sent))
    × (new ≡ record channel {
      unused = drop used channel.unused;
      closed = request.close ||
          sent_closes sent;
    })
AnswersFront handles c channel (Refused status) result new before after =
    (sent : Sent) × handles before c (HeardRefused status) sent after × (result ≡ Some (Reply sent))
    × (new ≡ shut channel)

-- Memory runs out: the fixed reply is given, and the connection is closed.
abbrev pub Fails : {H : Type 0} → ChannelSeen → Option Given → ChannelSeen → H → H → Type 0
Fails channel result new before after = (after ≡ before) × (result ≡ Some (Reply fixed_500))
    × (new ≡ shut channel)

-- The next thing that connection c gives.
abbrev pub NextOfChannel : {H : Type 0} → (List ℕ → Taken → Type 0) → (H → ℕ → Heard → Sent → H
    → Type 0) → ℕ → ChannelSeen → Option Given → ChannelSeen → H → H → Type 0
NextOfChannel reads handles c channel result new before after =
    Fails channel result new before after
    ⊎ ((taken : Taken) × reads channel.unused taken × AnswersFront handles c channel taken result
    new before after)

-- After a reply, the connection is closed or has fewer unused bytes.
abbrev pub IsNearer : ChannelSeen → Option Given → ChannelSeen → Type 0
IsNearer old None new = Unit {0}
IsNearer old (Some Closed) new = Unit {0}
IsNearer old (Some (Reply sent)) new = (new.closed ≡ true) ⊎ (length new.unused < length old.unused)
