-- A hub's connection agrees with that of the definition.
use Rattle.std.proofs.Common.{◌≡◌, ◌∙◌, ap, sym, subst, refl, ℕ, zero, suc, ◌+◌, ◌-◌, ◌||◌, min, nat_le, Bool, true, false, Option, Some, None, List, [], ◌∷◌, ◌++◌, take, drop, length, length-append, length-take, arith, inl, inr}
use Rattle.std.proofs.lemmas.Bool.Decides.{nat_tests}
use Rattle.jac_http.specs.declared.taken.Taken.{Taken}
use Rattle.jac_http.specs.declared.taken.Taken.TheVariants.{More, Whole, Refused}
use Rattle.jac_http.specs.Reading.{IsReading}
use Rattle.jac_hub.specs.declared.handler.Heard.{Heard}
use Rattle.jac_hub.specs.declared.handler.Heard.TheVariants.{Whole as HeardWhole, Refused as HeardRefused}
use Rattle.jac_hub.specs.declared.sent.Sent.{Sent}
use Rattle.jac_hub.specs.declared.channel.Given.{Given}
use Rattle.jac_hub.specs.declared.channel.Given.TheVariants.{Reply as GivenReply, Closed as GivenClosed}
use Rattle.jac_hub.specs.Hearing.{connection, Subject, whole, refused, broken, Entry, Hearing}
use Rattle.jac_hub.specs.Heard.{Connection, new_connection, with_bytes, may_close, with_entry, is_closed, bytes_counted, StandsAt, StandAt, IsNextEntry, AreBrought}
use Rattle.jac_hub.specs.Channel.{LIMIT, ChannelSeen, new_channel, channel_with, fixed_500, Waits, AnswersFront, NextOfChannel}
use Rattle.jac_hub.specs.Served.{IsLike, IsLikeAfter, IsEntryAnswered, AgreesSent}
use Rattle.jac_hub.proofs.Reading.{stand-longer, stand-push}

-- For each call of a handler, which `handles` relates, `told` relates it with an answer that agrees
-- with what was sent.
abbrev pub Tells : {I A H : Type 0} → Hearing I A → (H → ℕ → Heard → Sent → H → Type 0) → (H → ℕ → Heard → Sent → H → A → Type 0) → Type 0
Tells {A = A} {H = H} h handles told =
    (before after : H) (c : ℕ) (heard : Heard) (sent : Sent) → handles before c heard sent after
    → (answer : A) × told before c heard sent after answer × AgreesSent h heard sent answer

take_past : (n : ℕ) (xs ys : List ℕ) → take n (xs ++ ys) ≡ take n xs ++ take (n - length xs) ys
take_past zero xs ys = let z : zero - length xs ≡ zero = omega arith in rw z refl
take_past (suc n) [] ys = let z : suc n - 0 ≡ suc n = omega arith in rw z refl
take_past (suc n) (x ∷ xs) ys =
    let less : suc n - suc (length xs) ≡ n - length xs = omega arith in
    ap (λ (l : List ℕ). x ∷ l) (take_past n xs ys ∙ ap (λ (k : ℕ). take n xs ++ take k ys) (sym less))

room_left : (l n : ℕ) → l - min l n ≡ l - n
room_left l n = omega arith

-- A piece keeps the agreement: its bytes that count follow the unused ones.
pub grown-like : {I A : Type 0} (h : Hearing I A) → IsReading h.reads → (channel : ChannelSeen) (known : Connection I) (bytes : List ℕ)
    → IsLike h channel known → IsLike h (channel_with bytes channel) (with_bytes bytes known)
grown-like h law channel known bytes like =
    let room : LIMIT - channel.taken ≡ LIMIT - length known.bytes = ap (λ (k : ℕ). LIMIT - k) like.taken ∙ room_left LIMIT (length known.bytes) in
    let new : List ℕ = take (LIMIT - length known.bytes) bytes in
    let cut : take (LIMIT - channel.taken) bytes ≡ new = ap (λ (k : ℕ). take k bytes) room in
    let all : bytes_counted (with_bytes bytes known) ≡ bytes_counted known ++ new = take_past LIMIT known.bytes bytes in
    let moved : StandAt h known.heard (bytes_counted (with_bytes bytes known)) (channel.unused ++ new) =
    subst (λ (b : List ℕ). StandAt h known.heard b (channel.unused ++ new)) (sym all) (stand-longer h law known.heard (bytes_counted known) channel.unused new like.unused) in
    let size : channel.taken + length (take (LIMIT - channel.taken) bytes) ≡ min LIMIT (length (known.bytes ++ bytes)) =
    omega (arith, like.taken, length-take (LIMIT - channel.taken) bytes, length-append known.bytes bytes) in
    record {
      taken = size;
      unused = subst (λ (b : List ℕ). StandAt h known.heard (bytes_counted (with_bytes bytes known)) (channel.unused ++ b)) (sym cut) moved;
      closed = like.closed;
    }

full_by : (b : Bool) (l n : ℕ) → b ≡ false → nat_le l (min l n) ≡ (b || nat_le l n)
full_by b l n e = rw e (full l n)
  where
    full : (x y : ℕ) → nat_le x (min x y) ≡ nat_le x y
    full x y = grind (arith, nat_tests)

-- If no entry closed it, a connection is closed exactly if all bytes that count were taken.
pub full-closed : {I A : Type 0} (h : Hearing I A) (channel : ChannelSeen) (known : Connection I) → IsLike h channel known → channel.closed ≡ false
    → nat_le LIMIT channel.taken ≡ is_closed known
full-closed h channel known like open_still =
    ap (λ (k : ℕ). nat_le LIMIT k) like.taken ∙ full_by known.ended LIMIT (length known.bytes) (sym like.closed ∙ open_still)

pub new-like : {I A : Type 0} (h : Hearing I A) → IsLike h new_channel new_connection
new-like h = record { taken = small LIMIT; unused = none LIMIT; closed = refl }
  where
    small : (l : ℕ) → 0 ≡ min l 0
    small l = omega arith

    none : (l : ℕ) → [] ≡ take {A = ℕ} l []
    none zero = refl
    none (suc l) = refl

-- The next entry of a connection, and the agreement after it.
pub record GetsNext {I A : Type 0} (h : Hearing I A) (n c : ℕ) (known : Connection I) (entry : Entry I A) (later : ChannelSeen) : Type 0 where
  pub next : IsNextEntry h n c known entry
  pub like : IsLike h later (with_entry h entry known)

-- A subject at the front of the unused bytes is the next one. After it, `rest` is unused.
gets_next : {I A : Type 0} (h : Hearing I A) (n c : ℕ) (channel : ChannelSeen) (known : Connection I) (subject : Subject I) (rest : List ℕ) (answer : A)
    → IsLike h channel known → channel.closed ≡ false → StandsAt h subject channel.unused rest
    → let entry : Entry I A = record { place = n; source = connection c; subject = subject; answer = answer } in
    GetsNext h n c known entry (record { unused = rest; taken = channel.taken; closed = may_close h entry })
gets_next h n c channel known subject rest answer like open_still stands =
    let still_open : known.ended ≡ false = sym like.closed ∙ open_still in
    record {
      next = record {
        place = refl;
        source = refl;
        open_still = still_open;
        subject = (channel.unused, rest, like.unused, stands);
      };
      like = record {
        taken = like.taken;
        unused = stand-push h known.heard subject (bytes_counted known) channel.unused rest like.unused stands;
        closed = rw still_open refl;
      };
    }

-- A call of `next` on a connection gave a reply for the next entry.
pub record GaveReply {I A H : Type 0} (h : Hearing I A) (told : H → ℕ → Heard → Sent → H → A → Type 0) (memory : A) (n c : ℕ) (known : Connection I)
    (sent : Sent) (later : ChannelSeen) (before after : H) : Type 0 where
  pub entry : Entry I A
  pub gets : GetsNext h n c known entry later
  pub answered : IsEntryAnswered h told memory c entry.subject entry.answer sent before after

pub record GaveNoReply {I A H : Type 0} (h : Hearing I A) (n c : ℕ) (known : Connection I) (closed : Bool) (later : ChannelSeen) (before after : H) : Type 0 where
  pub same : after ≡ before
  pub brought : AreBrought h n c known []
  pub is_closed : is_closed known ≡ closed
  pub like : IsLikeAfter h later known

abbrev pub Gave : {I A H : Type 0} → Hearing I A → (H → ℕ → Heard → Sent → H → A → Type 0) → A → ℕ → ℕ → Connection I → Option Given → ChannelSeen → H → H → Type 0
Gave h told memory n c known None later before after = GaveNoReply h n c known false later before after
Gave h told memory n c known (Some GivenClosed) later before after = GaveNoReply h n c known true later before after
Gave h told memory n c known (Some (GivenReply sent)) later before after = GaveReply h told memory n c known sent later before after

false_true : (b : Bool) → b ≡ false → b ≡ true → ⊥
false_true b e f = cc

waited : {I A H : Type 0} (h : Hearing I A) (told : H → ℕ → Heard → Sent → H → A → Type 0) (memory : A) (n c : ℕ) (channel : ChannelSeen) (known : Connection I)
    (given : Option Given) (later : ChannelSeen) (before after : H) → IsLike h channel known → channel.closed ≡ false → h.reads channel.unused More
    → after ≡ before → Waits channel given later → Gave h told memory n c known given later before after
waited h told memory n c channel known given later before after like open_still reads same (inl (full, is, made)) =
    let closed : is_closed known ≡ true = sym (full-closed h channel known like open_still) ∙ full in
    let gave : GaveNoReply h n c known true later before after = record {
      same = same;
      brought = inr (channel.unused, like.unused, reads);
      is_closed = closed;
      like = (ap (λ (l : ChannelSeen). l.closed) made ∙ sym closed, λ open_after. absurd (false_true _ open_after closed));
    } in
    subst (λ (o : Option Given). Gave h told memory n c known o later before after) (sym is) gave
waited h told memory n c channel known given later before after like open_still reads same (inr (room, is, made)) =
    let closed : is_closed known ≡ false = sym (full-closed h channel known like open_still) ∙ room in
    let gave : GaveNoReply h n c known false later before after = record {
      same = same;
      brought = inr (channel.unused, like.unused, reads);
      is_closed = closed;
      like = (
        ap (λ (l : ChannelSeen). l.closed) made ∙ open_still ∙ sym closed,
        λ open_after. subst (λ (l : ChannelSeen). IsLike h l known) (sym made) like,
      );
    } in
    subst (λ (o : Option Given). Gave h told memory n c known o later before after) (sym is) gave

read_gave : {I A H : Type 0} (h : Hearing I A) (handles : H → ℕ → Heard → Sent → H → Type 0) (told : H → ℕ → Heard → Sent → H → A → Type 0) (memory : A)
    (n c : ℕ) (channel : ChannelSeen) (known : Connection I) (taken : Taken) (given : Option Given) (later : ChannelSeen) (before after : H)
    → Tells h handles told → IsLike h channel known → channel.closed ≡ false → h.reads channel.unused taken
    → AnswersFront handles c channel taken given later before after → Gave h told memory n c known given later before after
read_gave h handles told memory n c channel known More given later before after tells like open_still reads (same, waits) =
    waited h told memory n c channel known given later before after like open_still reads same waits
read_gave {I = I} {A = A} h handles told memory n c channel known (Whole request used) given later before after tells like open_still reads (sent, handled, is, made) =
    let t = tells before after c (HeardWhole request) sent handled in
    let subject : Subject I = whole (h.wants request) request.close in
    let entry : Entry I A = record { place = n; source = connection c; subject = subject; answer = t.0 } in
    let gets = gets_next h n c channel known subject (drop used channel.unused) t.0 like open_still (request, used, reads, refl, refl, refl) in
    let closing : record { unused = drop used channel.unused; taken = channel.taken; closed = may_close h entry } ≡ later =
    (λ i. record { unused = drop used channel.unused; taken = channel.taken; closed = request.close || sym t.2 i }) ∙ sym made in
    let gave : GaveReply h told memory n c known sent later before after = record {
      entry = entry;
      gets = subst (λ (l : ChannelSeen). GetsNext h n c known entry l) closing gets;
      answered = (request, refl, refl, t.1);
    } in
    subst (λ (o : Option Given). Gave h told memory n c known o later before after) (sym is) gave
read_gave {I = I} {A = A} h handles told memory n c channel known (Refused status) given later before after tells like open_still reads (sent, handled, is, made) =
    let t = tells before after c (HeardRefused status) sent handled in
    let entry : Entry I A = record { place = n; source = connection c; subject = refused status; answer = t.0 } in
    let gets = gets_next h n c channel known (refused status) channel.unused t.0 like open_still (reads, refl) in
    let gave : GaveReply h told memory n c known sent later before after = record {
      entry = entry;
      gets = subst (λ (l : ChannelSeen). GetsNext h n c known entry l) (sym made) gets;
      answered = t.1;
    } in
    subst (λ (o : Option Given). Gave h told memory n c known o later before after) (sym is) gave

-- A call of `next` on an open connection. A reply is for the next entry. If no reply is given, the
-- entries so far are all that the event brings.
pub next-gave : {I A H : Type 0} (h : Hearing I A) (handles : H → ℕ → Heard → Sent → H → Type 0) (told : H → ℕ → Heard → Sent → H → A → Type 0) (memory : A)
    (n c : ℕ) (channel : ChannelSeen) (known : Connection I) (given : Option Given) (later : ChannelSeen) (before after : H)
    → Tells h handles told → IsLike h channel known → channel.closed ≡ false
    → NextOfChannel h.reads handles c channel given later before after → Gave h told memory n c known given later before after
next-gave {I = I} {A = A} h handles told memory n c channel known given later before after tells like open_still (inl (same, is, made)) =
    let entry : Entry I A = record { place = n; source = connection c; subject = broken; answer = memory } in
    let gave : GaveReply h told memory n c known fixed_500 later before after = record {
      entry = entry;
      gets = subst (λ (l : ChannelSeen). GetsNext h n c known entry l) (sym made) (gets_next h n c channel known broken channel.unused memory like open_still refl);
      answered = (same, refl, refl);
    } in
    subst (λ (o : Option Given). Gave h told memory n c known o later before after) (sym is) gave
next-gave h handles told memory n c channel known given later before after tells like open_still (inr (taken, reads, answers)) =
    read_gave h handles told memory n c channel known taken given later before after tells like open_still reads answers
