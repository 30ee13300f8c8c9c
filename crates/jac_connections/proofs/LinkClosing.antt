-- After the closing of a link, nothing is taken or answered.
use Rattle.std.proofs.Common.{◌≡◌, ◌∙◌, sym, subst, refl, ℕ, ◌+◌, ◌<◌, ◌||◌, nat_le, true, false, List, [], ◌∷◌, ◌++◌, length, length-append, arith}
use Rattle.std.proofs.lemmas.Bool.{both_ways, or_parts, or_right}
use Rattle.std.proofs.lemmas.Bool.Decides.{nat_tests}
use Rattle.std.specs.List.{concat}
use Rattle.jac_events.specs.declared.event.Event.TheVariants.{Begin}
use Rattle.jac_hub.specs.Channel.{LIMIT}
use Rattle.jac_hub.specs.Hearing.{whole, refused, broken}
use Rattle.jac_hub.specs.Heard.{Connection, with_bytes, with_entry, is_closed, closes_connection, may_close, AreBrought, AreBegun}
use Rattle.jac_replies.specs.declared.answer.Answer.{Answer}
use Rattle.jac_replies.specs.declared.answer.Ask.{Ask}
use Rattle.jac_connections.specs.Link.{pieces_of, closes_in, IsTake, AreTakes, ClosesLast, StopsAtClosing}
use Rattle.jac_serve_events.specs.AnswerSpec.{LogSubject, LogEntry, is_failure, AnswerSpec, hearing}
use Rattle.jac_serve_events.specs.Log.{closes_behind}

-- ---- the takes

pieces_long : (c : ℕ) (xs : List (List ℕ)) → length (pieces_of c xs) ≡ length xs
pieces_long c [] = refl
pieces_long c (x ∷ xs) = let rest = pieces_long c xs in omega (arith, rest)

-- The number of the event of the next piece.
place_next : (c : ℕ) (xs : List (List ℕ)) (bytes : List ℕ) → 0 + length (Begin c ∷ pieces_of c xs) ≡ length (xs ++ bytes ∷ [])
place_next c xs bytes =
    let long = pieces_long c xs in
    let more = length-append xs (bytes ∷ []) in
    omega (arith, long, more)

takes_next : (before : ℕ) (xs : List (List ℕ)) (bytes : List ℕ) → AreTakes before xs → before + length (concat xs) < LIMIT → IsTake bytes → AreTakes before (xs ++ bytes ∷ [])
takes_next before [] bytes takes fewer one = (omega (arith, fewer), one, tt)
takes_next before (x ∷ xs) bytes (less, first, takes) fewer one =
    let long = length-append x (concat xs) in
    (less, first, takes_next (before + length x) xs bytes takes (omega (arith, long, fewer)) one)

-- If not all bytes that count were brought, there are fewer than the limit.
fewer_open : (bytes : List ℕ) → nat_le LIMIT (length bytes) ≡ false → 0 + length bytes < LIMIT
fewer_open bytes less = let fewer : length bytes < LIMIT = grind (arith, nat_tests, less) in omega (arith, fewer)

-- ---- the entries

module _ (app : AnswerSpec) where
  pub begun_whole : (n c : ℕ) (one : Connection Ask) (mine : List LogEntry) → AreBrought (hearing app) n c one mine → AreBegun (hearing app) n c one mine
  begun_whole n c one [] brought = tt
  begun_whole n c one (entry ∷ mine) (next, more) = (next, begun_whole n c (with_entry (hearing app) entry one) mine more)

  -- What the reply says about the connection is true.
  closing_is : (subject : LogSubject) (answer : Answer) → closes_behind subject answer ≡ (closes_connection subject || is_failure answer)
  closing_is (whole ask closes) answer = refl
  closing_is (refused status) answer = refl
  closing_is broken answer = refl

  none_behind : (n c : ℕ) (one : Connection Ask) (mine : List LogEntry) → one.ended ≡ true → AreBegun (hearing app) n c one mine → mine ≡ []
  none_behind n c one [] ended begun = refl
  none_behind n c one (entry ∷ mine) ended (next, more) = absurd (both_ways one.ended next.open_still ended)

  begun_last : (n c : ℕ) (one : Connection Ask) (mine : List LogEntry) → AreBegun (hearing app) n c one mine → ClosesLast n mine
  begun_last n c one [] begun = tt
  begun_last n c one (entry ∷ mine) (next, more) = (
    λ closes. (
      none_behind n c (with_entry (hearing app) entry one) mine
          (or_right one.ended (may_close (hearing app) entry) (sym (closing_is entry.subject entry.answer) ∙ closes)) more,
      next.place,
    ),
    begun_last n c (with_entry (hearing app) entry one) mine more,
  )

  -- Entries that don't close the connection, followed by others.
  none_closes : (n : ℕ) (log mine : List LogEntry) → closes_in app log ≡ false → ClosesLast n mine → ClosesLast n (log ++ mine)
  none_closes n [] mine none last = last
  none_closes n (entry ∷ log) mine none last =
      let parts = or_parts (may_close (hearing app) entry) (closes_in app log) none in (
        λ closes. absurd (both_ways (closes_behind entry.subject entry.answer) (closing_is entry.subject entry.answer ∙ parts.0) closes),
        none_closes n log mine parts.1 last,
      )

  -- The next piece of an open connection, and the entries that it brought.
  pub stops_next : (c : ℕ) (pieces : List (List ℕ)) (log : List LogEntry) (one : Connection Ask) (bytes : List ℕ) (mine : List LogEntry)
      → StopsAtClosing pieces log → one.bytes ≡ concat pieces → one.ended ≡ closes_in app log → is_closed one ≡ false → IsTake bytes
      → AreBegun (hearing app) (0 + length (Begin c ∷ pieces_of c pieces)) c (with_bytes bytes one) mine → StopsAtClosing (pieces ++ bytes ∷ []) (log ++ mine)
  stops_next c pieces log one bytes mine so_far brought ended open_still taken begun =
      let parts = or_parts one.ended (nat_le LIMIT (length one.bytes)) open_still in
      record {
        takes =
            takes_next 0 pieces bytes so_far.takes
            (subst (λ (l : List ℕ). 0 + length l < LIMIT) brought (fewer_open one.bytes parts.1)) taken;
        last =
            none_closes (length (pieces ++ bytes ∷ [])) log mine (sym ended ∙ parts.0)
            (subst (λ (n : ℕ). ClosesLast n mine) (place_next c pieces bytes)
            (begun_last (0 + length (Begin c ∷ pieces_of c pieces)) c (with_bytes bytes one) mine begun));
      }
