-- How serving the pieces of a link goes on and ends.
use Rattle.std.proofs.Common.{◌≡◌, refl, inl, inr, ℕ, ◌+◌, ◌-◌, ◌≤◌, ◌<◌, ◌⊎◌, Bool, true, false, IsTrue, Ok, Err, List, [], ◌++◌, arith}
use Rattle.jac_io.specs.Faults.{Rose}
use Rattle.jac_io.specs.Linked.{LinkSeen}
use Rattle.jac_serve_events.specs.RunSeen.{RunSeen}
use Rattle.jac_http.specs.Reading.{IsReading}
use Rattle.jac_http.specs.Requests.{IsTaken}
use Rattle.jac_hub.specs.Channel.{LIMIT}
use Rattle.jac_hub.specs.Hub.{HubSeen}
use Rattle.jac_connections.specs.declared.link.Halt.{Halt}
use Rattle.jac_connections.specs.declared.link.Halt.TheVariants as halts
use Rattle.jac_connections.specs.declared.link.Standing.TheVariants as standings
use Rattle.jac_connections.specs.Link.{IsLinkServed}
use Rattle.jac_connections.specs.LinkSteps.{IsLast, IsPieceOn, IsPieceBegun, IsTornOn, ServesPiece}
use Rattle.jac_serve_events.specs.AnswerSpec.{LogEntry, AnswerSpec, IsAnswerSpec}
use Rattle.jac_serve_events.specs.Outside.{Span, span}
use Rattle.jac_connections.proofs.LinkProgress.{LinkProgress, taken_by, place, link_on, link_nearer, link_quiet, link_whole, link_missed, link_wanting, link_cut, link_torn, limit_is}
use Rattle.jac_serve_events.proofs.OutsideLemmas.{Rose-widen}

-- The limit of the replies so far.
pub link_few : (app : AnswerSpec) (c first : ℕ) (hub : HubSeen) (link : Span LinkSeen) (k : Span RunSeen) (count : ℕ) (closed : Bool) (o au : List ℕ)
    → LinkProgress app c first hub link k count closed o au → (first ≤ count) × (count ≤ first + 16777217)
link_few app c first hub link k count closed o au s =
    let is = s.count_is in
    let same = s.heard in
    let few = s.few.few in
    let limit = limit_is in
    (omega (arith, is), omega (arith, is, same, few, limit))

sub_back : (first count : ℕ) → first ≤ count → count - first + first ≡ count
sub_back first count less = omega (arith, less)

module _ (app : AnswerSpec) (lawful : IsAnswerSpec app) (law : IsReading IsTaken) (c first : ℕ) (hub new : HubSeen) (la lb lc : LinkSeen) (a b d : RunSeen) where
  -- The connection is still open.
  pub pieces_open : (count more : ℕ) (o au p bu : List ℕ) → (IsTrue lc.tells → IsTrue lb.tells)
      → LinkProgress app c first hub (span la lb) (span a b) count false o au
      → ServesPiece app c hub new (span lb lc) (span b d) count (Ok (standings.Open more)) p bu
      → LinkProgress app c first new (span la lc) (span a d) more false (o ++ p) (au ++ bu)
  pieces_open count more o au p bu back s serves =
      let piece = serves (place app lawful law c first hub la lb lc a b d count o au p bu back s) s.known s.like in
      link_on app lawful law c first hub la lb lc a b d count o au p bu back s new (record { count = more; closed = false }) piece

  pub pieces_less : (count more : ℕ) (o au p bu : List ℕ) → (IsTrue lc.tells → IsTrue lb.tells)
      → LinkProgress app c first hub (span la lb) (span a b) count false o au
      → ServesPiece app c hub new (span lb lc) (span b d) count (Ok (standings.Open more)) p bu
      → LIMIT - taken_by new c < LIMIT - taken_by hub c
  pieces_less count more o au p bu back s serves =
      link_nearer app lawful law c first hub new la lb lc a b d count more o au p bu back s
      (serves (place app lawful law c first hub la lb lc a b d count o au p bu back s) s.known s.like)

  -- The count doesn't fall.
  pub pieces_last : (count last : ℕ) (o au p bu : List ℕ) → (IsTrue lc.tells → IsTrue lb.tells)
      → (s : LinkProgress app c first hub (span la lb) (span a b) count false o au)
      → ServesPiece app c hub new (span lb lc) (span b d) count (Ok (standings.Over last)) p bu → first ≤ last
  pieces_last count last o au p bu back s serves = by (serves (place app lawful law c first hub la lb lc a b d count o au p bu back s) s.known s.like)
    where
      by : IsLast (span lb lc) (span b d) count last p bu
          ⊎ (IsPieceOn app c new (span lb lc) (span b d) count (record { count = last; closed = true }) (place app lawful law c first hub la lb lc a b d count o au p bu back s) s.known p bu
          ⊎ ((mine : List LogEntry) × IsPieceBegun app c (span lb lc) (span b d) (place app lawful law c first hub la lb lc a b d count o au p bu back s) s.known mine
          × IsTornOn (span lb lc) count last mine p bu))
          → first ≤ last
      by (inl h) = let few = link_few app c first hub (span la lb) (span a b) count false o au s in let is = h.same_count in omega (arith, few.0, is)
      by (inr (inl piece)) = let few = link_few app c first hub (span la lb) (span a b) count false o au s in let is = piece.heard.count_is in omega (arith, few.0, is)
      by (inr (inr (mine, piece, torn))) = let few = link_few app c first hub (span la lb) (span a b) count false o au s in let is = torn.count_is in omega (arith, few.0, is)

  by_last : (count last : ℕ) (o au p bu : List ℕ) → (IsTrue lc.tells → IsTrue lb.tells) → la.faults ≤ lb.faults
      → LinkProgress app c first hub (span la lb) (span a b) count false o au
      → (h : IsLast (span lb lc) (span b d) count last p bu) → (IsTrue lc.tells → lc.left ≡ []) ⊎ Rose lb.faults lc.faults
      → IsLinkServed app c first (span la lc) (span a d) (Ok (last - first)) (o ++ p) (au ++ bu)
  by_last count last o au p bu back later s h (inl none) =
      let same = h.same_count in
      let few = link_few app c first hub (span la lb) (span a b) count false o au s in
      link_whole app c first hub la lc a d count false (o ++ p) (au ++ bu)
      (link_quiet app c first hub la lb lc a b d count false o au p bu back s h.quiet) (last - first) (omega (arith, same, few.0)) (inl none)
  by_last count last o au p bu back later s h (inr rose) =
      let same = h.same_count in
      let few = link_few app c first hub (span la lb) (span a b) count false o au s in
      link_missed app c first hub la lc a d count false (o ++ p) (au ++ bu)
      (link_quiet app c first hub la lb lc a b d count false o au p bu back s h.quiet) (last - first) (omega (arith, same, few.0)) (Rose-widen la.faults lb.faults lc.faults lc.faults later (omega arith) rose)

  -- The connection is over.
  pub pieces_over : (count last : ℕ) (o au p bu : List ℕ) → (IsTrue lc.tells → IsTrue lb.tells) → la.faults ≤ lb.faults
      → (s : LinkProgress app c first hub (span la lb) (span a b) count false o au)
      → ServesPiece app c hub new (span lb lc) (span b d) count (Ok (standings.Over last)) p bu
      → IsLinkServed app c first (span la lc) (span a d) (Ok (last - first)) (o ++ p) (au ++ bu)
  pieces_over count last o au p bu back later s serves = by (serves (place app lawful law c first hub la lb lc a b d count o au p bu back s) s.known s.like)
    where
      by : IsLast (span lb lc) (span b d) count last p bu
          ⊎ (IsPieceOn app c new (span lb lc) (span b d) count (record { count = last; closed = true }) (place app lawful law c first hub la lb lc a b d count o au p bu back s) s.known p bu
          ⊎ ((mine : List LogEntry) × IsPieceBegun app c (span lb lc) (span b d) (place app lawful law c first hub la lb lc a b d count o au p bu back s) s.known mine
          × IsTornOn (span lb lc) count last mine p bu))
          → IsLinkServed app c first (span la lc) (span a d) (Ok (last - first)) (o ++ p) (au ++ bu)
      by (inl h) = by_last count last o au p bu back later s h h.cause
      by (inr (inl piece)) =
          let next = link_on app lawful law c first hub la lb lc a b d count o au p bu back s new (record { count = last; closed = true }) piece in
          let few = link_few app c first new (span la lc) (span a d) last true (o ++ p) (au ++ bu) next in
          link_whole app c first new la lc a d last true (o ++ p) (au ++ bu) next (last - first) (sub_back first last few.0) (inr refl)
      by (inr (inr (mine, piece, torn))) =
          let few = link_few app c first hub (span la lb) (span a b) count false o au s in
          let more = torn.count_is in
          link_torn app lawful law c first hub la lb lc a b d count o au p bu back s mine piece last (last - first) (omega (arith, few.0, more)) torn later

  -- A put on the audit failed, or memory ran out.
  pub pieces_halt : (count : ℕ) (o au p bu : List ℕ) → (IsTrue lc.tells → IsTrue lb.tells)
      → LinkProgress app c first hub (span la lb) (span a b) count false o au → (halt : Halt)
      → ServesPiece app c hub new (span lb lc) (span b d) count (Err halt) p bu
      → IsLinkServed app c first (span la lc) (span a d) (Err halt) (o ++ p) (au ++ bu)
  pieces_halt count o au p bu back s halts.Write serves =
      let h = serves (place app lawful law c first hub la lb lc a b d count o au p bu back s) s.known s.like in
      link_cut app lawful law c first hub la lb lc a b d count o au p bu back s h.0 h.1 h.2
  pieces_halt count o au p bu back s halts.Memory serves =
      link_wanting app c first hub la lc a d count false (o ++ p) (au ++ bu) (link_quiet app c first hub la lb lc a b d count false o au p bu back s serves)
