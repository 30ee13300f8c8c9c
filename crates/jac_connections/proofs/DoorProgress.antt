-- Serving one link of a door after another.
use Rattle.std.proofs.Common.{◌≡◌, ◌∙◌, ap, sym, subst, refl, inl, inr, ℕ, ◌+◌, ◌≤◌, ◌⊎◌, Bool, true, false, IsTrue, IsOk, Some, None, Result, Ok, Err, List, [], ◌∷◌, ◌++◌, length, map, if◌then◌else◌, append_assoc, append-nil, length-append, arith}
use Rattle.jac_io.specs.Faults.{Rose}
use Rattle.jac_io.specs.declared.sink.Failed.{Failed}
use Rattle.jac_io.specs.Linked.{LinkSeen, DoorSeen, AsksNext, Returns}
use Rattle.jac_serve_events.specs.RunSeen.{RunSeen}
use Rattle.jac_connections.specs.declared.door.DoorHalt.{DoorHalt}
use Rattle.jac_connections.specs.declared.door.DoorHalt.TheVariants as halts
use Rattle.jac_connections.specs.declared.door.Tally.{Tally}
use Rattle.jac_connections.specs.declared.link.Halt.{Halt}
use Rattle.jac_connections.specs.declared.link.Halt.TheVariants as ways
use Rattle.jac_connections.specs.Link.{as_sink, PutsLog, IsLinkServed}
use Rattle.jac_connections.specs.Door.{IsPart, LinkVisit, IsVisited, AreVisited, AreWhole, AreHandedBack, AreAllHandedBack, AreLinksServed}
use Rattle.jac_connections.specs.DoorSteps.{link_visit, Visits, VisitsLast, VisitsLine, GaveLine, IsUnvisited, ServesNext}
use Rattle.jac_serve_events.specs.AnswerSpec.{LogEntry, AnswerSpec, IsAnswerSpec}
use Rattle.jac_serve_events.specs.Log.{audit_lines, audited_from}
use Rattle.jac_serve_events.specs.Outside.{Span, span, Took, IsFront}
use Rattle.jac_serve_events.proofs.EntriesLemmas.{entries-still, audited-append}
use Rattle.jac_serve_events.proofs.OutsideLemmas.{append-IsFront, Rose-widen}
use Rattle.jac_connections.proofs.LostReplies.{lost_lines, torn_lines}

-- A put on the audit failed while a link was served.
abbrev is_torn : Result ℕ Halt → Bool
is_torn (Ok count) = false
is_torn (Err ways.Write) = true
is_torn (Err ways.Memory) = false

lines_put : (first : ℕ) (link : Span LinkSeen) (log : List LogEntry) (result : Result ℕ Halt) (out lines : List ℕ)
    → PutsLog first link log result out lines → IsPart (is_torn result) lines (audited_from (first + 1) log)
lines_put first link log (Ok count) out lines (inl all) = all.audit_text
lines_put first link log (Ok count) out lines (inr lost) = lost_lines first log out lines lost.0
lines_put first link log (Err ways.Write) out lines lost = torn_lines first log out lines lost
lines_put first link log (Err ways.Memory) out lines all = all.audit_text

module _ {L : Type 0} (seen : L → LinkSeen) (app : AnswerSpec) where
  visit_entries : (c first : ℕ) (a b : RunSeen) (visit : LinkVisit L) (mine : List LogEntry) (lines : List ℕ)
      → IsVisited seen app c first (span a b) visit mine lines → app.entries (span a b) mine
  visit_entries c first a b visit mine lines v =
      subst (λ (log : List LogEntry). app.entries (span a b) log) v.entries v.served.served.entries

  visit_few : (c first : ℕ) (k : Span RunSeen) (visit : LinkVisit L) (mine : List LogEntry) (lines : List ℕ)
      → IsVisited seen app c first k visit mine lines → length mine ≤ 16777217
  visit_few c first k visit mine lines v = let few = v.served.few in let same = ap (λ (l : List LogEntry). length l) v.entries in omega (arith, few, same)

  visit_lines : (c first : ℕ) (k : Span RunSeen) (visit : LinkVisit L) (mine : List LogEntry) (lines : List ℕ)
      → IsVisited seen app c first k visit mine lines → IsPart (is_torn visit.result) lines (audited_from (first + 1) mine)
  visit_lines c first k visit mine lines v =
      subst (λ (log : List LogEntry). IsPart (is_torn visit.result) lines (audited_from (first + 1) log)) v.entries
      (lines_put first (span (seen visit.came) (seen visit.gone)) v.served.log visit.result v.out lines v.served.puts)

  -- A link that was served, and was handed back or not.
  visits_by : (tally : Tally) (line gone : L) (handed : Bool) (da db : DoorSeen L) (a b : RunSeen) (result : Result ℕ Halt) (out lines : List ℕ)
      → Took (span (as_sink (seen line)) (as_sink (seen gone))) out
      → IsLinkServed app (tally.connections + 1) tally.replies (span (seen line) (seen gone)) (span a b) result out lines
      → (IsTrue db.tells → db.returned ≡ da.returned ++ (if handed then gone ∷ [] else []))
      → Visits seen app tally line handed (span da db) (span a b) result lines
  visits_by tally line gone handed da db a b result out lines took served returned = record {
    gone = gone;
    mine = served.log;
    visited = record { out = out; took = took; served = served; entries = refl };
    returned = returned;
  }

  pub line_back : (tally more : Tally) (line gone : L) (da db : DoorSeen L) (a b : RunSeen) (count : ℕ) (out lines : List ℕ) (done : Unit {0})
      → Took (span (as_sink (seen line)) (as_sink (seen gone))) out
      → IsLinkServed app (tally.connections + 1) tally.replies (span (seen line) (seen gone)) (span a b) (Ok count) out lines
      → Returns da db gone (Ok done) → more.connections ≡ tally.connections + 1 → more.replies ≡ tally.replies + count
      → VisitsLine seen app tally line (span da db) (span a b) (Ok more) lines
  unfolding visits_by
  line_back tally more line gone da db a b count out lines done took served returns connections replies = (
    count,
    visits_by tally line gone true da db a b (Ok count) out lines took served returns.ok,
    connections,
    replies ∙ ap (λ (n : ℕ). tally.replies + n) served.count,
  )

  pub line_kept : (tally : Tally) (line gone : L) (da db : DoorSeen L) (a b : RunSeen) (count : ℕ) (out lines : List ℕ) (failed : Failed)
      → Took (span (as_sink (seen line)) (as_sink (seen gone))) out
      → IsLinkServed app (tally.connections + 1) tally.replies (span (seen line) (seen gone)) (span a b) (Ok count) out lines
      → Returns da db gone (Err failed) → VisitsLine seen app tally line (span da db) (span a b) (Err halts.Door) lines
  line_kept tally line gone da db a b count out lines failed took served returns = (
    (count, visits_by tally line gone false da db a b (Ok count) out lines took served (λ told. returns.err told ∙ sym (append-nil da.returned))),
    returns.rose,
  )

  pub line_last : (tally : Tally) (line gone : L) (da db : DoorSeen L) (a b : RunSeen) (halt : Halt) (out lines : List ℕ) (closed : Result (Unit {0}) Failed)
      → Took (span (as_sink (seen line)) (as_sink (seen gone))) out
      → IsLinkServed app (tally.connections + 1) tally.replies (span (seen line) (seen gone)) (span a b) (Err halt) out lines
      → Returns da db gone closed → VisitsLast seen app tally line (span da db) (span a b) (Err halt) lines
  line_last tally line gone da db a b halt out lines (Ok done) took served returns =
      inl (visits_by tally line gone true da db a b (Err halt) out lines took served returns.ok)
  line_last tally line gone da db a b halt out lines (Err failed) took served returns = inr (
    visits_by tally line gone false da db a b (Err halt) out lines took served (λ told. returns.err told ∙ sym (append-nil da.returned)),
    returns.rose,
  )

  -- The limit of a count.
  pub line_few : (c first : ℕ) (link : Span LinkSeen) (k : Span RunSeen) (count : ℕ) (out lines : List ℕ) → IsLinkServed app c first link k (Ok count) out lines → count ≤ 16777217
  line_few c first link k count out lines served = let few = served.few in let is = served.count in omega (arith, few, is)

  -- ---- with the call of `next` before it

  gave_line : (da db dc : DoorSeen L) (line : L) → (IsTrue dc.tells → IsTrue db.tells) → (IsTrue db.tells → da.coming ≡ line ∷ db.coming) → (IsTrue dc.tells → dc.coming ≡ db.coming)
      → GaveLine (span da dc) line
  gave_line da db dc line back gave same = λ told. gave (back told) ∙ ap (λ (l : List L). line ∷ l) (sym (same told))

  visits_after : (tally : Tally) (line : L) (handed : Bool) (da db dc : DoorSeen L) (k : Span RunSeen) (result : Result ℕ Halt) (lines : List ℕ)
      → (IsTrue dc.tells → IsTrue db.tells) → (IsTrue db.tells → db.returned ≡ da.returned)
      → Visits seen app tally line handed (span db dc) k result lines → Visits seen app tally line handed (span da dc) k result lines
  visits_after tally line handed da db dc k result lines back same v = record {
    gone = v.gone;
    mine = v.mine;
    visited = v.visited;
    returned = λ told. v.returned told ∙ ap (λ (l : List L). l ++ (if handed then v.gone ∷ [] else [])) (same (back told));
  }

  last_after : (tally : Tally) (line : L) (da db dc : DoorSeen L) (k : Span RunSeen) (result : Result ℕ Halt) (lines : List ℕ) → da.faults ≤ db.faults
      → (IsTrue dc.tells → IsTrue db.tells) → (IsTrue db.tells → db.returned ≡ da.returned)
      → VisitsLast seen app tally line (span db dc) k result lines → VisitsLast seen app tally line (span da dc) k result lines
  last_after tally line da db dc k result lines later back same (inl v) = inl (visits_after tally line true da db dc k result lines back same v)
  last_after tally line da db dc k result lines later back same (inr (v, rose)) = inr (
    visits_after tally line false da db dc k result lines back same v,
    Rose-widen da.faults db.faults dc.faults dc.faults later (omega arith) rose,
  )

  pub next_some : (tally more : Tally) (line : L) (da db dc : DoorSeen L) (k : Span RunSeen) (lines : List ℕ) → (IsTrue dc.tells → IsTrue db.tells)
      → AsksNext da db (Ok (Some line)) → (IsTrue dc.tells → dc.coming ≡ db.coming) → VisitsLine seen app tally line (span db dc) k (Ok more) lines
      → ServesNext seen app tally (span da dc) k (Ok (Some more)) lines
  unfolding visits_after
  next_some tally more line da db dc k lines back next coming (count, v, connections, replies) = (
    line,
    gave_line da db dc line back next.ok coming,
    (count, visits_after tally line true da db dc k (Ok count) lines back next.same_returned v, connections, replies),
  )

  pub next_cut : (tally : Tally) (line : L) (da db dc : DoorSeen L) (k : Span RunSeen) (lines : List ℕ) (halt : DoorHalt) → da.faults ≤ db.faults → (IsTrue dc.tells → IsTrue db.tells)
      → AsksNext da db (Ok (Some line)) → (IsTrue dc.tells → dc.coming ≡ db.coming) → VisitsLine seen app tally line (span db dc) k (Err halt) lines
      → ServesNext seen app tally (span da dc) k (Err halt) lines
  next_cut tally line da db dc k lines halts.Door later back next coming ((count, v), rose) = (
    inr (line, gave_line da db dc line back next.ok coming, (count, visits_after tally line false da db dc k (Ok count) lines back next.same_returned v)),
    Rose-widen da.faults db.faults dc.faults dc.faults later (omega arith) rose,
  )
  next_cut tally line da db dc k lines halts.Write later back next coming v =
      (line, gave_line da db dc line back next.ok coming, last_after tally line da db dc k (Err ways.Write) lines later back next.same_returned v)
  next_cut tally line da db dc k lines halts.Memory later back next coming v =
      (line, gave_line da db dc line back next.ok coming, last_after tally line da db dc k (Err ways.Memory) lines later back next.same_returned v)

  pub next_no_more : (tally : Tally) (da db : DoorSeen L) (k : RunSeen) → AsksNext da db (Ok None) → ServesNext seen app tally (span da db) (span k k) (Ok None) []
  next_no_more tally da db k next = (
    record { coming = λ told. (next.ok told).1 ∙ sym (next.ok told).0; returned = next.same_returned; still = refl; no_audit = refl },
    λ told. (next.ok told).1,
  )

  pub next_failed : (tally : Tally) (da db : DoorSeen L) (k : RunSeen) (failed : Failed) → AsksNext da db (Err failed) → ServesNext seen app tally (span da db) (span k k) (Err halts.Door) []
  next_failed tally da db k failed next = (
    inl (record { coming = next.err; returned = next.same_returned; still = refl; no_audit = refl }),
    next.rose,
  )

  -- One more visit.
  visited_push : (visits : List (LinkVisit L)) (c first : ℕ) (before mid after : RunSeen) (log mine : List LogEntry) (audit lines : List ℕ) (visit : LinkVisit L)
      → AreVisited seen app c first before visits log audit mid → IsVisited seen app (c + length visits) (first + length log) (span mid after) visit mine lines
      → AreVisited seen app c first before (visits ++ visit ∷ []) (log ++ mine) (audit ++ lines) after
  visited_push [] c first before mid after log mine audit lines visit (no_log, no_audit, same) v = (
    after,
    mine,
    lines,
    [],
    [],
    subst (λ (n : ℕ). IsVisited seen app n first (span before after) visit mine lines) (omega arith)
        (subst (λ (n : ℕ). IsVisited seen app (c + 0) n (span before after) visit mine lines) (let l = ap (λ (x : List LogEntry). length x) no_log in omega (arith, l))
        (subst (λ (k : RunSeen). IsVisited seen app (c + 0) (first + length log) (span k after) visit mine lines) same v)),
    ap (λ (l : List LogEntry). l ++ mine) no_log ∙ sym (append-nil mine),
    ap (λ (t : List ℕ). t ++ lines) no_audit ∙ sym (append-nil lines),
    (refl, refl, refl),
  )
  visited_push (one ∷ visits) c first before mid after log mine audit lines visit (between, ours, ours_lines, others, more, v_one, parts, texts, rest) v = (
    between,
    ours,
    ours_lines,
    others ++ mine,
    more ++ lines,
    v_one,
    ap (λ (l : List LogEntry). l ++ mine) parts ∙ append_assoc ours others mine,
    ap (λ (t : List ℕ). t ++ lines) texts ∙ append_assoc ours_lines more lines,
    visited_push visits (c + 1) (first + length ours) between mid after others mine more lines visit rest
        (subst (λ (n : ℕ). IsVisited seen app n (first + length ours + length others) (span mid after) visit mine lines) (omega arith)
        (subst (λ (n : ℕ). IsVisited seen app (c + length (one ∷ visits)) n (span mid after) visit mine lines)
        (let l = ap (λ (x : List LogEntry). length x) parts ∙ length-append ours others in omega (arith, l)) v)),
  )

  whole_push : (visits : List (LinkVisit L)) (visit : LinkVisit L) → AreWhole visits → IsOk visit.result → AreWhole (visits ++ visit ∷ [])
  whole_push [] visit all one = (one, tt)
  whole_push (v ∷ visits) visit all one = (all.0, whole_push visits visit all.1 one)

  map_push : (f : LinkVisit L → L) (visits : List (LinkVisit L)) (visit : LinkVisit L) → map f (visits ++ visit ∷ []) ≡ map f visits ++ f visit ∷ []
  map_push f [] visit = refl
  map_push f (v ∷ visits) visit = ap (λ (l : List L). f v ∷ l) (map_push f visits visit)

  -- These links were served and handed back.
  pub record DoorProgress (door : Span (DoorSeen L)) (k : Span RunSeen) (tally : Tally) (audit : List ℕ) : Type 0 where
    pub visits : List (LinkVisit L)
    pub log : List LogEntry
    pub came : IsTrue door.after.tells → door.before.coming ≡ map (λ visit. visit.came) visits ++ door.after.coming
    pub returned : IsTrue door.after.tells → door.after.returned ≡ door.before.returned ++ map (λ visit. visit.gone) visits
    pub visited : AreVisited seen app 1 0 k.before visits log audit k.after
    pub whole : AreWhole visits
    pub entries : app.entries k log
    pub connections : tally.connections ≡ length visits
    pub replies : tally.replies ≡ length log
    pub audit_text : audit ≡ audit_lines log

  pub door_start : IsAnswerSpec app → (door : DoorSeen L) (k : RunSeen) → app.ready k
      → DoorProgress (span door door) (span k k) (record { connections = 0; replies = 0 }) []
  door_start lawful door k start = record {
    visits = [];
    log = [];
    came = λ told. refl;
    returned = λ told. sym (append-nil door.returned);
    visited = (refl, refl, refl);
    whole = tt;
    entries = lawful.none k start;
    connections = refl;
    replies = refl;
    audit_text = refl;
  }

  came_on : (da db dc : DoorSeen L) (visits : List (LinkVisit L)) (line gone : L) (result : Result ℕ Halt) → (IsTrue dc.tells → IsTrue db.tells)
      → (IsTrue db.tells → da.coming ≡ map (λ visit. visit.came) visits ++ db.coming) → GaveLine (span db dc) line
      → IsTrue dc.tells → da.coming ≡ map (λ visit. visit.came) (visits ++ link_visit line gone result ∷ []) ++ dc.coming
  came_on da db dc visits line gone result back before gave told =
      before (back told) ∙ ap (λ (l : List L). map (λ visit. visit.came) visits ++ l) (gave told)
      ∙ sym (append_assoc (map (λ (v : LinkVisit L). v.came) visits) (line ∷ []) dc.coming)
      ∙ ap (λ (l : List L). l ++ dc.coming) (sym (map_push (λ visit. visit.came) visits (link_visit line gone result)))

  audited_push : (log mine : List LogEntry) → audit_lines log ++ audited_from (length log + 1) mine ≡ audit_lines (log ++ mine)
  audited_push log mine = ap (λ (n : ℕ). audit_lines log ++ audited_from n mine) (omega arith) ∙ sym (audited-append 1 log mine)

  module _ (lawful : IsAnswerSpec app) (da db dc : DoorSeen L) (a b d : RunSeen) (tally : Tally) (o au : List ℕ) (back : IsTrue dc.tells → IsTrue db.tells) (s : DoorProgress (span da db) (span a b) tally o) where
    seen_as : (visit : LinkVisit L) (mine : List LogEntry) → IsVisited seen app (tally.connections + 1) tally.replies (span b d) visit mine au
        → IsVisited seen app (1 + length s.visits) (0 + length s.log) (span b d) visit mine au
    seen_as visit mine v =
        let cs = s.connections in
        let rs = s.replies in
        subst (λ (n : ℕ). IsVisited seen app n (0 + length s.log) (span b d) visit mine au) (omega (arith, cs))
        (subst (λ (n : ℕ). IsVisited seen app (tally.connections + 1) n (span b d) visit mine au) (omega (arith, rs)) v)

    lines_as : (visit : LinkVisit L) (mine : List LogEntry) → IsVisited seen app (tally.connections + 1) tally.replies (span b d) visit mine au
        → IsPart (is_torn visit.result) au (audited_from (length s.log + 1) mine)
    lines_as visit mine v =
        subst (λ (n : ℕ). IsPart (is_torn visit.result) au (audited_from (n + 1) mine)) s.replies (visit_lines (tally.connections + 1) tally.replies (span b d) visit mine au v)

    returned_more : (visit : LinkVisit L) → (IsTrue dc.tells → dc.returned ≡ db.returned ++ visit.gone ∷ []) → AreHandedBack (span da dc) (s.visits ++ visit ∷ [])
    returned_more visit more = λ told.
        more told ∙ ap (λ (l : List L). l ++ visit.gone ∷ []) (s.returned (back told))
        ∙ append_assoc da.returned (map (λ (x : LinkVisit L). x.gone) s.visits) (visit.gone ∷ [])
        ∙ ap (λ (l : List L). da.returned ++ l) (sym (map_push (λ x. x.gone) s.visits visit))

    -- The next link was served and handed back.
    pub door_on : (line : L) (more : Tally) → GaveLine (span db dc) line → VisitsLine seen app tally line (span db dc) (span b d) (Ok more) au
        → DoorProgress (span da dc) (span a d) more (o ++ au)
    door_on line more gave (count, v, connections, replies) =
        let visit = link_visit line v.gone (Ok count) in
        record {
          visits = s.visits ++ visit ∷ [];
          log = s.log ++ v.mine;
          came = came_on da db dc s.visits line v.gone (Ok count) back s.came gave;
          returned = returned_more visit v.returned;
          visited = visited_push s.visits 1 0 a b d s.log v.mine o au visit s.visited (seen_as visit v.mine v.visited);
          whole = whole_push s.visits visit s.whole refl;
          entries = lawful.joined a b d s.log v.mine s.entries (visit_entries (tally.connections + 1) tally.replies b d visit v.mine au v.visited);
          connections = let cs = s.connections in let l = length-append s.visits (visit ∷ []) in omega (arith, cs, l, connections);
          replies = let rs = s.replies in let l = length-append s.log v.mine in omega (arith, rs, l, replies);
          audit_text =
              ap (λ (t : List ℕ). t ++ au) s.audit_text ∙ ap (λ (t : List ℕ). audit_lines s.log ++ t) (lines_as visit v.mine v.visited) ∙ audited_push s.log v.mine;
        }

    returned_same : (IsTrue dc.tells → dc.returned ≡ db.returned ++ []) → AreHandedBack (span da dc) s.visits
    returned_same same = λ told. same told ∙ append-nil db.returned ∙ s.returned (back told)

    -- The next link was served whole, but wasn't handed back.
    pub door_kept : (most : ℕ) (line : L) (count : ℕ) → GaveLine (span db dc) line → Rose da.faults dc.faults → Visits seen app tally line false (span db dc) (span b d) (Ok count) au
        → AreLinksServed seen app most (span da dc) (span a d) (Err halts.Door) (o ++ au)
    door_kept most line count gave rose v =
        let visit = link_visit line v.gone (Ok count) in
        record {
          visits = s.visits;
          last = Some visit;
          log = s.log ++ v.mine;
          came = came_on da db dc s.visits line v.gone (Ok count) back s.came gave;
          returned = returned_same v.returned;
          visited = visited_push s.visits 1 0 a b d s.log v.mine o au visit s.visited (seen_as visit v.mine v.visited);
          whole = s.whole;
          entries = lawful.joined a b d s.log v.mine s.entries (visit_entries (tally.connections + 1) tally.replies b d visit v.mine au v.visited);
          audit_text =
              ap (λ (t : List ℕ). t ++ au) s.audit_text ∙ ap (λ (t : List ℕ). audit_lines s.log ++ t) (lines_as visit v.mine v.visited) ∙ audited_push s.log v.mine;
          ended = ((refl, tt), rose);
        }

    cut_text : (mine : List LogEntry) → IsFront au (audited_from (length s.log + 1) mine) → IsFront (o ++ au) (audit_lines (s.log ++ mine))
    cut_text mine front =
        subst (λ (t : List ℕ). IsFront (t ++ au) (audit_lines (s.log ++ mine))) (sym s.audit_text)
        (subst (λ (t : List ℕ). IsFront (audit_lines s.log ++ au) t) (audited_push s.log mine) (append-IsFront (audit_lines s.log) au (audited_from (length s.log + 1) mine) front))

    -- A put on the audit failed while the next link was served.
    pub door_cut : (most : ℕ) (line : L) (handed : Bool) → GaveLine (span db dc) line → (v : Visits seen app tally line handed (span db dc) (span b d) (Err ways.Write) au)
        → AreAllHandedBack (span da dc) s.visits (Some (link_visit line v.gone (Err ways.Write)))
        → AreLinksServed seen app most (span da dc) (span a d) (Err halts.Write) (o ++ au)
    door_cut most line handed gave v returned =
        let visit = link_visit line v.gone (Err ways.Write) in
        record {
          visits = s.visits;
          last = Some visit;
          log = s.log ++ v.mine;
          came = came_on da db dc s.visits line v.gone (Err ways.Write) back s.came gave;
          returned = returned;
          visited = visited_push s.visits 1 0 a b d s.log v.mine o au visit s.visited (seen_as visit v.mine v.visited);
          whole = s.whole;
          entries = lawful.joined a b d s.log v.mine s.entries (visit_entries (tally.connections + 1) tally.replies b d visit v.mine au v.visited);
          audit_text = cut_text v.mine (lines_as visit v.mine v.visited);
          ended = (visit, refl, refl);
        }

    -- Memory ran out while the next link was served.
    pub door_wanting : (most : ℕ) (line : L) (handed : Bool) → GaveLine (span db dc) line → (v : Visits seen app tally line handed (span db dc) (span b d) (Err ways.Memory) au)
        → AreAllHandedBack (span da dc) s.visits (Some (link_visit line v.gone (Err ways.Memory)))
        → AreLinksServed seen app most (span da dc) (span a d) (Err halts.Memory) (o ++ au)
    door_wanting most line handed gave v returned =
        let visit = link_visit line v.gone (Err ways.Memory) in
        record {
          visits = s.visits;
          last = Some visit;
          log = s.log ++ v.mine;
          came = came_on da db dc s.visits line v.gone (Err ways.Memory) back s.came gave;
          returned = returned;
          visited = visited_push s.visits 1 0 a b d s.log v.mine o au visit s.visited (seen_as visit v.mine v.visited);
          whole = s.whole;
          entries = lawful.joined a b d s.log v.mine s.entries (visit_entries (tally.connections + 1) tally.replies b d visit v.mine au v.visited);
          audit_text =
              ap (λ (t : List ℕ). t ++ au) s.audit_text ∙ ap (λ (t : List ℕ). audit_lines s.log ++ t) (lines_as visit v.mine v.visited) ∙ audited_push s.log v.mine;
          ended = (visit, refl, refl);
        }

    -- No link was served.
    door_quiet : IsUnvisited (span db dc) (span b d) au → DoorProgress (span da dc) (span a d) tally (o ++ au)
    door_quiet q =
        let text : o ++ au ≡ o = ap (λ (t : List ℕ). o ++ t) q.no_audit ∙ append-nil o in
        record {
          visits = s.visits;
          log = s.log;
          came = λ told. s.came (back told) ∙ ap (λ (l : List L). map (λ visit. visit.came) s.visits ++ l) (sym (q.coming told));
          returned = λ told. q.returned told ∙ s.returned (back told);
          visited =
              subst (λ (t : List ℕ). AreVisited seen app 1 0 a s.visits s.log t d) (sym text)
              (subst (λ (k : RunSeen). AreVisited seen app 1 0 a s.visits s.log o k) (sym q.still) s.visited);
          whole = s.whole;
          entries = entries-still app a b d s.log s.entries q.still;
          connections = s.connections;
          replies = s.replies;
          audit_text = text ∙ s.audit_text;
        }

  -- No more links were served.
  pub door_end : (most : ℕ) (da db : DoorSeen L) (a b : RunSeen) (tally : Tally) (o : List ℕ) → DoorProgress (span da db) (span a b) tally o → tally.connections ≤ most
      → (tally.connections ≡ most) ⊎ (IsTrue db.tells → db.coming ≡ [])
      → AreLinksServed seen app most (span da db) (span a b) (Ok tally) o
  door_end most da db a b tally o s few ended = record {
    visits = s.visits;
    last = None;
    log = s.log;
    came = λ told. s.came told ∙ ap (λ (vs : List (LinkVisit L)). map (λ visit. visit.came) vs ++ db.coming) (sym (append-nil s.visits));
    returned = s.returned;
    visited = subst (λ (vs : List (LinkVisit L)). AreVisited seen app 1 0 a vs s.log o b) (sym (append-nil s.visits)) s.visited;
    whole = s.whole;
    entries = s.entries;
    audit_text = s.audit_text;
    ended = (refl, s.connections, s.replies, subst (λ (n : ℕ). n ≤ most) s.connections few, by ended);
  }
    where
      by : (tally.connections ≡ most) ⊎ (IsTrue db.tells → db.coming ≡ []) → (length s.visits ≡ most) ⊎ (IsTrue db.tells → db.coming ≡ [])
      by (inl is) = inl (sym s.connections ∙ is)
      by (inr none) = inr none

  -- The door gave no link.
  pub door_failed : (most : ℕ) (da db : DoorSeen L) (a b : RunSeen) (tally : Tally) (o : List ℕ) → DoorProgress (span da db) (span a b) tally o → Rose da.faults db.faults
      → AreLinksServed seen app most (span da db) (span a b) (Err halts.Door) o
  door_failed most da db a b tally o s rose = record {
    visits = s.visits;
    last = None;
    log = s.log;
    came = λ told. s.came told ∙ ap (λ (vs : List (LinkVisit L)). map (λ visit. visit.came) vs ++ db.coming) (sym (append-nil s.visits));
    returned = s.returned;
    visited = subst (λ (vs : List (LinkVisit L)). AreVisited seen app 1 0 a vs s.log o b) (sym (append-nil s.visits)) s.visited;
    whole = s.whole;
    entries = s.entries;
    audit_text = s.audit_text;
    ended = (tt, rose);
  }

  -- How serving goes on or ends after the next link.
  module _ (lawful : IsAnswerSpec app) (da db dc : DoorSeen L) (a b d : RunSeen) (tally : Tally) (o au : List ℕ) (back : IsTrue dc.tells → IsTrue db.tells) (s : DoorProgress (span da db) (span a b) tally o) where
    pub next_on : (more : Tally) → ServesNext seen app tally (span db dc) (span b d) (Ok (Some more)) au → DoorProgress (span da dc) (span a d) more (o ++ au)
    next_on more h = door_on lawful da db dc a b d tally o au back s h.0 more h.1 h.2

    pub next_none : (most : ℕ) → tally.connections ≤ most → ServesNext seen app tally (span db dc) (span b d) (Ok None) au
        → AreLinksServed seen app most (span da dc) (span a d) (Ok tally) (o ++ au)
    next_none most few h = door_end most da dc a d tally (o ++ au) (door_quiet lawful da db dc a b d tally o au back s h.0) few (inr h.1)

    pub next_halt : (most : ℕ) → da.faults ≤ db.faults → (halt : DoorHalt) → ServesNext seen app tally (span db dc) (span b d) (Err halt) au
        → AreLinksServed seen app most (span da dc) (span a d) (Err halt) (o ++ au)
    next_halt most later halts.Door (inl quiet, rose) =
        door_failed most da dc a d tally (o ++ au) (door_quiet lawful da db dc a b d tally o au back s quiet) (Rose-widen da.faults db.faults dc.faults dc.faults later (omega arith) rose)
    next_halt most later halts.Door (inr (line, gave, (count, v)), rose) =
        door_kept lawful da db dc a b d tally o au back s most line count gave (Rose-widen da.faults db.faults dc.faults dc.faults later (omega arith) rose) v
    next_halt most later halts.Write (line, gave, inl v) =
        door_cut lawful da db dc a b d tally o au back s most line true gave v (inl (returned_more lawful da db dc a b d tally o au back s (link_visit line v.gone (Err ways.Write)) v.returned))
    next_halt most later halts.Write (line, gave, inr (v, rose)) =
        door_cut lawful da db dc a b d tally o au back s most line false gave v
        (inr (returned_same lawful da db dc a b d tally o au back s v.returned, Rose-widen da.faults db.faults dc.faults dc.faults later (omega arith) rose))
    next_halt most later halts.Memory (line, gave, inl v) =
        door_wanting lawful da db dc a b d tally o au back s most line true gave v
        (inl (returned_more lawful da db dc a b d tally o au back s (link_visit line v.gone (Err ways.Memory)) v.returned))
    next_halt most later halts.Memory (line, gave, inr (v, rose)) =
        door_wanting lawful da db dc a b d tally o au back s most line false gave v
        (inr (returned_same lawful da db dc a b d tally o au back s v.returned, Rose-widen da.faults db.faults dc.faults dc.faults later (omega arith) rose))
