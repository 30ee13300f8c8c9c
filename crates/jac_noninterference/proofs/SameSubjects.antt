-- Two logs of the same events have the same subjects, until an entry of either failed.
use Rattle.std.proofs.Common.{◌≡◌, ◌≢◌, ◌∙◌, ap, sym, subst, refl, inl, inr, ◌⊎◌, ℕ, ◌+◌, Bool, true, false, ◌||◌, Option, Some, None, List, [], ◌∷◌, ◌++◌, append-nil, drop}
use Rattle.std.specs.Option.{option_map}
use Rattle.jac_events.specs.declared.event.Event.{Event}
use Rattle.jac_events.specs.declared.event.Event.TheVariants.{Ask, Begin, Piece, Finish}
use Rattle.jac_http.specs.declared.taken.Request.{Request}
use Rattle.jac_http.specs.declared.taken.Taken.TheVariants.{More, Whole, Refused}
use Rattle.jac_http.specs.Reading.{IsReading}
use Rattle.jac_hub.specs.Hearing.{Source, asked, connection, Subject, whole, refused, broken, Entry, Hearing}
use Rattle.jac_hub.specs.Heard.{Connection, Connections, set_at, with_bytes, closes_connection, with_entry, connections_after, after_entries, after_event, after_both, is_closed, bytes_counted, StandsAt, StandAt, IsNextIn, IsReadThrough, IsNextEntry, AreBrought, AreBegun, PieceBrings, PieceBegins, IsBroughtBy, IsBegunBy, IsHeardFrom, IsHeardInPartFrom}
use Rattle.jac_noninterference.specs.TwoRuns.{IsSameAsked}

-- The subject was read: it doesn't report that reading it ran out of memory.
abbrev pub IsLegible : {I : Type 0} → Subject I → Type 0
IsLegible (whole inquiry close) = Unit {0}
IsLegible (refused status) = Unit {0}
IsLegible broken = ⊥

-- The entry didn't fail.
pub record Stands {I A : Type 0} (h : Hearing I A) (entry : Entry I A) : Type 0 where
  pub goes_on : h.ends entry.answer ≡ false
  pub legible : IsLegible entry.subject

-- Entry by entry the subjects are the same, until one entry failed. A log ends first only if its
-- run may stop early.
abbrev pub AskedAlike : {I A : Type 0} → Bool → Bool → Hearing I A → List (Entry I A) → List (Entry I A) → Type 0
AskedAlike early early' h [] [] = Unit {0}
AskedAlike early early' h [] (two ∷ others) = Stands h two → early ≡ true
AskedAlike early early' h (one ∷ log) [] = Stands h one → early' ≡ true
AskedAlike early early' h (one ∷ log) (two ∷ others) = Stands h one → Stands h two → IsSameAsked one two × AskedAlike early early' h log others

-- ---- one subject at a place

stands_once : {I A : Type 0} (h : Hearing I A) → IsReading h.reads → (subject : Subject I) (from to to' : List ℕ)
    → StandsAt h subject from to → StandsAt h subject from to' → to ≡ to'
stands_once h law (whole inquiry close) from to to' (request, used, reads, i, c, at) (request', used', reads', i', c', at') =
    let same : Whole request used ≡ Whole request' used' = law.one from (Whole request used) (Whole request' used') reads reads' in
    let count : used ≡ used' = cc in
    at ∙ ap (λ (n : ℕ). drop n from) count ∙ sym at'
stands_once h law (refused status) from to to' (reads, at) (reads', at') = at ∙ sym at'
stands_once h law broken from to to' at at' = at ∙ sym at'

stand_once : {I A : Type 0} (h : Hearing I A) → IsReading h.reads → (subjects : List (Subject I)) (from to to' : List ℕ)
    → StandAt h subjects from to → StandAt h subjects from to' → to ≡ to'
stand_once h law [] from to to' at at' = at ∙ sym at'
stand_once h law (subject ∷ subjects) from to to' (rest, first, others) (rest', first', others') =
    let same : rest ≡ rest' = stands_once h law subject from rest rest' first first' in
    stand_once h law subjects rest to to' others (subst (λ (r : List ℕ). StandAt h subjects r to') (sym same) others')

whole_once : {I A : Type 0} (h : Hearing I A) (request request' : Request) (used used' : ℕ) (inquiry inquiry' : I) (close close' : Bool)
    → Whole request used ≡ Whole request' used' → inquiry ≡ h.wants request → inquiry' ≡ h.wants request' → close ≡ request.close → close' ≡ request'.close
    → whole inquiry close ≡ whole inquiry' close'
whole_once {I = I} h request request' used used' inquiry inquiry' close close' same i i' c c' =
    let one : request ≡ request' = cc in
    let asks : inquiry ≡ inquiry' = i ∙ ap h.wants one ∙ sym i' in
    let ends : close ≡ close' = c ∙ ap (λ (r : Request). r.close) one ∙ sym c' in
    cc

no_whole : (request : Request) (used status : ℕ) → Whole request used ≢ Refused status
no_whole request used status e = cc

no_more_whole : (request : Request) (used : ℕ) → More ≢ Whole request used
no_more_whole request used e = cc

no_more_refused : (status : ℕ) → More ≢ Refused status
no_more_refused status e = cc

one_status : (status status' : ℕ) → Refused status ≡ Refused status' → status ≡ status'
one_status status status' e = cc

-- Bytes begin with only one subject.
subject_once : {I A : Type 0} (h : Hearing I A) → IsReading h.reads → (one two : Subject I) (from to to' : List ℕ)
    → IsLegible one → IsLegible two → StandsAt h one from to → StandsAt h two from to' → one ≡ two
subject_once h law (whole inquiry close) (whole inquiry' close') from to to' l l' (request, used, reads, i, c, at) (request', used', reads', i', c', at') =
    whole_once h request request' used used' inquiry inquiry' close close' (law.one from (Whole request used) (Whole request' used') reads reads') i i' c c'
subject_once h law (whole inquiry close) (refused status) from to to' l l' (request, used, reads, i, c, at) (reads', at') =
    absurd (no_whole request used status (law.one from (Whole request used) (Refused status) reads reads'))
subject_once h law (refused status) (whole inquiry close) from to to' l l' (reads', at') (request, used, reads, i, c, at) =
    absurd (no_whole request used status (law.one from (Whole request used) (Refused status) reads reads'))
subject_once {I = I} h law (refused status) (refused status') from to to' l l' (reads, at) (reads', at') =
    let same : status ≡ status' = one_status status status' (law.one from (Refused status) (Refused status') reads reads') in
    let f : ℕ → Subject I = λ s. refused s in
    ap f same
subject_once h law broken two from to to' l l' at at' = absurd l
subject_once h law (whole inquiry close) broken from to to' l l' at at' = absurd l'
subject_once h law (refused status) broken from to to' l l' at at' = absurd l'

next_once : {I A : Type 0} (h : Hearing I A) → IsReading h.reads → (known : Connection I) (one two : Subject I)
    → IsLegible one → IsLegible two → IsNextIn h known one → IsNextIn h known two → one ≡ two
next_once h law known one two l l' (from, to, behind, stands) (from', to', behind', stands') =
    let same : from ≡ from' = stand_once h law known.heard (bytes_counted known) from from' behind behind' in
    subject_once h law one two from to to' l l' stands (subst (λ (f : List ℕ). StandsAt h two f to') (sym same) stands')

more_stands : {I A : Type 0} (h : Hearing I A) → IsReading h.reads → (subject : Subject I) (from to : List ℕ)
    → IsLegible subject → h.reads from More → StandsAt h subject from to → ⊥
more_stands h law (whole inquiry close) from to l more (request, used, reads, i, c, at) = no_more_whole request used (law.one from More (Whole request used) more reads)
more_stands h law (refused status) from to l more (reads, at) = no_more_refused status (law.one from More (Refused status) more reads)
more_stands h law broken from to l more at = l

-- If all bytes are read, no subject comes next.
read_all : {I A : Type 0} (h : Hearing I A) → IsReading h.reads → (known : Connection I) (subject : Subject I)
    → IsLegible subject → IsReadThrough h known → IsNextIn h known subject → ⊥
read_all h law known subject l (from, behind, more) (from', to, behind', stands) =
    let same : from ≡ from' = stand_once h law known.heard (bytes_counted known) from from' behind behind' in
    more_stands h law subject from to l more (subst (λ (f : List ℕ). StandsAt h subject f to) (sym same) stands)

-- ---- the same entries leave the same connections

same_connection : {I A : Type 0} (h : Hearing I A) (one two : Entry I A) → one.subject ≡ two.subject → h.ends one.answer ≡ h.ends two.answer
    → (known : Connection I) → with_entry h one known ≡ with_entry h two known
same_connection {I = I} h one two subject ends known = λ i. record {
  bytes = known.bytes;
  heard = known.heard ++ subject i ∷ [];
  ended = known.ended || (closes_connection (subject i) || ends i);
}

same_after : {I A : Type 0} (h : Hearing I A) (s : Source) (one two : Entry I A) → one.subject ≡ two.subject → h.ends one.answer ≡ h.ends two.answer
    → (all : Connections I) → connections_after h s one all ≡ connections_after h s two all
same_after h asked one two subject ends all = refl
same_after {I = I} h (connection c) one two subject ends all =
    let step : with_entry h one ≡ with_entry h two = λ i known. same_connection h one two subject ends known i in
    ap (λ (f : Connection I → Connection I). set_at c (option_map f (all c)) all) step

same_behind : {I A : Type 0} (h : Hearing I A) (one two : Entry I A) → IsSameAsked one two → h.ends one.answer ≡ h.ends two.answer
    → (all : Connections I) → connections_after h one.source one all ≡ connections_after h two.source two all
same_behind h one two same ends all =
    ap (λ (s : Source). connections_after h s one all) same.source ∙ same_after h two.source one two same.subject ends all

-- ---- what is heard, to the end or in part

abbrev pub HeardFrom : {I A : Type 0} → Bool → Hearing I A → Connections I → ℕ → List Event → List (Entry I A) → Type 0
HeardFrom false h all n events log = IsHeardFrom h all n events log
HeardFrom true h all n events log = IsHeardInPartFrom h all n events log

none_begun : {I A : Type 0} (h : Hearing I A) (n c : ℕ) (bytes : List ℕ) (b : Bool) (known : Connection I) → is_closed known ≡ b → PieceBegins h n c bytes (Some known) []
none_begun h n c bytes true known e = inl (e, refl)
none_begun h n c bytes false known e = inr (e, tt)

none_of_piece : {I A : Type 0} (h : Hearing I A) (n c : ℕ) (bytes : List ℕ) (o : Option (Connection I)) → PieceBegins h n c bytes o []
none_of_piece h n c bytes None = refl
none_of_piece h n c bytes (Some known) = none_begun h n c bytes (is_closed known) known refl

none_of : {I A : Type 0} (h : Hearing I A) (n : ℕ) (event : Event) (all : Connections I) → IsBegunBy h n event all []
none_of h n (Ask viewer method path query body) all = inl refl
none_of h n (Begin c) all = refl
none_of h n (Piece c bytes) all = none_of_piece h n c bytes (all c)
none_of h n (Finish c) all = refl

-- No entries are the beginning of all entries.
nothing_heard : {I A : Type 0} (h : Hearing I A) (all : Connections I) (n : ℕ) (events : List Event) → IsHeardInPartFrom h all n events []
nothing_heard h all n [] = refl
nothing_heard h all n (event ∷ events) = inl (none_of h n event all)

nothing_early : {I A : Type 0} (early : Bool) (h : Hearing I A) (all : Connections I) (n : ℕ) (events : List Event) (log : List (Entry I A))
    → early ≡ true → log ≡ [] → HeardFrom early h all n events log
nothing_early {A = A} early h all n events log is none =
    let empty : HeardFrom early h all n events [] = subst (λ (b : Bool). HeardFrom b h all n events []) (sym is) (nothing_heard h all n events) in
    subst (λ (l : List (Entry _ A)). HeardFrom early h all n events l) (sym none) empty

-- A log by its first event: all entries that the event brings and the rest of the log, or only some
-- of these entries.
pub record Opened {I A : Type 0} (early : Bool) (h : Hearing I A) (all : Connections I) (n : ℕ) (event : Event) (events : List Event) (log : List (Entry I A)) : Type 0 where
  pub mine : List (Entry I A)
  pub rest : List (Entry I A)
  pub parts : log ≡ mine ++ rest
  pub heard : (IsBroughtBy h n event all mine × HeardFrom early h (after_both h event mine all) (n + 1) events rest)
      ⊎ ((early ≡ true) × IsBegunBy h n event all mine × (rest ≡ []))

opened : {I A : Type 0} (early : Bool) (h : Hearing I A) (all : Connections I) (n : ℕ) (event : Event) (events : List Event) (log : List (Entry I A))
    → HeardFrom early h all n (event ∷ events) log → Opened early h all n event events log
opened false h all n event events log (mine, rest, parts, brought, later) = record { mine = mine; rest = rest; parts = parts; heard = inl (brought, later) }
opened true h all n event events log (inl begun) = record { mine = log; rest = []; parts = sym (append-nil log); heard = inr (refl, begun, refl) }
opened true h all n event events log (inr (mine, rest, parts, brought, later)) = record { mine = mine; rest = rest; parts = parts; heard = inl (brought, later) }

-- ---- one log ends

ended_first : {I A : Type 0} (early early' : Bool) (h : Hearing I A) (log others : List (Entry I A)) → early ≡ true → log ≡ [] → AskedAlike early early' h log others
ended_first {I = I} {A = A} early early' h log others is none = subst (λ (l : List (Entry I A)). AskedAlike early early' h l others) (sym none) (by others)
  where
    by : (others : List (Entry I A)) → AskedAlike early early' h [] others
    by [] = tt
    by (two ∷ others) = λ stands. is

ended_second : {I A : Type 0} (early early' : Bool) (h : Hearing I A) (log others : List (Entry I A)) → early' ≡ true → others ≡ [] → AskedAlike early early' h log others
ended_second {I = I} {A = A} early early' h log others is none = subst (λ (l : List (Entry I A)). AskedAlike early early' h log l) (sym none) (by log)
  where
    by : (log : List (Entry I A)) → AskedAlike early early' h log []
    by [] = tt
    by (one ∷ log) = λ stands. is

failed_first : {I A : Type 0} (early early' : Bool) (h : Hearing I A) (one : Entry I A) (log others : List (Entry I A)) → (Stands h one → ⊥)
    → AskedAlike early early' h (one ∷ log) others
failed_first early early' h one log [] fails = λ stands. absurd (fails stands)
failed_first early early' h one log (two ∷ others) fails = λ stands other. absurd (fails stands)

failed_second : {I A : Type 0} (early early' : Bool) (h : Hearing I A) (two : Entry I A) (log others : List (Entry I A)) → (Stands h two → ⊥)
    → AskedAlike early early' h log (two ∷ others)
failed_second early early' h two [] others fails = λ stands. absurd (fails stands)
failed_second early early' h two (one ∷ log) others fails = λ other stands. absurd (fails stands)

-- ---- the entries of a piece

-- From this connection on: the remaining entries of the n-th event, and the log after them.
abbrev pub Goes : {I A : Type 0} → Bool → Hearing I A → ℕ → ℕ → List Event → Connection I → Connections I → List (Entry I A) → List (Entry I A) → Type 0
Goes early h n c events known all mine rest =
    (AreBrought h n c known mine × HeardFrom early h (after_entries h mine all) (n + 1) events rest)
    ⊎ ((early ≡ true) × AreBegun h n c known mine × (rest ≡ []))

goes_next : {I A : Type 0} (early : Bool) (h : Hearing I A) (n c : ℕ) (events : List Event) (known : Connection I) (all : Connections I) (entry : Entry I A) (mine rest : List (Entry I A))
    → Goes early h n c events known all (entry ∷ mine) rest → IsNextEntry h n c known entry
goes_next early h n c events known all entry mine rest (inl (brought, later)) = brought.0
goes_next early h n c events known all entry mine rest (inr (is, begun, none)) = begun.0

goes_on : {I A : Type 0} (early : Bool) (h : Hearing I A) (n c : ℕ) (events : List Event) (known : Connection I) (all : Connections I) (entry : Entry I A) (mine rest : List (Entry I A))
    → Goes early h n c events known all (entry ∷ mine) rest → Goes early h n c events (with_entry h entry known) (connections_after h entry.source entry all) mine rest
goes_on early h n c events known all entry mine rest (inl (brought, later)) = inl (brought.1, later)
goes_on early h n c events known all entry mine rest (inr (is, begun, none)) = inr (is, begun.1, none)

goes_end : {I A : Type 0} (early : Bool) (h : Hearing I A) (n c : ℕ) (events : List Event) (known : Connection I) (all : Connections I) (rest : List (Entry I A))
    → Goes early h n c events known all [] rest → HeardFrom early h all (n + 1) events rest
goes_end early h n c events known all rest (inl (brought, later)) = later
goes_end early h n c events known all rest (inr (is, begun, none)) = nothing_early early h all (n + 1) events rest is none

-- If the event has brought all of its entries, a next entry has failed.
none_next : {I A : Type 0} (h : Hearing I A) → IsReading h.reads → (n c : ℕ) (known : Connection I) (entry : Entry I A)
    → (known.ended ≡ true) ⊎ IsReadThrough h known → IsNextEntry h n c known entry → Stands h entry → ⊥
none_next h law n c known entry (inl closed) next stands = let no : true ≡ false = sym closed ∙ next.open_still in cc
none_next h law n c known entry (inr read) next stands = read_all h law known entry.subject stands.legible read next.subject

same_next : {I A : Type 0} (h : Hearing I A) → IsReading h.reads → (n c : ℕ) (known : Connection I) (one two : Entry I A)
    → IsNextEntry h n c known one → IsNextEntry h n c known two → Stands h one → Stands h two → IsSameAsked one two
same_next h law n c known one two next next' stands stands' = record {
  place = next.place ∙ sym next'.place;
  source = next.source ∙ sym next'.source;
  subject = next_once h law known one.subject two.subject stands.legible stands'.legible next.subject next'.subject;
}

-- The later events bring the same subjects.
abbrev pub AreLaterAlike : {I A : Type 0} → Bool → Bool → Hearing I A → ℕ → List Event → Type 0
AreLaterAlike {I = I} {A = A} early early' h n events =
    (all : Connections I) (rest rest' : List (Entry I A)) → HeardFrom early h all n events rest → HeardFrom early' h all n events rest' → AskedAlike early early' h rest rest'

piece_alike : {I A : Type 0} (early early' : Bool) (h : Hearing I A) → IsReading h.reads → (n c : ℕ) (events : List Event) → AreLaterAlike early early' h (n + 1) events
    → (known : Connection I) (all : Connections I) (mine mine' rest rest' : List (Entry I A))
    → Goes early h n c events known all mine rest → Goes early' h n c events known all mine' rest' → AskedAlike early early' h (mine ++ rest) (mine' ++ rest')
piece_alike early early' h law n c events later known all [] [] rest rest' goes goes' =
    later all rest rest' (goes_end early h n c events known all rest goes) (goes_end early' h n c events known all rest' goes')
piece_alike early early' h law n c events later known all [] (two ∷ mine') rest rest' (inl (brought, heard)) goes' =
    failed_second early early' h two rest (mine' ++ rest')
    (none_next h law n c known two brought (goes_next early' h n c events known all two mine' rest' goes'))
piece_alike early early' h law n c events later known all [] (two ∷ mine') rest rest' (inr (is, begun, none)) goes' =
    ended_first early early' h rest (two ∷ (mine' ++ rest')) is none
piece_alike early early' h law n c events later known all (one ∷ mine) [] rest rest' goes (inl (brought, heard)) =
    failed_first early early' h one (mine ++ rest) rest'
    (none_next h law n c known one brought (goes_next early h n c events known all one mine rest goes))
piece_alike early early' h law n c events later known all (one ∷ mine) [] rest rest' goes (inr (is, begun, none)) =
    ended_second early early' h (one ∷ (mine ++ rest)) rest' is none
piece_alike {I = I} early early' h law n c events later known all (one ∷ mine) (two ∷ mine') rest rest' goes goes' = λ stands stands'.
    let same : IsSameAsked one two = same_next h law n c known one two (goes_next early h n c events known all one mine rest goes)
    (goes_next early' h n c events known all two mine' rest' goes') stands stands' in
    let ends : h.ends one.answer ≡ h.ends two.answer = stands.goes_on ∙ sym stands'.goes_on in
    let other = goes_on early' h n c events known all two mine' rest' goes' in
    let here = subst (λ (k : Connection I). Goes early' h n c events k (connections_after h two.source two all) mine' rest') (sym (same_connection h one two same.subject ends known)) other in
    let there = subst (λ (a : Connections I). Goes early' h n c events (with_entry h one known) a mine' rest') (sym (same_behind h one two same ends all)) here in (
      same,
      piece_alike early early' h law n c events later (with_entry h one known) (connections_after h one.source one all) mine mine' rest rest'
          (goes_on early h n c events known all one mine rest goes) there,
    )

-- ---- an event

-- An event that brings nothing.
quiet : {I A : Type 0} (early : Bool) (h : Hearing I A) (all : Connections I) (n : ℕ) (event : Event) (events : List Event) (log : List (Entry I A))
    → ((mine : List (Entry I A)) → IsBroughtBy h n event all mine → mine ≡ []) → ((mine : List (Entry I A)) → IsBegunBy h n event all mine → mine ≡ [])
    → Opened early h all n event events log → HeardFrom early h (after_event event all) (n + 1) events log
quiet {I = I} {A = A} early h all n event events log brings begins o = by o.heard
  where
    by : (IsBroughtBy h n event all o.mine × HeardFrom early h (after_both h event o.mine all) (n + 1) events o.rest)
        ⊎ ((early ≡ true) × IsBegunBy h n event all o.mine × (o.rest ≡ []))
        → HeardFrom early h (after_event event all) (n + 1) events log
    by (inl (brought, later)) =
        let none : o.mine ≡ [] = brings o.mine brought in
        let at : HeardFrom early h (after_event event all) (n + 1) events o.rest =
        subst (λ (l : List (Entry I A)). HeardFrom early h (after_both h event l all) (n + 1) events o.rest) none later in
        subst (λ (l : List (Entry I A)). HeardFrom early h (after_event event all) (n + 1) events l) (sym (o.parts ∙ ap (λ (l : List (Entry I A)). l ++ o.rest) none)) at
    by (inr (is, begun, nothing)) =
        let none : o.mine ≡ [] = begins o.mine begun in
        let empty : log ≡ [] = o.parts ∙ ap (λ (l : List (Entry I A)). l ++ o.rest) none ∙ nothing in
        nothing_early early h (after_event event all) (n + 1) events log is empty

-- An event that brings one entry with this subject.
pub record AskedOnce {I A : Type 0} (early : Bool) (h : Hearing I A) (all : Connections I) (n : ℕ) (subject : Subject I) (events : List Event) (log : List (Entry I A)) : Type 0 where
  pub answer : A
  pub rest : List (Entry I A)
  pub parts : log ≡ record { place = n; source = asked; subject = subject; answer = answer } ∷ rest
  pub later : HeardFrom early h all (n + 1) events rest

asked_once : {I A : Type 0} (early : Bool) (h : Hearing I A) (all : Connections I) (n : ℕ) (viewer : Option ℕ) (method path query body : List ℕ) (events : List Event) (log : List (Entry I A))
    → Opened early h all n (Ask viewer method path query body) events log
    → AskedOnce early h all n (whole (h.asks viewer method path query body) false) events log ⊎ ((early ≡ true) × (log ≡ []))
asked_once {I = I} {A = A} early h all n viewer method path query body events log o = by o.heard
  where
    subject : Subject I
    subject = whole (h.asks viewer method path query body) false

    by : (IsBroughtBy h n (Ask viewer method path query body) all o.mine × HeardFrom early h (after_both h (Ask viewer method path query body) o.mine all) (n + 1) events o.rest)
        ⊎ ((early ≡ true) × IsBegunBy h n (Ask viewer method path query body) all o.mine × (o.rest ≡ []))
        → AskedOnce early h all n (whole (h.asks viewer method path query body) false) events log ⊎ ((early ≡ true) × (log ≡ []))
    by (inl ((answer, one), later)) = inl (record {
      answer = answer;
      rest = o.rest;
      parts = o.parts ∙ ap (λ (l : List (Entry I A)). l ++ o.rest) one;
      later = subst (λ (l : List (Entry I A)). HeardFrom early h (after_both h (Ask viewer method path query body) l all) (n + 1) events o.rest) one later;
    })
    by (inr (is, inl none, nothing)) = inr (is, o.parts ∙ ap (λ (l : List (Entry I A)). l ++ o.rest) none ∙ nothing)
    by (inr (is, inr (answer, one), nothing)) = inl (record {
      answer = answer;
      rest = o.rest;
      parts = o.parts ∙ ap (λ (l : List (Entry I A)). l ++ o.rest) one;
      later = nothing_early early h all (n + 1) events o.rest is nothing;
    })

ask_alike : {I A : Type 0} (early early' : Bool) (h : Hearing I A) (all : Connections I) (n : ℕ) (subject : Subject I) (events : List Event) → AreLaterAlike early early' h (n + 1) events
    → (log others : List (Entry I A)) → AskedOnce early h all n subject events log ⊎ ((early ≡ true) × (log ≡ []))
    → AskedOnce early' h all n subject events others ⊎ ((early' ≡ true) × (others ≡ [])) → AskedAlike early early' h log others
ask_alike early early' h all n subject events later log others (inr (is, none)) asks' = ended_first early early' h log others is none
ask_alike early early' h all n subject events later log others (inl asks) (inr (is, none)) = ended_second early early' h log others is none
ask_alike {I = I} {A = A} early early' h all n subject events later log others (inl one) (inl two) =
    let both : AskedAlike early early' h (record { place = n; source = asked; subject = subject; answer = one.answer } ∷ one.rest)
    (record { place = n; source = asked; subject = subject; answer = two.answer } ∷ two.rest) =
    λ stands stands'. (record { place = refl; source = refl; subject = refl }, later all one.rest two.rest one.later two.later) in
    let half = subst (λ (l : List (Entry I A)). AskedAlike early early' h l (record { place = n; source = asked; subject = subject; answer = two.answer } ∷ two.rest)) (sym one.parts) both in
    subst (λ (l : List (Entry I A)). AskedAlike early early' h log l) (sym two.parts) half

shut_brings : {I A : Type 0} (h : Hearing I A) (n c : ℕ) (bytes : List ℕ) (known : Connection I) (mine : List (Entry I A)) → is_closed known ≡ true
    → PieceBrings h n c bytes (Some known) mine → mine ≡ []
shut_brings h n c bytes known mine shut (inl (closed, none)) = none
shut_brings h n c bytes known mine shut (inr (still, brought)) = let no : true ≡ false = sym shut ∙ still in absurd cc

shut_begins : {I A : Type 0} (h : Hearing I A) (n c : ℕ) (bytes : List ℕ) (known : Connection I) (mine : List (Entry I A)) → is_closed known ≡ true
    → PieceBegins h n c bytes (Some known) mine → mine ≡ []
shut_begins h n c bytes known mine shut (inl (closed, none)) = none
shut_begins h n c bytes known mine shut (inr (still, begun)) = let no : true ≡ false = sym shut ∙ still in absurd cc

still_brings : {I A : Type 0} (h : Hearing I A) (n c : ℕ) (bytes : List ℕ) (known : Connection I) (mine : List (Entry I A)) → is_closed known ≡ false
    → PieceBrings h n c bytes (Some known) mine → AreBrought h n c (with_bytes bytes known) mine
still_brings h n c bytes known mine still (inl (closed, none)) = let no : true ≡ false = sym closed ∙ still in absurd cc
still_brings h n c bytes known mine still (inr (other, brought)) = brought

still_begins : {I A : Type 0} (h : Hearing I A) (n c : ℕ) (bytes : List ℕ) (known : Connection I) (mine : List (Entry I A)) → is_closed known ≡ false
    → PieceBegins h n c bytes (Some known) mine → AreBegun h n c (with_bytes bytes known) mine
still_begins h n c bytes known mine still (inl (closed, none)) = let no : true ≡ false = sym closed ∙ still in absurd cc
still_begins h n c bytes known mine still (inr (other, begun)) = begun

-- The piece of a connection that goes on.
piece_goes : {I A : Type 0} (early : Bool) (h : Hearing I A) (all : Connections I) (n c : ℕ) (bytes : List ℕ) (events : List Event) (log : List (Entry I A)) (known : Connection I)
    → all c ≡ Some known → is_closed known ≡ false → (o : Opened early h all n (Piece c bytes) events log)
    → Goes early h n c events (with_bytes bytes known) (after_event (Piece c bytes) all) o.mine o.rest
piece_goes {I = I} early h all n c bytes events log known is still o = by o.heard
  where
    by : (IsBroughtBy h n (Piece c bytes) all o.mine × HeardFrom early h (after_both h (Piece c bytes) o.mine all) (n + 1) events o.rest)
        ⊎ ((early ≡ true) × IsBegunBy h n (Piece c bytes) all o.mine × (o.rest ≡ []))
        → Goes early h n c events (with_bytes bytes known) (after_event (Piece c bytes) all) o.mine o.rest
    by (inl (brought, later)) = inl (still_brings h n c bytes known o.mine still (subst (λ (k : Option (Connection I)). PieceBrings h n c bytes k o.mine) is brought), later)
    by (inr (ends, begun, nothing)) = inr (ends, still_begins h n c bytes known o.mine still (subst (λ (k : Option (Connection I)). PieceBegins h n c bytes k o.mine) is begun), nothing)

module _ {I A : Type 0} (early early' : Bool) (h : Hearing I A) (law : IsReading h.reads) (all : Connections I) (n : ℕ) (events : List Event) (later : AreLaterAlike early early' h (n + 1) events) (log others : List (Entry I A)) where
  -- An event that brings nothing in either run.
  quiet_alike : (event : Event) → ((mine : List (Entry I A)) → IsBroughtBy h n event all mine → mine ≡ []) → ((mine : List (Entry I A)) → IsBegunBy h n event all mine → mine ≡ [])
      → Opened early h all n event events log → Opened early' h all n event events others → AskedAlike early early' h log others
  quiet_alike event brings begins o o' =
      later (after_event event all) log others (quiet early h all n event events log brings begins o) (quiet early' h all n event events others brings begins o')

  known_alike : (c : ℕ) (bytes : List ℕ) (b : Bool) (known : Connection I) → all c ≡ Some known → is_closed known ≡ b
      → Opened early h all n (Piece c bytes) events log → Opened early' h all n (Piece c bytes) events others → AskedAlike early early' h log others
  known_alike c bytes true known is shut o o' =
      quiet_alike (Piece c bytes)
      (λ mine brought. shut_brings h n c bytes known mine shut (subst (λ (k : Option (Connection I)). PieceBrings h n c bytes k mine) is brought))
      (λ mine begun. shut_begins h n c bytes known mine shut (subst (λ (k : Option (Connection I)). PieceBegins h n c bytes k mine) is begun))
      o o'
  known_alike c bytes false known is still o o' =
      let both : AskedAlike early early' h (o.mine ++ o.rest) (o'.mine ++ o'.rest) =
      piece_alike early early' h law n c events later (with_bytes bytes known) (after_event (Piece c bytes) all) o.mine o'.mine o.rest o'.rest
      (piece_goes early h all n c bytes events log known is still o) (piece_goes early' h all n c bytes events others known is still o') in
      let half = subst (λ (l : List (Entry I A)). AskedAlike early early' h l (o'.mine ++ o'.rest)) (sym o.parts) both in
      subst (λ (l : List (Entry I A)). AskedAlike early early' h log l) (sym o'.parts) half

  piece_by : (c : ℕ) (bytes : List ℕ) (k : Option (Connection I)) → all c ≡ k
      → Opened early h all n (Piece c bytes) events log → Opened early' h all n (Piece c bytes) events others → AskedAlike early early' h log others
  piece_by c bytes None is o o' =
      quiet_alike (Piece c bytes)
      (λ mine brought. subst (λ (k : Option (Connection I)). PieceBrings h n c bytes k mine) is brought)
      (λ mine begun. subst (λ (k : Option (Connection I)). PieceBegins h n c bytes k mine) is begun)
      o o'
  piece_by c bytes (Some known) is o o' = known_alike c bytes (is_closed known) known is refl o o'

  event_alike : (event : Event) → Opened early h all n event events log → Opened early' h all n event events others → AskedAlike early early' h log others
  event_alike (Ask viewer method path query body) o o' =
      ask_alike early early' h all n (whole (h.asks viewer method path query body) false) events later log others
      (asked_once early h all n viewer method path query body events log o) (asked_once early' h all n viewer method path query body events others o')
  event_alike (Begin c) o o' = quiet_alike (Begin c) (λ mine brought. brought) (λ mine begun. begun) o o'
  event_alike (Piece c bytes) o o' = piece_by c bytes (all c) refl o o'
  event_alike (Finish c) o o' = quiet_alike (Finish c) (λ mine brought. brought) (λ mine begun. begun) o o'

both_empty : {I A : Type 0} (early early' : Bool) (h : Hearing I A) (log others : List (Entry I A)) → log ≡ [] → others ≡ [] → AskedAlike early early' h log others
both_empty {I = I} {A = A} early early' h log others none none' =
    let half : AskedAlike early early' h log [] = subst (λ (l : List (Entry I A)). AskedAlike early early' h l []) (sym none) tt in
    subst (λ (l : List (Entry I A)). AskedAlike early early' h log l) (sym none') half

no_events : {I A : Type 0} (early : Bool) (h : Hearing I A) (all : Connections I) (n : ℕ) (log : List (Entry I A)) → HeardFrom early h all n [] log → log ≡ []
no_events false h all n log heard = heard
no_events true h all n log heard = heard

-- Logs of the same events, from the same connections.
pub asked_alike : {I A : Type 0} (early early' : Bool) (h : Hearing I A) → IsReading h.reads → (events : List Event) (n : ℕ) → AreLaterAlike early early' h n events
asked_alike early early' h law [] n = λ all log others heard heard'.
    both_empty early early' h log others (no_events early h all n log heard) (no_events early' h all n others heard')
asked_alike early early' h law (event ∷ events) n = λ all log others heard heard'.
    event_alike early early' h law all n events (asked_alike early early' h law events (n + 1)) log others event
    (opened early h all n event events log heard) (opened early' h all n event events others heard')
