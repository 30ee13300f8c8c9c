-- The events and the log determine the text.
use Rattle.std.proofs.Common.{◌≡◌, ◌∙◌, ap, sym, subst, refl, inl, inr, arith, ℕ, ◌+◌, ◌≤◌, Option, Some, None, List, [], ◌∷◌, ◌++◌, map}
use Rattle.std.proofs.lemmas.List.{map-append}
use Rattle.std.specs.Bool.{⊤}
use Rattle.jac_events.specs.declared.event.Event.{Event}
use Rattle.jac_events.specs.declared.event.Event.TheVariants.{Ask as Asking, Begin, Piece, Finish}
use Rattle.jac_hub.specs.Hearing.{Source, asked, connection, Hearing}
use Rattle.jac_hub.specs.Heard.{Connection, Connections, with_bytes, with_entry, connections_after, after_entries, after_event, AreBrought, PieceBrings, IsBroughtBy, after_both}
use Rattle.jac_replies.specs.declared.answer.Answer.{Answer}
use Rattle.jac_replies.specs.declared.answer.Ask.{Ask}
use Rattle.jac_replies.specs.declared.reply.Spelling.TheVariants as spellings
use Rattle.jac_serve_events.specs.AnswerSpec.{LogEntry, AnswerSpec, hearing}
use Rattle.jac_serve_events.specs.Log.{Brings, event_text, replies_text, closing_text}
use Rattle.jac_noninterference.specs.TwoRuns.{seen_answer, seen_entry}
use Rattle.jac_noninterference.proofs.SameAnswers.{seen_put}

-- Each entry belongs to the n-th event.
abbrev pub AllAt : ℕ → List LogEntry → Type 0
AllAt n [] = ⊤
AllAt n (entry ∷ log) = (entry.place ≡ n) × AllAt n log

-- Each entry belongs to the n-th event or a later one.
abbrev pub AllFrom : ℕ → List LogEntry → Type 0
AllFrom n [] = ⊤
AllFrom n (entry ∷ log) = (n ≤ entry.place) × AllFrom n log

brought_at : (h : Hearing Ask Answer) (n c : ℕ) (known : Connection Ask) (mine : List LogEntry) → AreBrought h n c known mine → AllAt n mine
brought_at h n c known [] brought = tt
brought_at h n c known (entry ∷ mine) brought = (brought.0.place, brought_at h n c (with_entry h entry known) mine brought.1)

none_at : (n : ℕ) (mine : List LogEntry) → mine ≡ [] → AllAt n mine
none_at n mine none = subst (λ (l : List LogEntry). AllAt n l) (sym none) tt

piece_at : (h : Hearing Ask Answer) (n c : ℕ) (bytes : List ℕ) (known : Option (Connection Ask)) (mine : List LogEntry) → PieceBrings h n c bytes known mine → AllAt n mine
piece_at h n c bytes None mine none = none_at n mine none
piece_at h n c bytes (Some known) mine (inl (shut, none)) = none_at n mine none
piece_at h n c bytes (Some known) mine (inr (still, brought)) = brought_at h n c (with_bytes bytes known) mine brought

event_at : (h : Hearing Ask Answer) (n : ℕ) (event : Event) (known : Connections Ask) (mine : List LogEntry) → IsBroughtBy h n event known mine → AllAt n mine
event_at h n (Asking viewer method path query body) known mine (answer, is) = subst (λ (l : List LogEntry). AllAt n l) (sym is) (refl, tt)
event_at h n (Begin c) known mine none = none_at n mine none
event_at h n (Piece c bytes) known mine brought = piece_at h n c bytes (known c) mine brought
event_at h n (Finish c) known mine none = none_at n mine none

at_from : (n : ℕ) (mine others : List LogEntry) → AllAt n mine → AllFrom (n + 1) others → AllFrom n (mine ++ others)
at_from n [] [] at later = tt
at_from n [] (other ∷ others) at later = (omega (arith, later.0), at_from n [] others tt later.1)
at_from n (entry ∷ mine) others at later = (omega (arith, at.0), at_from n mine others at.1 later)

brings_from : (x : AnswerSpec) (known : Connections Ask) (n : ℕ) (events : List Event) (log : List LogEntry) (text : List ℕ) (later : Connections Ask)
    → Brings x known n events log text later → AllFrom n log
brings_from x known n [] log text later (none, rest, stays) = subst (λ (l : List LogEntry). AllFrom n l) (sym none) tt
brings_from x known n (event ∷ events) log text later (mine, others, rest, parts, is, brought, more) =
    subst (λ (l : List LogEntry). AllFrom n l) (sym parts)
    (at_from n mine others (event_at (hearing x) n event known mine brought)
    (brings_from x (after_both (hearing x) event mine known) (n + 1) events others rest later more))

-- An entry of the n-th event doesn't belong to a later one.
not_later : (n : ℕ) (entry : LogEntry) (rest others : List LogEntry) → entry.place ≡ n → AllFrom (n + 1) others → others ≡ entry ∷ rest → ⊥
not_later n entry rest others at later is =
    let first = (subst (λ (l : List LogEntry). AllFrom (n + 1) l) is later).0 in omega (arith, at, first)

first_entry : (one two : LogEntry) (log others : List LogEntry) → one ∷ log ≡ two ∷ others → one ≡ two
first_entry one two log others same = cc

rest_entries : (one two : LogEntry) (log others : List LogEntry) → one ∷ log ≡ two ∷ others → log ≡ others
rest_entries one two log others same = cc

same_parts : (n : ℕ) (mine mine' others others' : List LogEntry) → AllAt n mine → AllAt n mine' → AllFrom (n + 1) others → AllFrom (n + 1) others'
    → mine ++ others ≡ mine' ++ others' → (mine ≡ mine') × (others ≡ others')
same_parts n [] [] others others' at at' later later' same = (refl, same)
same_parts n [] (two ∷ mine') others others' at at' later later' same = absurd (not_later n two (mine' ++ others') others at'.0 later same)
same_parts n (one ∷ mine) [] others others' at at' later later' same = absurd (not_later n one (mine ++ others) others' at.0 later' (sym same))
same_parts n (one ∷ mine) (two ∷ mine') others others' at at' later later' same =
    let first = first_entry one two (mine ++ others) (mine' ++ others') same in
    let rest = same_parts n mine mine' others others' at.1 at'.1 later later' (rest_entries one two (mine ++ others) (mine' ++ others') same) in
    (λ i. first i ∷ rest.0 i, rest.1)

-- The text of the same events and the same log is the same.
pub one_text : (x : AnswerSpec) (known : Connections Ask) (n : ℕ) (events : List Event) (log : List LogEntry) (text text' : List ℕ) (later later' : Connections Ask)
    → Brings x known n events log text later → Brings x known n events log text' later' → text ≡ text'
one_text x known n [] log text text' later later' (none, is, stays) (none', is', stays') = is ∙ sym is'
one_text x known n (event ∷ events) log text text' later later' (mine, others, rest, parts, is, brought, more) (mine', others', rest', parts', is', brought', more') =
    let from = brings_from x (after_both (hearing x) event mine known) (n + 1) events others rest later more in
    let from' = brings_from x (after_both (hearing x) event mine' known) (n + 1) events others' rest' later' more' in
    let same = same_parts n mine mine' others others' (event_at (hearing x) n event known mine brought) (event_at (hearing x) n event known mine' brought') from from' (sym parts ∙ parts') in
    let here = subst (λ (m : List LogEntry). Brings x (after_both (hearing x) event m known) (n + 1) events others' rest' later') (sym same.0) more' in
    let there = subst (λ (o : List LogEntry). Brings x (after_both (hearing x) event mine known) (n + 1) events o rest' later') (sym same.1) here in
    let behind = one_text x (after_both (hearing x) event mine known) (n + 1) events others rest rest' later later' more there in
    is ∙ (λ i. event_text x event known (same.0 i) ++ behind i) ∙ sym is'

-- ---- the text doesn't depend on the consulted labels

after_seen : (x : AnswerSpec) (source : Source) (entry : LogEntry) (known : Connections Ask)
    → connections_after (hearing x) source (seen_entry entry) known ≡ connections_after (hearing x) source entry known
after_seen x asked entry known = refl
after_seen x (connection c) entry known = refl

entries_seen : (x : AnswerSpec) (log : List LogEntry) (known : Connections Ask)
    → after_entries (hearing x) (map seen_entry log) known ≡ after_entries (hearing x) log known
entries_seen x [] known = refl
entries_seen x (entry ∷ log) known =
    entries_seen x log (connections_after (hearing x) entry.source (seen_entry entry) known)
    ∙ ap (λ (all : Connections Ask). after_entries (hearing x) log all) (after_seen x entry.source entry known)

replies_seen : (log : List LogEntry) → replies_text (map seen_entry log) ≡ replies_text log
replies_seen [] = refl
replies_seen (entry ∷ log) = λ i. seen_put spellings.Quoted entry.source entry.subject entry.answer i ++ replies_seen log i

brought_seen : (x : AnswerSpec) (n c : ℕ) (known : Connection Ask) (mine : List LogEntry) → AreBrought (hearing x) n c known mine
    → AreBrought (hearing x) n c known (map seen_entry mine)
brought_seen x n c known [] brought = brought
brought_seen x n c known (entry ∷ mine) brought =
    let next = brought.0 in (
      record { place = next.place; source = next.source; open_still = next.open_still; subject = next.subject },
      brought_seen x n c (with_entry (hearing x) entry known) mine brought.1,
    )

none_seen : (mine : List LogEntry) → mine ≡ [] → map seen_entry mine ≡ []
none_seen mine none = ap (λ (l : List LogEntry). map seen_entry l) none

piece_seen : (x : AnswerSpec) (n c : ℕ) (bytes : List ℕ) (known : Option (Connection Ask)) (mine : List LogEntry)
    → PieceBrings (hearing x) n c bytes known mine → PieceBrings (hearing x) n c bytes known (map seen_entry mine)
piece_seen x n c bytes None mine none = none_seen mine none
piece_seen x n c bytes (Some known) mine (inl (shut, none)) = inl (shut, none_seen mine none)
piece_seen x n c bytes (Some known) mine (inr (still, brought)) = inr (still, brought_seen x n c (with_bytes bytes known) mine brought)

event_seen : (x : AnswerSpec) (n : ℕ) (event : Event) (known : Connections Ask) (mine : List LogEntry)
    → IsBroughtBy (hearing x) n event known mine → IsBroughtBy (hearing x) n event known (map seen_entry mine)
event_seen x n (Asking viewer method path query body) known mine (answer, is) =
    (seen_answer answer, ap (λ (l : List LogEntry). map seen_entry l) is)
event_seen x n (Begin c) known mine none = none_seen mine none
event_seen x n (Piece c bytes) known mine brought = piece_seen x n c bytes (known c) mine brought
event_seen x n (Finish c) known mine none = none_seen mine none

text_seen : (x : AnswerSpec) (event : Event) (known : Connections Ask) (mine : List LogEntry)
    → event_text x event known mine ≡ event_text x event known (map seen_entry mine)
text_seen x event known mine =
    λ i. sym (replies_seen mine) i ++ closing_text event known (sym (entries_seen x mine (after_event event known)) i)

-- The seen parts of the log's entries have the same text.
pub brings_seen : (x : AnswerSpec) (known : Connections Ask) (n : ℕ) (events : List Event) (log : List LogEntry) (text : List ℕ) (later : Connections Ask)
    → Brings x known n events log text later → Brings x known n events (map seen_entry log) text later
brings_seen x known n [] log text later (none, is, stays) = (none_seen log none, is, stays)
brings_seen x known n (event ∷ events) log text later (mine, others, rest, parts, is, brought, more) =
    let behind = brings_seen x (after_both (hearing x) event mine known) (n + 1) events others rest later more in
    let stands = subst (λ (all : Connections Ask). Brings x all (n + 1) events (map seen_entry others) rest later)
    (sym (entries_seen x mine (after_event event known))) behind in (
      map seen_entry mine,
      map seen_entry others,
      rest,
      ap (λ (l : List LogEntry). map seen_entry l) parts ∙ map-append seen_entry mine others,
      is ∙ ap (λ (t : List ℕ). t ++ rest) (text_seen x event known mine),
      event_seen x n event known mine brought,
      stands,
    )
