-- What the bytes of a replay's text say of the sources of its log.
use Rattle.std.proofs.Common.{◌≡◌, ◌∙◌, ap, sym, subst, refl, ◌⊎◌, inl, inr, arith, ℕ, ◌+◌, ◌/◌, ◌%◌, ◌==◌, ◌&&◌, not, nat_le, nat_lt, Bool, true, false, if◌then◌else◌, Option, Some, None, List, [], ◌∷◌, ◌++◌, append_assoc, append-nil, codes, decimal}
use Rattle.std.proofs.lemmas.Bool.{and_from}
use Rattle.std.proofs.lemmas.Bool.Decides.{nat_tests}
use Rattle.std.proofs.lemmas.List.{append_cancel_left}
use Rattle.std.specs.List.{list_all}
use Rattle.jac_value.specs.Quoted.{hex_digit, hex_escape, escaped_byte, all_escaped, quoted_bytes}
use Rattle.jac_events.specs.declared.event.Event.{Event}
use Rattle.jac_events.specs.declared.event.Event.TheVariants.{Ask as Asking, Begin, Piece, Finish}
use Rattle.jac_hub.specs.Hearing.{Source, asked, connection}
use Rattle.jac_hub.specs.Heard.{Connections, after_both}
use Rattle.jac_hub.specs.Served.{is_shut}
use Rattle.jac_replies.specs.declared.answer.Answer.{Answer}
use Rattle.jac_replies.specs.declared.answer.Ask.{Ask}
use Rattle.jac_replies.specs.declared.reply.Spelling.TheVariants as spellings
use Rattle.jac_replies.specs.Spelled.{location_text, printed_body, closed_text}
use Rattle.jac_serve_events.specs.AnswerSpec.{LogSubject, LogEntry, AnswerSpec, hearing}
use Rattle.jac_serve_events.specs.Log.{method_of, answer_bytes, reply_on, entry_on, replies_text, closing_text, event_text, Brings}
use Rattle.jac_run_laws.specs.Audited.{IsSmallSource, HaveSmallSources, IsAuditedAlike, AreAuditedAlike, AreToldAlike}
use Rattle.jac_run_laws.proofs.AuditLines.{all_append, all_through, numerals, is_numeral, cut, label_injective}

-- ---- a line ends at its line feed

-- A byte within a line.
abbrev pub is_in_line : ℕ → Bool
is_in_line c = not (c == 10)

numeral_in_line : (c : ℕ) → is_numeral c ≡ true → is_in_line c ≡ true
numeral_in_line c h = let off : (c == 10) ≡ false = grind (arith, nat_tests, h) in ap not off

decimal_in_line : (n : ℕ) → list_all is_in_line (decimal n) ≡ true
decimal_in_line n = all_through is_numeral is_in_line numeral_in_line (decimal n) (numerals n)

digit_by : (b : Bool) (n : ℕ) → is_in_line (if b then 48 + n else 87 + n) ≡ true
digit_by true n = let off : ((48 + n) == 10) ≡ false = grind (arith, nat_tests) in ap not off
digit_by false n = let off : ((87 + n) == 10) ≡ false = grind (arith, nat_tests) in ap not off

digit_in_line : (n : ℕ) → is_in_line (hex_digit n) ≡ true
digit_in_line n = digit_by (nat_lt n 10) n

hex_in_line : (b : ℕ) → list_all is_in_line (hex_escape b) ≡ true
hex_in_line b =
    and_from (is_in_line (hex_digit (b / 16))) (list_all is_in_line (hex_digit (b % 16) ∷ [])) (digit_in_line (b / 16))
    (and_from (is_in_line (hex_digit (b % 16))) true (digit_in_line (b % 16)) refl)

escaped_by : (b : ℕ) (feed turn slash quote plain : Bool) → (feed ≡ false → is_in_line b ≡ true)
    → list_all is_in_line (if feed then codes "\\n" else if turn then codes "\\r" else if slash then codes "\\\\" else if quote then codes "\\\"" else if plain then b ∷ [] else hex_escape b) ≡ true
escaped_by b true turn slash quote plain off = refl
escaped_by b false true slash quote plain off = refl
escaped_by b false false true quote plain off = refl
escaped_by b false false false true plain off = refl
escaped_by b false false false false true off = and_from (is_in_line b) true (off refl) refl
escaped_by b false false false false false off = hex_in_line b

escaped_in_line : (b : ℕ) → list_all is_in_line (escaped_byte b) ≡ true
escaped_in_line b = escaped_by b (b == 10) (b == 13) (b == 92) (b == 34) (nat_le 32 b && nat_le b 126) (λ off. ap not off)

all_escaped_in_line : (bytes : List ℕ) → list_all is_in_line (all_escaped bytes) ≡ true
all_escaped_in_line [] = refl
all_escaped_in_line (b ∷ bytes) = all_append is_in_line (escaped_byte b) (all_escaped bytes) (escaped_in_line b) (all_escaped_in_line bytes)

quoted_in_line : (bytes : List ℕ) → list_all is_in_line (quoted_bytes bytes) ≡ true
quoted_in_line bytes =
    all_append is_in_line (codes "\"" ++ all_escaped bytes) (codes "\"")
    (all_append is_in_line (codes "\"") (all_escaped bytes) refl (all_escaped_in_line bytes)) refl

-- ---- the line of a reply, without its end

abbrev pub reply_line : Source → LogSubject → Answer → List ℕ
reply_line asked subject answer =
    codes "reply " ++ decimal answer.status ++ codes " " ++ quoted_bytes (location_text answer.location)
    ++ codes " " ++ quoted_bytes (printed_body (method_of subject) answer.body)
reply_line (connection c) subject answer = codes "sent " ++ decimal c ++ codes " " ++ quoted_bytes (answer_bytes subject answer)

reply_ends : (s : Source) (subject : LogSubject) (answer : Answer) → reply_on spellings.Quoted s subject answer ≡ reply_line s subject answer ++ 10 ∷ []
reply_ends asked subject answer = refl
reply_ends (connection c) subject answer = refl

reply_in_line : (s : Source) (subject : LogSubject) (answer : Answer) → list_all is_in_line (reply_line s subject answer) ≡ true
reply_in_line asked subject answer =
    let status = decimal answer.status in
    let location = quoted_bytes (location_text answer.location) in
    let body = quoted_bytes (printed_body (method_of subject) answer.body) in
    let first = all_append is_in_line (codes "reply ") status refl (decimal_in_line answer.status) in
    let second = all_append is_in_line (codes "reply " ++ status) (codes " ") first refl in
    let third = all_append is_in_line (codes "reply " ++ status ++ codes " ") location second (quoted_in_line (location_text answer.location)) in
    let fourth = all_append is_in_line (codes "reply " ++ status ++ codes " " ++ location) (codes " ") third refl in
    all_append is_in_line (codes "reply " ++ status ++ codes " " ++ location ++ codes " ") body fourth (quoted_in_line (printed_body (method_of subject) answer.body))
reply_in_line (connection c) subject answer =
    let bytes = quoted_bytes (answer_bytes subject answer) in
    let first = all_append is_in_line (codes "sent ") (decimal c) refl (decimal_in_line c) in
    let second = all_append is_in_line (codes "sent " ++ decimal c) (codes " ") first refl in
    all_append is_in_line (codes "sent " ++ decimal c ++ codes " ") bytes second (quoted_in_line (answer_bytes subject answer))

-- ---- the source of a line

abbrev first_byte_of : List ℕ → ℕ
first_byte_of [] = 0
first_byte_of (x ∷ xs) = x

reply_or_sent : ◌≡◌ {A = ℕ} 114 115 → ⊥
reply_or_sent same = omega (arith, same)

reply_or_closed : ◌≡◌ {A = ℕ} 114 99 → ⊥
reply_or_closed same = omega (arith, same)

sent_or_closed : ◌≡◌ {A = ℕ} 115 99 → ⊥
sent_or_closed same = omega (arith, same)

sent_shape : (number bytes : List ℕ) → codes "sent " ++ number ++ codes " " ++ bytes ≡ codes "sent " ++ (number ++ 32 ∷ bytes)
sent_shape number bytes = append_assoc (codes "sent " ++ number) (codes " ") bytes ∙ append_assoc (codes "sent ") number (32 ∷ bytes)

source_by_line : (s s' : Source) (subject subject' : LogSubject) (answer answer' : Answer) → IsSmallSource s → IsSmallSource s'
    → reply_line s subject answer ≡ reply_line s' subject' answer' → s ≡ s'
source_by_line asked asked subject subject' answer answer' small small' same = refl
source_by_line asked (connection c) subject subject' answer answer' small small' same =
    absurd (reply_or_sent (ap first_byte_of same))
source_by_line (connection c) asked subject subject' answer answer' small small' same =
    absurd (reply_or_sent (sym (ap first_byte_of same)))
source_by_line (connection c) (connection d) subject subject' answer answer' small small' same =
    let bytes = quoted_bytes (answer_bytes subject answer) in
    let bytes' = quoted_bytes (answer_bytes subject' answer') in
    let rest = append_cancel_left (codes "sent ") (decimal c ++ 32 ∷ bytes) (decimal d ++ 32 ∷ bytes')
    (sym (sent_shape (decimal c) bytes) ∙ same ∙ sent_shape (decimal d) bytes') in
    let number = (cut is_numeral 32 (decimal c) (decimal d) bytes bytes' refl (numerals c) (numerals d) rest).0 in
    ap (λ (n : ℕ). connection n) (label_injective c d small small' number)

-- ---- a text by its lines

-- The line of a reply, or the line of a closed connection.
abbrev pub TextLine : Type 0
TextLine = LogEntry ⊎ ℕ

abbrev pub line_of : TextLine → List ℕ
line_of (inl entry) = reply_line entry.source entry.subject entry.answer
line_of (inr c) = codes "closed " ++ decimal c

abbrev pub text_of : List TextLine → List ℕ
text_of [] = []
text_of (line ∷ lines) = (line_of line ++ 10 ∷ []) ++ text_of lines

abbrev pub entries_of : List TextLine → List LogEntry
entries_of [] = []
entries_of (inl entry ∷ lines) = entry ∷ entries_of lines
entries_of (inr c ∷ lines) = entries_of lines

line_in_line : (line : TextLine) → list_all is_in_line (line_of line) ≡ true
line_in_line (inl entry) = reply_in_line entry.source entry.subject entry.answer
line_in_line (inr c) = all_append is_in_line (codes "closed ") (decimal c) refl (decimal_in_line c)

text_append : (lines more : List TextLine) → text_of (lines ++ more) ≡ text_of lines ++ text_of more
text_append [] more = refl
text_append (line ∷ lines) more =
    ap (λ (t : List ℕ). (line_of line ++ 10 ∷ []) ++ t) (text_append lines more)
    ∙ sym (append_assoc (line_of line ++ 10 ∷ []) (text_of lines) (text_of more))

entries_append : (lines more : List TextLine) → entries_of (lines ++ more) ≡ entries_of lines ++ entries_of more
entries_append [] more = refl
entries_append (inl entry ∷ lines) more = ap (λ (l : List LogEntry). entry ∷ l) (entries_append lines more)
entries_append (inr c ∷ lines) more = entries_append lines more

-- The text has a line for each entry of the log, and lines of closed connections between them.
pub record IsTextOf (log : List LogEntry) (text : List ℕ) : Type 0 where
  pub lines : List TextLine
  pub text_is : text ≡ text_of lines
  pub entries_are : entries_of lines ≡ log

joined_text : (log others : List LogEntry) (text more : List ℕ) → IsTextOf log text → IsTextOf others more → IsTextOf (log ++ others) (text ++ more)
joined_text log others text more one two = record {
  lines = one.lines ++ two.lines;
  text_is = (λ i. one.text_is i ++ two.text_is i) ∙ sym (text_append one.lines two.lines);
  entries_are = entries_append one.lines two.lines ∙ (λ i. one.entries_are i ++ two.entries_are i);
}

replies_lines : (log : List LogEntry) → IsTextOf log (replies_text log)
replies_lines [] = record { lines = []; text_is = refl; entries_are = refl }
replies_lines (entry ∷ log) =
    let rest = replies_lines log in
    record {
      lines = inl entry ∷ rest.lines;
      text_is = λ i. reply_ends entry.source entry.subject entry.answer i ++ rest.text_is i;
      entries_are = ap (λ (l : List LogEntry). entry ∷ l) rest.entries_are;
    }

no_lines : IsTextOf [] []
no_lines = record { lines = []; text_is = refl; entries_are = refl }

closing_by : (b : Bool) (c : ℕ) → IsTextOf [] (if b then closed_text c else [])
closing_by true c = record { lines = inr c ∷ []; text_is = sym (append-nil (closed_text c)); entries_are = refl }
closing_by false c = no_lines

closing_lines : (event : Event) (before after : Connections Ask) → IsTextOf [] (closing_text event before after)
closing_lines (Asking viewer method path query body) before after = no_lines
closing_lines (Begin c) before after = no_lines
closing_lines (Piece c bytes) before after = closing_by (not (is_shut (before c)) && is_shut (after c)) c
closing_lines (Finish c) before after = no_lines

event_lines : (x : AnswerSpec) (event : Event) (known : Connections Ask) (mine : List LogEntry) → IsTextOf mine (event_text x event known mine)
event_lines x event known mine =
    subst (λ (l : List LogEntry). IsTextOf l (event_text x event known mine)) (append-nil mine)
    (joined_text mine [] (replies_text mine) (closing_text event known (after_both (hearing x) event mine known)) (replies_lines mine)
    (closing_lines event known (after_both (hearing x) event mine known)))

moved_text : (log other : List LogEntry) (text more : List ℕ) → log ≡ other → text ≡ more → IsTextOf other more → IsTextOf log text
moved_text log other text more same is on =
    let half = subst (λ (l : List LogEntry). IsTextOf l more) (sym same) on in
    subst (λ (t : List ℕ). IsTextOf log t) (sym is) half

pub brought_lines : (x : AnswerSpec) (known : Connections Ask) (n : ℕ) (events : List Event) (log : List LogEntry) (text : List ℕ) (later : Connections Ask)
    → Brings x known n events log text later → IsTextOf log text
brought_lines x known n [] log text later (none, is, stays) = moved_text log [] text [] none is no_lines
brought_lines x known n (event ∷ events) log text later (mine, others, rest, parts, is, brought, more) =
    moved_text log (mine ++ others) text (event_text x event known mine ++ rest) parts is
    (joined_text mine others (event_text x event known mine) rest (event_lines x event known mine)
    (brought_lines x (after_both (hearing x) event mine known) (n + 1) events others rest later more))

-- ---- two logs of one text and one audit

no_text : (a x : List ℕ) → (a ++ 10 ∷ []) ++ x ≡ [] → ⊥
no_text [] x same = cc
no_text (c ∷ a) x same = cc

line_cut : (line other : TextLine) (lines others : List TextLine) → text_of (line ∷ lines) ≡ text_of (other ∷ others)
    → (line_of line ≡ line_of other) × (text_of lines ≡ text_of others)
line_cut line other lines others same =
    cut is_in_line 10 (line_of line) (line_of other) (text_of lines) (text_of others) refl (line_in_line line) (line_in_line other)
    (sym (append_assoc (line_of line) (10 ∷ []) (text_of lines)) ∙ same ∙ append_assoc (line_of other) (10 ∷ []) (text_of others))

no_closing : (s : Source) (subject : LogSubject) (answer : Answer) (c : ℕ) → reply_line s subject answer ≡ codes "closed " ++ decimal c → ⊥
no_closing asked subject answer c same = reply_or_closed (ap first_byte_of same)
no_closing (connection d) subject answer c same = sent_or_closed (ap first_byte_of same)

told_by_lines : (lines others : List TextLine) → text_of lines ≡ text_of others → HaveSmallSources (entries_of lines) → HaveSmallSources (entries_of others)
    → AreAuditedAlike (entries_of lines) (entries_of others) → AreToldAlike (entries_of lines) (entries_of others)
told_by_lines [] [] same small small' alike = tt
told_by_lines [] (other ∷ others) same small small' alike = absurd (no_text (line_of other) (text_of others) (sym same))
told_by_lines (line ∷ lines) [] same small small' alike = absurd (no_text (line_of line) (text_of lines) same)
told_by_lines (inl one ∷ lines) (inl two ∷ others) same small small' alike =
    let parts = line_cut (inl one) (inl two) lines others same in (
      source_by_line one.source two.source one.subject two.subject one.answer two.answer small.0 small'.0 parts.0,
      alike.0,
      told_by_lines lines others parts.1 small.1 small'.1 alike.1,
    )
told_by_lines (inl one ∷ lines) (inr c ∷ others) same small small' alike =
    absurd (no_closing one.source one.subject one.answer c (line_cut (inl one) (inr c) lines others same).0)
told_by_lines (inr c ∷ lines) (inl two ∷ others) same small small' alike =
    absurd (no_closing two.source two.subject two.answer c (sym (line_cut (inr c) (inl two) lines others same).0))
told_by_lines (inr c ∷ lines) (inr d ∷ others) same small small' alike =
    told_by_lines lines others (line_cut (inr c) (inr d) lines others same).1 small small' alike

pub told_by_text : (log others : List LogEntry) (text : List ℕ) → IsTextOf log text → IsTextOf others text → HaveSmallSources log → HaveSmallSources others
    → AreAuditedAlike log others → AreToldAlike log others
told_by_text log others text one two small small' alike =
    let here = sym one.entries_are in
    let there = sym two.entries_are in
    let half = subst (λ (l : List LogEntry). AreAuditedAlike l others) here alike in
    let all = subst (λ (l : List LogEntry). AreAuditedAlike (entries_of one.lines) l) there half in
    let told = told_by_lines one.lines two.lines (sym one.text_is ∙ two.text_is) (subst HaveSmallSources here small) (subst HaveSmallSources there small') all in
    let back = subst (λ (l : List LogEntry). AreToldAlike l (entries_of two.lines)) one.entries_are told in
    subst (λ (l : List LogEntry). AreToldAlike log l) two.entries_are back
