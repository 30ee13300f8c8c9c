-- Events that bring a log, one after another.
use Rattle.std.proofs.Common.{◌≡◌, ◌∙◌, ap, sym, subst, refl, inl, inr, ℕ, ◌+◌, ◌==◌, Bool, true, false, Option, Some, None, is_some, if◌then◌else◌, List, [], ◌∷◌, ◌++◌, length, append_assoc, append-nil, arith}
use Rattle.std.proofs.lemmas.Bool.Decides.{nat_tests}
use Rattle.std.specs.Option.{option_map}
use Rattle.std.proofs.lemmas.Bool.{eqb-true}
use Rattle.jac_replies.specs.declared.answer.Answer.{Answer}
use Rattle.jac_replies.specs.declared.answer.Ask.{Ask}
use Rattle.jac_events.specs.declared.event.Event.{Event}
use Rattle.jac_events.specs.declared.event.Event.TheVariants.{Ask as Asking, Begin, Piece, Finish}
use Rattle.jac_hub.specs.Hearing.{Source, asked, connection, Hearing}
use Rattle.jac_hub.specs.Heard.{Connection, Connections, set_at, begun_connection, with_bytes, with_entry, is_closed, after_event, connections_after, after_entries, after_both, PieceBegins, IsBroughtBy, IsBegunBy, IsHeardFrom, IsHeardInPartFrom}
use Rattle.jac_serve_events.specs.AnswerSpec.{LogEntry, hearing, AnswerSpec}
use Rattle.jac_serve_events.specs.Log.{event_text, Brings}
use Rattle.jac_serve_events.specs.Script.{opened_by}
use Rattle.jac_serve_events.specs.Serve.{is_connection_open}

-- One more event.
pub brings-push : (x : AnswerSpec) (events : List Event) (known later : Connections Ask) (n : ℕ) (log mine : List LogEntry) (text : List ℕ) (event : Event)
    → Brings x known n events log text later → IsBroughtBy (hearing x) (n + length events) event later mine
    → Brings x known n (events ++ event ∷ []) (log ++ mine) (text ++ event_text x event later mine) (after_both (hearing x) event mine later)
brings-push x [] known later n log mine text event (no_log, no_text, same) brought = (
  mine,
  [],
  [],
  ap (λ (l : List LogEntry). l ++ mine) no_log ∙ sym (append-nil mine),
  ap (λ (t : List ℕ). t ++ event_text x event later mine) no_text
      ∙ ap (λ (k : Connections Ask). event_text x event k mine) same ∙ sym (append-nil (event_text x event known mine)),
  subst (λ (j : ℕ). IsBroughtBy (hearing x) j event known mine) (omega arith)
      (subst (λ (k : Connections Ask). IsBroughtBy (hearing x) (n + 0) event k mine) same brought),
  (refl, refl, ap (λ (k : Connections Ask). after_both (hearing x) event mine k) same),
)
brings-push x (first ∷ events) known later n log mine text event (front, others, rest, parts, texts, brought_first, more) brought = (
  front,
  others ++ mine,
  rest ++ event_text x event later mine,
  ap (λ (l : List LogEntry). l ++ mine) parts ∙ append_assoc front others mine,
  ap (λ (t : List ℕ). t ++ event_text x event later mine) texts
      ∙ append_assoc (event_text x first known front) rest (event_text x event later mine),
  brought_first,
  brings-push x events (after_both (hearing x) first front known) later (n + 1) others mine rest event more
      (subst (λ (j : ℕ). IsBroughtBy (hearing x) j event later mine) (omega arith) brought),
)

-- The log is what the events bring.
pub brings-heard : (x : AnswerSpec) (events : List Event) (known later : Connections Ask) (n : ℕ) (log : List LogEntry) (text : List ℕ)
    → Brings x known n events log text later → IsHeardFrom (hearing x) known n events log
brings-heard x [] known later n log text (no_log, no_text, same) = no_log
brings-heard x (first ∷ events) known later n log text (front, others, rest, parts, texts, brought, more) =
    (front, others, parts, brought, brings-heard x events (after_both (hearing x) first front known) later (n + 1) others rest more)

closed_or : (h : Hearing Ask Answer) (n c : ℕ) (bytes : List ℕ) (one : Connection Ask) (b : Bool) → is_closed one ≡ b → PieceBegins h n c bytes (Some one) []
closed_or h n c bytes one true is = inl (is, refl)
closed_or h n c bytes one false is = inr (is, tt)

piece_begins_none : (h : Hearing Ask Answer) (n c : ℕ) (bytes : List ℕ) (o : Option (Connection Ask)) → PieceBegins h n c bytes o []
piece_begins_none h n c bytes None = refl
piece_begins_none h n c bytes (Some one) = closed_or h n c bytes one (is_closed one) refl

begun_none : (h : Hearing Ask Answer) (n : ℕ) (event : Event) (known : Connections Ask) → IsBegunBy h n event known []
begun_none h n (Asking viewer method path query body) known = inl refl
begun_none h n (Begin c) known = refl
begun_none h n (Piece c bytes) known = piece_begins_none h n c bytes (known c)
begun_none h n (Finish c) known = refl

part_none : (h : Hearing Ask Answer) (known : Connections Ask) (n : ℕ) (events : List Event) → IsHeardInPartFrom h known n events []
part_none h known n [] = refl
part_none h known n (event ∷ events) = inl (begun_none h n event known)

-- The log of the first events is the beginning of what all events bring.
pub brings-part : (x : AnswerSpec) (events more : List Event) (known later : Connections Ask) (n : ℕ) (log : List LogEntry) (text : List ℕ)
    → Brings x known n events log text later → IsHeardInPartFrom (hearing x) known n (events ++ more) log
brings-part x [] more known later n log text (no_log, no_text, same) =
    subst (λ (l : List LogEntry). IsHeardInPartFrom (hearing x) known n more l) (sym no_log) (part_none (hearing x) known n more)
brings-part x (first ∷ events) more known later n log text (front, others, rest, parts, texts, brought, after) =
    inr (front, others, parts, brought, brings-part x events more (after_both (hearing x) first front known) later (n + 1) others rest after)

-- So is that log with the first entries of the next event.
pub brings-begun : (x : AnswerSpec) (events more : List Event) (event : Event) (known later : Connections Ask) (n : ℕ) (log mine : List LogEntry) (text : List ℕ)
    → Brings x known n events log text later → IsBegunBy (hearing x) (n + length events) event later mine
    → IsHeardInPartFrom (hearing x) known n (events ++ event ∷ more) (log ++ mine)
brings-begun x [] more event known later n log mine text (no_log, no_text, same) begun =
    subst (λ (l : List LogEntry). IsHeardInPartFrom (hearing x) known n (event ∷ more) (l ++ mine)) (sym no_log)
    (inl (subst (λ (j : ℕ). IsBegunBy (hearing x) j event known mine) (omega arith)
    (subst (λ (k : Connections Ask). IsBegunBy (hearing x) (n + 0) event k mine) same begun)))
brings-begun x (first ∷ events) more event known later n log mine text (front, others, rest, parts, texts, brought, after) begun =
    inr (
      front,
      others ++ mine,
      ap (λ (l : List LogEntry). l ++ mine) parts ∙ append_assoc front others mine,
      brought,
      brings-begun x events more event (after_both (hearing x) first front known) later (n + 1) others mine rest after
          (subst (λ (j : ℕ). IsBegunBy (hearing x) j event later mine) (omega arith) begun),
    )

-- Which connections are open depends on the events alone.
is_some-map : {X : Type 0} (f : X → X) (o : Option X) → is_some (option_map f o) ≡ is_some o
is_some-map f None = refl
is_some-map f (Some x) = refl

set_by : (known : Connections Ask) (o : Option (Connection Ask)) (d : ℕ) (b : Bool) → is_some (if b then o else known d) ≡ (if b then is_some o else is_some (known d))
set_by known o d true = refl
set_by known o d false = refl

open_set : (known : Connections Ask) (c d : ℕ) (o : Option (Connection Ask)) → is_connection_open (set_at c o known) d ≡ (if d == c then is_some o else is_connection_open known d)
open_set known c d o = set_by known o d (d == c)

-- If the new value is open exactly if the old one is, nothing changes.
kept_by : (b x y : Bool) → (b ≡ true → x ≡ y) → (if b then x else y) ≡ y
kept_by true x y h = h refl
kept_by false x y h = refl

open_kept : (known : Connections Ask) (c d : ℕ) (o : Option (Connection Ask)) → is_some o ≡ is_some (known c) → is_connection_open (set_at c o known) d ≡ is_connection_open known d
open_kept known c d o same =
    open_set known c d o
    ∙ kept_by (d == c) (is_some o) (is_connection_open known d) (λ is. same ∙ ap (λ (j : ℕ). is_connection_open known j) (sym (eqb-true d c is)))

begun_some : (o : Option (Connection Ask)) → is_some (begun_connection o) ≡ true
begun_some None = refl
begun_some (Some one) = refl

open_event : (event : Event) (known : Connections Ask) (d : ℕ) → is_connection_open (after_event event known) d ≡ opened_by event (is_connection_open known) d
open_event (Asking viewer method path query body) known d = refl
open_event (Begin c) known d = open_set known c d (begun_connection (known c)) ∙ ap (λ (b : Bool). if d == c then b else is_connection_open known d) (begun_some (known c))
open_event (Piece c bytes) known d = open_kept known c d (option_map (with_bytes bytes) (known c)) (is_some-map (with_bytes bytes) (known c))
open_event (Finish c) known d = open_set known c d None

open_entry : (h : Hearing Ask Answer) (source : Source) (entry : LogEntry) (known : Connections Ask) (d : ℕ) → is_connection_open (connections_after h source entry known) d ≡ is_connection_open known d
open_entry h asked entry known d = refl
open_entry h (connection c) entry known d = open_kept known c d (option_map (with_entry h entry) (known c)) (is_some-map (with_entry h entry) (known c))

open_entries : (h : Hearing Ask Answer) (mine : List LogEntry) (known : Connections Ask) (d : ℕ) → is_connection_open (after_entries h mine known) d ≡ is_connection_open known d
open_entries h [] known d = refl
open_entries h (entry ∷ mine) known d = open_entries h mine (connections_after h entry.source entry known) d ∙ open_entry h entry.source entry known d

pub open_after : (h : Hearing Ask Answer) (event : Event) (mine : List LogEntry) (known : Connections Ask) → is_connection_open (after_both h event mine known) ≡ opened_by event (is_connection_open known)
open_after h event mine known = λ i d. (open_entries h mine (after_event event known) d ∙ open_event event known d) i
