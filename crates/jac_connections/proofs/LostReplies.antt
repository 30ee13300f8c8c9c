-- A reply that was lost, after entries whose lines were all put.
use Rattle.std.proofs.Common.{◌≡◌, ◌∙◌, ap, sym, subst, refl, ℕ, ◌+◌, List, [], ◌∷◌, ◌++◌, length, append_assoc, append-nil, length-append, arith}
use Rattle.jac_replies.specs.declared.reply.Spelling.TheVariants as spellings
use Rattle.jac_serve_events.specs.declared.outputs.FailedSink.{FailedSink}
use Rattle.jac_serve_events.specs.declared.outputs.FailedSink.TheVariants as losses
use Rattle.jac_serve_events.specs.AnswerSpec.{LogEntry}
use Rattle.jac_serve_events.specs.Log.{entry_on, replies_on, audit_line, audited_from}
use Rattle.jac_serve_events.specs.Outside.{IsFront, IsLostOn}
use Rattle.jac_serve_events.specs.Serve.{IsLastLost}
use Rattle.jac_serve_events.proofs.EntriesLemmas.{replies-append, audited-append}
use Rattle.jac_serve_events.proofs.OutsideLemmas.{append-IsFront}

pub audited_on : (first count : ℕ) (log mine : List LogEntry) → count ≡ first + length log
    → audited_from (first + 1) log ++ audited_from (count + 1) mine ≡ audited_from (first + 1) (log ++ mine)
audited_on first count log mine is =
    ap (λ (n : ℕ). audited_from (first + 1) log ++ audited_from n mine) (omega (arith, is))
    ∙ sym (audited-append (first + 1) log mine)

-- The lines of the entries before these were all put.
pub last_behind : (lost : FailedSink) (first count : ℕ) (log mine : List LogEntry) (o au p bu : List ℕ)
    → count ≡ first + length log → o ≡ replies_on spellings.Raw log → au ≡ audited_from (first + 1) log
    → IsLastLost spellings.Raw lost count mine p bu → IsLastLost spellings.Raw lost first (log ++ mine) (o ++ p) (au ++ bu)
last_behind lost first count log mine o au p bu count_is out_is audit_is s = record {
  whole_ones = log ++ s.whole_ones;
  entry = s.entry;
  out_torn = s.out_torn;
  audit_torn = s.audit_torn;
  parts = ap (λ (l : List LogEntry). log ++ l) s.parts ∙ sym (append_assoc log s.whole_ones (s.entry ∷ []));
  torn =
      subst (λ (n : ℕ). IsLostOn lost (entry_on spellings.Raw s.entry) (audit_line n s.entry) s.out_torn s.audit_torn)
      (let long = length-append log s.whole_ones in omega (arith, long, count_is)) s.torn;
  out_text =
      ap (λ (t : List ℕ). t ++ p) out_is ∙ ap (λ (t : List ℕ). replies_on spellings.Raw log ++ t) s.out_text
      ∙ sym (append_assoc (replies_on spellings.Raw log) (replies_on spellings.Raw s.whole_ones) s.out_torn)
      ∙ ap (λ (t : List ℕ). t ++ s.out_torn) (sym (replies-append spellings.Raw log s.whole_ones));
  audit_text =
      ap (λ (t : List ℕ). t ++ bu) audit_is ∙ ap (λ (t : List ℕ). audited_from (first + 1) log ++ t) s.audit_text
      ∙ sym (append_assoc (audited_from (first + 1) log) (audited_from (count + 1) s.whole_ones) s.audit_torn)
      ∙ ap (λ (t : List ℕ). t ++ s.audit_torn) (audited_on first count log s.whole_ones count_is);
}

line_last : (first : ℕ) (log : List LogEntry) (entry : LogEntry)
    → audited_from (first + 1) log ++ audit_line (first + length log + 1) entry ≡ audited_from (first + 1) (log ++ entry ∷ [])
line_last first log entry =
    ap (λ (t : List ℕ). audited_from (first + 1) log ++ t) (sym (append-nil (audit_line (first + length log + 1) entry)))
    ∙ audited_on first (first + length log) log (entry ∷ []) refl

-- If a reply was lost on the link, its audit line was put.
pub lost_lines : (first : ℕ) (log : List LogEntry) (out audit : List ℕ)
    → IsLastLost spellings.Raw losses.Out first log out audit → audit ≡ audited_from (first + 1) log
lost_lines first log out audit s =
    s.audit_text ∙ ap (λ (t : List ℕ). audited_from (first + 1) s.whole_ones ++ t) s.torn.1
    ∙ line_last first s.whole_ones s.entry ∙ ap (audited_from (first + 1)) (sym s.parts)

-- If a reply was lost on the audit, a prefix of its line was put.
pub torn_lines : (first : ℕ) (log : List LogEntry) (out audit : List ℕ)
    → IsLastLost spellings.Raw losses.Audit first log out audit → IsFront audit (audited_from (first + 1) log)
torn_lines first log out audit s =
    let whole_lines = audited_from (first + 1) s.whole_ones in
    let line = audit_line (first + length s.whole_ones + 1) s.entry in
    subst (λ (t : List ℕ). IsFront t (audited_from (first + 1) log)) (sym s.audit_text)
    (subst (λ (t : List ℕ). IsFront (whole_lines ++ s.audit_torn) t)
    (line_last first s.whole_ones s.entry ∙ ap (audited_from (first + 1)) (sym s.parts))
    (append-IsFront whole_lines s.audit_torn line s.torn.1))
