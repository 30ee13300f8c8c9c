-- The lines of entries, one after another.
use Rattle.std.proofs.Common.{◌≡◌, ◌∙◌, ap, sym, subst, refl, ℕ, ◌+◌, List, [], ◌∷◌, ◌++◌, length, append_assoc, arith}
use Rattle.jac_serve_events.specs.RunSeen.{RunSeen}
use Rattle.jac_serve_events.specs.AnswerSpec.{LogEntry, AnswerSpec}
use Rattle.jac_replies.specs.declared.reply.Spelling.{Spelling}
use Rattle.jac_serve_events.specs.Log.{entry_on, replies_on, audit_line, audited_from}
use Rattle.jac_serve_events.specs.Outside.{span}

pub replies-append : (spelling : Spelling) (xs ys : List LogEntry) → replies_on spelling (xs ++ ys) ≡ replies_on spelling xs ++ replies_on spelling ys
replies-append spelling [] ys = refl
replies-append spelling (x ∷ xs) ys =
    ap (λ (rest : List ℕ). entry_on spelling x ++ rest) (replies-append spelling xs ys)
    ∙ sym (append_assoc (entry_on spelling x) (replies_on spelling xs) (replies_on spelling ys))

pub audited-append : (k : ℕ) (xs ys : List LogEntry) → audited_from k (xs ++ ys) ≡ audited_from k xs ++ audited_from (k + length xs) ys
audited-append k [] ys = ap (λ (n : ℕ). audited_from n ys) (omega arith)
audited-append k (x ∷ xs) ys =
    ap (λ (rest : List ℕ). audit_line k x ++ rest)
    (audited-append (k + 1) xs ys ∙ ap (λ (n : ℕ). audited_from (k + 1) xs ++ audited_from n ys) (omega arith))
    ∙ sym (append_assoc (audit_line k x) (audited_from (k + 1) xs) (audited_from (k + length (x ∷ xs)) ys))

-- The last step didn't change the run.
pub entries-still : (x : AnswerSpec) (a b c : RunSeen) (log : List LogEntry) → x.entries (span a b) log → c ≡ b → x.entries (span a c) log
entries-still x a b c log entries still = subst (λ (k : RunSeen). x.entries (span a k) log) (sym still) entries
