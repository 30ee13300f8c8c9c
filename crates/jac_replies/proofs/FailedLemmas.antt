-- The lines of a request that wasn't answered.
use Rattle.std.proofs.Common.{◌≡◌, refl, ℕ, true, false, Option, None, List, ◌++◌, append_assoc, codes}
use Rattle.std.specs.Fmt.{decimal, digits}
use Rattle.std.specs.Str.{bytes_eq}
use Rattle.jac_replies.specs.Refused.{refusal}
use Rattle.jac_replies.specs.Spelled.{reply_text, audit_text, viewer_text}

decimal-500 : decimal 500 ≡ codes "500"
unfolding digits
decimal-500 = refl

decimal-503 : decimal 503 ≡ codes "503"
unfolding digits
decimal-503 = refl

pub keeper_status : codes " 503 " ≡ codes " " ++ decimal 503 ++ codes " "
keeper_status = rw decimal-503 refl

pub memory_status : codes " 500 " ≡ codes " " ++ decimal 500 ++ codes " "
memory_status = rw decimal-500 refl

-- The pieces of the audit line.
pub failed_audit : (k status : ℕ) (viewer : Option ℕ) (number words looks : List ℕ)
    → number ≡ decimal k → words ≡ codes " " ++ decimal status ++ codes " " → looks ≡ viewer_text viewer
    → number ++ words ++ looks ++ codes " nopage\n" ≡ audit_text k status viewer None None
failed_audit k status viewer number words looks is_number is_words is_viewer = rw (is_number, is_words, is_viewer) (simp append_assoc)

pub keeper_head : (method : List ℕ) → bytes_eq method (codes "HEAD") ≡ true → codes "reply 503 \"\" \"\"\n" ≡ reply_text method 503 None (refusal 503 None).body
keeper_head method e = rw (e, decimal-503) refl

pub keeper_body : (method : List ℕ) → bytes_eq method (codes "HEAD") ≡ false → codes "reply 503 \"\" \"503 Service Unavailable\\n\"\n" ≡ reply_text method 503 None (refusal 503 None).body
keeper_body method e = rw (e, decimal-503) refl

pub memory_head : (method : List ℕ) → bytes_eq method (codes "HEAD") ≡ true → codes "reply 500 \"\" \"\"\n" ≡ reply_text method 500 None (refusal 500 None).body
memory_head method e = rw (e, decimal-500) refl

pub memory_body : (method : List ℕ) → bytes_eq method (codes "HEAD") ≡ false → codes "reply 500 \"\" \"500 Internal Server Error\\n\"\n" ≡ reply_text method 500 None (refusal 500 None).body
memory_body method e = rw (e, decimal-500) refl

-- Only the bodies.
pub keeper_text : codes "503 Service Unavailable\n" ≡ (refusal 503 None).body
keeper_text = rw decimal-503 refl

pub memory_text : codes "500 Internal Server Error\n" ≡ (refusal 500 None).body
memory_text = rw decimal-500 refl
