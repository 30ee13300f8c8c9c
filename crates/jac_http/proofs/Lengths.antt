-- The length of a body that isn't refused.
use Rattle.std.proofs.Common.{◌≡◌, refl, ℕ, min, not, nat_lt, Bool, true, false, Option, Some, None, [], ◌∷◌, length, arith}
use Rattle.std.specs.Option.{option_map, unwrap_or, is_none}
use Rattle.std.proofs.lemmas.Bool.Decides.{nat_tests}
use Rattle.jac_http.specs.Heads.{HeadParts}
use Rattle.jac_http.specs.Parts.{is_target}
use Rattle.jac_http.specs.Requests.{first_status, refusal_status, stated_length_of, body_length, lacks_host, has_coding, posts_no_form}

limit_fails : (a b c d e f g : Bool)
    → first_status ((a, 431) ∷ (b, 400) ∷ (c, 400) ∷ (d, 501) ∷ (e, 400) ∷ (f, 413) ∷ (g, 415) ∷ []) ≡ None → f ≡ false
limit_fails true b c d e f g h = cc
limit_fails false true c d e f g h = cc
limit_fails false false true d e f g h = cc
limit_fails false false false true e f g h = cc
limit_fails false false false false true f g h = cc
limit_fails false false false false false true g h = cc
limit_fails false false false false false false g h = refl

not_cut : (o : Option ℕ) → nat_lt 65536 (unwrap_or o 0) ≡ false → unwrap_or (option_map (min 65537) o) 0 ≡ unwrap_or o 0
not_cut None e = refl
not_cut (Some n) e = grind (arith, nat_tests, e)

pub unrefused_length : (head : HeadParts) → refusal_status head ≡ None → unwrap_or (option_map (min 65537) (stated_length_of head)) 0 ≡ body_length head
unrefused_length head h =
    not_cut (stated_length_of head)
    (limit_fails (nat_lt 64 (length head.headers)) (not (is_target head.target)) (lacks_host head) (has_coding head) (is_none (stated_length_of head))
    (nat_lt 65536 (body_length head)) (posts_no_form head) h)
