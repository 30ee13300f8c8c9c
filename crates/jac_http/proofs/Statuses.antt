-- The statuses that a reply may have are written with three digits.
use Rattle.std.proofs.Common.{◌≡◌, ◌∙◌, ℕ, ◌+◌, ◌/◌, ◌%◌, ◌==◌, Bool, true, false, true≢false, IsSome, List, [], ◌∷◌, ◌++◌, decimal, if◌then◌else◌, Some, refl, sym, subst, ap, arith, rules}
use Rattle.std.specs.List.{AllByRecursion}
use Rattle.std.proofs.lemmas.Bool.Decides.{Decides-eqb}
use Rattle.std.proofs.lemmas.Fmt.{decimal_step, decimal_digit}
use Rattle.http.specs.StatusCode.{IsStatusCode, code_digits}
use Rattle.jac_http.specs.Replies.{statuses, phrase_in, phrase_of}

-- What holds for the status of each row holds for every status that has a phrase.
of_all : (P : ℕ → Type 0) (rows : List (ℕ × List ℕ)) (status : ℕ) → AllByRecursion (λ row. P row.0) rows → IsSome (phrase_in rows status) → P status
of_all P [] status all has = absurd (true≢false (sym has))
of_all P (row ∷ rows) status all has = by (λ some. of_all P rows status all.1 some) (status == row.0) refl has
  where
    by : (IsSome (phrase_in rows status) → P status) → (b : Bool) → (status == row.0) ≡ b → IsSome (if b then Some row.1 else phrase_in rows status) → P status
    by behind true same some = subst P (sym ((Decides-eqb status row.0).0 same)) all.0
    by behind false other some = behind some

all_are : AllByRecursion (λ row. IsStatusCode row.0) statuses
all_are = search rules

three_digits : (n : ℕ) → IsStatusCode n → decimal n ≡ code_digits n
three_digits n is =
    let from = is.0 in
    let to = is.1 in
    let front : n / 10 / 10 ≡ n / 100 = omega arith in
    decimal_step n (omega (arith, from)) (omega (arith, to))
    ∙ ap (λ ds. ds ++ ((48 + n % 10) ∷ []))
    (decimal_step (n / 10) (omega (arith, from)) (omega (arith, to))
    ∙ ap (λ ds. ds ++ ((48 + n / 10 % 10) ∷ [])) (decimal_digit (n / 10 / 10) (omega (arith, to))))
    ∙ ap (λ (a : ℕ). (48 + a) ∷ (48 + n / 10 % 10) ∷ (48 + n % 10) ∷ []) front

pub has_digits : (status : ℕ) → IsSome (phrase_of status) → IsStatusCode status × (code_digits status ≡ decimal status)
unfolding phrase_of
has_digits status has =
    let is = of_all IsStatusCode statuses status all_are has in
    (is, sym (three_digits status is))
