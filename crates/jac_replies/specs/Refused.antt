-- A reply without a page.
use Rattle.std.specs.Prelude.{ℕ, ◌==◌, ◌++◌, if◌then◌else◌, Option, None, List, [], ◌∷◌, codes, decimal}
use Rattle.jac_replies.specs.declared.answer.Answer.{Answer}

-- The reason phrase of a status (RFC 9110, section 15, and RFC 4918, section 11.5).
abbrev pub reason : ℕ → List ℕ
reason status =
    if status == 404 then codes "Not Found" else
    if status == 405 then codes "Method Not Allowed" else
    if status == 500 then codes "Internal Server Error" else
    if status == 503 then codes "Service Unavailable" else
    if status == 507 then codes "Insufficient Storage" else
    []

abbrev pub fixed_body : ℕ → List ℕ
fixed_body status = decimal status ++ codes " " ++ reason status ++ 10 ∷ []

-- An answer without a page.
abbrev pub refusal : ℕ → Option (List ℕ) → Answer
refusal status allow =
    record {
      status = status;
      location = None;
      allow = allow;
      body = fixed_body status;
      shown = None;
      consulted = None;
    }
