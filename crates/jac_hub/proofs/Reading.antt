-- More bytes don't change what was read.
use Rattle.std.proofs.Common.{◌≡◌, ◌≢◌, ◌∙◌, ap, sym, subst, refl, ℕ, ◌≤◌, List, [], ◌∷◌, ◌++◌, drop, length}
use Rattle.std.proofs.lemmas.List.{drop-append-le}
use Rattle.jac_http.specs.declared.taken.Request.{Request}
use Rattle.jac_http.specs.declared.taken.Taken.TheVariants.{More, Whole, Refused}
use Rattle.jac_http.specs.Reading.{IsReading}
use Rattle.jac_hub.specs.Hearing.{Subject, whole, refused, broken, Hearing}
use Rattle.jac_hub.specs.Heard.{StandsAt, StandAt}

whole_no_more : (request : Request) (used : ℕ) → Whole request used ≢ More
whole_no_more request used e = cc

refused_no_more : (status : ℕ) → Refused status ≢ More
refused_no_more status e = cc

-- If more bytes are appended, they come after what follows the subject.
pub stands-longer : {I A : Type 0} (h : Hearing I A) → IsReading h.reads → (subject : Subject I) (from to bytes : List ℕ)
    → StandsAt h subject from to → StandsAt h subject (from ++ bytes) (to ++ bytes)
stands-longer h law (whole inquiry close) from to bytes (request, used, reads, i, c, at) =
    let within : used ≤ length from = law.within from request used reads in
    let moved : to ++ bytes ≡ drop used (from ++ bytes) = ap (λ (t : List ℕ). t ++ bytes) at ∙ sym (drop-append-le used from bytes within) in
    (request, used, law.stays from bytes (Whole request used) (whole_no_more request used) reads, i, c, moved)
stands-longer h law (refused status) from to bytes (reads, at) =
    (law.stays from bytes (Refused status) (refused_no_more status) reads, ap (λ (t : List ℕ). t ++ bytes) at)
stands-longer h law broken from to bytes at = ap (λ (t : List ℕ). t ++ bytes) at

pub stand-longer : {I A : Type 0} (h : Hearing I A) → IsReading h.reads → (subjects : List (Subject I)) (from to bytes : List ℕ)
    → StandAt h subjects from to → StandAt h subjects (from ++ bytes) (to ++ bytes)
stand-longer h law [] from to bytes at = ap (λ (t : List ℕ). t ++ bytes) at
stand-longer h law (subject ∷ subjects) from to bytes (rest, first, others) =
    (rest ++ bytes, stands-longer h law subject from rest bytes first, stand-longer h law subjects rest to bytes others)

-- One more subject.
pub stand-push : {I A : Type 0} (h : Hearing I A) (subjects : List (Subject I)) (subject : Subject I) (from between to : List ℕ)
    → StandAt h subjects from between → StandsAt h subject between to → StandAt h (subjects ++ subject ∷ []) from to
stand-push h [] subject from between to at one = (to, subst (λ (f : List ℕ). StandsAt h subject f to) at one, refl)
stand-push h (x ∷ subjects) subject from between to (rest, first, others) one =
    (rest, first, stand-push h subjects subject rest between to others one)
