-- Answers that are read are sound.
use Rattle.std.proofs.Common.{◌≡◌, subst, sym, refl, inl, inr, ℕ, ◌+◌, ◌<◌, Bool, true, false, Option, Some, None, Result, Ok, Err, IfOk, is_none, List, [], ◌∷◌, ◌++◌, length, length-append, arith, take, drop, not, nat_lt, if◌then◌else◌}
use Rattle.jac_value.specs.declared.memory.Memory.{Memory}
use Rattle.jac_http.specs.declared.taken.Request.{Request}
use Rattle.jac_http.specs.declared.taken.Taken.{Taken}
use Rattle.jac_http.specs.declared.taken.Taken.TheVariants.{More, Whole, Refused}
use Rattle.jac_http.specs.Heads.{HeadParts, parts_of, ends_blank, head_from, head_in}
use Rattle.jac_http.specs.Requests.{refusal_status, first_status, lacks_host, has_coding, stated_length_of, posts_no_form, request_of, body_length, answer_by, IsTaken, IsTakenAt}
use Rattle.jac_http.specs.Parts.{is_target}
use Rattle.jac_http.specs.Reading.{IsReading}
use Rattle.jac_hub.specs.Refusals.{is_refusal, IsSoundAnswer}

same_status : (status other : ℕ) → Refused status ≡ Refused other → other ≡ status
same_status status other e = cc

no_more : (status : ℕ) → Refused status ≡ More → ⊥
no_more status e = cc

no_whole : (status : ℕ) (request : Request) (used : ℕ) → Refused status ≡ Whole request used → ⊥
no_whole status request used e = cc

whole_no_more : (request : Request) (used : ℕ) → Whole request used ≡ More → ⊥
whole_no_more request used e = cc

none_some : (front : List ℕ) → None ≡ Some front → ⊥
none_some front e = cc

by_row : (b : Bool) (n status : ℕ) (rest : Option ℕ) → (if b then Some n else rest) ≡ Some status → is_refusal n ≡ true
    → (rest ≡ Some status → is_refusal status ≡ true) → is_refusal status ≡ true
by_row true n status rest e here later = let same : n ≡ status = cc in subst (λ (k : ℕ). is_refusal k ≡ true) same here
by_row false n status rest e here later = later e

AllRefuse : List (Bool × ℕ) → Type 0
AllRefuse [] = Unit {0}
AllRefuse (row ∷ rows) = (is_refusal row.1 ≡ true) × AllRefuse rows

first_refuses : (rows : List (Bool × ℕ)) (status : ℕ) → AllRefuse rows → first_status rows ≡ Some status → is_refusal status ≡ true
unfolding AllRefuse
first_refuses [] status all e = absurd cc
first_refuses (row ∷ rows) status all e = by_row row.0 row.1 status (first_status rows) e all.0 (first_refuses rows status all.1)

-- Each row of the table has the status of a refusal.
row_status : (head : HeadParts) (status : ℕ) → refusal_status head ≡ Some status → is_refusal status ≡ true
unfolding AllRefuse
row_status head status e =
    let rows : List (Bool × ℕ) =
    (nat_lt 64 (length head.headers), 431) ∷ ((not (is_target head.target), 400) ∷ ((lacks_host head, 400) ∷ ((has_coding head, 501)
    ∷ ((is_none (stated_length_of head), 400) ∷ ((nat_lt 65536 (body_length head), 413) ∷ ((posts_no_form head, 415) ∷ [])))))) in
    first_refuses rows status (refl, (refl, (refl, (refl, (refl, (refl, (refl, tt))))))) e

no_body : (b : Bool) (status : ℕ) (request : Request) (used : ℕ) → Refused status ≡ (if b then More else Whole request used) → ⊥
no_body true status request used e = no_more status e
no_body false status request used e = no_whole status request used e

answered_status : (o : Option ℕ) (head : HeadParts) (used : ℕ) (rest : List ℕ) (status : ℕ) → refusal_status head ≡ o → Refused status ≡ answer_by o head used rest
    → is_refusal status ≡ true
answered_status (Some other) head used rest status is e =
    subst (λ (k : ℕ). is_refusal k ≡ true) (same_status status other e) (row_status head other is)
answered_status None head used rest status is e =
    absurd (no_body (nat_lt (length rest) (body_length head)) status (request_of head (take (body_length head) rest)) (used + body_length head) e)

no_head : (b : Bool) (status : ℕ) → Refused status ≡ (if b then More else Refused 431) → is_refusal status ≡ true
no_head true status e = absurd (no_more status e)
no_head false status e = subst (λ (k : ℕ). is_refusal k ≡ true) (same_status status 431 e) refl

refused_at : (o : Option (List ℕ)) (bytes : List ℕ) (status : ℕ) → IsTakenAt o bytes (Refused status) → is_refusal status ≡ true
refused_at None bytes status e = no_head (nat_lt (length bytes) 8192) status e
refused_at (Some front) bytes status (inl (head, is, e)) =
    answered_status (refusal_status (parts_of head)) (parts_of head) (length front) (drop (length front) bytes) status refl e
refused_at (Some front) bytes status (inr (none, e)) = subst (λ (k : ℕ). is_refusal k ≡ true) (same_status status 400 e) refl

some_by : (b : Bool) (front here : List ℕ) (on : Option (List ℕ)) → 0 < length here → (on ≡ Some front → 0 < length front)
    → (if b then Some here else on) ≡ Some front → 0 < length front
some_by true front here on some later e = let same : here ≡ front = cc in subst (λ (xs : List ℕ). 0 < length xs) same some
some_by false front here on some later e = later e

-- A head isn't empty.
some_front : (before xs front : List ℕ) → head_from before xs ≡ Some front → 0 < length front
some_front before [] front e = absurd (none_some front e)
some_front before (b ∷ xs) front e =
    some_by (ends_blank (before ++ b ∷ [])) front (before ++ b ∷ []) (head_from (before ++ b ∷ []) xs)
    (omega (arith, length-append before (b ∷ []))) (some_front (before ++ b ∷ []) xs front) e

some_used : (b : Bool) (request other : Request) (used n m : ℕ) → 0 < n → Whole request used ≡ (if b then More else Whole other (n + m)) → 0 < used
some_used true request other used n m some e = absurd (whole_no_more request used e)
some_used false request other used n m some e = let same : used ≡ n + m = cc in omega (arith, same, some)

answered_used : (o : Option ℕ) (head : HeadParts) (n : ℕ) (rest : List ℕ) (request : Request) (used : ℕ) → 0 < n → Whole request used ≡ answer_by o head n rest → 0 < used
answered_used (Some status) head n rest request used some e = absurd (no_whole status request used (sym e))
answered_used None head n rest request used some e =
    some_used (nat_lt (length rest) (body_length head)) request (request_of head (take (body_length head) rest)) used n (body_length head) some e

no_request : (b : Bool) (request : Request) (used : ℕ) → Whole request used ≡ (if b then More else Refused 431) → ⊥
no_request true request used e = whole_no_more request used e
no_request false request used e = no_whole 431 request used (sym e)

used_at : (o : Option (List ℕ)) (bytes : List ℕ) (request : Request) (used : ℕ) → ((front : List ℕ) → o ≡ Some front → 0 < length front)
    → IsTakenAt o bytes (Whole request used) → 0 < used
used_at None bytes request used some e = absurd (no_request (nat_lt (length bytes) 8192) request used e)
used_at (Some front) bytes request used some (inl (head, is, e)) =
    answered_used (refusal_status (parts_of head)) (parts_of head) (length front) (drop (length front) bytes) request used (some front refl) e
used_at (Some front) bytes request used some (inr (none, e)) = absurd (no_whole 400 request used (sym e))

sound : IsReading IsTaken → (bytes : List ℕ) (taken : Taken) → IsTaken bytes taken → IsSoundAnswer bytes taken
sound law bytes More reads = tt
sound law bytes (Whole request used) reads =
    (used_at (head_in (take 8192 bytes)) bytes request used (some_front [] (take 8192 bytes)) reads, law.within bytes request used reads)
sound law bytes (Refused status) reads = refused_at (head_in (take 8192 bytes)) bytes status reads

-- An answer that was taken from the bytes is sound.
pub all_sound : IsReading IsTaken → (bytes : List ℕ) (result : Result Taken Memory) → IfOk result (λ taken. IsTaken bytes taken) → IfOk result (λ taken. IsSoundAnswer bytes taken)
all_sound law bytes (Ok taken) reads = sound law bytes taken reads
all_sound law bytes (Err memory) reads = tt
