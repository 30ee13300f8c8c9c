-- Bytes have one answer. Unless it is `More`, bytes that follow don't change it.
use Rattle.std.proofs.Common.{◌≡◌, ◌≢◌, ◌∙◌, ap, sym, subst, refl, inl, inr, ℕ, zero, suc, ◌+◌, ◌-◌, ◌≤◌, nat_lt, if◌then◌else◌, Bool, true, false, Option, Some, None, List, [], ◌∷◌, ◌++◌, length, take, drop, length-append, arith}
use Rattle.std.proofs.lemmas.Bool.Decides.{nat_tests}
use Rattle.std.proofs.lemmas.List.{length-drop, length-take, take-append-le, drop-append-le}
use Rattle.httparse.specs.Grammar.{RequestHead}
use Rattle.httparse.proofs.GrammarLemmas.{request_unique}
use Rattle.jac_http.specs.declared.taken.Request.{Request}
use Rattle.jac_http.specs.declared.taken.Taken.{Taken}
use Rattle.jac_http.specs.declared.taken.Taken.TheVariants.{More, Whole, Refused}
use Rattle.jac_http.specs.Heads.{HeadParts, parts_of, ends_blank, head_from, head_in}
use Rattle.jac_http.specs.Requests.{IsHead, IsTaken, IsTakenAt, IsAnswered, without_head, answer_to, answer_by, refusal_status, body_length, request_of}
use Rattle.jac_http.specs.Reading.{IsReading, AreRead}

-- ---- answers differ

whole_no_more : (request : Request) (used : ℕ) → Whole request used ≢ More
whole_no_more request used e = cc

refused_no_more : (status : ℕ) → Refused status ≢ More
refused_no_more status e = cc

used_same : (request request' : Request) (used used' : ℕ) → Whole request used ≡ Whole request' used' → used ≡ used'
used_same request request' used used' e = cc

request_same : (request request' : Request) (used used' : ℕ) → Whole request used ≡ Whole request' used' → request ≡ request'
request_same request request' used used' e = cc

refused_other : (status : ℕ) (request : Request) (used : ℕ) → Refused status ≡ Whole request used → ⊥
refused_other status request used e = cc

no_request : (b : Bool) (request : Request) (used : ℕ) → Whole request used ≡ (if b then More else Refused 431) → ⊥
no_request true request used e = whole_no_more request used e
no_request false request used e = refused_other 431 request used (sym e)

-- ---- the head

found_in : (b : Bool) (front here : List ℕ) (on longer : Option (List ℕ)) → (on ≡ Some front → longer ≡ Some front)
    → (if b then Some here else on) ≡ Some front → (if b then Some here else longer) ≡ Some front
found_in true front here on longer step e = e
found_in false front here on longer step e = step e

-- What follows doesn't change where the head ends.
head_stays : (before xs ys front : List ℕ) → head_from before xs ≡ Some front → head_from before (xs ++ ys) ≡ Some front
head_stays before [] ys front e = cc
head_stays before (b ∷ xs) ys front e =
    found_in (ends_blank (before ++ b ∷ [])) front (before ++ b ∷ []) (head_from (before ++ b ∷ []) xs) (head_from (before ++ b ∷ []) (xs ++ ys))
    (head_stays (before ++ b ∷ []) xs ys front) e

none_some : (front : List ℕ) → None ≡ Some front → ⊥
none_some front e = cc

within_by : (b : Bool) (front here : List ℕ) (on : Option (List ℕ)) (n : ℕ) → length here ≤ n → (on ≡ Some front → length front ≤ n)
    → (if b then Some here else on) ≡ Some front → length front ≤ n
within_by true front here on n small step e = let same : here ≡ front = cc in subst (λ (xs : List ℕ). length xs ≤ n) same small
within_by false front here on n small step e = step e

head_within : (before xs front : List ℕ) → head_from before xs ≡ Some front → length front ≤ length before + length xs
head_within before [] front e = absurd (none_some front e)
head_within before (b ∷ xs) front e =
    let pushed = length-append before (b ∷ []) in
    let total : length (before ++ b ∷ []) + length xs ≡ length before + length (b ∷ xs) = omega (arith, pushed) in
    within_by (ends_blank (before ++ b ∷ [])) front (before ++ b ∷ []) (head_from (before ++ b ∷ []) xs) (length before + length (b ∷ xs))
    (omega (arith, pushed))
    (λ on. subst (λ (n : ℕ). length front ≤ n) total (head_within (before ++ b ∷ []) xs front on)) e

take_longer : (n : ℕ) (xs ys : List ℕ) → take n (xs ++ ys) ≡ take n xs ++ take (n - length xs) ys
take_longer zero xs ys = let none : 0 - length xs ≡ 0 = omega arith in rw none refl
take_longer (suc n) [] ys = let all : suc n - 0 ≡ suc n = omega arith in rw all refl
take_longer (suc n) (x ∷ xs) ys =
    let less : n - length xs ≡ suc n - length (x ∷ xs) = omega arith in
    ap (λ (l : List ℕ). x ∷ l) (take_longer n xs ys ∙ ap (λ (m : ℕ). take n xs ++ take m ys) less)

front_within : (bytes front : List ℕ) → head_in (take 8192 bytes) ≡ Some front → length front ≤ length bytes
front_within bytes front e =
    let short = head_within [] (take 8192 bytes) front e in
    let cut = length-take 8192 bytes in
    omega (arith, short, cut)

front_stays : (bytes following front : List ℕ) → head_in (take 8192 bytes) ≡ Some front → head_in (take 8192 (bytes ++ following)) ≡ Some front
front_stays bytes following front e =
    ap head_in (take_longer 8192 bytes following) ∙ head_stays [] (take 8192 bytes) (take (8192 - length bytes) following) front e

-- ---- one answer

one_answer : (front rest : List ℕ) (answer other : Taken) → IsAnswered front rest answer → IsAnswered front rest other → answer ≡ other
one_answer front rest answer other (inl (head, is, e)) (inl (head', is', e')) =
    let same = (request_unique front head head' [] [] is is').0 in
    e ∙ ap (λ (k : RequestHead). answer_to (parts_of k) (length front) rest) same ∙ sym e'
one_answer front rest answer other (inl (head, is, e)) (inr (none, e')) = absurd (none head is)
one_answer front rest answer other (inr (none, e)) (inl (head, is, e')) = absurd (none head is)
one_answer front rest answer other (inr (none, e)) (inr (none', e')) = e ∙ sym e'

one_at : (o : Option (List ℕ)) (bytes : List ℕ) (answer other : Taken) → IsTakenAt o bytes answer → IsTakenAt o bytes other → answer ≡ other
one_at None bytes answer other e e' = e ∙ sym e'
one_at (Some front) bytes answer other a b = one_answer front (drop (length front) bytes) answer other a b

-- ---- bytes that follow don't change an answer

long_by : (b : Bool) (bytes : List ℕ) → nat_lt (length bytes) 8192 ≡ b → without_head (length bytes) ≢ More → 8192 ≤ length bytes
long_by true bytes e other = absurd (other (rw e refl))
long_by false bytes e other = grind (arith, nat_tests, e)

full : (n : ℕ) → 8192 ≤ n → without_head n ≡ Refused 431
full n long = let past : nat_lt n 8192 ≡ false = grind (arith, nat_tests, long) in rw past refl

-- If the whole body is there, bytes that follow don't change the answer.
body_stays : (b : Bool) (n used : ℕ) (made : List ℕ → Request) (rest following : List ℕ) → nat_lt (length rest) n ≡ b
    → (if nat_lt (length rest) n then More else Whole (made (take n rest)) (used + n)) ≢ More
    → (if nat_lt (length (rest ++ following)) n then More else Whole (made (take n (rest ++ following))) (used + n))
    ≡ (if nat_lt (length rest) n then More else Whole (made (take n rest)) (used + n))
body_stays true n used made rest following e other = absurd (other (rw e refl))
body_stays false n used made rest following e other =
    let there : n ≤ length rest = grind (arith, nat_tests, e) in
    let longer = length-append rest following in
    let past : nat_lt (length (rest ++ following)) n ≡ false = grind (arith, nat_tests, there, longer) in
    let same = take-append-le n rest following there in
    rw (e, past, same) refl

by_stays : (o : Option ℕ) (parts : HeadParts) (used : ℕ) (rest following : List ℕ) → answer_by o parts used rest ≢ More
    → answer_by o parts used (rest ++ following) ≡ answer_by o parts used rest
by_stays (Some status) parts used rest following other = refl
by_stays None parts used rest following other =
    body_stays (nat_lt (length rest) (body_length parts)) (body_length parts) used (request_of parts) rest following refl other

answered_stays : (front rest following : List ℕ) (answer : Taken) → answer ≢ More → IsAnswered front rest answer → IsAnswered front (rest ++ following) answer
answered_stays front rest following answer other (inl (head, is, e)) =
    let stays = by_stays (refusal_status (parts_of head)) (parts_of head) (length front) rest following (λ more. other (e ∙ more)) in
    inl (head, is, e ∙ sym stays)
answered_stays front rest following answer other (inr none) = inr none

stays_at : (o : Option (List ℕ)) (bytes following : List ℕ) (answer : Taken) → head_in (take 8192 bytes) ≡ o → answer ≢ More → IsTakenAt o bytes answer
    → IsTaken (bytes ++ following) answer
stays_at None bytes following answer is other e =
    let long : 8192 ≤ length bytes = long_by (nat_lt (length bytes) 8192) bytes refl (λ more. other (e ∙ more)) in
    let longer = length-append bytes following in
    let start : None ≡ head_in (take 8192 (bytes ++ following)) = sym (ap head_in (take-append-le 8192 bytes following long) ∙ is) in
    subst (λ (o : Option (List ℕ)). IsTakenAt o (bytes ++ following) answer) start
    (e ∙ full (length bytes) long ∙ sym (full (length (bytes ++ following)) (omega (arith, long, longer))))
stays_at (Some front) bytes following answer is other answered =
    let behind = drop-append-le (length front) bytes following (front_within bytes front is) in
    subst (λ (o : Option (List ℕ)). IsTakenAt o (bytes ++ following) answer) (sym (front_stays bytes following front is))
    (subst (λ (rest : List ℕ). IsAnswered front rest answer) (sym behind) (answered_stays front (drop (length front) bytes) following answer other answered))

-- ---- a request takes no more bytes than there are

used_by : (b : Bool) (m n : ℕ) (rest : List ℕ) (made request : Request) (used : ℕ) → nat_lt (length rest) m ≡ b
    → Whole request used ≡ (if b then More else Whole made (n + m)) → used ≤ n + length rest
used_by true m n rest made request used is e = absurd (whole_no_more request used e)
used_by false m n rest made request used is e =
    let there : m ≤ length rest = grind (arith, nat_tests, is) in
    let same : used ≡ n + m = used_same request made used (n + m) e in
    omega (arith, there, same)

used_within : (o : Option ℕ) (parts : HeadParts) (n : ℕ) (rest : List ℕ) (request : Request) (used : ℕ) → Whole request used ≡ answer_by o parts n rest → used ≤ n + length rest
used_within (Some status) parts n rest request used e = absurd (refused_other status request used (sym e))
used_within None parts n rest request used e =
    used_by (nat_lt (length rest) (body_length parts)) (body_length parts) n rest (request_of parts (take (body_length parts) rest)) request used refl e

within_at : (o : Option (List ℕ)) (bytes : List ℕ) (request : Request) (used : ℕ) → head_in (take 8192 bytes) ≡ o → IsTakenAt o bytes (Whole request used) → used ≤ length bytes
within_at None bytes request used is e = absurd (no_request (nat_lt (length bytes) 8192) request used e)
within_at (Some front) bytes request used is (inl (head, of, e)) =
    let fits = front_within bytes front is in
    let cut = length-drop (length front) bytes in
    let within = used_within (refusal_status (parts_of head)) (parts_of head) (length front) (drop (length front) bytes) request used e in
    omega (arith, fits, cut, within)
within_at (Some front) bytes request used is (inr (none, e)) = absurd (refused_other 400 request used (sym e))

pub reading : IsReading IsTaken
reading = record {
  one = λ bytes answer other a b. one_at (head_in (take 8192 bytes)) bytes answer other a b;
  stays = λ bytes following answer other a. stays_at (head_in (take 8192 bytes)) bytes following answer refl other a;
  within = λ bytes request used a. within_at (head_in (take 8192 bytes)) bytes request used refl a;
}

-- ---- all bytes have an answer

some_answer : (front rest : List ℕ) → ((answer : Taken) → IsAnswered front rest answer → ⊥) → ⊥
some_answer front rest none =
    none (Refused 400)
    (inr ((λ (head : RequestHead) (is : IsHead front head). none (answer_to (parts_of head) (length front) rest) (inl (head, is, refl))), refl))

some_at : (o : Option (List ℕ)) (bytes : List ℕ) → ((answer : Taken) → IsTakenAt o bytes answer → ⊥) → ⊥
some_at None bytes none = none (without_head (length bytes)) refl
some_at (Some front) bytes none = some_answer front (drop (length front) bytes) none

pub all_answered : (bytes : List ℕ) → ((answer : Taken) → IsTaken bytes answer → ⊥) → ⊥
all_answered bytes none = some_at (head_in (take 8192 bytes)) bytes none

-- ---- beginnings and cuttings

some_length : (xs : List ℕ) → xs ≢ [] → 1 ≤ length xs
some_length [] some = absurd (some refl)
some_length (x ∷ xs) some = omega arith

-- If the answer to a beginning of the bytes isn't `More`, it is the answer to all of them.
read_both : (bytes following : List ℕ) (request : Request) (used : ℕ) (answer : Taken) → answer ≢ More → IsTaken (bytes ++ following) (Whole request used)
    → IsTaken bytes answer → answer ≡ Whole request used
read_both bytes following request used answer other whole is =
    reading.one (bytes ++ following) answer (Whole request used) (reading.stays bytes following answer other is) whole

pub beginning : (bytes following : List ℕ) (request : Request) (answer : Taken) → following ≢ [] → IsTaken (bytes ++ following) (Whole request (length (bytes ++ following)))
    → IsTaken bytes answer → answer ≡ More
beginning bytes following request More some whole is = refl
beginning bytes following request (Refused status) some whole is =
    absurd (refused_other status request (length (bytes ++ following))
    (read_both bytes following request (length (bytes ++ following)) (Refused status) (refused_no_more status) whole is))
beginning bytes following request (Whole other used) some whole is =
    let both = read_both bytes following request (length (bytes ++ following)) (Whole other used) (whole_no_more other used) whole is in
    let same = used_same other request used (length (bytes ++ following)) both in
    let fits = reading.within bytes other used is in
    let longer = length-append bytes following in
    let one = some_length following some in
    absurd (omega (arith, same, fits, longer, one))

nothing_read : (bytes : List ℕ) (request : Request) (used : ℕ) → bytes ≡ [] → IsTaken bytes (Whole request used) → ⊥
nothing_read bytes request used none is =
    let at : IsTaken [] (Whole request used) = subst (λ (xs : List ℕ). IsTaken xs (Whole request used)) none is in
    whole_no_more request used at

first_none : (xs ys : List ℕ) → [] ≡ xs ++ ys → xs ≡ []
first_none [] ys e = refl
first_none (x ∷ xs) ys e = cc

pub cutting : (first second : List ℕ) (all some : List Request) (rest : List ℕ) → AreRead (first ++ second) all [] → AreRead first some rest
    → (others : List Request) × (all ≡ some ++ others) × AreRead (rest ++ second) others []
cutting first second all [] rest stream part = (all, refl, subst (λ (xs : List ℕ). AreRead (xs ++ second) all []) (sym part) stream)
cutting first second [] (request ∷ some) rest stream (used, is, part) = absurd (nothing_read first request used (first_none first second stream) is)
cutting first second (request' ∷ all) (request ∷ some) rest (used', is', stream) (used, is, part) =
    let both = read_both first second request' used' (Whole request used) (whole_no_more request used) is' is in
    let behind : drop used' (first ++ second) ≡ drop used first ++ second =
    ap (λ (n : ℕ). drop n (first ++ second)) (sym (used_same request request' used used' both)) ∙ drop-append-le used first second (reading.within first request used is) in
    let on = cutting (drop used first) second all some rest (subst (λ (xs : List ℕ). AreRead xs all []) behind stream) part in
    (on.0, (λ i. sym (request_same request request' used used' both) i ∷ on.1 i), on.2)
