-- What the first bytes of a connection are: a request, a refused one, or a part of one.
use Rattle.std.specs.Prelude.{◌≡◌, ℕ, ◌+◌, ◌⊎◌, Bool, ◌==◌, ◌&&◌, ◌||◌, not, nat_lt, if◌then◌else◌, Option, Some, None, is_none, unwrap_or, List, [], ◌∷◌, length, take, drop, codes}
use Rattle.std.specs.List.{list_any}
use Rattle.std.specs.Str.{bytes_eq}
use Rattle.httparse.specs.Grammar.{RequestHead, ReadsRequest}
use Rattle.jac_http.specs.declared.taken.Request.{Request}
use Rattle.jac_http.specs.declared.taken.Taken.{Taken}
use Rattle.jac_http.specs.declared.taken.Taken.TheVariants.{More, Whole, Refused}
use Rattle.jac_http.specs.Heads.{HeadParts, parts_of, head_in}
use Rattle.jac_http.specs.Parts.{values_of, stated_length, has_no_form, is_closing, is_target, path_of_target, query_of, token_of}

abbrev pub stated_length_of : HeadParts → Option ℕ
stated_length_of head = stated_length (values_of (codes "content-length") head.headers)

abbrev pub body_length : HeadParts → ℕ
body_length head = unwrap_or (stated_length_of head) 0

-- Version 1.1 requires exactly one Host header.
abbrev pub lacks_host : HeadParts → Bool
lacks_host head = head.minor == 1 && not (length (values_of (codes "host") head.headers) == 1)

abbrev pub has_coding : HeadParts → Bool
has_coding head = nat_lt 0 (length (values_of (codes "transfer-encoding") head.headers))

-- A POST with a body, and with a first Content-Type that isn't that of a form.
abbrev pub posts_no_form : HeadParts → Bool
posts_no_form head =
    bytes_eq head.method (codes "POST") && nat_lt 0 (body_length head) && has_no_form
    (values_of (codes "content-type") head.headers)

-- The status of the first row whose test holds.
abbrev pub first_status : List (Bool × ℕ) → Option ℕ
first_status [] = None
first_status (row ∷ rows) = if row.0 then Some row.1 else first_status rows

-- The status with which a head is refused, if it is.
abbrev pub refusal_status : HeadParts → Option ℕ
refusal_status head = first_status (
    (nat_lt 64 (length head.headers), 431)
    ∷ (not (is_target head.target), 400)
    ∷ (lacks_host head, 400)
    ∷ (has_coding head, 501)
    ∷ (is_none (stated_length_of head), 400)
    ∷ (nat_lt 65536 (body_length head), 413)
    ∷ (posts_no_form head, 415)
    ∷ [])

abbrev pub closes : HeadParts → Bool
closes head = head.minor == 0 || list_any is_closing (values_of (codes "connection") head.headers)

abbrev pub request_of : HeadParts → List ℕ → Request
request_of head body = record {
  method = head.method;
  path = path_of_target head.target;
  query = query_of head.target;
  body = body;
  token = token_of (values_of (codes "cookie") head.headers);
  close = closes head;
}

-- If the head isn't refused: its request if `rest` has the whole body, and `More` otherwise.
abbrev pub with_body : HeadParts → ℕ → List ℕ → Taken
with_body head used rest =
    if nat_lt (length rest) (body_length head) then More
    else Whole (request_of head (take (body_length head) rest)) (used + body_length head)

abbrev pub answer_by : Option ℕ → HeadParts → ℕ → List ℕ → Taken
answer_by (Some status) head used rest = Refused status
answer_by None head used rest = with_body head used rest

-- The answer to a head of `used` bytes, followed by `rest`.
abbrev pub answer_to : HeadParts → ℕ → List ℕ → Taken
answer_to head used rest = answer_by (refusal_status head) head used rest

-- The bytes are a head of the grammar, and nothing else.
abbrev pub IsHead : List ℕ → RequestHead → Type 0
IsHead bytes head = ReadsRequest bytes head []

-- The answer if the end of the head is found: `front` are the bytes up to there, and `rest` those
-- after them.
abbrev pub IsAnswered : List ℕ → List ℕ → Taken → Type 0
IsAnswered front rest answer =
    ((head : RequestHead) × IsHead front head
    × (answer ≡ answer_to (parts_of head) (length front) rest))
    ⊎ (((head : RequestHead) → IsHead front head → ⊥) × (answer ≡ Refused 400))

abbrev pub without_head : ℕ → Taken
without_head taken = if nat_lt taken 8192 then More else Refused 431

abbrev pub IsTakenAt : Option (List ℕ) → List ℕ → Taken → Type 0
IsTakenAt None bytes answer = answer ≡ without_head (length bytes)
IsTakenAt (Some front) bytes answer = IsAnswered front (drop (length front) bytes) answer

-- The answer to these bytes. The end of the head is searched for in their first 8,192 only.
abbrev pub IsTaken : List ℕ → Taken → Type 0
IsTaken bytes answer = IsTakenAt (head_in (take 8192 bytes)) bytes answer
