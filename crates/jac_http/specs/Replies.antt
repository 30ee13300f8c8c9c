-- The bytes of a reply (RFC 9112, section 2.1).
use Rattle.std.specs.Prelude.{ℕ, Bool, if◌then◌else◌, ◌==◌, Option, Some, None, List, [], ◌∷◌, ◌++◌, length, codes, decimal, unwrap_or}
use Rattle.jac_http.specs.declared.reply.Fixed.{Fixed}
use Rattle.jac_http.specs.declared.reply.Fixed.TheVariants.{Memory500, Keeper503}

-- The statuses that a reply may have, with their phrases.
abbrev pub statuses : List (ℕ × List ℕ)
statuses =
    (200, codes "OK") ∷ (303, codes "See Other") ∷ (400, codes "Bad Request")
    ∷ (404, codes "Not Found")
    ∷ (405, codes "Method Not Allowed") ∷ (413, codes "Content Too Large")
    ∷ (415, codes "Unsupported Media Type")
    ∷ (431, codes "Request Header Fields Too Large") ∷ (500, codes "Internal Server Error")
    ∷ (501, codes "Not Implemented")
    ∷ (503, codes "Service Unavailable") ∷ (507, codes "Insufficient Storage") ∷ []

abbrev pub phrase_in : List (ℕ × List ℕ) → ℕ → Option (List ℕ)
phrase_in [] status = None
phrase_in (row ∷ rows) status = if status == row.0 then Some row.1 else phrase_in rows status

unfoldable pub phrase_of : ℕ → Option (List ℕ)
phrase_of status = phrase_in statuses status

-- `STATUS PHRASE`.
abbrev pub status_text : ℕ → List ℕ
status_text status = decimal status ++ codes " " ++ unwrap_or (phrase_of status) []

abbrev pub field_line : List ℕ → List ℕ → List ℕ
field_line name value = name ++ codes ": " ++ value ++ codes "\r\n"

abbrev pub field_line_if : List ℕ → Option (List ℕ) → List ℕ
field_line_if name None = []
field_line_if name (Some value) = field_line name value

abbrev pub media_type : Bool → List ℕ
media_type page = if page then codes "text/html; charset=utf-8"
    else codes "text/plain; charset=utf-8"

-- Without a page, the body is the status, its phrase and LF.
abbrev pub reply_body : ℕ → List ℕ → Bool → List ℕ
reply_body status body page = if page then body else status_text status ++ codes "\n"

unfoldable pub status_line : ℕ → List ℕ
status_line status = codes "HTTP/1.1 " ++ status_text status ++ codes "\r\n"

unfoldable pub content_lines : Bool → ℕ → List ℕ
content_lines page length = field_line (codes "Content-Type") (media_type page) ++ field_line
    (codes "Content-Length") (decimal length)

-- A header that doesn't apply has no line.
unfoldable pub further_lines : Option (List ℕ) → Option (List ℕ) → Bool → List ℕ
further_lines location allow close =
    field_line_if (codes "Location") location ++ field_line_if (codes "Allow") allow
    ++ (if close then field_line (codes "Connection") (codes "close") else [])

abbrev pub reply_bytes : ℕ → Option (List ℕ) → Option (List ℕ) → List ℕ → Bool → Bool → Bool
    → List ℕ
reply_bytes status location allow body page head close =
    let content = reply_body status body page in
    status_line status ++ content_lines page (length content) ++ further_lines location allow close
    ++ codes "\r\n"
    ++ (if head then [] else content)

abbrev pub status_of_fixed : Fixed → ℕ
status_of_fixed Memory500 = 500
status_of_fixed Keeper503 = 503
