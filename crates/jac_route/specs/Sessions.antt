-- The lines of a sessions file, and the viewer that a token stands for.
use Rattle.std.specs.Prelude.{ℕ, ◌+◌, ◌==◌, if◌then◌else◌, List, [], ◌∷◌, ◌++◌, ◌≡◌, ⊤, Option, Some, None, Result, Ok, Err}
use Rattle.std.specs.Option.{option_and_then}
use Rattle.std.specs.List.{slice_split}
use Rattle.std.specs.Str.{bytes_eq}
use Rattle.jac_value.specs.Paths.{is_nil}
use Rattle.jac_value.specs.Visitors.{is_session_token, viewer_read}
use Rattle.jac_lang.specs.Syntax.{Application}
use Rattle.jac_route.specs.declared.sessions.Session.{Session}
use Rattle.jac_route.specs.declared.sessions.SessionFault.{SessionFault}
use Rattle.jac_route.specs.declared.sessions.SessionFault.TheVariants as fault
use Rattle.jac_route.specs.Parameters.{viewer_of}
use Rattle.jac_route.specs.Words.{first_word}

-- `TOKEN VIEWER`.
abbrev pub session_of : List ℕ → Option Session
session_of line =
    option_and_then (λ words. option_and_then (λ viewer.
    if is_session_token words.0 then Some (record { token = words.0; viewer = viewer }) else None)
    (viewer_read words.1))
    (first_word line)

abbrev pub numbered_session : ℕ → Option Session → Result (Option Session) ℕ
numbered_session n None = Err n
numbered_session n (Some session) = Ok (Some session)

-- The session of the n-th line. An empty line has none, and a line of another form is refused.
abbrev pub line_read : ℕ → List ℕ → Result (Option Session) ℕ
line_read n line = if is_nil line then Ok None else numbered_session n (session_of line)

abbrev pub session_list : Option Session → List Session
session_list None = []
session_list (Some session) = session ∷ []

-- The sessions followed by the rest, if that isn't refused.
abbrev pub with_session_before : List Session → Result (List Session) ℕ → Result (List Session) ℕ
with_session_before sessions (Ok rest) = Ok (sessions ++ rest)
with_session_before sessions (Err n) = Err n

abbrev pub before_rest : Result (Option Session) ℕ → Result (List Session) ℕ
    → Result (List Session) ℕ
before_rest (Ok session) rest = with_session_before (session_list session) rest
before_rest (Err n) rest = Err n

-- The sessions of the lines from the n-th on, or the number of the first line that is refused.
abbrev pub sessions_from : ℕ → List (List ℕ) → Result (List Session) ℕ
sessions_from n [] = Ok []
sessions_from n (line ∷ lines) = before_rest (line_read n line) (sessions_from (n + 1) lines)

-- The sessions of the lines of a file. Lines are numbered from 1. The last may lack its LF.
abbrev pub sessions_in : List ℕ → Result (List Session) ℕ
sessions_in bytes = sessions_from 1 (slice_split (λ b. b == 10) bytes)

-- A bad line is the line that is refused. Nothing is said if the program is out of memory.
abbrev pub Refuses : {A : Type 0} → SessionFault → Result A ℕ → Type 0
Refuses (fault.BadLine n) read = read ≡ Err n
Refuses fault.Memory read = ⊤

-- The first session with this token.
abbrev pub session_named : List ℕ → List Session → Option Session
session_named token [] = None
session_named token (s ∷ rest) = if bytes_eq s.token token then Some s else session_named token rest

-- The viewer for a token: nobody if no session has it, if the session has no viewer, or if the
-- viewer's number is no id of the viewer's model.
abbrev pub session_viewer : List Session → Option (List ℕ) → Application → Option ℕ
session_viewer sessions token app =
    option_and_then (λ name. option_and_then (λ session. option_and_then (viewer_of app)
    session.viewer) (session_named name sessions)) token
