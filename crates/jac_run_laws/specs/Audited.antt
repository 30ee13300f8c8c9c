-- What the lines of an audit, together with the text of a replay, determine of the log.
use Rattle.std.specs.Prelude.{◌≡◌, ⊤, ℕ, ◌<◌, ◌^◌, Option, Some, None, List, [], ◌∷◌}
use Rattle.jac_hub.specs.Hearing.{Source, asked, connection}
use Rattle.jac_serve_events.specs.AnswerSpec.{LogEntry}
use Rattle.jac_serve_events.specs.Log.{viewer_of_subject}
use Rattle.jac_run_laws.specs.Replayed.{AreSmall}

abbrev pub IsSmallViewer : Option ℕ → Type 0
IsSmallViewer None = ⊤
IsSmallViewer (Some id) = id < 2 ^ 128

-- Each number of the entry's audit line has at most 128 bits. All numbers that the program writes
-- do.
pub record HasSmallNumbers (entry : LogEntry) : Type 0 where
  pub status : entry.answer.status < 2 ^ 128
  pub viewer : IsSmallViewer (viewer_of_subject entry.subject)
  pub shown : AreSmall entry.answer.shown
  pub consulted : AreSmall entry.answer.consulted

abbrev pub HaveSmallNumbers : List LogEntry → Type 0
HaveSmallNumbers [] = ⊤
HaveSmallNumbers (entry ∷ log) = HasSmallNumbers entry × HaveSmallNumbers log

abbrev pub IsSmallSource : Source → Type 0
IsSmallSource asked = ⊤
IsSmallSource (connection c) = c < 2 ^ 128

-- The numbers of all connections have at most 128 bits.
abbrev pub HaveSmallSources : List LogEntry → Type 0
HaveSmallSources [] = ⊤
HaveSmallSources (entry ∷ log) = IsSmallSource entry.source × HaveSmallSources log

-- The audit lines of both entries have the same contents, except perhaps for their numbers.
pub record IsAuditedAlike (one two : LogEntry) : Type 0 where
  pub status : one.answer.status ≡ two.answer.status
  pub viewer : viewer_of_subject one.subject ≡ viewer_of_subject two.subject
  pub shown : one.answer.shown ≡ two.answer.shown
  pub consulted : one.answer.consulted ≡ two.answer.consulted

-- Entry by entry. The logs have the same length.
abbrev pub AreAuditedAlike : List LogEntry → List LogEntry → Type 0
AreAuditedAlike [] [] = ⊤
AreAuditedAlike [] (two ∷ others) = ⊥
AreAuditedAlike (one ∷ log) [] = ⊥
AreAuditedAlike (one ∷ log) (two ∷ others) =
    IsAuditedAlike one two × AreAuditedAlike log others

-- Entry by entry, the sources and the contents of the audit lines are the same. The logs have the
-- same length.
abbrev pub AreToldAlike : List LogEntry → List LogEntry → Type 0
AreToldAlike [] [] = ⊤
AreToldAlike [] (two ∷ others) = ⊥
AreToldAlike (one ∷ log) [] = ⊥
AreToldAlike (one ∷ log) (two ∷ others) =
    (one.source ≡ two.source) × IsAuditedAlike one two × AreToldAlike log others
