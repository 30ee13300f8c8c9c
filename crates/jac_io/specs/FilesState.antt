-- Files in memory, as contracts see them.
use Rattle.std.specs.Prelude.{ℕ, List, [], ◌∷◌, ◌++◌, Bool, true, ◌||◌, if◌then◌else◌, is_none}
use Rattle.jac_io.specs.Faults.{one_more_fault}
use Rattle.jac_io.specs.Calls.{is_listed}
use Rattle.jac_io.specs.NamedFiles.{file_named}
use Rattle.jac_io.specs.Seen.{FilesSeen}

-- The files; the numbers of the calls that fail; the count of calls, and the count of those that
-- failed; the names that were asked for.
pub record FilesState : Type 0 where
  pub files : List (List ℕ × List ℕ)
  pub fails : List ℕ
  pub calls : ℕ
  pub faults : ℕ
  pub asked : List (List ℕ)

-- Whether the next read fails: its number is listed, or there is no file of this name.
abbrev pub file_read_fails : FilesState → List ℕ → Bool
file_read_fails s name = is_listed (one_more_fault s.calls) s.fails || is_none
    (file_named s.files name)

-- The files after the next read.
abbrev pub files_after_read : FilesState → List ℕ → FilesState
files_after_read s name = record s {
  calls = one_more_fault s.calls;
  faults = if file_read_fails s name then one_more_fault s.faults else s.faults;
  asked = s.asked ++ name ∷ [];
}

-- What contracts see of the files. Their contents are known.
abbrev pub seen_files : FilesState → FilesSeen
seen_files s = record {
  tells = true;
  file = file_named s.files;
  faults = s.faults;
  asked = s.asked;
}
