-- Which files were requested, and whether reads gave what the files are assumed to contain.
use Rattle.std.specs.Prelude.{ℕ, Bool, true, false, ◌&&◌, List, [], ◌∷◌, ◌++◌, Option, Some, None, length, take, ◌==◌, if◌then◌else◌}
use Rattle.std.specs.Str.{bytes_eq}
use Rattle.jac_io.specs.Seen.{FilesSeen}
use Rattle.jac_host.specs.Events.{Event, Asks, Opened, Gave, Came}

-- The names of the files that were requested, in order.
abbrev pub asked_in : List Event → List (List ℕ)
asked_in [] = []
asked_in (Asks name ∷ events) = asked_in events ++ name ∷ []
asked_in (_ ∷ events) = asked_in events

-- The bytes that reads gave since the last file was opened or the last connection came.
abbrev pub bytes_given : List Event → List ℕ
bytes_given [] = []
bytes_given (Opened _ ∷ events) = []
bytes_given (Came ∷ events) = []
bytes_given (Gave bytes ∷ events) = bytes_given events ++ bytes
bytes_given (_ ∷ events) = bytes_given events

-- The name of the file that was opened last.
abbrev pub last_opened : List Event → List ℕ
last_opened [] = []
last_opened (Opened name ∷ events) = name
last_opened (_ ∷ events) = last_opened events

-- Whether the bytes that a read gave continue those before as `whole` does. A read may give no
-- bytes only at the end of `whole`.
abbrev pub goes_on : List ℕ → List ℕ → List ℕ → Bool
goes_on whole before bytes = bytes_eq
    (if length bytes == 0 then whole else take (length (before ++ bytes)) whole)
    (before ++ bytes)

abbrev pub goes_on_in : Option (List ℕ) → List ℕ → List ℕ → Bool
goes_on_in None before bytes = false
goes_on_in (Some whole) before bytes = goes_on whole before bytes

-- Whether each read so far gave the next bytes of the file that was opened last.
abbrev pub agrees : (List ℕ → Option (List ℕ)) → List Event → Bool
agrees file [] = true
agrees file (Gave bytes ∷ events) =
    goes_on_in (file (last_opened events)) (bytes_given events) bytes && agrees file events
agrees file (_ ∷ events) = agrees file events

-- Files with these supposed contents. Their contents are known as long as each read agreed with
-- them.
abbrev pub files_seen : (List ℕ → Option (List ℕ)) → List Event → ℕ → FilesSeen
files_seen file events faults = record {
  tells = agrees file events;
  file = file;
  faults = faults;
  asked = asked_in events;
}
