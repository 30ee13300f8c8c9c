-- What a note adds to a journal.
use Rattle.std.specs.Prelude.{List, ◌∷◌, option_map}
use Rattle.jac_host.specs.Events.{Event, Asks, Opened, Gave, Took, Aimed, Listens, Came}
use Rattle.jac_host.specs.declared.journal.Note.{Note}
use Rattle.jac_host.specs.declared.journal.Note.TheVariants as notes

abbrev pub note_event : Note → Event
note_event (notes.Asks name) = Asks name.now
note_event (notes.Opened name) = Opened name.now
note_event (notes.Gave bytes) = Gave bytes.now
note_event (notes.Took bytes) = Took bytes.now
note_event (notes.Aimed name) = Aimed (option_map (λ n. n.now) name)
note_event (notes.Listens port) = Listens port
note_event notes.Came = Came

-- The newest event comes first.
abbrev pub with_note : List Event → Note → List Event
with_note events note = note_event note ∷ events
