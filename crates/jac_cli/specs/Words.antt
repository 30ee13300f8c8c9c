-- The command that the words after the program's name give, as `clap` parses them by the grammar
-- `jac`.
use Rattle.std.specs.Prelude.{ℕ, Bool, false, not, ◌==◌, ◌&&◌, ◌^◌, ◌-◌, nat_le, nat_lt, if◌then◌else◌, List, [], ◌∷◌, length, slice_index, codes, Option, Some, None}
use Rattle.std.specs.Option.{option_map, option_map_or, option_and_then}
use Rattle.std.specs.List.{list_all, slice_split}
use Rattle.std.specs.Char.{is_ascii_digit}
use Rattle.std.specs.Str.{bytes_eq}
use Rattle.std.specs.Str.Parse.{digits_value}
use Rattle.clap.specs.Words.{Kinds, Row, fault_of, first_of, subcommand_of}
use Rattle.jac_value.specs.Visitors.{viewer_read}
use Rattle.jac_cli.specs.Grammar.{jac}
use Rattle.jac_cli.specs.declared.words.Command.{Command}
use Rattle.jac_cli.specs.declared.words.Command.TheVariants as commands
use Rattle.jac_cli.specs.declared.words.Options.{Options}

-- ---- texts and numbers

-- A text that isn't empty.
abbrev pub filled_text : List ℕ → Option (List ℕ)
filled_text text = if length text == 0 then None else Some text

-- A 0 (48) with more digits after it.
abbrev pub has_leading_zero : List ℕ → Bool
has_leading_zero word = slice_index word 0 == 48 && nat_lt 1 (length word)

-- Decimal digits with no sign. Only `0` itself begins with a zero.
abbrev pub is_number_word : List ℕ → Bool
is_number_word word = nat_lt 0 (length word) && list_all is_ascii_digit word && not
    (has_leading_zero word)

abbrev pub number_between : ℕ → ℕ → ℕ → Option ℕ
number_between least most number = if nat_le least number && nat_le number most then Some number
    else None

-- The number that the word writes, if it is within the bounds.
abbrev pub number_within : ℕ → ℕ → List ℕ → Option ℕ
number_within least most word = if is_number_word word then number_between least most
    (digits_value 10 word)
    else None

abbrev pub label_of_word : List ℕ → Option ℕ
label_of_word word = number_within 0 (2 ^ 128 - 1) word

abbrev pub labels_of_parts : List (List ℕ) → Option (List ℕ)
labels_of_parts [] = Some []
labels_of_parts (part ∷ parts) = option_and_then (λ label. option_map (λ labels. label ∷ labels)
    (labels_of_parts parts)) (label_of_word part)

-- `-` for no label, or labels separated by commas (44).
abbrev pub labels_of_word : List ℕ → Option (List ℕ)
labels_of_word word = if bytes_eq word (codes "-") then Some []
    else labels_of_parts (slice_split (λ b. b == 44) word)

-- ---- what the words gave a command

-- The file that an operand names.
abbrev pub file_in : List ℕ → List Row → Option (List ℕ)
file_in id rows = option_and_then filled_text (first_of id rows)

-- The file that an option names, if the option is there. If its name is empty, there is no command.
abbrev pub option_of : Option (List ℕ) → Option (Option (List ℕ))
option_of None = Some None
option_of (Some text) = option_map (λ file. Some file) (filled_text text)

abbrev pub option_in : List ℕ → List Row → Option (Option (List ℕ))
option_in id rows = option_of (first_of id rows)

-- The option without a value is there: clap gives it the text `true` if it is, and `false` if not.
abbrev pub flag_in : List ℕ → List Row → Bool
flag_in id rows = option_map_or (λ text. bytes_eq text (codes "true")) (first_of id rows) false

-- A number from 1 to `most`.
abbrev pub positive_number : ℕ → List ℕ → List Row → Option ℕ
positive_number most id rows = option_and_then (number_within 1 most) (first_of id rows)

abbrev pub options_in : List Row → Option Options
options_in rows =
    option_and_then (λ db.
    option_and_then (λ sessions.
    option_map (λ audit. record {
      db = db;
      sessions = sessions;
      audit = audit;
      lazy = flag_in (codes "lazy") rows;
    })
    (option_in (codes "audit") rows))
    (option_in (codes "sessions") rows))
    (option_in (codes "db") rows)

-- ---- the commands

abbrev pub check_in : List Row → Option Command
check_in rows = option_map (λ app. commands.Check app) (file_in (codes "APP") rows)

abbrev pub replay_in : List Row → Option Command
replay_in rows =
    option_and_then (λ app.
    option_and_then (λ events.
    option_map (λ options. commands.Replay (record {
      app = app;
      events = events;
      sessions = options.sessions;
      audit = options.audit;
      db = options.db;
      lazy = options.lazy;
    }))
    (options_in rows))
    (file_in (codes "EVENTS") rows))
    (file_in (codes "APP") rows)

abbrev pub serve_in : List Row → Option Command
serve_in rows =
    option_and_then (λ app.
    option_and_then (λ port.
    option_and_then (λ count.
    option_map (λ options. commands.Serve (record {
      app = app;
      port = port;
      count = count;
      sessions = options.sessions;
      audit = options.audit;
      db = options.db;
      lazy = options.lazy;
    }))
    (options_in rows))
    (positive_number 1_000_000 (codes "COUNT") rows))
    (positive_number 65_535 (codes "PORT") rows))
    (file_in (codes "APP") rows)

abbrev pub demo_in : List Row → Option Command
demo_in rows = option_map (λ n. commands.Demo n) (positive_number 2_000 (codes "N") rows)

abbrev pub dump_in : List Row → Option Command
dump_in rows =
    option_and_then (λ app.
    option_and_then (λ labels.
    option_map (λ db. commands.Dump (record { app = app; labels = labels; db = db }))
    (option_in (codes "db") rows))
    (option_and_then labels_of_word (first_of (codes "LABELS") rows)))
    (file_in (codes "APP") rows)

-- Without a store, there is nothing to upgrade.
abbrev pub upgrade_in : List Row → Option Command
upgrade_in rows =
    option_and_then (λ app.
    option_and_then (λ next.
    option_map (λ db. commands.Upgrade (record { app = app; next = next; db = db }))
    (file_in (codes "db") rows))
    (file_in (codes "NEW") rows))
    (file_in (codes "OLD") rows)

abbrev pub why_in : List Row → Option Command
why_in rows =
    option_and_then (λ app.
    option_and_then (λ viewer.
    option_map (λ db. commands.Why (record { app = app; viewer = viewer; db = db }))
    (option_in (codes "db") rows))
    (option_and_then viewer_read (first_of (codes "VIEWER") rows)))
    (file_in (codes "APP") rows)

abbrev pub command_named : List ℕ → List Row → Option Command
command_named name rows =
    if bytes_eq name (codes "check") then check_in rows else
    if bytes_eq name (codes "replay") then replay_in rows else
    if bytes_eq name (codes "serve") then serve_in rows else
    if bytes_eq name (codes "demo") then demo_in rows else
    if bytes_eq name (codes "dump") then dump_in rows else
    if bytes_eq name (codes "upgrade") then upgrade_in rows else
    if bytes_eq name (codes "why") then why_in rows else
    None

abbrev pub entered_command : Option (List ℕ × List Row) → Option Command
entered_command entered = option_and_then (λ e. command_named e.0 e.1) entered

abbrev pub unless_fault : Kinds → Option Command → Option Command
unless_fault [] command = command
unless_fault (kind ∷ kinds) command = None

-- The command that the words give, or none if clap finds a fault.
abbrev pub command_of : List (List ℕ) → Option Command
command_of words = unless_fault (fault_of jac words) (entered_command (subcommand_of jac words))
