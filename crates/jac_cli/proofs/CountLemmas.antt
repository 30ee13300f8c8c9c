-- The number of a demo is within the bounds of the definition.
use Rattle.std.proofs.Common.{arith, ◌≡◌, sym, subst, refl, ℕ, ◌≤◌, ◌&&◌, Bool, true, false, nat_le, if◌then◌else◌, Option, Some, None, List, [], ◌∷◌, codes}
use Rattle.std.specs.Prelude.{⊤}
use Rattle.std.specs.Option.{option_map, option_and_then}
use Rattle.std.proofs.lemmas.Bool.Decides.{nat_tests}
use Rattle.clap.specs.Words.{Kinds, Row, fault_of, first_of, subcommand_of}
use Rattle.jac_value.specs.Visitors.{viewer_read}
use Rattle.jac_cli.specs.Grammar.{jac}
use Rattle.jac_cli.specs.declared.words.Command.{Command}
use Rattle.jac_cli.specs.declared.words.Command.TheVariants as commands
use Rattle.jac_cli.specs.Commands.{HasCount}
use Rattle.jac_cli.specs.Words.{number_between, number_within, positive_number, is_number_word, labels_of_word, file_in, option_in, options_in, check_in, replay_in, serve_in, demo_in, dump_in, upgrade_in, why_in, command_named, entered_command, unless_fault, command_of}
use Rattle.std.specs.Str.Parse.{digits_value}
use Rattle.std.specs.Str.{bytes_eq}

abbrev HasCounts : Option Command → Type 0
HasCounts None = ⊤
HasCounts (Some command) = HasCount command

abbrev IsBetween : Option ℕ → Type 0
IsBetween None = ⊤
IsBetween (Some n) = (1 ≤ n) × (n ≤ 2000)

if_counts : (b : Bool) (x y : Option Command) → HasCounts x → HasCounts y → HasCounts (if b then x else y)
if_counts true x y hx hy = hx
if_counts false x y hx hy = hy

then_counts : (A : Type 0) (f : A → Option Command) (o : Option A) → ((a : A) → HasCounts (f a)) → HasCounts (option_and_then f o)
then_counts A f None h = tt
then_counts A f (Some a) h = h a

map_counts : (A : Type 0) (f : A → Command) (o : Option A) → ((a : A) → HasCount (f a)) → HasCounts (option_map f o)
map_counts A f None h = tt
map_counts A f (Some a) h = h a

-- A number that passes both tests is within the bounds.
both : (least most : Bool) (n : ℕ) → (least ≡ true → 1 ≤ n) → (most ≡ true → n ≤ 2000) → IsBetween (if least && most then Some n else None)
both true true n least most = (least refl, most refl)
both true false n least most = tt
both false most_is n least most = tt

at_most : (a b : ℕ) → nat_le a b ≡ true → a ≤ b
at_most a b h = grind (arith, nat_tests)

is_between : (n : ℕ) → IsBetween (number_between 1 2000 n)
is_between n = both (nat_le 1 n) (nat_le n 2000) n (at_most 1 n) (at_most n 2000)

if_between : (b : Bool) (o : Option ℕ) → IsBetween o → IsBetween (if b then o else None)
if_between true o h = h
if_between false o h = tt

then_between : (o : Option (List ℕ)) → IsBetween (option_and_then (number_within 1 2000) o)
then_between None = tt
then_between (Some word) = if_between (is_number_word word) (number_between 1 2000 (digits_value 10 word)) (is_between (digits_value 10 word))

demo_of : (o : Option ℕ) → IsBetween o → HasCounts (option_map (λ n. commands.Demo n) o)
demo_of None h = tt
demo_of (Some n) h = h

check_counts : (rows : List Row) → HasCounts (check_in rows)
check_counts rows = map_counts _ _ (file_in (codes "APP") rows) (λ app. tt)

replay_counts : (rows : List Row) → HasCounts (replay_in rows)
replay_counts rows =
    then_counts _ _ (file_in (codes "APP") rows) (λ app. then_counts _ _ (file_in (codes "EVENTS") rows) (λ events. map_counts _ _ (options_in rows) (λ options. tt)))

serve_counts : (rows : List Row) → HasCounts (serve_in rows)
serve_counts rows =
    then_counts _ _ (file_in (codes "APP") rows)
    (λ app. then_counts _ _ (positive_number 65_535 (codes "PORT") rows) (λ port. then_counts _ _ (positive_number 1_000_000 (codes "COUNT") rows) (λ count. map_counts _ _ (options_in rows) (λ options. tt))))

demo_counts : (rows : List Row) → HasCounts (demo_in rows)
demo_counts rows = demo_of (positive_number 2_000 (codes "N") rows) (then_between (first_of (codes "N") rows))

dump_counts : (rows : List Row) → HasCounts (dump_in rows)
dump_counts rows =
    then_counts _ _ (file_in (codes "APP") rows)
    (λ app. then_counts _ _ (option_and_then labels_of_word (first_of (codes "LABELS") rows)) (λ labels. map_counts _ _ (option_in (codes "db") rows) (λ db. tt)))

upgrade_counts : (rows : List Row) → HasCounts (upgrade_in rows)
upgrade_counts rows =
    then_counts _ _ (file_in (codes "OLD") rows)
    (λ app. then_counts _ _ (file_in (codes "NEW") rows) (λ next. map_counts _ _ (file_in (codes "db") rows) (λ db. tt)))

why_counts : (rows : List Row) → HasCounts (why_in rows)
why_counts rows =
    then_counts _ _ (file_in (codes "APP") rows)
    (λ app. then_counts _ _ (option_and_then viewer_read (first_of (codes "VIEWER") rows)) (λ viewer. map_counts _ _ (option_in (codes "db") rows) (λ db. tt)))

named_counts : (name : List ℕ) (rows : List Row) → HasCounts (command_named name rows)
named_counts name rows =
    if_counts (bytes_eq name (codes "check")) _ _ (check_counts rows)
    (if_counts (bytes_eq name (codes "replay")) _ _ (replay_counts rows)
    (if_counts (bytes_eq name (codes "serve")) _ _ (serve_counts rows)
    (if_counts (bytes_eq name (codes "demo")) _ _ (demo_counts rows)
    (if_counts (bytes_eq name (codes "dump")) _ _ (dump_counts rows)
    (if_counts (bytes_eq name (codes "upgrade")) _ _ (upgrade_counts rows)
    (if_counts (bytes_eq name (codes "why")) _ _ (why_counts rows) tt))))))

unless_counts : (kinds : Kinds) (o : Option Command) → HasCounts o → HasCounts (unless_fault kinds o)
unless_counts [] o h = h
unless_counts (kind ∷ kinds) o h = tt

-- The number of a demo that words give is within the bounds.
pub has_count : (words : List (List ℕ)) (command : Command) → Some command ≡ command_of words → HasCount command
has_count words command is =
    subst HasCounts (sym is)
    (unless_counts (fault_of jac words) (entered_command (subcommand_of jac words)) (then_counts _ _ (subcommand_of jac words) (λ e. named_counts e.0 e.1)))
