-- Which files a command has read.
use Rattle.std.specs.Prelude.{option_to_list}
use Rattle.std.proofs.Common.{◌≡◌, ◌∙◌, ap, refl, sym, ℕ, Option, Some, List, [], ◌∷◌, ◌++◌, append-nil, arith}
use Rattle.std.proofs.lemmas.Grind.{common_steps}
use Rattle.jac_io.specs.Seen.{FilesSeen}
use Rattle.jac_cli.specs.declared.words.Command.{Command}
use Rattle.jac_cli.specs.declared.role.Role.TheVariants as roles
use Rattle.jac_cli.specs.Commands.{file_of, name_of}
use Rattle.jac_serve_events.specs.Outside.{Span, span}
use Rattle.jac_command_base.specs.declared.startup.StoreCommand.{StoreCommand}
use Rattle.jac_command_base.specs.declared.startup.StoreCommand.TheVariants as openings
use Rattle.jac_command_base.specs.Files.{AsksForFiles, files_named, files_of}
use Rattle.jac_command_base.specs.Startup.{command_in}

-- First these files were read, and then those.
pub asked_then : (a b d front more : List (List ℕ)) → b ≡ a ++ front → d ≡ b ++ more → d ≡ a ++ (front ++ more)
asked_then a b d front more one two = grind (arith, common_steps, one, two)

-- No file was read yet.
pub asks_none : (a : FilesSeen) (names : List (List ℕ)) (done : Type 0) → (done → names ≡ []) → AsksForFiles (span a a) names done
asks_none a names done all = record { front = []; rest = names; parts = refl; asked = sym (append-nil a.asked); all = all }

-- All files were read.
pub asks_all : (a b : FilesSeen) (names : List (List ℕ)) (done : Type 0) → b.asked ≡ a.asked ++ names → AsksForFiles (span a b) names done
asks_all a b names done asked = record { front = names; rest = []; parts = sym (append-nil names); asked = asked; all = λ is_done. refl }

-- The same, under a stronger condition for reading all.
pub asks_before : (files : Span FilesSeen) (names : List (List ℕ)) (done more : Type 0) → (more → done) → AsksForFiles files names done → AsksForFiles files names more
asks_before files names done more earlier h = record { front = h.front; rest = h.rest; parts = h.parts; asked = h.asked; all = λ is_done. h.all (earlier is_done) }

-- The files of a command that words give.
pub asks_named : (files : Span FilesSeen) (words : Option Command) (command : Command) (done more : Type 0) → words ≡ Some command → (more → done)
    → AsksForFiles files (files_of command) done → AsksForFiles files (files_named words) more
asks_named files words command done more is earlier h = record {
  front = h.front;
  rest = h.rest;
  parts = ap files_named is ∙ h.parts;
  asked = h.asked;
  all = λ is_done. h.all (earlier is_done);
}

-- The files of a command that begins with a store, in order.
pub files_in_order : (opening : StoreCommand) → files_of (command_in opening)
    ≡ name_of (command_in opening) roles.App ∷ (option_to_list (file_of (command_in opening) roles.Sessions) ++ option_to_list (file_of (command_in opening) roles.Events))
files_in_order (openings.Replay replay) = refl
files_in_order (openings.Serve serving) = refl
files_in_order (openings.Dump dumping) = refl
files_in_order (openings.Why explaining) = refl

pub asked_in_order : (opening : StoreCommand) (a b d e : List (List ℕ)) → b ≡ a ++ name_of (command_in opening) roles.App ∷ []
    → d ≡ b ++ option_to_list (file_of (command_in opening) roles.Sessions) → e ≡ d ++ option_to_list (file_of (command_in opening) roles.Events)
    → e ≡ a ++ files_of (command_in opening)
asked_in_order opening a b d e one two three =
    let name : List ℕ = name_of (command_in opening) roles.App in
    let sessions : List (List ℕ) = option_to_list (file_of (command_in opening) roles.Sessions) in
    let events : List (List ℕ) = option_to_list (file_of (command_in opening) roles.Events) in
    let both : d ≡ a ++ (name ∷ sessions) = asked_then a b d (name ∷ []) sessions one two in
    let all : e ≡ a ++ (name ∷ (sessions ++ events)) = asked_then a d e (name ∷ sessions) events both three in
    all ∙ ap (λ names. a ++ names) (sym (files_in_order opening))
