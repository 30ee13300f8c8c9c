-- The grammar of the command line, in the terms of the crate `clap`: seven commands, with what each
-- takes.
use Rattle.std.specs.Prelude.{List, ℕ, Some, true, codes}
use Rattle.clap.specs.Words.{App, Rule, new_app, new_rule, with_rule, with_subcommand}
use Rattle.clap.specs.Simple.{on_top}
use Rattle.clap.specs.declared.builder.action.ArgAction.TheVariants.{Set, SetTrue}

-- A word that is required.
abbrev pub operand_rule : List ℕ → Rule
operand_rule name = record (new_rule name) { action = Some Set; required = true }

-- An optional value, as `--NAME VALUE` or `--NAME=VALUE`.
abbrev pub option_rule : List ℕ → Rule
option_rule name = record (new_rule name) { long = Some name; action = Some Set }

-- An optional word that is there at most once, as `--NAME`.
abbrev pub flag_rule : List ℕ → Rule
flag_rule name = record (new_rule name) { long = Some name; action = Some SetTrue }

abbrev pub with_operand : List ℕ → App → App
with_operand name app = with_rule app (operand_rule name)

abbrev pub with_option : List ℕ → App → App
with_option name app = with_rule app (option_rule name)

abbrev pub with_flag : List ℕ → App → App
with_flag name app = with_rule app (flag_rule name)

-- The files of a command that serves.
abbrev pub with_files : App → App
with_files app = with_option (codes "audit") (with_option (codes "sessions")
    (with_option (codes "db") app))

abbrev pub check_app : App
check_app = with_operand (codes "APP") (new_app (codes "check"))

abbrev pub replay_app : App
replay_app =
    with_flag (codes "lazy")
    (with_files (with_operand (codes "EVENTS") (with_operand (codes "APP")
    (new_app (codes "replay")))))

abbrev pub serve_app : App
serve_app =
    with_flag (codes "lazy")
    (with_files
    (with_operand (codes "COUNT")
    (with_operand (codes "PORT") (with_operand (codes "APP") (new_app (codes "serve"))))))

abbrev pub demo_app : App
demo_app = with_operand (codes "N") (new_app (codes "demo"))

abbrev pub dump_app : App
dump_app = with_option (codes "db") (with_operand (codes "LABELS") (with_operand (codes "APP")
    (new_app (codes "dump"))))

abbrev pub upgrade_app : App
upgrade_app = with_option (codes "db") (with_operand (codes "NEW") (with_operand (codes "OLD")
    (new_app (codes "upgrade"))))

abbrev pub why_app : App
why_app = with_option (codes "db") (with_operand (codes "VIEWER") (with_operand (codes "APP")
    (new_app (codes "why"))))

abbrev pub with_command : App → App → App
with_command command app = with_subcommand app command.top

-- A command without other words. There is no word or option for help.
abbrev pub bare_app : App
bare_app = on_top (λ s. record s {
  no_binary_name = true;
  disable_help_flag = true;
  disable_help_subcommand = true;
  subcommand_required = true;
}) (new_app (codes "jac"))

unfoldable pub jac : App
jac =
    with_command why_app (with_command upgrade_app
    (with_command dump_app
    (with_command demo_app
    (with_command serve_app (with_command replay_app (with_command check_app bare_app))))))
