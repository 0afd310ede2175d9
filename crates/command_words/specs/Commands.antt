-- The commands, as clap is told of them. This project's own.
use Rattle.std.specs.Prelude.{List, [], ◌∷◌, Option, Some, codes, true, drop, fold}
use Rattle.clap.specs.Words.{App, Rule, new_app, new_rule, with_rule}
use Rattle.clap.specs.Simple.{on_top}
use Rattle.clap.specs.declared.builder.ArgAction.TheVariants.{Set}
use Rattle.command_words.specs.Line.{Text, Use, line_of}
pub use Rattle.command_words.specs.Words.{is_among, complete_options}

-- an option with a value, named as its flag
abbrev pub option_rule : Text → Rule
option_rule name = record (new_rule name) { long = Some name; action = Some Set }

-- a positional word
abbrev pub word_rule : Text → Rule
word_rule name = record (new_rule name) { action = Some Set }

abbrev pub without_help : App → App
without_help = on_top (λ s. record s { disable_help_flag = true })

-- a command without --help
abbrev pub bare_app : Text → App
bare_app name = without_help (new_app name)

-- with these options, and with these positional words
abbrev pub with_options : App → List Text → App
with_options app names = fold (λ app name. with_rule app (option_rule name)) app names

abbrev pub with_words : App → List Text → App
with_words app names = fold (λ app name. with_rule app (word_rule name)) app names

-- a command of these options and positional words
abbrev pub app_of_words : Text → List Text → List Text → App
app_of_words name options names = with_words (with_options (bare_app name) options) names

-- `check SPEC CERT`
abbrev pub check_names : List Text
check_names = codes "spec" ∷ codes "cert" ∷ []

abbrev pub check_app : App
check_app = app_of_words (codes "check") [] check_names

abbrev pub check_line : List Text → Option (List Use)
check_line words = line_of (is_among []) check_names (drop 1 words)

-- `complete FILE` with its six options
abbrev pub complete_names : List Text
complete_names = codes "file" ∷ []

abbrev pub complete_app : App
complete_app = app_of_words (codes "complete") complete_options complete_names

abbrev pub complete_line : List Text → Option (List Use)
complete_line words = line_of (is_among complete_options) complete_names (drop 1 words)
