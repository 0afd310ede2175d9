-- The words of a command line as clap's walk takes them. This serves private contracts alone.
use Rattle.std.specs.Prelude.{Bool, List, [], ◌∷◌, Option, Some, None, option_and_then, if◌then◌else◌}
use Rattle.std.specs.Option.{option_map_or}
use Rattle.clap.specs.Lexer.{long_of, short_of}
pub use Rattle.command_words.specs.Words.{Text, Use, with_use, is_dashes, word_use, positional, option_use, has_use, once, value_of}

-- a word that isn't `--`, by what it begins with
abbrev pub other_use : (Text → Bool) → List Text → Text → (List Text → Option Text → Option (List Use)) → Option (List Use)
other_use is_option names word next =
    option_map_or (λ flag. option_use is_option flag.0 flag.1 (next names))
    (long_of word)
    (option_map_or (λ _. None) (short_of word) (word_use names word (λ rest. next rest None)))

-- a word in the place of an option's value
abbrev pub value_use : Text → Text → Option (List Use) → Option (List Use)
value_use name word next =
    option_map_or (λ _. None) (long_of word) (option_map_or (λ _. None) (short_of word) (with_use (name, word) next))

-- what the words make, in order; `waiting` is the option whose value comes next, and `names` are those of the positional words to come
abbrev pub uses_of : (Text → Bool) → List Text → Option Text → List Text → Option (List Use)
uses_of is_option names None [] = Some []
uses_of is_option names (Some name) [] = None
uses_of is_option names None (word ∷ rest) =
    if is_dashes word then positional names rest
    else other_use is_option names word (λ left waiting. uses_of is_option left waiting rest)
uses_of is_option names (Some name) (word ∷ rest) =
    if is_dashes word then None
    else value_use name word (uses_of is_option names None rest)

-- the uses that the words of a command make, each name once; None where the words are refused
abbrev pub line_of : (Text → Bool) → List Text → List Text → Option (List Use)
line_of is_option names words = option_and_then (once []) (uses_of is_option names None words)
