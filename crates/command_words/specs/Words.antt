-- The command lines. This project's own; it says nothing of how words are read by the code.
use Rattle.std.specs.Prelude.{ℕ, ◌+◌, ◌*◌, ◌-◌, Bool, true, false, not, ◌&&◌, ◌==◌, nat_le, List, [], ◌∷◌, ◌++◌, Option, Some, None, option_map, option_and_then, is_some, if◌then◌else◌, length, find, codes}
use Rattle.std.specs.List.{list_any, list_all, before_first, after_first}
use Rattle.std.specs.Option.{option_map_or}
use Rattle.std.specs.Str.{bytes_eq}

abbrev pub Text : Type 0
Text = List ℕ

-- the name of an option or of a positional word, and its value
abbrev pub Use : Type 0
Use = Text × Text

infixl 10 ◌>>=◌
abbrev pub ◌>>=◌ : {A B : Type 0} → Option A → (A → Option B) → Option B
(Some x) >>= f = f x
None >>= f = None

-- ---- one word

abbrev pub begins_with_dash : Text → Bool
begins_with_dash [] = false
begins_with_dash (b ∷ rest) = b == 45

-- the single `-`, or a word that doesn't begin with `-`
abbrev pub is_positional : Text → Bool
is_positional [] = true
is_positional (b ∷ []) = true
is_positional (b ∷ c ∷ rest) = not (b == 45)

abbrev pub is_dashes : Text → Bool
is_dashes word = bytes_eq word (45 ∷ 45 ∷ [])

-- a flag with its value: what stands in front of the first `=`, and what behind it, where there is one
abbrev pub is_equals : ℕ → Bool
is_equals b = b == 61

abbrev pub flag : Text → Text × Option Text
flag text = (before_first is_equals text, if list_any is_equals text then Some (after_first is_equals text) else None)

abbrev pub flag_of : Text → Option (Text × Option Text)
flag_of (a ∷ b ∷ rest) = if a == 45 && b == 45 then Some (flag rest) else None
flag_of _ = None

-- ---- a line of words

abbrev pub with_use : Use → Option (List Use) → Option (List Use)
with_use one rest = option_map (λ uses. one ∷ uses) rest

-- a positional word, and what the words after it make
abbrev pub word_use : List Text → Text → (List Text → Option (List Use)) → Option (List Use)
word_use [] word next = None
word_use (name ∷ names) word next = with_use (name, word) (next names)

-- after `--` each word is positional, one for each name at most
abbrev pub positional : List Text → List Text → Option (List Use)
positional names [] = Some []
positional names (word ∷ rest) = word_use names word (λ left. positional left rest)

-- `--name` takes the next word, `--name=value` has its value; what the words after it make
abbrev pub option_use : (Text → Bool) → Text → Option Text → (Option Text → Option (List Use)) → Option (List Use)
option_use is_option name None next = if is_option name then next (Some name) else None
option_use is_option name (Some value) next = if is_option name then with_use (name, value) (next None) else None

-- What the words make, in order; `waiting` is the option whose value the next word is, and `names` are those of the positional words to come.
abbrev pub uses_of : (Text → Bool) → List Text → Option Text → List Text → Option (List Use)
uses_of is_option names None [] = Some []
uses_of is_option names (Some name) [] = None
uses_of is_option names None (word ∷ rest) =
    if is_dashes word then positional names rest
    else (if is_positional word then word_use names word (λ left. uses_of is_option left None rest)
    else option_map_or (λ f. option_use is_option f.0 f.1 (λ waiting. uses_of is_option names waiting rest)) (flag_of word) None)
uses_of is_option names (Some name) (word ∷ rest) =
    if begins_with_dash word then None
    else with_use (name, word) (uses_of is_option names None rest)

abbrev pub has_use : Text → List Use → Bool
has_use name uses = list_any (λ one. bytes_eq one.0 name) uses

-- no name is used twice
abbrev pub once : List Use → List Use → Option (List Use)
once before [] = Some before
once before (one ∷ rest) = if has_use one.0 before then None else once (before ++ one ∷ []) rest

abbrev pub is_among : List Text → Text → Bool
is_among options name = list_any (λ o. bytes_eq o name) options

-- the uses that the words behind a command's name make, each name once; None where the words are refused
abbrev pub line_of : List Text → List Text → List Text → Option (List Use)
line_of options names words = option_and_then (once []) (uses_of (is_among options) names None words)

abbrev pub value_of : Text → List Use → Option Text
value_of name uses = option_map (λ one. one.1) (find (λ one. bytes_eq one.0 name) uses)

-- ---- numbers

abbrev pub is_digit : ℕ → Bool
is_digit b = nat_le 48 b && nat_le b 57

abbrev pub are_digits : Text → Bool
are_digits word = list_all is_digit word

-- the number of these digits behind a number
abbrev pub number_after : ℕ → Text → ℕ
number_after n [] = n
number_after n (b ∷ rest) = number_after (n * 10 + (b - 48)) rest

abbrev pub within : ℕ → ℕ → ℕ → Option ℕ
within least most n = if nat_le least n && nat_le n most then Some n else None

-- one to seven digits, a number in a range
abbrev pub number_in : ℕ → ℕ → Text → Option ℕ
number_in least most word =
    if are_digits word && nat_le 1 (length word) && nat_le (length word) 7 then within least most (number_after 0 word) else None

-- the number of an option, or the usual one where it has no value
abbrev pub number_or : ℕ → ℕ → ℕ → Option Text → Option ℕ
number_or usual least most value = option_map_or (number_in least most) value (Some usual)

-- ---- the commands

-- how far completion and search go
pub record Limits : Type 0 where
  pub rounds : ℕ
  pub steps : ℕ
  pub height : ℕ
  pub terms : ℕ
  pub pairs : ℕ
  pub states : ℕ

-- what the words ask for; each further command is one more case
pub data Command : Type 0 where
  complete : Text → Limits → Command
  check : Text → Text → Command

-- the numbers, where each option has a value that is in its range, or none
abbrev pub limits_by : (Text → Option Text) → Option Limits
limits_by value = do
  rounds ← number_or 20 0 1000 (value (codes "rounds"))
  steps ← number_or 5 0 100 (value (codes "steps"))
  height ← number_or 4 1 50 (value (codes "height"))
  terms ← number_or 5000 1 50000 (value (codes "terms"))
  pairs ← number_or 100000 0 1000000 (value (codes "pairs"))
  states ← number_or 4096 1 16384 (value (codes "states"))
  Some (record { rounds = rounds; steps = steps; height = height; terms = terms; pairs = pairs; states = states })

abbrev pub complete_options : List Text
complete_options = codes "rounds" ∷ codes "steps" ∷ codes "height" ∷ codes "terms" ∷ codes "pairs" ∷ codes "states" ∷ []

-- the words after `complete`
abbrev pub complete_of : List Text → Option Command
complete_of words = do
  uses ← line_of complete_options (codes "file" ∷ []) words
  file ← value_of (codes "file") uses
  limits ← limits_by (λ name. value_of name uses)
  Some (complete file limits)

-- the words after `check`
abbrev pub check_of : List Text → Option Command
check_of words = do
  uses ← line_of [] (codes "spec" ∷ codes "cert" ∷ []) words
  spec ← value_of (codes "spec") uses
  cert ← value_of (codes "cert") uses
  Some (check spec cert)

-- what follows a command's name
abbrev pub reader_of : Text → Option (List Text → Option Command)
reader_of name =
    if bytes_eq name (codes "complete") then Some complete_of
    else (if bytes_eq name (codes "check") then Some check_of
    else None)

-- the first word is a command
abbrev pub names_command : List Text → Bool
names_command [] = false
names_command (name ∷ words) = is_some (reader_of name)

-- the command that the words are; None where they are no command line
abbrev pub command_of : List Text → Option Command
command_of [] = None
command_of (name ∷ words) = reader_of name >>= λ read. read words

-- the files that a command reads, in order
abbrev pub files_of : Command → List Text
files_of (complete file limits) = file ∷ []
files_of (check spec cert) = spec ∷ cert ∷ []
