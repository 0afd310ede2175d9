-- What the grammar allows next, computed one token at a time from the parts that are open (this project's own format).
use Rattle.std.specs.Prelude.{Bool, true, false, ◌&&◌, ◌||◌, if◌then◌else◌, List, [], ◌∷◌, ◌++◌, find, Option, Some, is_some, option_map, option_and_then}
use Rattle.std.specs.List.{list_all, list_any}
use Rattle.std.specs.Option.{option_map_or}
use Rattle.timbuk_lex.specs.declared.lexeme.Lexeme.{Lexeme}
use Rattle.timbuk_grammar.specs.declared.terminal.Terminal.{Terminal}
use Rattle.timbuk_grammar.specs.declared.terminal.Terminal.TheVariants as terminal
use Rattle.timbuk_grammar.specs.Matching.{matches}
use Rattle.timbuk_grammar.specs.Grammar.{Part, one, ◌then◌, ◌or◌, maybe, many, pattern, pattern_arguments, file}

-- ---- at open parts

-- the part may derive no token
abbrev pub empties : Part → Bool
empties (one t) = false
empties (a then b) = empties a && empties b
empties (a or b) = empties a || empties b
empties (maybe a) = true
empties (many a) = true
empties (pattern p) = false

-- a terminal that may come next, and the parts that are open behind it
pub record Choice : Type 0 where
  pub terminal : Terminal
  pub behind : List Part

-- the terminals with which a part begins, where these parts stand behind it
abbrev pub begins : Part → List Part → List Choice
begins (one t) ps = record { terminal = t; behind = ps } ∷ []
begins (a then b) ps = begins a (b ∷ ps) ++ (if empties a then begins b ps else [])
begins (a or b) ps = begins a ps ++ begins b ps
begins (maybe a) ps = begins a ps
begins (many a) ps = begins a (many a ∷ ps)
begins (pattern p) ps = record { terminal = terminal.Named p; behind = pattern_arguments p ∷ ps } ∷ []

-- the part begins with this token
abbrev pub begins_with : Part → Lexeme → Bool
begins_with p x = list_any (λ c. matches c.terminal x) (begins p [])

-- the terminals that may come next
abbrev pub choices : List Part → List Choice
choices [] = []
choices (p ∷ ps) = begins p ps ++ (if empties p then choices ps else [])

-- the first of them that the token matches
abbrev pub choice_of : List Part → Lexeme → Option Choice
choice_of ps x = find (λ c. matches c.terminal x) (choices ps)

-- the terminal at which the token stands, if it may come next
abbrev pub terminal_of : List Part → Lexeme → Option Terminal
terminal_of ps x = option_map (λ c. c.terminal) (choice_of ps x)

-- the parts that are open after the token, if it may come next
abbrev pub open_after : List Part → Lexeme → Option (List Part)
open_after ps x = option_map (λ c. c.behind) (choice_of ps x)

-- the parts that are open after these tokens, if they may come next
abbrev pub open_after_all : List Part → List Lexeme → Option (List Part)
open_after_all ps [] = Some ps
open_after_all ps (x ∷ xs) = option_and_then (λ qs. open_after_all qs xs) (open_after ps x)

-- the end may come next
abbrev pub may_end : List Part → Bool
may_end ps = list_all empties ps

-- ---- in a file

-- the parts of a file that are open after these tokens, if a file begins with them
abbrev pub open_parts : List Lexeme → Option (List Part)
open_parts before = open_after_all (file ∷ []) before

-- the terminal at which the token stands after these, if the grammar allows it there
abbrev pub terminal_at : List Lexeme → Lexeme → Option Terminal
terminal_at before x = option_and_then (λ ps. terminal_of ps x) (open_parts before)

-- the grammar allows the token after these
abbrev pub next_allowed : List Lexeme → Lexeme → Bool
next_allowed before x = is_some (terminal_at before x)

-- the grammar allows the end after these tokens
abbrev pub end_allowed : List Lexeme → Bool
end_allowed before = option_map_or may_end (open_parts before) false
