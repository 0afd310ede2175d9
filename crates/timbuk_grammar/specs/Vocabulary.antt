-- The words that are no names (this project's own format).
use Rattle.std.specs.Prelude.{ℕ, Bool, ◌||◌, List, [], ◌∷◌, codes}
use Rattle.std.specs.List.{list_any}
use Rattle.std.specs.Str.{bytes_eq}

-- the words that divide a text into its sections
abbrev pub section_words : List (List ℕ)
section_words =
    codes "Ops" ∷ codes "Vars" ∷ codes "TRS" ∷ codes "Automaton" ∷ codes "States" ∷ codes "Description"
    ∷ codes "Final" ∷ codes "Prior" ∷ codes "Transitions" ∷ codes "Equations" ∷ codes "Approximation" ∷ codes "Rules" ∷ []

-- words that no text of the format has
abbrev pub closed_words : List (List ℕ)
closed_words = codes "Import" ∷ codes "Set" ∷ codes "Patterns" ∷ []

-- a closed word
unfoldable pub is_closed : List ℕ → Bool
is_closed text = list_any (λ w. bytes_eq w text) closed_words

-- a section word or a closed word, which is no name
unfoldable pub is_reserved : List ℕ → Bool
is_reserved text = list_any (λ w. bytes_eq w text) section_words || is_closed text
