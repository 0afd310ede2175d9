-- What has the form of a term, over whatever signature. This project's own format.
use Rattle.std.specs.Prelude.{[], ◌∷◌, ◌++◌}
use Rattle.ranked_terms.specs.Words.{IsWord}
use Rattle.ranked_terms.specs.Texts.{Text}

mutual
  -- a word alone, or with arguments in brackets
  pub data IsTermText : Text → Type 0 where
    name : (f : Text) → IsWord f → IsTermText f
    applied : (f args : Text) → IsWord f → AreTermTexts args → IsTermText (f ++ 40 ∷ (args ++ 41 ∷ []))

  -- one argument or more, with commas between
  pub data AreTermTexts : Text → Type 0 where
    one : (t : Text) → IsTermText t → AreTermTexts t
    more : (t others : Text) → IsTermText t → AreTermTexts others → AreTermTexts (t ++ 44 ∷ others)
