-- The lines of a certificate: their words, their bounds, and which line may follow which. This project's own format.
use Rattle.std.specs.Prelude.{ℕ, ◌≤◌, List, [], ◌∷◌, length, map, All, Option, Some, None, codes}
use Rattle.ranked_terms.specs.Words.{IsWord}
use Rattle.ranked_terms.specs.Texts.{Text, number_word, with_args}
use Rattle.cert_text.specs.Words.{Words, position_word}
use Rattle.cert_text.specs.TermForms.{IsTermText}

-- A line with its fields. A symbol is named, and a term is its text, since the signature may not have them.
pub data Line : Type 0 where
  head : Line
  unreachable : Line
  reachable : Line
  rounds : ℕ → Line
  precise : Line
  next : ℕ → Line
  states : List ℕ → Line
  finals : List ℕ → Line
  maps : List ℕ → Line
  trans : Text → List ℕ → ℕ → Line
  eps : ℕ → ℕ → Line
  start : Text → Line
  step : ℕ → List ℕ → Text → Line
  end : Line

-- ---- the one description of the format

abbrev pub words_of : Line → Words
words_of head = codes "Timbuk" ∷ codes "certificate" ∷ codes "1" ∷ []
words_of unreachable = codes "Verdict" ∷ codes "unreachable" ∷ []
words_of reachable = codes "Verdict" ∷ codes "reachable" ∷ []
words_of (rounds i) = codes "Note" ∷ codes "rounds" ∷ number_word i ∷ []
words_of precise = codes "Note" ∷ codes "precise" ∷ codes "modulo" ∷ codes "equations" ∷ []
words_of (next n) = codes "Next" ∷ number_word n ∷ []
words_of (states qs) = codes "States" ∷ map number_word qs
words_of (finals qs) = codes "Finals" ∷ map number_word qs
words_of (maps qs) = codes "Map" ∷ map number_word qs
words_of (trans f qs q) = codes "T" ∷ with_args f (map number_word qs) ∷ codes "->" ∷ number_word q ∷ []
words_of (eps p q) = codes "E" ∷ number_word p ∷ codes "->" ∷ number_word q ∷ []
words_of (start t) = codes "Start" ∷ t ∷ []
words_of (step r at t) = codes "Step" ∷ number_word r ∷ position_word at ∷ t ∷ []
words_of end = codes "End" ∷ []

-- a number of an argument
pub record IsPlace (k : ℕ) : Type 0 where
  pub least : 1 ≤ k
  pub most : k ≤ 16

-- what belongs to a line's form besides its words
abbrev pub IsFormed : Line → Type 0
IsFormed (rounds i) = i ≤ 1000
IsFormed (next n) = n ≤ 16384
IsFormed (trans f qs q) = IsWord f
IsFormed (start t) = IsTermText t
IsFormed (step r at t) = (r ≤ 4095) × (length at ≤ 1024) × All IsPlace at × IsTermText t
IsFormed _ = Unit {0}

-- which line may follow which; the first is the head
pub data Follows : Option Line → Line → Type 0 where
  first : Follows None head
  claims : Follows (Some head) unreachable
  derives : Follows (Some head) reachable
  after_unreachable : {i : ℕ} → Follows (Some unreachable) (rounds i)
  noted : {i : ℕ} → Follows (Some (rounds i)) precise
  after_rounds : {i n : ℕ} → Follows (Some (rounds i)) (next n)
  after_precise : {n : ℕ} → Follows (Some precise) (next n)
  after_next : {n : ℕ} {qs : List ℕ} → Follows (Some (next n)) (states qs)
  after_states : {ps qs : List ℕ} → Follows (Some (states ps)) (finals qs)
  after_finals : {ps qs : List ℕ} → Follows (Some (finals ps)) (maps qs)
  map_trans : {ps qs : List ℕ} {f : Text} {q : ℕ} → Follows (Some (maps ps)) (trans f qs q)
  map_eps : {ps : List ℕ} {p q : ℕ} → Follows (Some (maps ps)) (eps p q)
  map_end : {ps : List ℕ} → Follows (Some (maps ps)) end
  trans_trans : {f g : Text} {ps qs : List ℕ} {p q : ℕ} → Follows (Some (trans f ps p)) (trans g qs q)
  trans_eps : {f : Text} {ps : List ℕ} {o p q : ℕ} → Follows (Some (trans f ps o)) (eps p q)
  trans_end : {f : Text} {ps : List ℕ} {p : ℕ} → Follows (Some (trans f ps p)) end
  eps_eps : {n o p q : ℕ} → Follows (Some (eps n o)) (eps p q)
  eps_end : {p q : ℕ} → Follows (Some (eps p q)) end
  after_reachable : {t : Text} → Follows (Some reachable) (start t)
  start_step : {s t : Text} {r : ℕ} {at : List ℕ} → Follows (Some (start s)) (step r at t)
  start_end : {s : Text} → Follows (Some (start s)) end
  step_step : {s t : Text} {q r : ℕ} {at to : List ℕ} → Follows (Some (step q at s)) (step r to t)
  step_end : {s : Text} {r : ℕ} {at : List ℕ} → Follows (Some (step r at s)) end
