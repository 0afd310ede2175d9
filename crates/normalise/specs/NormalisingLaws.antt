-- Laws of normalising: it has one result, and what was there stays (Feuillade, Genet and Viet Triem Tong, JAR 2004).
use Rattle.std.specs.Prelude.{◌≡◌, ◌⊎◌, ℕ, ◌<◌, ◌≤◌, List, All, Contains, Some}
use Rattle.std.specs.List.{slice_get}
use Rattle.ranked_terms.specs.declared.term.Config.{Config}
use Rattle.trs_rules.specs.Rules.{RewriteRule}
use Rattle.trs_rules.specs.declared.sigma.Pair.{Pair}
use Rattle.ta_core.specs.TreeAutomaton.{TreeAutomaton}
use Rattle.ta_core.specs.Laws.{IsWithin}
use Rattle.normalise.specs.Normalising.{Task, Context, Puts, Normalised, NormalisedAll}

-- a configuration is put in one way at most
abbrev pub PutsAreOne : Type 0
PutsAreOne = (task : Task) (A B C : TreeAutomaton) (c : Config) (p q : ℕ) → Puts task A c p B → Puts task A c q C → (p ≡ q) × (B ≡ C)

-- a pair is normalised in one way at most, and so are pairs one after the other
abbrev pub NormalisedIsOne : Type 0
NormalisedIsOne = (context : Context) (A B C : TreeAutomaton) (pair : Pair) (p q : ℕ) → Normalised context A pair p B → Normalised context A pair q C → (p ≡ q) × (B ≡ C)

abbrev pub NormalisedAllIsOne : Type 0
NormalisedAllIsOne = (context : Context) (A B C : TreeAutomaton) (pairs : List Pair) → NormalisedAll context A pairs B → NormalisedAll context A pairs C → B ≡ C

-- what comes of putting a configuration, of a pair and of pairs
pub record PutResult (task : Task) (A : TreeAutomaton) (c : Config) : Type 0 where
  pub state : ℕ
  pub grown : TreeAutomaton
  pub puts : Puts task A c state grown

pub record NormalisedResult (context : Context) (A : TreeAutomaton) (pair : Pair) : Type 0 where
  pub state : ℕ
  pub grown : TreeAutomaton
  pub normalised : Normalised context A pair state grown

pub record NormalisedAllResult (context : Context) (A : TreeAutomaton) (pairs : List Pair) : Type 0 where
  pub grown : TreeAutomaton
  pub normalised : NormalisedAll context A pairs grown

-- the pair's number is that of a rule
abbrev pub NamesRule : List RewriteRule → Pair → Type 0
NamesRule R pair = (rule : RewriteRule) × (slice_get R pair.rule ≡ Some rule)

-- each configuration is put, and each pair that names a rule is normalised
abbrev pub EachIsPut : Type 0
EachIsPut = (task : Task) (A : TreeAutomaton) (c : Config) → PutResult task A c

abbrev pub EachIsNormalised : Type 0
EachIsNormalised = (context : Context) (A : TreeAutomaton) (pair : Pair) → NamesRule context.rules pair → NormalisedResult context A pair

abbrev pub AllAreNormalised : Type 0
AllAreNormalised = (context : Context) (A : TreeAutomaton) (pairs : List Pair) → All (NamesRule context.rules) pairs → NormalisedAllResult context A pairs

-- what was there stays, each state that wasn't there is a number from the old `next` to below the new one, and `next` doesn't fall
pub record IsGrown (A B : TreeAutomaton) : Type 0 where
  pub within : IsWithin A B
  pub added : (q : ℕ) → Contains B.states q → Contains A.states q ⊎ ((A.next ≤ q) × (q < B.next))
  pub finals : B.finals ≡ A.finals
  pub next : A.next ≤ B.next

abbrev pub PutsGrow : Type 0
PutsGrow = (task : Task) (A B : TreeAutomaton) (c : Config) (p : ℕ) → Puts task A c p B → IsGrown A B

abbrev pub NormalisedGrows : Type 0
NormalisedGrows = (context : Context) (A B : TreeAutomaton) (pair : Pair) (p : ℕ) → Normalised context A pair p B → IsGrown A B

abbrev pub NormalisedAllGrows : Type 0
NormalisedAllGrows = (context : Context) (A B : TreeAutomaton) (pairs : List Pair) → NormalisedAll context A pairs B → IsGrown A B
