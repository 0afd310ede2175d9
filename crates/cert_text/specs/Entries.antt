-- What lines behind the map tell. These serve private contracts alone.
use Rattle.std.specs.Prelude.{◌≡◌, ℕ, length, List, [], ◌∷◌, ◌++◌, map, Option, Some, IfSome, All}
use Rattle.std.specs.List.Sorted.{IsStrictlySortedBy}
use Rattle.std.specs.declared.cmp.Ordering.TheVariants.{Less}
use Rattle.ranked_terms.specs.Names.{Symbol, number_of, arity_of}
use Rattle.ranked_terms.specs.Texts.{Text, symbol_text}
use Rattle.ta_core.specs.TreeAutomaton.{trans_cmp, pair_cmp, IsTransOf, IsEpsOf}
use Rattle.ta_core.specs.declared.trans.Trans.{Trans as Transition}
use Rattle.ta_core.specs.declared.spec.Spec.{Spec}
use Rattle.cert_text.specs.Lines.{Line, maps, eps, end}
use Rattle.cert_text.specs.Certificates.{trans_line}
use Rattle.cert_text.specs.Faults.{Known, Takes}
use Rattle.cert_text.specs.Taking.{MayTrans, FaultFrom, closing, eps_lines}
use Rattle.cert_text.specs.declared.certificate.CertFault.{CertFault}
use Rattle.cert_text.specs.declared.entries.Entry.{Entry}
use Rattle.cert_text.specs.declared.entries.Entry.TheVariants as entry

-- what is known where a transition may come: the signature, the last transition, the states
pub record IsAtTrans (s : List Symbol) (last : Option Transition) (states : List ℕ) (spec : Spec) (k : Known) : Type 0 where
  pub signature : spec.signature ≡ s
  pub may : MayTrans s last k.before
  pub known : k.states ≡ states

abbrev pub entry_line : List Symbol → Entry → Line
entry_line s (entry.Trans t) = trans_line s t
entry_line s (entry.Eps p q) = eps p q
entry_line s entry.End = end

-- the symbol of the transition has a name and as many arguments
pub record IsNamed (s : List Symbol) (t : Transition) : Type 0 where
  pub named : number_of s (symbol_text s t.sym) ≡ Some t.sym
  pub arity : arity_of s t.sym ≡ Some (length t.args)

pub record IsNext (s : List Symbol) (states : List ℕ) (last : Option Transition) (t : Transition) : Type 0 where
  pub named : IsNamed s t
  pub of : IsTransOf states t
  pub after : IfSome last (λ u. trans_cmp u t ≡ Less)

abbrev pub IsRightEntry : List Symbol → List ℕ → Option Transition → Entry → Type 0
IsRightEntry s states last (entry.Trans t) = IsNext s states last t
IsRightEntry s states last (entry.Eps p q) = IsEpsOf states (p, q)
IsRightEntry s states last entry.End = Unit {0}

-- ---- one after the other

-- the line behind which the next one comes
abbrev pub line_at : List Symbol → Line → List Transition → Line
line_at s l [] = l
line_at s l (t ∷ ts) = line_at s (trans_line s t) ts

-- these transitions were taken behind a map
pub record AreTrans (s : List Symbol) (states : List ℕ) (old new : Text) (all : List Transition) : Type 0 where
  pub takes : (spec : Spec) (k : Known) (qs : List ℕ) → spec.signature ≡ s → k.before ≡ Some (maps qs) → k.states ≡ states
      → Takes spec k old (map (trans_line s) all) (record k { before = Some (line_at s (maps qs) all) }) new
  pub sorted : IsStrictlySortedBy trans_cmp all
  pub named : All (IsNamed s) all
  pub of : All (IsTransOf states) all

-- these epsilon transitions were taken, from the first on
pub record AreEps (first last : ℕ × ℕ) (states : List ℕ) (old new : Text) (all : List (ℕ × ℕ)) : Type 0 where
  pub later : List (ℕ × ℕ)
  pub all_is : all ≡ first ∷ later
  pub front : List (ℕ × ℕ)
  pub last_is : all ≡ front ++ last ∷ []
  pub takes : (spec : Spec) (k : Known) → k.before ≡ Some (eps first.0 first.1) → k.states ≡ states
      → Takes spec k old (eps_lines later) (record k { before = Some (eps last.0 last.1) }) new
  pub sorted : IsStrictlySortedBy pair_cmp all
  pub of : All (IsEpsOf states) all

-- the transitions were taken, and the line behind them: the first epsilon transition, or the end
pub record IsCutOff (s : List Symbol) (states : List ℕ) (old new : Text) (ts : List Transition) (behind : Option (ℕ × ℕ)) : Type 0 where
  pub takes : (spec : Spec) (k : Known) (qs : List ℕ) → spec.signature ≡ s → k.before ≡ Some (maps qs) → k.states ≡ states
      → Takes spec k old (map (trans_line s) ts ++ closing behind ∷ []) (record k { before = Some (closing behind) }) new
  pub sorted : IsStrictlySortedBy trans_cmp ts
  pub named : All (IsNamed s) ts
  pub of : All (IsTransOf states) ts
  pub behind_of : IfSome behind (IsEpsOf states)

-- the epsilon transitions behind the first were taken, and the end
pub record AreEpsToEnd (first : ℕ × ℕ) (states : List ℕ) (old new : Text) (all : List (ℕ × ℕ)) : Type 0 where
  pub later : List (ℕ × ℕ)
  pub all_is : all ≡ first ∷ later
  pub takes : (spec : Spec) (k : Known) → k.before ≡ Some (eps first.0 first.1) → k.states ≡ states
      → Takes spec k old (eps_lines later ++ end ∷ []) (record k { before = Some end }) new
  pub sorted : IsStrictlySortedBy pair_cmp all
  pub of : All (IsEpsOf states) all

-- the fault is told behind a map
abbrev pub IsBadBody : List Symbol → List ℕ → Text → ℕ → CertFault → Type 0
IsBadBody s states old count f = (spec : Spec) (k : Known) (qs : List ℕ) → spec.signature ≡ s → k.before ≡ Some (maps qs) → k.states ≡ states → FaultFrom spec k old count f

-- these are the lines behind a map
abbrev pub body_lines : List Symbol → List Transition → List (ℕ × ℕ) → List Line
body_lines s ts es = (map (trans_line s) ts ++ eps_lines es) ++ end ∷ []

-- what stands behind a map was taken
pub record IsBody (s : List Symbol) (states : List ℕ) (old new : Text) (ts : List Transition) (es : List (ℕ × ℕ)) : Type 0 where
  pub takes : (spec : Spec) (k : Known) (qs : List ℕ) → spec.signature ≡ s → k.before ≡ Some (maps qs) → k.states ≡ states
      → Takes spec k old (body_lines s ts es) (record k { before = Some end }) new
  pub sorted : IsStrictlySortedBy trans_cmp ts
  pub named : All (IsNamed s) ts
  pub of : All (IsTransOf states) ts
  pub eps_sorted : IsStrictlySortedBy pair_cmp es
  pub eps_of : All (IsEpsOf states) es
