-- The first fault of a certificate's text: the first line at which a row of the table of faults fits (this project's own format).
use Rattle.std.specs.Prelude.{◌≡◌, ◌≢◌, ℕ, ◌+◌, ◌<◌, List, [], ◌∷◌, ◌++◌, length, All, Contains, Option, Some, None}
use Rattle.std.specs.List.{join_with_byte}
use Rattle.std.specs.declared.cmp.Ordering.TheVariants.{Less}
use Rattle.std.specs.Ordering.{nat_cmp}
use Rattle.std.specs.List.Sorted.{IsStrictlySortedBy}
use Rattle.ranked_terms.specs.Names.{Symbol, number_of, arity_of}
use Rattle.ranked_terms.specs.declared.term.Term.{Term}
use Rattle.ta_core.specs.declared.spec.Spec.{Spec}
use Rattle.ta_core.specs.TreeAutomaton.{trans_of, trans_cmp, pair_cmp}
use Rattle.cert_text.specs.declared.certificate.CertKind.{CertKind}
use Rattle.cert_text.specs.declared.certificate.CertKind.TheVariants as kind
use Rattle.cert_text.specs.declared.certificate.CertFault.{CertFault}
use Rattle.ranked_terms.specs.Texts.{Text, IsTextOf}
use Rattle.cert_text.specs.Words.{line_text}
use Rattle.cert_text.specs.Lines as line
use Rattle.cert_text.specs.Lines.{Line, words_of, IsFormed, Follows}
use Rattle.cert_text.specs.Certificates.{undecided_words}

-- ---- what the lines before have told

-- the line before; the number of `Next` and the states, where they came; and how many steps there are
pub record Known : Type 0 where
  pub before : Option Line
  pub next : ℕ
  pub states : List ℕ
  pub steps : ℕ

abbrev pub nothing : Known
nothing = record { before = None; next = 0; states = []; steps = 0 }

abbrev pub learn : Line → Known → Known
learn (line.next n) k = record k { before = Some (line.next n); next = n }
learn (line.states qs) k = record k { before = Some (line.states qs); states = qs }
learn (line.step r at t) k = record k { before = Some (line.step r at t); steps = k.steps + 1 }
learn l k = record k { before = Some l }

-- ---- the rows for a line that has a form

-- the text is a term over the signature, of at most 1,024 symbols
abbrev pub TellsTerm : List Symbol → Text → Type 0
TellsTerm signature text = (t : Term) × IsTextOf signature text t

-- the name is a symbol's, with this number of arguments
pub record TellsSymbol (signature : List Symbol) (name : Text) (count : ℕ) : Type 0 where
  pub sym : ℕ
  pub named : number_of signature name ≡ Some sym
  pub arity : arity_of signature sym ≡ Some count

abbrev pub HasSymbols : Spec → Line → Type 0
HasSymbols spec (line.trans f qs q) = TellsSymbol spec.signature f (length qs)
HasSymbols spec (line.start t) = TellsTerm spec.signature t
HasSymbols spec (line.step r at t) = TellsTerm spec.signature t
HasSymbols spec _ = Unit {0}

abbrev pub HasCount : Spec → Known → Line → Type 0
HasCount spec k (line.maps qs) = length qs ≡ length spec.initial.states
HasCount spec k (line.step r at t) = k.steps < 100
HasCount spec k _ = Unit {0}

abbrev pub HasStates : Known → Line → Type 0
HasStates k (line.states qs) = All (λ q. q < k.next) qs
HasStates k (line.finals qs) = All (Contains k.states) qs
HasStates k (line.maps qs) = All (Contains k.states) qs
HasStates k (line.trans f qs q) = All (Contains k.states) qs × Contains k.states q
HasStates k (line.eps p q) = Contains k.states p × Contains k.states q
HasStates k _ = Unit {0}

-- the line comes after the one before, where both are transitions, or both epsilon transitions
abbrev pub ComesAfter : List Symbol → Option Line → Line → Type 0
ComesAfter s (Some (line.trans f ps p)) (line.trans g qs q) =
    (m n : ℕ) → number_of s f ≡ Some m → number_of s g ≡ Some n → trans_cmp (trans_of m ps p) (trans_of n qs q) ≡ Less
ComesAfter s (Some (line.eps n o)) (line.eps p q) = pair_cmp (n, o) (p, q) ≡ Less
ComesAfter s _ l = Unit {0}

abbrev pub Ascends : Line → Type 0
Ascends (line.states qs) = IsStrictlySortedBy nat_cmp qs
Ascends (line.finals qs) = IsStrictlySortedBy nat_cmp qs
Ascends (line.eps p q) = p ≢ q
Ascends _ = Unit {0}

abbrev pub HasOrder : Spec → Known → Line → Type 0
HasOrder spec k l = Ascends l × ComesAfter spec.signature k.before l

-- no row fits the line
pub record IsRight (spec : Spec) (k : Known) (l : Line) : Type 0 where
  pub symbols : HasSymbols spec l
  pub count : HasCount spec k l
  pub states : HasStates k l
  pub order : HasOrder spec k l

-- the first row that fits it
pub data IsWrong (spec : Spec) (k : Known) (l : Line) : CertKind → Type 0 where
  symbol : (HasSymbols spec l → ⊥) → IsWrong spec k l kind.Symbol
  count : HasSymbols spec l → (HasCount spec k l → ⊥) → IsWrong spec k l kind.Count
  state : HasSymbols spec l → HasCount spec k l → (HasStates k l → ⊥) → IsWrong spec k l kind.State
  order : HasSymbols spec l → HasCount spec k l → HasStates k l → (HasOrder spec k l → ⊥) → IsWrong spec k l kind.Order

-- ---- the rows for the bytes that begin at a line

-- the bytes begin with this line, which has a form that may stand here, and go on with the rest
pub record Begins (k : Known) (bytes : Text) (l : Line) (rest : Text) : Type 0 where
  pub follows : Follows k.before l
  pub formed : IsFormed l
  pub told : bytes ≡ line_text (words_of l) ++ rest

-- the bytes of the line are these, with or without a newline behind
pub data LineIs (line : Text) : Text → Type 0 where
  ended : (rest : Text) → LineIs line (line ++ 10 ∷ rest)
  unended : LineIs line line

-- nothing is missing and nothing is left
abbrev pub IsOver : Known → Text → Type 0
IsOver k bytes = (k.before ≡ Some line.end) × (bytes ≡ [])

-- line 1 is another one than the head
abbrev pub IsNoHead : Known → Text → Type 0
IsNoHead k bytes = (k.before ≡ None) × (LineIs (join_with_byte 32 (words_of line.head)) bytes → ⊥)

-- line 2 says that nothing is claimed
abbrev pub IsNoClaim : Known → Text → Type 0
IsNoClaim k bytes = (k.before ≡ Some line.head) × LineIs (join_with_byte 32 undecided_words) bytes

-- the line has not the form of any line that may stand here; nor has one that is missing
abbrev pub HasNoForm : Known → Text → Type 0
HasNoForm k bytes = (IsOver k bytes → ⊥) × ((l : Line) (rest : Text) → Begins k bytes l rest → ⊥)

-- The table of faults: the first row that fits at the line with which these bytes begin.
pub data RowFits (spec : Spec) (k : Known) (bytes : Text) : CertKind → Type 0 where
  head : IsNoHead k bytes → RowFits spec k bytes kind.Head
  no_claim : IsNoClaim k bytes → RowFits spec k bytes kind.NoClaim
  no_form : (IsNoHead k bytes → ⊥) → (IsNoClaim k bytes → ⊥) → HasNoForm k bytes → RowFits spec k bytes kind.Line
  field : {l : Line} {rest : Text} {why : CertKind} → Begins k bytes l rest → IsWrong spec k l why → RowFits spec k bytes why

-- Lines that no row fits, one after the other: from these bytes to the rest.
pub data Takes (spec : Spec) : Known → Text → List Line → Known → Text → Type 0 where
  none : {k : Known} {bytes : Text} → Takes spec k bytes [] k bytes
  more : {k after : Known} {bytes rest others : Text} {l : Line} {ls : List Line} → Begins k bytes l rest → IsRight spec k l → Takes spec (learn l k) rest ls after others → Takes spec k bytes (l ∷ ls) after others

-- The fault is the first row that fits, at the first line at which one does.
pub record CertificateFaultAt (spec : Spec) (bytes : Text) (f : CertFault) : Type 0 where
  pub lines : List Line
  pub known : Known
  pub rest : Text
  pub before : Takes spec nothing bytes lines known rest
  pub number : f.line ≡ length lines + 1
  pub row : RowFits spec known rest f.kind
