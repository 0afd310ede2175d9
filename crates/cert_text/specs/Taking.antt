-- One line that is taken or refused. These serve private contracts alone.
use Rattle.std.specs.Prelude.{◌≡◌, ◌≢◌, ℕ, ◌+◌, ◌<◌, ◌==◌, get_or, Bool, false, List, [], ◌∷◌, ◌++◌, length, map, Option, Some, None, IfSome, All, Contains, if◌then◌else◌}
use Rattle.std.specs.List.{list_any, join_with_byte}
use Rattle.std.specs.declared.cmp.Ordering.TheVariants.{Less}
use Rattle.ranked_terms.specs.Names.{Symbol, number_of, arity_of}
use Rattle.ranked_terms.specs.Words.{IsWord}
use Rattle.ta_core.specs.TreeAutomaton.{trans_of, trans_cmp, pair_cmp}
use Rattle.ta_core.specs.declared.trans.Trans.{Trans}
use Rattle.ta_core.specs.declared.spec.Spec.{Spec}
use Rattle.cert_text.specs.declared.certificate.CertFault.{CertFault}
use Rattle.cert_text.specs.declared.certificate.CertKind.{CertKind}
use Rattle.cert_text.specs.declared.certificate.CertKind.TheVariants as kind
use Rattle.ranked_terms.specs.Texts.{Text, number_word, symbol_text, with_args}
use Rattle.cert_text.specs.Cuts.{Lacks, saturated, arrow_text, AppendsBehind}
use Rattle.cert_text.specs.Lines.{Line, unreachable, reachable, precise, next, rounds, states, finals as finals_line, maps, eps, end}
use Rattle.cert_text.specs.Certificates.{note_lines, trans_line}
use Rattle.cert_text.specs.Faults.{Known, Begins, IsRight, RowFits, Takes, TellsSymbol}

-- the lines before and the bytes to come are few enough to count
abbrev pub IsCounted : ℕ → Text → Type 0
IsCounted line rest = line + length rest < 4294967295

-- the first line of the bytes without its newline, and whether there is one, which the rest stands behind
pub record IsFirstLine (bytes text rest : Text) (ended : Bool) : Type 0 where
  pub lacks : Lacks 10 text
  pub told : bytes ≡ text ++ (if ended then 10 ∷ rest else [])

-- the bytes begin with this line, on which no row fits
pub record Taken (spec : Spec) (k : Known) (old : Text) (l : Line) (new : Text) : Type 0 where
  pub begins : Begins k old l new
  pub right : IsRight spec k l

-- the fault is told of the line of this number, with which the bytes begin
pub record Refused (spec : Spec) (k : Known) (old : Text) (number : ℕ) (f : CertFault) : Type 0 where
  pub number_is : f.line ≡ number
  pub row : RowFits spec k old f.kind

abbrev pub verdict : Bool → Line
verdict reaches = if reaches then reachable else unreachable

-- the line behind the rounds
abbrev pub noted : Option ℕ → Line
noted None = precise
noted (Some n) = next n

-- the fault is the first row that fits from these bytes on, where so many lines were taken before
pub record FaultFrom (spec : Spec) (k : Known) (bytes : Text) (count : ℕ) (f : CertFault) : Type 0 where
  pub lines : List Line
  pub known : Known
  pub rest : Text
  pub before : Takes spec k bytes lines known rest
  pub number : f.line ≡ count + length lines + 1
  pub row : RowFits spec known rest f.kind

-- the bytes begin with a line that is the head with words of numbers behind it, the greatest u32 in the place of greater ones
pub record IsNumberLine (head bytes rest : Text) (numbers : List ℕ) : Type 0 where
  pub text : Text
  pub told : bytes ≡ text ++ 10 ∷ rest
  pub appends : AppendsBehind head text [] numbers

-- the bytes begin with no such line
pub data LacksNumberLine (head bytes : Text) : Type 0 where
  endless : Lacks 10 bytes → LacksNumberLine head bytes
  unlike : (text rest : Text) → bytes ≡ text ++ 10 ∷ rest → Lacks 10 text → ((ns : List ℕ) → text ≡ join_with_byte 32 (head ∷ map number_word ns) → ⊥)
      → LacksNumberLine head bytes

-- the lines between the verdict and the map, and what they tell
abbrev pub listed_lines : ℕ → Bool → ℕ → List ℕ → List ℕ → List Line
listed_lines i is_precise n qs fs = rounds i ∷ (note_lines is_precise ++ next n ∷ states qs ∷ finals_line fs ∷ [])

abbrev pub listed_known : Known → ℕ → List ℕ → List ℕ → Known
listed_known k n qs fs = record k { before = Some (finals_line fs); next = n; states = qs }

-- a line behind an epsilon transition
abbrev pub closing : Option (ℕ × ℕ) → Line
closing None = end
closing (Some e) = eps e.0 e.1

-- the rows for an epsilon transition, by the states and the one before
pub record IsRightEps (states : List ℕ) (last : Option (ℕ × ℕ)) (e : ℕ × ℕ) : Type 0 where
  pub from : Contains states e.0
  pub to : Contains states e.1
  pub moves : e.0 ≢ e.1
  pub after : IfSome last (λ f. pair_cmp f e ≡ Less)

pub data IsWrongEps (states : List ℕ) (last : Option (ℕ × ℕ)) (e : ℕ × ℕ) : CertKind → Type 0 where
  state : (Contains states e.0 × Contains states e.1 → ⊥) → IsWrongEps states last e kind.State
  order : Contains states e.0 → Contains states e.1 → ((e.0 ≢ e.1) × IfSome last (λ f. pair_cmp f e ≡ Less) → ⊥) → IsWrongEps states last e kind.Order

-- and for a transition, whose symbol is named
pub record IsRightTrans (s : List Symbol) (states : List ℕ) (last : Option Trans) (name : Text) (args : List ℕ) (to : ℕ) (t : Trans) : Type 0 where
  pub fields : t ≡ trans_of t.sym args to
  pub named : number_of s name ≡ Some t.sym
  pub arity : arity_of s t.sym ≡ Some (length args)
  pub known : All (Contains states) args
  pub target : Contains states to
  pub after : IfSome last (λ u. trans_cmp u t ≡ Less)

pub data IsWrongTrans (s : List Symbol) (states : List ℕ) (last : Option Trans) (name : Text) (args : List ℕ) (to : ℕ) : CertKind → Type 0 where
  symbol : (TellsSymbol s name (length args) → ⊥) → IsWrongTrans s states last name args to kind.Symbol
  state : TellsSymbol s name (length args) → (All (Contains states) args × Contains states to → ⊥) → IsWrongTrans s states last name args to kind.State
  order : (sym : ℕ) → number_of s name ≡ Some sym → arity_of s sym ≡ Some (length args) → All (Contains states) args → Contains states to
      → (IfSome last (λ u. trans_cmp u (trans_of sym args to) ≡ Less) → ⊥) → IsWrongTrans s states last name args to kind.Order

-- the line before is the map, or the last transition, whose symbol is in the signature
pub data MayTrans (s : List Symbol) : Option Trans → Option Line → Type 0 where
  at_first : (qs : List ℕ) → MayTrans s None (Some (maps qs))
  behind : (t : Trans) → number_of s (symbol_text s t.sym) ≡ Some t.sym → MayTrans s (Some t) (Some (trans_line s t))

-- the text is a transition's line of this name, and the arguments were appended
pub record IsTransText (text name : Text) (old new : List ℕ) (n : ℕ) : Type 0 where
  pub is_word : IsWord name
  pub args : List ℕ
  pub to : ℕ
  pub told : text ≡ arrow_text (with_args name (map number_word args)) to
  pub appended : new ≡ old ++ map saturated args
  pub value : n ≡ saturated to

abbrev pub eps_lines : List (ℕ × ℕ) → List Line
eps_lines es = map (λ e. eps e.0 e.1) es

-- the flag of each number says whether it is listed
abbrev pub Flags : List Bool → List ℕ → Type 0
Flags flags listed = (q : ℕ) → get_or flags q false ≡ list_any (λ y. q == y) listed
