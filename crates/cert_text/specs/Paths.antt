-- The lines of a derivation as the code meets them. These serve private contracts alone.
use Rattle.std.specs.Prelude.{◌≡◌, ℕ, ◌+◌, ◌≤◌, List, [], ◌∷◌, ◌++◌, length, map, All, Option, Some, None, codes}
use Rattle.ranked_terms.specs.Names.{Symbol}
use Rattle.ranked_terms.specs.Texts.{Text, number_word}
use Rattle.trs_rules.specs.declared.derivation.DStep.{DStep}
use Rattle.ta_core.specs.declared.spec.Spec.{Spec}
use Rattle.cert_text.specs.declared.certificate.CertFault.{CertFault}
use Rattle.cert_text.specs.declared.certificate.CertKind.{CertKind}
use Rattle.cert_text.specs.declared.certificate.CertKind.TheVariants as kind
use Rattle.cert_text.specs.Words.{position_word}
use Rattle.cert_text.specs.TermForms.{IsTermText}
use Rattle.cert_text.specs.Cuts.{Lacks, saturated}
use Rattle.cert_text.specs.Lines.{Line, IsPlace, start, step, end}
use Rattle.cert_text.specs.Certificates.{step_line, IsCertStep}
use Rattle.cert_text.specs.Faults.{Known, Takes, TellsTerm}
use Rattle.cert_text.specs.Taking.{FaultFrom}

-- ---- fields

-- a position within its bounds
pub record ArePlaces (at : List ℕ) : Type 0 where
  pub few : length at ≤ 1024
  pub each : All IsPlace at

pub record IsPosition (word : Text) (at : List ℕ) : Type 0 where
  pub told : word ≡ position_word at
  pub places : ArePlaces at

-- the text of a step's line, whose position is this word
abbrev pub fields_text : ℕ → Text → Text → Text
fields_text r position t = codes "Step " ++ (number_word r ++ 32 ∷ (position ++ 32 ∷ t))

pub record AreFields (text : Text) (n : ℕ) (position term : Text) : Type 0 where
  pub lacks : Lacks 32 position
  pub rule : ℕ
  pub told : text ≡ fields_text rule position term
  pub value : n ≡ saturated rule

pub record IsStepText (text : Text) (r : ℕ) (at : List ℕ) (term : Text) : Type 0 where
  pub rule : r ≤ 4095
  pub places : ArePlaces at
  pub told : text ≡ fields_text r (position_word at) term

-- the first row that fits the text of a term, where one does
pub data IsWrongTerm (s : List Symbol) (text : Text) : CertKind → Type 0 where
  form : (IsTermText text → ⊥) → IsWrongTerm s text kind.Line
  symbol : IsTermText text → (TellsTerm s text → ⊥) → IsWrongTerm s text kind.Symbol

-- ---- lines

-- a step may come, or the end
pub data MayStep : Option Line → Type 0 where
  at_start : (t : Text) → MayStep (Some (start t))
  behind : (r : ℕ) (at : List ℕ) (t : Text) → MayStep (Some (step r at t))

pub record IsAtStep (s : List Symbol) (count : ℕ) (spec : Spec) (k : Known) : Type 0 where
  pub signature : spec.signature ≡ s
  pub may : MayStep k.before
  pub counted : k.steps ≡ count

abbrev pub path_line : List Symbol → Option DStep → Line
path_line s None = end
path_line s (Some d) = step_line s d

-- the line behind which the next step comes
abbrev pub step_at : List Symbol → Option Line → List DStep → Option Line
step_at s o [] = o
step_at s o (d ∷ ds) = step_at s (Some (step_line s d)) ds

-- what is known behind these steps, of which so many were told before
abbrev pub stepped : List Symbol → Known → List DStep → Known
stepped s k ds = record k { before = step_at s k.before ds; steps = k.steps + length ds }

-- these steps were taken
pub record AreSteps (s : List Symbol) (old new : Text) (ds : List DStep) : Type 0 where
  pub takes : (spec : Spec) (k : Known) → IsAtStep s 0 spec k → Takes spec k old (map (step_line s) ds) (stepped s k ds) new
  pub few : length ds ≤ 100
  pub each : All (IsCertStep s) ds

-- and the end behind them
pub record AreStepsToEnd (s : List Symbol) (old new : Text) (ds : List DStep) : Type 0 where
  pub takes : (spec : Spec) (k : Known) → IsAtStep s 0 spec k → Takes spec k old (map (step_line s) ds ++ end ∷ []) (record k { before = Some end; steps = k.steps + length ds }) new
  pub few : length ds ≤ 100
  pub each : All (IsCertStep s) ds

-- the fault is told at the steps
abbrev pub IsBadStep : List Symbol → Text → ℕ → CertFault → Type 0
IsBadStep s old count f = (spec : Spec) (k : Known) → IsAtStep s 0 spec k → FaultFrom spec k old count f
