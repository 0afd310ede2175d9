-- What reading a text says of what it spells, by the laws of such texts.
use Rattle.std.proofs.Common.{◌≡◌, ◌⊎◌, inl, inr, ℕ, List, Result, Ok, Err, refl, ap, sym, ◌∙◌}
use Rattle.std.specs.Prelude.{IfOk}
use Rattle.ta_core.specs.declared.spec.Spec.{Spec}
use Rattle.spec_text.specs.declared.fault.SpecFault.{SpecFault}
use Rattle.spec_text.specs.Faults.{SpecFaultAt}
use Rattle.spec_text.specs.Reading.{read}
use Rattle.spec_text.specs.SpecText.{SpecText}
use Rattle.spec_text.specs.Laws.{IsRead, WhatIsReadIsSpelled, WhatIsSpelledIsRead, OneSpec, FaultsAreFirst}
use Rattle.timbuk_reader.specs.declared.fault.SpecError.{SpecError}
use Rattle.timbuk_reader.specs.declared.fault.SpecError.TheVariants.{Fault, Memory}

-- a fault that is answered is the one that reading meets
abbrev pub StopsThere : List ℕ → Result Spec SpecError → Type 0
StopsThere bytes result = (reported : SpecFault) → result ≡ Err (Fault reported) → read bytes ≡ Err reported

module _ (read_is_spelled : WhatIsReadIsSpelled) (spelled_is_read : WhatIsSpelledIsRead) (faults_are_first : FaultsAreFirst) (one_spec : OneSpec) where
  -- what is read is spelled
  pub found_by_reading : (bytes : List ℕ) (result : Result Spec SpecError) → IfOk result (IsRead bytes) → IfOk result (SpecText bytes)
  found_by_reading bytes (Ok spec) h = read_is_spelled bytes spec h
  found_by_reading bytes (Err e) h = h

  -- a text with a fault spells nothing
  pub none_by_fault : (bytes : List ℕ) (reported : SpecFault) (spec : Spec) → read bytes ≡ Err reported → SpecText bytes spec → ⊥
  none_by_fault bytes reported spec e h = let r = spelled_is_read bytes spec h in cc (r.no_fault, e)

  -- what a text spells names the answer
  pub answer_by_spec : (bytes : List ℕ) (result : Result Spec SpecError) → IfOk result (IsRead bytes) → StopsThere bytes result → (spec : Spec) → SpecText bytes spec → (result ≡ Ok spec) ⊎ (result ≡ Err Memory)
  answer_by_spec bytes (Ok found) h stops spec text = inl (ap Ok (one_spec bytes found spec (read_is_spelled bytes found h) text))
  answer_by_spec bytes (Err (Fault reported)) h stops spec text = absurd (none_by_fault bytes reported spec (stops reported refl) text)
  answer_by_spec bytes (Err Memory) h stops spec text = inr refl

  -- and so does its first fault
  pub answer_by_fault : (bytes : List ℕ) (result : Result Spec SpecError) → IfOk result (IsRead bytes) → StopsThere bytes result → (reported : SpecFault) → SpecFaultAt bytes reported → (result ≡ Err (Fault reported)) ⊎ (result ≡ Err Memory)
  answer_by_fault bytes (Ok found) h stops reported first = let e = (faults_are_first bytes reported).1 first in absurd (cc (h.no_fault, e))
  answer_by_fault bytes (Err (Fault other)) h stops reported first =
      let e = sym (stops other refl) ∙ (faults_are_first bytes reported).1 first in
      let same : other ≡ reported = cc in
      inl (ap (λ f. Err (Fault f)) same)
  answer_by_fault bytes (Err Memory) h stops reported first = inr refl
