-- A text that spells a specification has no fault, and no text has two first faults.
use Rattle.std.proofs.Common.{◌≡◌, Err, sym, ◌∙◌}
use Rattle.spec_text.specs.declared.fault.SpecFault.{SpecFault}
use Rattle.spec_text.specs.Reading.{Outcome}
use Rattle.spec_text.specs.Laws.{SpelledHasNoFault, OneFirstFault}
use Rattle.spec_text.proofs.faults.First.{faults_are_first}
use Rattle.spec_text.proofs.agreement.sections.Texts.{spelled_is_read}

abbrev failed : SpecFault → Outcome
failed f = Err f

same_fault : (f g : SpecFault) → failed f ≡ failed g → f ≡ g
same_fault f g e = cc

pub spelled_has_no_fault : SpelledHasNoFault
spelled_has_no_fault bytes spec f spelled first =
    let r = spelled_is_read bytes spec spelled in
    let e = (faults_are_first bytes f).1 first in
    absurd (cc (r.no_fault, e))

pub one_first_fault : OneFirstFault
one_first_fault bytes f g a b = same_fault f g (sym ((faults_are_first bytes f).1 a) ∙ (faults_are_first bytes g).1 b)
