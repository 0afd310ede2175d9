-- Lines that are taken one after the other.
use Rattle.std.proofs.Common.{◌≡◌, ℕ, ◌+◌, length, List, [], ◌∷◌, ◌++◌, ◌∙◌, arith, length-append}
use Rattle.ta_core.specs.declared.spec.Spec.{Spec}
use Rattle.cert_text.specs.declared.certificate.CertFault.{CertFault}
use Rattle.ranked_terms.specs.Texts.{Text}
use Rattle.cert_text.specs.Lines.{Line}
use Rattle.cert_text.specs.Faults.{Known, nothing, learn, Takes, none, more, CertificateFaultAt}
use Rattle.cert_text.specs.Taking.{Taken, Refused, FaultFrom}

pub one : (spec : Spec) (k : Known) (b r : Text) (l : Line) → Taken spec k b l r → Takes spec k b (l ∷ []) (learn l k) r
one spec k b r l t = more t.begins t.right none

pub and_then : (spec : Spec) (k m n : Known) (b r s : Text) (ls ms : List Line) → Takes spec k b ls m r → Takes spec m r ms n s → Takes spec k b (ls ++ ms) n s
and_then spec k m n b r s ls ms none u = u
and_then spec k m n b r s ls ms (more {rest = rest} {l = l} {ls = others} begins right t) u = more begins right (and_then spec (learn l k) m n rest r s others ms t u)

-- a line is refused behind lines that were taken
pub stops : (spec : Spec) (k m : Known) (b r : Text) (ls : List Line) (count number : ℕ) (f : CertFault) → Takes spec k b ls m r → Refused spec m r number f → number ≡ count + length ls + 1 → FaultFrom spec k b count f
stops spec k m b r ls count number f t bad is = record { lines = ls; known = m; rest = r; before = t; number = bad.number_is ∙ is; row = bad.row }

-- a fault behind lines that were taken
pub stops_later : (spec : Spec) (k m : Known) (b r : Text) (ls : List Line) (count later : ℕ) (f : CertFault) → Takes spec k b ls m r → FaultFrom spec m r later f → later ≡ count + length ls → FaultFrom spec k b count f
stops_later spec k m b r ls count later f t bad is = record {
  lines = ls ++ bad.lines;
  known = bad.known;
  rest = bad.rest;
  before = and_then spec k m bad.known b r bad.rest ls bad.lines t bad.before;
  number = (let n = bad.number in let both = length-append ls bad.lines in omega (arith, n, both, is));
  row = bad.row;
}

pub from_the_first : (spec : Spec) (bytes : Text) (f : CertFault) → FaultFrom spec nothing bytes 0 f → CertificateFaultAt spec bytes f
from_the_first spec bytes f bad = record { lines = bad.lines; known = bad.known; rest = bad.rest; before = bad.before; number = (let n = bad.number in omega (arith, n)); row = bad.row }
