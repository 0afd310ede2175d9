use Rattle.std.proofs.Common.{◌≡◌, ◌≤◌, drop}
use Rattle.cert_text.specs.declared.terms.Place.TheVariants as place
use Rattle.cert_text.specs.TermScan.{scan}
use Rattle.cert_text.proofs.terms.is_term_text.Given as goal

abbrev pub invariant-loop-byte : goal.invariant-loop-byte
invariant-loop-byte l = record {
  few : l.depth ≤ l.byte-index;
  same : scan l.text place.Start 0 ≡ scan (drop l.byte-index l.text) l.place l.depth;
}
