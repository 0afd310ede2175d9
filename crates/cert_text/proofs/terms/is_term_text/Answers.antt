use Rattle.std.proofs.Common.{◌+◌, ◌∙◌, sym, ap, arith, drop}
use Rattle.cert_text.specs.TermScan.{scan, go_on}
use Rattle.cert_text.proofs.format.TermScan.{scan_on, step_small, at_end, cut_short}
use Rattle.cert_text.proofs.terms.is_term_text.Goals as goal

pub returns-in_default : goal.returns-in_default
returns-in_default c =
    let i = c.loop-byte.byte-index in
    cut_short c.args.text.now (c.loop-byte.invariant.same ∙ scan_on c.args.text.now i c.loop-byte.place c.loop-byte.depth c.mark_of.result c.step.result c.loop-byte-test.true c.mark_of.ensures c.step.ensures
    ∙ ap (go_on (scan (drop (i + 1) c.args.text.now))) c.in_default.is)

pub loop-byte-preserved : goal.loop-byte-preserved
loop-byte-preserved c =
    let i = c.loop-byte.byte-index in
    let small = step_small c.mark_of.result c.loop-byte.place c.loop-byte.depth c.in-Some.next c.in-Some.open c.step.result c.in-Some.is (sym c.step.ensures) in
    let few = c.loop-byte.invariant.few in
    record {
      few = omega (arith, small, few);
      same = c.loop-byte.invariant.same ∙ scan_on c.args.text.now i c.loop-byte.place c.loop-byte.depth c.mark_of.result c.step.result c.loop-byte-test.true c.mark_of.ensures c.step.ensures
          ∙ ap (go_on (scan (drop (i + 1) c.args.text.now))) c.in-Some.is;
    }

pub returns : goal.returns
returns c = at_end c.args.text.now c.loop-byte.byte-index c.loop-byte.place c.loop-byte.depth c.is_end.result c.loop-byte-test.false c.is_end.ensures c.loop-byte.invariant.same
