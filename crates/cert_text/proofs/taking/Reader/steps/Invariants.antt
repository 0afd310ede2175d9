use Rattle.std.proofs.Common.{◌≡◌, ◌+◌, ◌-◌, length}
use Rattle.cert_text.specs.Taking.{IsCounted}
use Rattle.cert_text.specs.Paths.{AreSteps}
use Rattle.cert_text.proofs.taking.Reader.steps.Given as goal

abbrev pub invariant-loop-steps : goal.invariant-loop-steps
invariant-loop-steps l = record {
  counted : IsCounted l.self.line l.self.rest.now;
  number : l.self.line ≡ l.fn.self.line + length l.steps.items;
  are : AreSteps l.sig l.fn.self.rest.now l.self.rest.now l.steps.items;
}

abbrev pub decreases-loop-steps : goal.decreases-loop-steps
decreases-loop-steps l = 4294967295 - l.self.line
