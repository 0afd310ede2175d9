use Rattle.std.proofs.Common.{◌≡◌, ◌+◌, ◌-◌, length}
use Rattle.cert_text.specs.Taking.{IsCounted}
use Rattle.cert_text.specs.Entries.{AreEps}
use Rattle.cert_text.proofs.taking.Reader.all_eps.Given as goal

abbrev pub invariant-loop-eps : goal.invariant-loop-eps
invariant-loop-eps l = record {
  counted : IsCounted l.self.line l.self.rest.now;
  number : l.self.line + 1 ≡ l.fn.self.line + length l.eps.items;
  are : AreEps l.fn.first l.last l.fn.states l.fn.self.rest.now l.self.rest.now l.eps.items;
}

abbrev pub decreases-loop-eps : goal.decreases-loop-eps
decreases-loop-eps l = 4294967295 - l.self.line
