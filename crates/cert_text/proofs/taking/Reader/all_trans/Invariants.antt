use Rattle.std.proofs.Common.{◌≡◌, ◌+◌, ◌-◌, length}
use Rattle.cert_text.specs.Taking.{IsCounted}
use Rattle.cert_text.specs.Entries.{AreTrans}
use Rattle.cert_text.proofs.taking.Reader.all_trans.Given as goal

abbrev pub invariant-loop-next : goal.invariant-loop-next
invariant-loop-next l = record {
  counted : IsCounted l.self.line l.self.rest.now;
  number : l.self.line ≡ l.fn.self.line + length l.trans.items;
  are : AreTrans l.sig l.states l.fn.self.rest.now l.self.rest.now l.trans.items;
}

abbrev pub decreases-loop-next : goal.decreases-loop-next
decreases-loop-next l = 4294967295 - l.self.line
