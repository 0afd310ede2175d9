use Rattle.std.proofs.Common.{rules, subst}
use Rattle.std.specs.Prelude.{List, ℕ}
use Rattle.cert_text.specs.Cuts.{AppendsBehind}
use Rattle.cert_text.specs.Taking.{endless, unlike}
use Rattle.cert_text.proofs.taking.Reader.numbers.Goals as goal

pub returns-in-Err-clause-refused : goal.returns-in-Err-clause-refused
returns-in-Err-clause-refused c = λ f is. let same = c.in-Err.ensures.fault.0 in (cc, endless c.in-Err.ensures.fault.1)

pub returns-then-not-told-clause-refused : goal.returns-then-not-told-clause-refused
returns-then-not-told-clause-refused c = λ f is. (cc, unlike c.in-Ok.text.now c.whole_line.new.self.rest.now c.in-Ok.ensures.line.0 c.in-Ok.ensures.line.1 (c.numbers_behind.ensures.no (cc)))

pub returns-clause-taken : goal.returns-clause-taken
returns-clause-taken c = record {
  text = c.in-Ok.text.now;
  told = c.in-Ok.ensures.line.0;
  appends = subst (λ (old : List ℕ). AppendsBehind c.args.head.now c.in-Ok.text.now old c.numbers_behind.new.numbers.items) (search rules) (c.numbers_behind.ensures.yes (cc));
}
