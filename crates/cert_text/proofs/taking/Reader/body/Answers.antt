use Rattle.std.proofs.Common.{ℕ, Option, subst}
use Rattle.cert_text.specs.Entries.{IsCutOff}
use Rattle.cert_text.proofs.whole.Going.{no_eps, with_eps, bad_behind}
use Rattle.cert_text.proofs.taking.Reader.body.Goals as goal

pub returns-in-None-clause-taken : goal.returns-in-None-clause-taken
returns-in-None-clause-taken c = no_eps c.args.sig.now c.args.states.now c.args.self.now.rest.now c.all_trans.new.self.rest.now c.in-Ok.both.0.items c.new.result.items (subst (λ (o : Option (ℕ × ℕ)). IsCutOff c.args.sig.now c.args.states.now c.args.self.now.rest.now c.all_trans.new.self.rest.now c.in-Ok.both.0.items o) c.in-None.is c.in-Ok.ensures.taken) c.new.ensures.items

pub returns-in-Ok-all_eps-clause-taken : goal.returns-in-Ok-all_eps-clause-taken
returns-in-Ok-all_eps-clause-taken c =
    with_eps c.args.sig.now c.args.states.now c.args.self.now.rest.now c.all_trans.new.self.rest.now c.in-Ok.both.0.items c.in-Some.first (subst (λ (o : Option (ℕ × ℕ)). IsCutOff c.args.sig.now c.args.states.now c.args.self.now.rest.now c.all_trans.new.self.rest.now c.in-Ok.both.0.items o) c.in-Some.is c.in-Ok.ensures.taken) c.all_eps.new.self.rest.now c.in-Ok-all_eps.eps.items c.in-Ok-all_eps.ensures.taken

pub returns-in-Err-all_eps-clause-refused : goal.returns-in-Err-all_eps-clause-refused
returns-in-Err-all_eps-clause-refused c = λ f is.
    bad_behind c.args.sig.now c.args.states.now c.args.self.now.rest.now c.all_trans.new.self.rest.now c.in-Ok.both.0.items c.in-Some.first (subst (λ (o : Option (ℕ × ℕ)). IsCutOff c.args.sig.now c.args.states.now c.args.self.now.rest.now c.all_trans.new.self.rest.now c.in-Ok.both.0.items o) c.in-Some.is c.in-Ok.ensures.taken) c.args.self.now.line c.all_trans.new.self.line f (c.in-Err-all_eps.ensures.refused f (cc)) c.in-Ok.ensures.number
