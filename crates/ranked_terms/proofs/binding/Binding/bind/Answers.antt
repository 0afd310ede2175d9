use Rattle.std.proofs.Common.{subst, sym}
use Rattle.ranked_terms.specs.Matching.{IsBoundBy}
use Rattle.ranked_terms.specs.declared.term.Pattern.TheVariants.{Var}
use Rattle.ranked_terms.proofs.bindings.MatchingLaws.{bind_found, bind_new, room_for_new}
use Rattle.ranked_terms.proofs.binding.Binding.bind.Goals as goal

pub push-requires : goal.push-requires
push-requires c = record { room = room_for_new c.args.variable c.args.self.now (sym c.in-None.ensures) c.requires; new = sym c.in-None.ensures }

pub returns-in-Some : goal.returns-in-Some
returns-in-Some c = bind_found c.args.variable c.args.self.now c.in-Some.bound.now c.args.t.now c.equal.result (sym c.in-Some.ensures) c.equal.ensures

pub returns-in-None : goal.returns-in-None
returns-in-None c = subst (λ b. IsBoundBy (Var c.args.variable) c.args.t.now c.args.self.now b) (sym c.push.ensures) (bind_new c.args.variable c.args.self.now c.args.t.now (sym c.in-None.ensures))
