use Rattle.std.proofs.Common.{Contains, refl, sym, subst, ◌∙◌, arith}
use Rattle.std.proofs.lemmas.List.{take_all}
use Rattle.list_laws.proofs.Members.{none}
use Rattle.ta_core.specs.TreeAutomaton.{IsSound}
use Rattle.eq_merge.specs.Joined.{Joined}
use Rattle.eq_merge.proofs.finding.Leading.{joined_long, joined_weaker, joined_after, one_more_equation, by_one}
use Rattle.eq_merge.proofs.passes.join_each.Goals as goal

pub loop-equation-init : goal.loop-equation-init
loop-equation-init c = record { long = refl; joined = Joined.none; all = λ p q h. absurd (none h.0 h.1) }

pub loop-equation-preserved : goal.loop-equation-preserved
loop-equation-preserved c =
    let E = c.args.equations.now in
    let x = c.equation-item.result in
    let i = c.loop-equation.equation-index in
    let h = c.in_ok-join_by.ensures in
    record {
      long = joined_long h.joined ∙ c.loop-equation.invariant.long;
      joined = joined_after c.loop-equation.invariant.joined (joined_weaker (by_one E i x c.loop-equation-test.true c.equation-item.is) h.joined);
      all = one_more_equation (subst IsSound c.automaton.ensures c.next.ensures.sound) E i x c.loop-equation.classes c.join_by.new.classes c.loop-equation-test.true c.equation-item.is
          (omega (arith, c.requires.next, c.loop-equation.invariant.long)) h.joined h.all c.loop-equation.invariant.all;
    }

pub returns-clause-all : goal.returns-clause-all
returns-clause-all c p q x =
    c.loop-equation.invariant.all p q (x.0, subst (λ es. Contains es x.0) (sym (take_all c.loop-equation.equation-index c.args.equations.now c.loop-equation-test.false)) x.1, x.2)
