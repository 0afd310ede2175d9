use Rattle.std.proofs.Common.{ℕ, List, sym, subst, ⊎_elim}
use Rattle.ta_core.specs.TreeAutomaton.{IsSound}
use Rattle.ta_clean.specs.Tables.{IsMarked}
use Rattle.ta_clean.specs.Products.{TwoAutomata, AreAll}
use Rattle.ta_clean.proofs.marking.CommonTerms.{enters_meet, enters_in}
use Rattle.ta_clean.proofs.meeting.product.Product.enter.Goals as goal

pub mark-requires : goal.mark-requires
mark-requires c =
    let both = c.args.self.now in
    enters_in both (λ _. ⊥) c.args.grid.now c.args.left.now c.args.right.now
    (subst (λ (both : TwoAutomata). IsSound both.first) c.self.view_is c.next.ensures.sound)
    (subst (λ (both : TwoAutomata). IsSound both.second) c.self.view_is c.next-2.ensures.sound)
    c.requires.table c.requires.first c.requires.second

pub returns-then-are_marked-clause-meets : goal.returns-then-are_marked-clause-meets
returns-then-are_marked-clause-meets c pair m =
    let both = c.args.self.now in
    let old = c.args.grid.now in
    let left = c.args.left.now in
    let right = c.args.right.now in
    let all : AreAll (IsMarked old) left.args right.args =
    subst (λ (ps : List ℕ). AreAll (IsMarked old) ps right.args) c.as_slice.ensures (subst (λ (qs : List ℕ). AreAll (IsMarked old) c.as_slice.result.now qs) c.as_slice-2.ensures (c.are_marked.ensures.0 c.if-are_marked.true)) in
    ⊎_elim
    (λ before. c.requires.meets pair before)
    (λ leads. enters_meet both (IsMarked old) left right pair c.requires.meets (record {
      first = c.requires.first;
      second = c.requires.second;
      same = c.requires.same;
      all = all;
      leads = leads;
    }))
    (c.mark.ensures.members pair m)

pub returns-then-are_marked-clause-marked : goal.returns-then-are_marked-clause-marked
returns-then-are_marked-clause-marked c next e = subst (IsMarked c.mark.new.self) (sym e.leads) c.mark.ensures.marked
