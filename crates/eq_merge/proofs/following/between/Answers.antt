use Rattle.std.proofs.Common.{All, sym, ap, subst, ◌∙◌}
use Rattle.list_laws.specs.Lists.{IsUnion}
use Rattle.ta_core.specs.TreeAutomaton.{TreeAutomaton, IsTransOf}
use Rattle.eq_merge.proofs.following.between.Goals as goal

pub add_all_trans-requires : goal.add_all_trans-requires
add_all_trans-requires c = subst (λ S. All (IsTransOf S) c.args.trans) (sym (ap (λ (X : TreeAutomaton). X.states) c.in_ok-made.ensures)) c.requires.inside

pub returns : goal.returns
returns c =
    let made = c.add_all_trans.new.self in (
      subst (λ ts. IsUnion ts c.args.trans made.trans) (ap (λ (X : TreeAutomaton). X.trans) c.in_ok-made.ensures) c.in_ok-add_all_trans.ensures.members,
      c.in_ok-add_all_trans.ensures.rest ∙ ap (λ (X : TreeAutomaton). record X { trans = made.trans }) c.in_ok-made.ensures,
    )
