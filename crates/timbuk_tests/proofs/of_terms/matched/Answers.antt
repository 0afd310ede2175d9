use Rattle.std.proofs.Common.{[], refl, sym, subst}
use Rattle.std.specs.Prelude.{Contains}
use Rattle.ranked_terms.specs.Terms.{occurrences}
use Rattle.ranked_terms.specs.Matching.{IsBoundBy}
use Rattle.ranked_terms.specs.lemmas.VariableLaws.{occurrences-in_variables_of}
use Rattle.timbuk_tests.proofs.of_terms.matched.Goals as goal

pub instance-requires : goal.instance-requires
instance-requires c v has =
    let p = c.args.rule.now.left in let t = c.args.term.now in let b = c.match_term.new.b in
    let m = subst (λ q. IsBoundBy q t [] b) c.left.ensures.side (subst (λ xs. IsBoundBy c.left.result.now t xs b) c.new-binding.ensures (c.if-not-match_term.ensures.bound refl)) in
    subst (λ vs. Contains vs v) (sym m.bound) (occurrences-in_variables_of p v (subst (λ q. Contains (occurrences q) v) c.left-2.ensures.side has))
