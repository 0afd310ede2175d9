-- The derived `==` of terms is equality.
-- Nobody has to believe this: it is proved, for the proofs of the crates above.
use Rattle.std.proofs.Common.{◌≡◌, ℕ, Bool, true, List, [], ◌∷◌, refl, sym, ap, subst, ◌∙◌, true≢false}
use Rattle.std.specs.Cmp.Lexicographic.{pointwise}
use Rattle.std.specs.Cmp.{first_so, second_so}
use Rattle.std.specs.List.{AllByRecursion}
use Rattle.std.proofs.lemmas.Bool.{eqb-true}
use Rattle.ranked_terms.specs.Terms.{node}
use Rattle.ranked_terms.specs.declared.term.Term.TheViews.{out-Term}
use Rattle.ranked_terms.specs.declared.term.Term.{Term}
use Rattle.ranked_terms.specs.contracts.term.TermPartialEq.TheImpl.{ghosts}
use Rattle.ranked_terms.specs.contracts.term.TermPartialEq.TheImpl.Laws as eq_laws
use Rattle.ranked_terms.specs.contracts.term.TermEq.TheImpl.Laws as equiv_laws
use Rattle.ranked_terms.specs.lemmas.TermLaws.{out_node, term_induction, same_term}

abbrev pub eq : Term → Term → Bool
eq = ghosts.eq

abbrev Tells : Term → Type 0
Tells t = (u : Term) → eq t u ≡ true → t ≡ u

all_same : (ts us : List Term) → AllByRecursion Tells ts → pointwise eq ts us ≡ true → ts ≡ us
all_same [] [] all h = refl
all_same [] (u ∷ us) all h = absurd (true≢false (sym h))
all_same (t ∷ ts) [] all h = absurd (true≢false (sym h))
all_same (t ∷ ts) (u ∷ us) all h =
    let e : t ≡ u = all.0 u (first_so (eq t u) (pointwise eq ts us) h) in
    let es : ts ≡ us = all_same ts us all.1 (second_so (eq t u) (pointwise eq ts us) h) in
    λ i. e i ∷ es i

at_node : (f : ℕ) (ts : List Term) → AllByRecursion Tells ts → Tells (node f ts)
at_node f ts all u h =
    let both = sym (eq_laws.is (node f ts) u) ∙ h in
    let e = eqb-true _ _ (first_so _ _ both) in
    let o = out_node f ts in
    let p = subst (λ o. pointwise eq o.args (out-Term u).args ≡ true) o (second_so _ _ both) in
    let es = all_same ts (out-Term u).args all p in
    same_term _ _ e (ap (λ o. o.args) o ∙ es)

pub eq-same : (t u : Term) → eq t u ≡ true → t ≡ u
eq-same = term_induction Tells at_node

pub same-eq : (t u : Term) → t ≡ u → eq t u ≡ true
same-eq t u e = subst (λ x. eq t x ≡ true) e (equiv_laws.lawful.laws.refl t)
