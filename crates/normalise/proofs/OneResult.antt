-- Putting and normalising have one result at most.
use Rattle.std.proofs.Common.{◌≡◌, ℕ, List, ◌∷◌, Option, Some, None, refl, sym, ap, subst, ◌∙◌, arith}
use Rattle.std.specs.List.{slice_get}
use Rattle.ranked_terms.specs.declared.term.Config.{Config, out-Config}
use Rattle.ranked_terms.specs.declared.term.Config.TheOpen as layer
use Rattle.ranked_terms.specs.declared.term.Config.TheVariants.{outs-App, outs-State}
use Rattle.trs_rules.specs.Rules.{RewriteRule}
use Rattle.trs_rules.specs.declared.entry.Entry.{Entry}
use Rattle.trs_rules.specs.declared.sigma.Pair.{Pair}
use Rattle.ta_core.specs.TreeAutomaton.{TreeAutomaton}
use Rattle.ta_core.specs.Growth.{with_trans, with_eps}
use Rattle.normalise.specs.Normalising.{Task, Context, FirstFit, Goes, Puts, PutsAll, NormalisedAll, task_of}
use Rattle.normalise.specs.NormalisingLaws.{PutsAreOne, NormalisedIsOne, NormalisedAllIsOne}

-- ---- one node

fit_one : {task : Task} {node : Config} {es : List Entry} {x y : Option ℕ} → FirstFit task node es x → FirstFit task node es y → x ≡ y
fit_one FirstFit.none FirstFit.none = refl
fit_one (FirstFit.fits a) (FirstFit.fits b) = refl
fit_one (FirstFit.fits a) (FirstFit.later never b) = absurd (never a)
fit_one (FirstFit.later never a) (FirstFit.fits b) = absurd (never b)
fit_one (FirstFit.later never a) (FirstFit.later never' b) = fit_one a b

some_one : (p q : ℕ) → Some p ≡ Some q → p ≡ q
some_one p q e = cc

some_none : (p : ℕ) → Some p ≡ None → ⊥
some_none p e = cc

-- the state and the automaton that come of it
abbrev Same : ℕ → ℕ → TreeAutomaton → TreeAutomaton → Type 0
Same p q B C = (p ≡ q) × (B ≡ C)

goes_one : {task : Task} {A : TreeAutomaton} {f : ℕ} {ps : List ℕ} {p q : ℕ} {B C : TreeAutomaton} → Goes task A f ps p B → Goes task A f ps q C → Same p q B C
goes_one {A = A} {f = f} {ps = ps} (Goes.entry {p = p} a) (Goes.entry {p = q} b) = let e = some_one p q (fit_one a b) in (e, ap (with_trans A f ps) e)
goes_one (Goes.entry {p = p} a) (Goes.reuse b has) = absurd (some_none p (fit_one a b))
goes_one (Goes.entry {p = p} a) (Goes.fresh b never) = absurd (some_none p (fit_one a b))
goes_one (Goes.reuse a has) (Goes.entry {p = q} b) = absurd (some_none q (fit_one b a))
goes_one (Goes.reuse {p = p} a has) (Goes.reuse {p = q} b has') = (omega (arith, has.least q has'.has, has'.least p has.has), refl)
goes_one (Goes.reuse {p = p} a has) (Goes.fresh b never) = absurd (never p has.has)
goes_one (Goes.fresh a never) (Goes.entry {p = q} b) = absurd (some_none q (fit_one b a))
goes_one (Goes.fresh a never) (Goes.reuse {p = q} b has) = absurd (never q has.has)
goes_one (Goes.fresh a never) (Goes.fresh b never') = (refl, refl)

-- ---- configurations

-- what is put, by the form of the configuration
pub record NodePut (task : Task) (A : TreeAutomaton) (f : ℕ) (cs : List Config) (p : ℕ) (C : TreeAutomaton) : Type 0 where
  pub states : List ℕ
  pub mid : TreeAutomaton
  pub args : PutsAll task A cs states mid
  pub goes : Goes task mid f states p C

abbrev pub Enters : Task → TreeAutomaton → layer.Config-F Config → ℕ → TreeAutomaton → Type 0
Enters task A (layer.State q) p C = Same q p A C
Enters task A (layer.App f cs) p C = NodePut task A f cs p C

pub inverted : {task : Task} {A C : TreeAutomaton} {c : Config} {p : ℕ} → Puts task A c p C → Enters task A (out-Config c) p C
inverted {task = task} (Puts.state {A = A} {q = q}) = subst (λ o. Enters task A o q A) (sym (outs-State q)) (refl, refl)
inverted {task = task} (Puts.node {A = A} {B = B} {C = C} {f = f} {p = p} {cs = cs} {ps = ps} all goes) =
    subst (λ o. Enters task A o p C) (sym (outs-App f cs)) (record { states = ps; mid = B; args = all; goes = goes })

mutual
  pub put_one : {task : Task} {A B : TreeAutomaton} {c : Config} {p : ℕ} → Puts task A c p B → (q : ℕ) (C : TreeAutomaton) → Puts task A c q C → Same p q B C
  put_one {task = task} (Puts.state {A = A} {q = r}) q C d = subst (λ o. Enters task A o q C) (outs-State r) (inverted d)
  put_one {task = task} (Puts.node {A = A} {B = M} {C = B} {f = f} {p = p} {cs = cs} {ps = ps} all goes) q C d =
      let h : NodePut task A f cs q C = subst (λ o. Enters task A o q C) (outs-App f cs) (inverted d) in
      let e = all_one all h.states h.mid h.args in
      goes_one goes (subst (λ xs. Goes task M f xs q C) (sym e.0) (subst (λ X. Goes task X f h.states q C) (sym e.1) h.goes))

  pub all_one : {task : Task} {A B : TreeAutomaton} {cs : List Config} {ps : List ℕ} → PutsAll task A cs ps B → (qs : List ℕ) (C : TreeAutomaton) → PutsAll task A cs qs C → (ps ≡ qs) × (B ≡ C)
  all_one PutsAll.none qs C PutsAll.none = (refl, refl)
  all_one {task = task} (PutsAll.more {B = M} {cs = cs} {ps = ps} first rest) qs C (PutsAll.more {B = N} {p = q} {ps = others} first' rest') =
      let e = put_one first q N first' in
      let h = all_one rest others C (subst (λ X. PutsAll task X cs others C) (sym e.1) rest') in
      ((λ i. e.0 i ∷ h.0 i), h.1)

pub puts_are_one : PutsAreOne
puts_are_one task A B C c p q a b = put_one a q C b

-- ---- pairs

pub same_rule : (R : List RewriteRule) (i : ℕ) (a b : RewriteRule) → slice_get R i ≡ Some a → slice_get R i ≡ Some b → a ≡ b
same_rule R i a b e h = let k : Some a ≡ Some b = sym e ∙ h in cc

pub normalised_is_one : NormalisedIsOne
normalised_is_one context A B C pair p q a b =
    let same = same_rule context.rules pair.rule b.rule a.rule b.is_rule a.is_rule in
    let other = subst (λ r. Puts (task_of context r pair) A (task_of context r pair).whole q b.put) same b.puts in
    let e = put_one a.puts q b.put other in
    (e.0, a.led ∙ ((λ i. with_eps (e.1 i) (e.0 i) pair.state) ∙ sym b.led))

pub pairs_one : {context : Context} {A B : TreeAutomaton} {pairs : List Pair} → NormalisedAll context A pairs B → (C : TreeAutomaton) → NormalisedAll context A pairs C → B ≡ C
pairs_one NormalisedAll.none C NormalisedAll.none = refl
pairs_one {context = context} {A = A} (NormalisedAll.more {B = M} {pair = pair} {p = p} {pairs = pairs} first rest) C (NormalisedAll.more {B = N} {p = q} first' rest') =
    let e = normalised_is_one context A M N pair p q first first' in
    pairs_one rest C (subst (λ X. NormalisedAll context X pairs C) (sym e.1) rest')

pub normalised_all_is_one : NormalisedAllIsOne
normalised_all_is_one context A B C pairs a b = pairs_one a C b
