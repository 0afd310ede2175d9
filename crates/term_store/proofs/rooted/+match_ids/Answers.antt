use Rattle.std.proofs.Common.{◌==◌, [], ◌∷◌, ◌++◌, subst, sym, ap, ◌∙◌, arith}
use Rattle.std.specs.Prelude.{MatchBool}
use Rattle.ranked_terms.specs.declared.term.Pattern.TheVariants.{App}
use Rattle.term_store.specs.Store.{term_at, applied}
use Rattle.term_store.specs.Rooted.{id_of, named, IsMatch, IsNoMatch}
use Rattle.term_store.proofs.RootedLaws.{no_match_at, bound_before, bound_now, one_more, no_more, whole_match, other_shape}
use Rattle.term_store.proofs.Cases.{when_true, when_false}
use Rattle.term_store.proofs.rooted.+match_ids.Goals as goal
use Rattle.term_store.proofs.rooted.+match_ids.Goals.{then-f-sym-via-then-f-sym, then-f-sym-via-else-f-sym+then-ps-ts}

pub returns-then-f-sym : goal.returns-then-f-sym
returns-then-f-sym t c =
    let ps = c.as_slice-ps.result.now in let ts = c.node-sym.result.1.now in let terms = c.args.store.now in
    no_match_at c.args.p.now (App c.in-App.f ps) (term_at terms c.args.id) (applied terms c.node-sym.result.0 ts) (named terms c.args.binding.now.items)
    (c.in-App.is ∙ ap (App c.in-App.f) (sym c.as_slice-ps.ensures))
    c.node-sym.ensures.is
    (other_shape terms c.in-App.f c.node-sym.result.0 ps ts (named terms c.args.binding.now.items)
    (λ e h. elim c.then-f-sym.branch [ then-f-sym-via-then-f-sym w ↦ w.if-f-sym.true e | then-f-sym-via-else-f-sym+then-ps-ts w ↦ w.if-ps-ts.true h ]))

pub returns-then-not-branch : goal.returns-then-not-branch
returns-then-not-branch t c =
    let ps = c.as_slice-ps.result.now in let ts = c.node-sym.result.1.now in let terms = c.args.store.now in
    no_match_at c.args.p.now (App c.in-App.f ps) (term_at terms c.args.id) (applied terms c.in-App.f ts) (named terms c.args.binding.now.items)
    (c.in-App.is ∙ ap (App c.in-App.f) (sym c.as_slice-ps.ensures))
    (c.node-sym.ensures.is ∙ ap (λ f. applied terms f c.node-sym.result.1.now) (sym c.if-f-sym.false))
    (no_more terms c.in-App.f ps ts c.loop-i.i c.index-ps-i.result 0 (named terms c.args.binding.now.items) (named terms c.loop-i.binding.items) c.loop-i.invariant.0
    c.loop-i-test.true (omega (arith, c.loop-i-test.true, c.if-ps-ts.false)) c.index-ps-i.is
    (when_false _ _ c.in_ok-match_ids-in-App.field-0 c.if-not-branch.true c.in_ok-match_ids-in-App.ensures))

pub loop-i-preserved : goal.loop-i-preserved
loop-i-preserved t c =
    let ps = c.as_slice-ps.result.now in let ts = c.node-sym.result.1.now in let terms = c.args.store.now in
    let m = when_true _ _ c.in_ok-match_ids-in-App.field-0 c.if-not-branch.false c.in_ok-match_ids-in-App.ensures in (
      one_more terms c.in-App.f ps ts c.loop-i.i c.index-ps-i.result 0 (named terms c.args.binding.now.items) (named terms c.loop-i.binding.items) c.loop-i.invariant.0
          c.loop-i-test.true (omega (arith, c.loop-i-test.true, c.if-ps-ts.false)) c.index-ps-i.is (named terms c.match_ids.new.binding.items) m.bound,
      m.ids,
    )

pub returns-in-Some : goal.returns-in-Some
returns-in-Some t c =
    let b = c.args.binding.now.items in let terms = c.args.store.now in
    subst (λ p. MatchBool (c.in-Some.bound == c.args.id) (IsMatch p c.args.id terms b b) (IsNoMatch p (term_at terms c.args.id) (named terms b))) (sym c.in-Var.is)
    (bound_before terms c.len-size.ensures.store c.in-Var.variable b c.in-Some.bound c.args.id c.requires.ids c.requires.there
    (ap (λ b. id_of b c.in-Var.variable) (sym c.as_slice.ensures.value) ∙ (sym c.bound_to.ensures ∙ c.in-Some.is)))

pub returns-in_ok-push-in-None : goal.returns-in_ok-push-in-None
returns-in_ok-push-in-None t c =
    let b = c.args.binding.now.items in let terms = c.args.store.now in
    subst (λ b'. IsMatch c.args.p.now c.args.id terms b b') (sym c.in_ok-push-in-None.ensures.items)
    (subst (λ p. IsMatch p c.args.id terms b (b ++ (c.in-Var.variable, c.args.id) ∷ [])) (sym c.in-Var.is)
    (bound_now terms c.in-Var.variable b c.args.id c.requires.ids c.requires.there
    (ap (λ b. id_of b c.in-Var.variable) (sym c.as_slice.ensures.value) ∙ (sym c.bound_to.ensures ∙ c.in-None.is))))

pub returns-after-loop-i : goal.returns-after-loop-i
returns-after-loop-i t c =
    let ps = c.as_slice-ps.result.now in let ts = c.node-sym.result.1.now in let terms = c.args.store.now in
    subst (λ p. IsMatch p c.args.id terms c.args.binding.now.items c.loop-i.binding.items) (sym (c.in-App.is ∙ ap (App c.in-App.f) (sym c.as_slice-ps.ensures)))
    (whole_match terms c.in-App.f c.args.id ps ts c.loop-i.i c.args.binding.now.items c.loop-i.binding.items
    (c.node-sym.ensures.is ∙ ap (λ f. applied terms f c.node-sym.result.1.now) (sym c.if-f-sym.false))
    c.loop-i-test.false (omega (arith, c.loop-i-test.false, c.if-ps-ts.false)) c.loop-i.invariant.0 c.loop-i.invariant.1)
