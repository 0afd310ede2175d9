use Rattle.std.proofs.Common.{◌≡◌, ℕ, ◌+◌, ◌++◌, ◌∷◌, ◌↔◌, [], take, sym, ap, ◌∙◌, subst}
use Rattle.std.specs.List.{Contains, AllZip}
use Rattle.std.proofs.lemmas.List.{take_more, take_all}
use Rattle.std.proofs.lemmas.List.Elements.{Contains-get_or, All-contains}
use Rattle.ta_core.specs.TreeAutomaton.{IsTransOf}
use Rattle.ta_core.specs.Reached.{HasTransInto}
use Rattle.list_laws.proofs.Growing.{all_insert}
use Rattle.ta_core.specs.lemmas.RunStates.{trans_fits, trans_skipped, into_from_range}
use Rattle.ta_core.proofs.automaton.Automaton.targets_of.Goals as goal
use Rattle.ta_core.proofs.automaton.Automaton.targets_of.Goals.{then-are_members+in_ok-add, else-are_members}

pub loop-t-preserved : goal.loop-t-preserved
loop-t-preserved c =
    let A = c.args.self.now in
    let items = c.trans_with-t-items.result.now in
    let i = c.loop-t.t-index in
    let t = c.t-item.result in
    let done = take i items in
    let sets = c.args.sets.now in
    let more : take (i + 1) items ≡ done ++ t ∷ [] = take_more items i t c.loop-t-test.true ∙ ap (λ x. done ++ x ∷ []) (sym c.t-item.is) in
    let known : Contains A.trans t × (t.sym ≡ c.args.sym) = (c.trans_with-t-items.ensures.members t).0 (subst (Contains items) (sym c.t-item.is) (Contains-get_or items i t c.loop-t-test.true)) in
    elim c.if-are_members.branch [
      | then-are_members+in_ok-add w ↦
          let fit : AllZip (Contains {X = ℕ}) sets t.args = subst (AllZip (Contains {X = ℕ}) sets) c.as_slice.ensures (c.are_members.ensures.0 w.if-are_members.true) in
          let target = (All-contains (IsTransOf A.states) A.trans t c.trans_with-t-items.ensures.sound.trans known.0).to in
          record {
            exact = rw (w.targets-is, more) (trans_fits done t c.args.sym sets c.loop-t.targets c.loop-t.invariant.exact w.add.new.self known.1 fit w.in_ok-add.ensures.ok);
            inside = rw (w.targets-is, w.in_ok-add.ensures.ok) (all_insert c.loop-t.targets t.to (Contains A.states) c.loop-t.invariant.inside target);
          }
      | else-are_members w ↦
          let unfit : AllZip (Contains {X = ℕ}) sets t.args → ⊥ = λ z. let yes = c.are_members.ensures.1 (subst (AllZip (Contains {X = ℕ}) sets) (sym c.as_slice.ensures) z) in (cc (yes, w.if-are_members.false)) in
          record {
            exact = rw (w.targets-is, more) (trans_skipped done t c.args.sym sets c.loop-t.targets c.loop-t.invariant.exact unfit);
            inside = rw w.targets-is c.loop-t.invariant.inside;
          }
    ]

pub returns-clause-exact : goal.returns-clause-exact
returns-clause-exact c q =
    let items = c.trans_with-t-items.result.now in
    let sets = c.args.sets.now in
    let whole = subst (λ done. Contains c.loop-t.targets q ↔ HasTransInto done c.args.sym sets q) (take_all c.loop-t.t-index items c.loop-t-test.false) (c.loop-t.invariant.exact q) in
    let range = into_from_range c.args.self.now.trans items c.args.sym sets c.trans_with-t-items.ensures.members q in
    (λ i. range.0 (whole.0 i), λ h. whole.1 (range.1 h))
