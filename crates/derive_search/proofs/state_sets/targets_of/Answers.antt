use Rattle.std.proofs.Common.{◌≡◌, ℕ, ◌+◌, ◌++◌, ◌∷◌, ◌↔◌, [], take, sym, ap, ◌∙◌, subst, List, Result, Ok, Err, IfOk}
use Rattle.std.specs.List.{All, Contains, AllZip}
use Rattle.std.proofs.lemmas.List.{take_more, take_all}
use Rattle.std.proofs.lemmas.List.Elements.{Contains-get_or}
use Rattle.ta_core.specs.Reached.{HasTransInto}
use Rattle.ta_core.specs.lemmas.RunStates.{trans_skipped, into_from_range, exact_by}
use Rattle.derive_search.specs.StateSets.{sets_at}
use Rattle.derive_search.proofs.StateSetLaws.{trans_pushed, no_trans, targets_inside}
use Rattle.derive_search.proofs.state_sets.targets_of.Goals as goal
use Rattle.derive_search.proofs.state_sets.targets_of.Goals.{then-are_members+in_ok-push, else-are_members}

pub loop-t-init : goal.loop-t-init
loop-t-init c q = subst (λ xs. Contains xs q ↔ HasTransInto [] c.args.sym (sets_at c.args.sets.now c.args.args.now) q) (sym c.new-targets.ensures.items) (no_trans c.args.sym (sets_at c.args.sets.now c.args.args.now) q)

pub loop-t-preserved : goal.loop-t-preserved
loop-t-preserved c =
    let items = c.trans_with-t-items.result.now in let i = c.loop-t.t-index in let t = c.t-item.result in let done = take i items in
    let sets = sets_at c.args.sets.now c.args.args.now in let before = c.loop-t.targets.items in
    let more : take (i + 1) items ≡ done ++ t ∷ [] = take_more items i t c.loop-t-test.true ∙ ap (λ x. done ++ x ∷ []) (sym c.t-item.is) in
    let known : t.sym ≡ c.args.sym = ((c.trans_with-t-items.ensures.members t).0 (subst (Contains items) (sym c.t-item.is) (Contains-get_or items i t c.loop-t-test.true))).1 in
    elim c.if-are_members.branch [
      | then-are_members+in_ok-push w ↦
          let fit : AllZip (Contains {X = ℕ}) sets t.args = subst (AllZip (Contains {X = ℕ}) sets) c.as_slice.ensures (c.are_members.ensures.0 w.if-are_members.true) in
          λ q. subst (λ ts. Contains c.if-are_members.targets.items q ↔ HasTransInto ts c.args.sym sets q) (sym more)
          (subst (λ xs. Contains xs q ↔ HasTransInto (done ++ t ∷ []) c.args.sym sets q) (sym (ap (λ v. v.items) w.targets-is ∙ w.in_ok-push.ensures.items))
          (trans_pushed done t c.args.sym sets before c.loop-t.invariant known fit q))
      | else-are_members w ↦
          let unfit : AllZip (Contains {X = ℕ}) sets t.args → ⊥ = λ z. let yes = c.are_members.ensures.1 (subst (AllZip (Contains {X = ℕ}) sets) (sym c.as_slice.ensures) z) in (cc (yes, w.if-are_members.false)) in
          λ q. subst (λ ts. Contains c.if-are_members.targets.items q ↔ HasTransInto ts c.args.sym sets q) (sym more)
          (subst (λ xs. Contains xs q ↔ HasTransInto (done ++ t ∷ []) c.args.sym sets q) (sym (ap (λ v. v.items) w.targets-is))
          (trans_skipped done t c.args.sym sets before c.loop-t.invariant unfit q))
    ]

all_targets : (c : goal.After-from_states) (q : ℕ) → Contains c.loop-t.targets.items q ↔ HasTransInto c.args.automaton.now.trans c.args.sym (sets_at c.args.sets.now c.args.args.now) q
all_targets c q =
    let items = c.trans_with-t-items.result.now in
    let sets = sets_at c.args.sets.now c.args.args.now in
    let whole = subst (λ done. Contains c.loop-t.targets.items q ↔ HasTransInto done c.args.sym sets q) (take_all c.loop-t.t-index items c.loop-t-test.false) (c.loop-t.invariant q) in
    let range = into_from_range c.args.automaton.now.trans items c.args.sym sets c.trans_with-t-items.ensures.members q in
    (λ i. range.0 (whole.0 i), λ h. whole.1 (range.1 h))

pub returns-clause-exact : goal.returns-clause-exact
returns-clause-exact c =
    exact_by (Contains c.loop-t.targets.items) (HasTransInto c.args.automaton.now.trans c.args.sym (sets_at c.args.sets.now c.args.args.now)) (all_targets c) c.from_states.result c.from_states.ensures

pub returns-clause-inside : goal.returns-clause-inside
returns-clause-inside c = inside_by c.from_states.result (returns-clause-exact c)
  where
    inside_by : {E : Type 0} (r : Result (List ℕ) E) → IfOk r (λ set. (q : ℕ) → Contains set q ↔ HasTransInto c.args.automaton.now.trans c.args.sym (sets_at c.args.sets.now c.args.args.now) q) → IfOk r (All (Contains c.args.automaton.now.states))
    inside_by (Ok set) h = targets_inside c.args.automaton.now c.trans_with-t-items.ensures.sound c.args.sym (sets_at c.args.sets.now c.args.args.now) set h
    inside_by (Err e) h = tt
