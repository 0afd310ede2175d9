use Rattle.std.proofs.Common.{[], ◌∷◌, ◌++◌, get_or, take, subst, sym}
use Rattle.std.proofs.lemmas.List.{take_more, take_all}
use Rattle.term_store.specs.Store.{term_at, Keeps}
use Rattle.term_store.specs.Rooted.{AreFoundBy}
use Rattle.term_store.proofs.FoundLaws.{keeps_itself, keeps_more}
use Rattle.term_store.proofs.RootedLaws.{entry_there, bound_right, large_step, step_passed, step_found, no_rule, all_rules}
use Rattle.term_store.proofs.Cases.{when_true, when_false, when_none, when_some}
use Rattle.term_store.proofs.rooted.add_root_steps.Goals as goal
use Rattle.term_store.proofs.rooted.add_root_steps.Goals.{then-branch+in_ok-term+in-Some+in_ok-push, else-branch}

pub build_ids-requires-clause-bound : goal.build_ids-requires-clause-bound
build_ids-requires-clause-bound c =
    bound_right c.args.rules.now c.args.store.now c.loop-k.store c.loop-k.invariant.0 c.args.id c.requires.there (get_or c.with_root-entries.result.now c.loop-k.k (0, 0)) c.index-rules-number.result (entry_there c.args.rules.now c.args.index.now c.requires.index c.node-sym.result.0 c.with_root-entries.result.now c.with_root-entries.ensures c.loop-k.k (0, 0) c.loop-k-test.true) c.index-rules-number.is c.left.ensures.rule
    c.left.result.now c.left.ensures.side c.new-binding.result.items c.new-binding.ensures.items c.match_ids.new.binding.items c.as_slice.result.now
    (when_true _ _ c.in_ok-match_ids.field-0 c.if-branch.true c.in_ok-match_ids.ensures) c.as_slice.ensures.value c.right.result.now c.right.ensures.side

pub returns-in_default-clause-found : goal.returns-in_default-clause-found
returns-in_default-clause-found c =
    large_step c.args.rules.now c.args.store.now c.loop-k.store c.loop-k.invariant.0 c.args.id c.requires.there (get_or c.with_root-entries.result.now c.loop-k.k (0, 0)) c.index-rules-number.result (entry_there c.args.rules.now c.args.index.now c.requires.index c.node-sym.result.0 c.with_root-entries.result.now c.with_root-entries.ensures c.loop-k.k (0, 0) c.loop-k-test.true) c.index-rules-number.is c.left.ensures.rule
    c.left.result.now c.left.ensures.side c.new-binding.result.items c.new-binding.ensures.items c.match_ids.new.binding.items c.as_slice.result.now
    (when_true _ _ c.in_ok-match_ids.field-0 c.if-branch.true c.in_ok-match_ids.ensures) c.as_slice.ensures.value c.right.result.now c.right.ensures.side
    (when_none _ _ c.in_ok-term.field-0 c.in_default.is c.in_ok-term.ensures.built)

pub loop-k-preserved : goal.loop-k-preserved
loop-k-preserved c =
    let R = c.args.rules.now in let start = c.args.store.now in let now = c.loop-k.store in
    let k = c.loop-k.invariant.0 in
    elim c.if-branch.branch [
      | then-branch+in_ok-term+in-Some+in_ok-push w ↦ (
        subst (Keeps start) (sym w.store-is) (keeps_more start now w.build_ids.new.store k w.in_ok-term.ensures.kept),
        subst (λ tried. AreFoundBy R (term_at start c.args.id) c.if-branch.store tried c.if-branch.founds) (sym (take_more c.with_root-entries.result.now c.loop-k.k (0, 0) c.loop-k-test.true))
            (subst (λ ts. AreFoundBy R (term_at start c.args.id) ts (take c.loop-k.k c.with_root-entries.result.now ++ get_or c.with_root-entries.result.now c.loop-k.k (0, 0) ∷ []) c.if-branch.founds) (sym w.store-is)
            (subst (λ fs. AreFoundBy R (term_at start c.args.id) w.build_ids.new.store (take c.loop-k.k c.with_root-entries.result.now ++ get_or c.with_root-entries.result.now c.loop-k.k (0, 0) ∷ []) fs) (sym w.founds-is)
            (subst (λ fs. AreFoundBy R (term_at start c.args.id) w.build_ids.new.store (take c.loop-k.k c.with_root-entries.result.now ++ get_or c.with_root-entries.result.now c.loop-k.k (0, 0) ∷ []) fs) (sym w.in_ok-push.ensures.ok)
            (subst (λ xs. AreFoundBy R (term_at start c.args.id) w.build_ids.new.store (take c.loop-k.k c.with_root-entries.result.now ++ get_or c.with_root-entries.result.now c.loop-k.k (0, 0) ∷ []) (c.loop-k.founds ++ record { rule = (get_or c.with_root-entries.result.now c.loop-k.k (0, 0)).1; back = xs; term = w.in-Some.term } ∷ [])) (sym w.new.ensures)
            (step_found R start now k c.args.id c.requires.there (get_or c.with_root-entries.result.now c.loop-k.k (0, 0)) c.index-rules-number.result (entry_there c.args.rules.now c.args.index.now c.requires.index c.node-sym.result.0 c.with_root-entries.result.now c.with_root-entries.ensures c.loop-k.k (0, 0) c.loop-k-test.true) c.index-rules-number.is c.left.ensures.rule
            c.left.result.now c.left.ensures.side c.new-binding.result.items c.new-binding.ensures.items c.match_ids.new.binding.items w.as_slice.result.now
            (when_true _ _ c.in_ok-match_ids.field-0 w.if-branch.true c.in_ok-match_ids.ensures) w.as_slice.ensures.value w.right.result.now w.right.ensures.side
            w.build_ids.new.store w.in_ok-term.ensures.kept (take c.loop-k.k c.with_root-entries.result.now) c.loop-k.founds w.in-Some.term
            (when_some _ _ w.in_ok-term.field-0 w.in-Some.term w.in-Some.is w.in_ok-term.ensures.built) c.loop-k.invariant.1))))),
      )
      | else-branch w ↦ (
        subst (Keeps start) (sym w.store-is) k,
        subst (λ tried. AreFoundBy R (term_at start c.args.id) c.if-branch.store tried c.if-branch.founds) (sym (take_more c.with_root-entries.result.now c.loop-k.k (0, 0) c.loop-k-test.true))
            (subst (λ ts. AreFoundBy R (term_at start c.args.id) ts (take c.loop-k.k c.with_root-entries.result.now ++ get_or c.with_root-entries.result.now c.loop-k.k (0, 0) ∷ []) c.if-branch.founds) (sym w.store-is)
            (subst (λ fs. AreFoundBy R (term_at start c.args.id) now (take c.loop-k.k c.with_root-entries.result.now ++ get_or c.with_root-entries.result.now c.loop-k.k (0, 0) ∷ []) fs) (sym w.founds-is)
            (step_passed R start now k c.args.id c.requires.there (get_or c.with_root-entries.result.now c.loop-k.k (0, 0)) c.index-rules-number.result (entry_there c.args.rules.now c.args.index.now c.requires.index c.node-sym.result.0 c.with_root-entries.result.now c.with_root-entries.ensures c.loop-k.k (0, 0) c.loop-k-test.true) c.index-rules-number.is c.left.ensures.rule
            c.left.result.now c.left.ensures.side c.new-binding.result.items c.new-binding.ensures.items (take c.loop-k.k c.with_root-entries.result.now) c.loop-k.founds
            (when_false _ _ c.in_ok-match_ids.field-0 w.if-branch.false c.in_ok-match_ids.ensures) c.loop-k.invariant.1))),
      )
    ]

pub loop-k-init : goal.loop-k-init
loop-k-init c = (keeps_itself c.args.store.now, subst (AreFoundBy c.args.rules.now (term_at c.args.store.now c.args.id) c.args.store.now []) (sym c.requires.none) (no_rule c.args.rules.now (term_at c.args.store.now c.args.id) c.args.store.now))

pub returns-clause-found : goal.returns-clause-found
returns-clause-found c =
    let entries = c.with_root-entries.result.now in
    all_rules c.args.rules.now (term_at c.args.store.now c.args.id) c.args.index.now c.requires.index c.node-sym.result.0 _ c.node-sym.ensures.is entries
    (λ e m same. (c.with_root-entries.ensures e).1 (m, same)) c.loop-k.store c.loop-k.founds
    (subst (λ tried. AreFoundBy c.args.rules.now (term_at c.args.store.now c.args.id) c.loop-k.store tried c.loop-k.founds) (take_all c.loop-k.k entries c.loop-k-test.false) c.loop-k.invariant.1)

pub bounds-rules-number : goal.bounds-rules-number
bounds-rules-number c = entry_there c.args.rules.now c.args.index.now c.requires.index c.node-sym.result.0 c.with_root-entries.result.now c.with_root-entries.ensures c.loop-k.k (0, 0) c.loop-k-test.true
