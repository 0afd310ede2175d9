use Rattle.std.proofs.Common.{◌≡◌, ◌<◌, ◌∙◌, List, All, true, sym, subst, true≢false}
use Rattle.ta_core.specs.Singular.{flag, AreMarked, IsSpoilt}
use Rattle.ta_core.specs.declared.trans.Trans.{Trans}
use Rattle.ta_core.proofs.Marking.{targets_below, none_marked, all_marked_is, singular_is_marked, spoilt_is_none, no_items}
use Rattle.ta_core.proofs.automaton.Automaton.is_singular.Goals as goal

pub mark_targets-requires-clause-below : goal.mark_targets-requires-clause-below
mark_targets-requires-clause-below c =
    subst (λ (ts : List Trans). All (λ t. t.to < 16384) ts) (sym c.trans.ensures.value) (targets_below c.args.self.now c.trans.ensures.sound c.eps.ensures.few)

pub mark_targets-requires-clause-none : goal.mark_targets-requires-clause-none
mark_targets-requires-clause-none c q = none_marked 16384 q

pub returns-then-mark_targets : goal.returns-then-mark_targets
returns-then-mark_targets c =
    let A = c.args.self.now in
    let flags = c.mark_targets.new.flags in
    let marked : AreMarked A.trans flags = subst (λ ts. AreMarked ts flags) c.trans.ensures.value (c.mark_targets.ensures.yes c.if-mark_targets.true) in (
      λ yes. all_marked_is A c.trans.ensures.sound flags (no_items A.eps (rw (← c.eps.ensures.value) (sym c.is_empty.ensures ∙ c.if-not-is_empty.false))) marked
          (subst (All (λ q. flag flags q ≡ true)) c.states.ensures.value (c.are_marked.ensures.0 yes)),
      λ s. c.are_marked.ensures.1 (subst (All (λ q. flag flags q ≡ true)) (sym c.states.ensures.value) (singular_is_marked A c.trans.ensures.sound flags marked s)),
    )

pub returns-else-mark_targets : goal.returns-else-mark_targets
returns-else-mark_targets c =
    let A = c.args.self.now in (
      λ yes. absurd (true≢false (sym yes ∙ c.if-mark_targets.false)),
      λ s. absurd (spoilt_is_none A c.trans.ensures.sound (subst IsSpoilt c.trans.ensures.value (c.mark_targets.ensures.no c.if-mark_targets.false)) s),
    )
