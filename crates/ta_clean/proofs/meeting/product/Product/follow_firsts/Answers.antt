use Rattle.std.proofs.Common.{◌≡◌, ℕ, get_or, Contains, refl, sym, subst}
use Rattle.std.proofs.lemmas.List.Elements.{Contains-get_or}
use Rattle.ta_core.specs.TreeAutomaton.{IsSound}
use Rattle.ta_clean.specs.Tables.{IsMarked}
use Rattle.ta_clean.specs.Products.{TwoAutomata}
use Rattle.ta_clean.proofs.marking.CommonTerms.{marking_starts, marking_more, marking_ends, get_or_same, first_in, first_meets, meets_with}
use Rattle.ta_clean.proofs.meeting.product.Product.follow_firsts.Goals as goal

pub mark-requires : goal.mark-requires
mark-requires c =
    let both = c.args.self.now in
    let items = c.eps_from-to-items.result.now in
    let e = get_or items c.loop-to.to-index (0, 0) in
    let known = (c.eps_from-to-items.ensures.members e).0 (Contains-get_or items c.loop-to.to-index (0, 0) c.loop-to-test.true) in
    first_in both c.args.grid.now c.loop-to.grid c.args.first c.args.second e c.requires.marked c.loop-to.invariant.kept c.requires.table
    (subst (λ (both : TwoAutomata). IsSound both.first) c.self.view_is c.eps_from-to-items.ensures.sound) (subst (λ (both : TwoAutomata). Contains both.first.eps e) c.self.view_is known.0)

pub loop-to-init : goal.loop-to-init
loop-to-init c = marking_starts c.args.self.now (λ (e : ℕ × ℕ) (next : ℕ × ℕ). next ≡ (e.1, c.args.second)) c.args.grid.now c.requires.meets

pub loop-to-preserved : goal.loop-to-preserved
loop-to-preserved c =
    let both = c.args.self.now in
    let items = c.eps_from-to-items.result.now in
    let e = get_or items c.loop-to.to-index (0, 0) in
    let known = (c.eps_from-to-items.ensures.members e).0 (Contains-get_or items c.loop-to.to-index (0, 0) c.loop-to-test.true) in
    let here = first_meets both c.args.grid.now c.loop-to.grid c.args.first c.args.second e c.requires.marked c.loop-to.invariant.kept c.requires.table c.requires.meets (subst (λ (both : TwoAutomata). Contains both.first.eps e) c.self.view_is known.0) known.1 in
    marking_more both (λ (e : ℕ × ℕ) (next : ℕ × ℕ). next ≡ (e.1, c.args.second)) c.args.grid.now items c.loop-to.to-index e c.loop-to.grid c.mark.new.self c.loop-to-test.true (get_or_same items c.loop-to.to-index (0, 0) c.loop-to-test.true) c.loop-to.invariant
    (meets_with both c.loop-to.grid c.mark.new.self (e.1, c.args.second) c.loop-to.invariant.meets c.mark.ensures.members here) c.mark.ensures.kept
    (λ next same. subst (IsMarked c.mark.new.self) (sym same) c.mark.ensures.marked)

pub returns-clause-marked : goal.returns-clause-marked
returns-clause-marked c p i =
    let both = c.args.self.now in
    let items = c.eps_from-to-items.result.now in
    let all = marking_ends both (λ (e : ℕ × ℕ) (next : ℕ × ℕ). next ≡ (e.1, c.args.second)) c.args.grid.now items c.loop-to.to-index c.loop-to.grid c.loop-to-test.false c.loop-to.invariant in
    all.marked (c.args.first, p) (p, c.args.second) ((c.eps_from-to-items.ensures.members (c.args.first, p)).1 (subst (λ (both : TwoAutomata). Contains both.first.eps (c.args.first, p)) (sym c.self.view_is) i, refl)) refl
