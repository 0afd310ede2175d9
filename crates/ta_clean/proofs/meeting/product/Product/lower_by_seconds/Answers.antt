use Rattle.std.proofs.Common.{ℕ, [], ◌∷◌, get_or, Contains, refl, sym, subst, arith}
use Rattle.std.proofs.lemmas.List.Elements.{Contains-get_or}
use Rattle.ta_core.specs.TreeAutomaton.{IsSound}
use Rattle.ta_clean.specs.Products.{TwoAutomata}
use Rattle.ta_clean.specs.Sizes.{Sizing, MayLower, IsFollowed, made_at, size_at}
use Rattle.ta_clean.specs.declared.sizes.Made.{Made}
use Rattle.ta_clean.proofs.marking.CommonTerms.{get_or_same}
use Rattle.ta_clean.proofs.least.Sizing.{sum_first}
use Rattle.ta_clean.proofs.least.Lowering.{second_in, second_made}
use Rattle.ta_clean.proofs.least.Waiting.{has_lowered, pair_lowered, lowering_starts, lowering_more, lowering_ends, may_lower, may_reach, followed_later, followed_now}
use Rattle.ta_clean.proofs.meeting.product.Product.lower_by_seconds.Goals as goal

pub loop-to-init : goal.loop-to-init
loop-to-init c = lowering_starts c.args.self.now (λ (e : ℕ × ℕ) (s : Sizing). IsFollowed s ((c.args.first, c.args.second) ∷ []) (c.args.first, e.1) 0) c.args.sizes.now c.requires.made

pub lower-requires : goal.lower-requires
lower-requires c =
    let both = c.args.self.now in
    let old = c.args.sizes.now in
    let now = c.loop-to.sizes in
    let items = c.eps_from-to-items.result.now in
    let e = get_or items c.loop-to.to-index (0, 0) in
    let known = (c.eps_from-to-items.ensures.members e).0 (Contains-get_or items c.loop-to.to-index (0, 0) c.loop-to-test.true) in
    let here = subst (λ x. Contains both.second.eps (x, e.1)) known.1 (subst (λ (both : TwoAutomata). Contains both.second.eps e) c.self.view_is known.0) in
    let lowers = c.loop-to.invariant.lowers in
    second_in both now c.args.first c.args.second (pair_lowered both old now (c.args.first, c.args.second) c.requires.within lowers) (has_lowered both old now c.requires.has lowers) e.1
    (subst (λ (both : TwoAutomata). IsSound both.second) c.self.view_is c.eps_from-to-items.ensures.sound) here

pub loop-to-preserved : goal.loop-to-preserved
loop-to-preserved c =
    let both = c.args.self.now in
    let old = c.args.sizes.now in
    let now = c.loop-to.sizes in
    let new = c.lower.new.self in
    let items = c.eps_from-to-items.result.now in
    let k = c.loop-to.to-index in
    let e = get_or items k (0, 0) in
    let known = (c.eps_from-to-items.ensures.members e).0 (Contains-get_or items k (0, 0) c.loop-to-test.true) in
    let here = subst (λ x. Contains both.second.eps (x, e.1)) known.1 (subst (λ (both : TwoAutomata). Contains both.second.eps e) c.self.view_is known.0) in
    let before = c.loop-to.invariant.lowers in
    let pair : ℕ × ℕ = (c.args.first, c.args.second) in
    let to : ℕ × ℕ = (c.args.first, e.1) in
    let within = pair_lowered both old now pair c.requires.within before in
    let target = second_in both now c.args.first c.args.second within (has_lowered both old now c.requires.has before) e.1 (subst (λ (both : TwoAutomata). IsSound both.second) c.self.view_is c.eps_from-to-items.ensures.sound) here in
    let may = subst (λ (m : Made). MayLower now new to m) c.get-made.ensures.value c.lower.ensures.may in
    let ok = c.lower.ensures.table in
    let lowers = may_lower both now new to (made_at now pair) ok target before.made (λ less. second_made both now c.args.first c.args.second within ok before.made e.1 here less) may in
    let reach = may_reach both now new to (made_at now pair) ok target may in
    lowering_more both (λ (e : ℕ × ℕ) (s : Sizing). IsFollowed s ((c.args.first, c.args.second) ∷ []) (c.args.first, e.1) 0) old items k e now new c.loop-to-test.true (get_or_same items k (0, 0) c.loop-to-test.true) c.loop-to.invariant lowers
    (λ e f. followed_later both now new lowers (pair ∷ []) (c.args.first, e.1) 0 f)
    (followed_now both now new lowers (pair ∷ []) to 0 (omega (arith, reach, sum_first (size_at now) pair [])))

pub returns-clause-followed : goal.returns-clause-followed
returns-clause-followed c q i =
    let both = c.args.self.now in
    let items = c.eps_from-to-items.result.now in
    let all = lowering_ends both (λ (e : ℕ × ℕ) (s : Sizing). IsFollowed s ((c.args.first, c.args.second) ∷ []) (c.args.first, e.1) 0) c.args.sizes.now items c.loop-to.to-index c.loop-to.sizes c.loop-to-test.false c.loop-to.invariant in
    all.followed (c.args.second, q) ((c.eps_from-to-items.ensures.members (c.args.second, q)).1 (subst (λ (both : TwoAutomata). Contains both.second.eps (c.args.second, q)) (sym c.self.view_is) i, refl))

pub returns-clause-lowers : goal.returns-clause-lowers
returns-clause-lowers c = c.loop-to.invariant.lowers
