use Rattle.std.proofs.Common.{◌≡◌, ◌/◌, ◌%◌, ℕ, true, false, set, sym, subst, ◌∙◌, arith}
use Rattle.ta_clean.specs.Sizes.{Sizing, StopsWaiting, waits_in, waits_at}
use Rattle.ta_clean.proofs.least.Waiting.{place_within, place_wide, pair_within, place_stops, none_waits}
use Rattle.ta_clean.proofs.sizes.SizeTable.take.Goals as goal

pub index-made-requires : goal.index-made-requires
index-made-requires c =
    let table : Sizing = record { height = c.self.inside.height; width = c.self.inside.width; made = c.self.inside.made.items } in
    let waits = subst (λ (s : Sizing). waits_in s.made c.in-Some.place ≡ true) (sym (c.self.view_is ∙ c.in-Some.ensures.same)) c.in-Some.ensures.some in
    omega (arith, place_within table c.self.invariant c.in-Some.place waits, c.self.inside.made.ok.0)

pub index_mut-requires : goal.index_mut-requires
index_mut-requires c =
    let table : Sizing = record { height = c.self.inside.height; width = c.self.inside.width; made = c.self.inside.made.items } in
    let waits = subst (λ (s : Sizing). waits_in s.made c.in-Some.place ≡ true) (sym (c.self.view_is ∙ c.in-Some.ensures.same)) c.in-Some.ensures.some in
    omega (arith, place_within table c.self.invariant c.in-Some.place waits, c.self.inside.made.ok.0)

pub nonzero_div-result : goal.nonzero_div-result
nonzero_div-result c =
    let table : Sizing = record { height = c.self.inside.height; width = c.self.inside.width; made = c.self.inside.made.items } in
    let waits = subst (λ (s : Sizing). waits_in s.made c.in-Some.place ≡ true) (sym (c.self.view_is ∙ c.in-Some.ensures.same)) c.in-Some.ensures.some in
    omega (arith, place_wide table c.self.invariant c.in-Some.place waits)

pub overflow_cast-result : goal.overflow_cast-result
overflow_cast-result c =
    let table : Sizing = record { height = c.self.inside.height; width = c.self.inside.width; made = c.self.inside.made.items } in
    let waits = subst (λ (s : Sizing). waits_in s.made c.in-Some.place ≡ true) (sym (c.self.view_is ∙ c.in-Some.ensures.same)) c.in-Some.ensures.some in
    let within = pair_within table c.self.invariant c.in-Some.place waits in
    omega (arith, within.first, c.self.invariant.low)

pub overflow_cast-result-2 : goal.overflow_cast-result-2
overflow_cast-result-2 c =
    let table : Sizing = record { height = c.self.inside.height; width = c.self.inside.width; made = c.self.inside.made.items } in
    let waits = subst (λ (s : Sizing). waits_in s.made c.in-Some.place ≡ true) (sym (c.self.view_is ∙ c.in-Some.ensures.same)) c.in-Some.ensures.some in
    let within = pair_within table c.self.invariant c.in-Some.place waits in
    omega (arith, within.second, c.self.invariant.narrow)

pub returns-clause-some : goal.returns-clause-some
returns-clause-some c =
    let table : Sizing = record { height = c.self.inside.height; width = c.self.inside.width; made = c.self.inside.made.items } in
    let same = c.self.view_is ∙ c.in-Some.ensures.same in
    let waits = subst (λ (s : Sizing). waits_in s.made c.in-Some.place ≡ true) (sym same) c.in-Some.ensures.some in
    let pair : ℕ × ℕ = (c.in-Some.place / c.self.inside.width, c.in-Some.place % c.self.inside.width) in
    let made = c.index-made.result.now in
    let new : Sizing = record table { made = set table.made c.in-Some.place (record made { waits = false }) } in
    subst (λ (s : Sizing). StopsWaiting s new pair) same (place_stops table c.self.invariant c.in-Some.place waits made c.index-made.ensures)

pub returns-in_default-clause-none : goal.returns-in_default-clause-none
returns-in_default-clause-none c = subst (λ (s : Sizing). (pair : ℕ × ℕ) → waits_at s pair ≡ false) (sym c.in_default.ensures.same) (none_waits c.args.self.now c.in_default.ensures.none)
