use Rattle.std.proofs.Common.{ℕ, List, ◌≡◌, [], slice_get, Some, sym, ◌∙◌, inl, inr}
use Rattle.std.specs.List.{Contains}
use Rattle.std.proofs.lemmas.Option.{get_or_from_slice_get, slice_get_within}
use Rattle.ranked_terms.specs.Terms.{node}
use Rattle.ranked_terms.specs.declared.term.Term.{Term}
use Rattle.term_store.specs.Store.{term_at, applied}
use Rattle.derive_search.proofs.StoreFacts.{when_none, when_some, match_by}
use Rattle.derive_search.proofs.pairs.LowPairLaws.{grows_store, grows_more, grows_by}
use Rattle.derive_search.proofs.low_pairs.add_made.Goals as goal

abbrev Made : List ℕ → Term → ℕ × Term → Type 0
Made states t pair = Contains states pair.0 × (pair.1 ≡ t)

pub returns-in_default-clause-grows : goal.returns-in_default-clause-grows
returns-in_default-clause-grows c = grows_store (Made c.args.states.now (applied c.args.store.now c.args.sym c.args.ids.now)) c.args.store.now c.make.new.self c.args.pairs.now.keys c.in_ok-id.ensures.kept

pub returns-in_default-clause-all : goal.returns-in_default-clause-all
returns-in_default-clause-all c = inr (when_none _ _ c.in_ok-id.field-0 c.in_default.is c.in_ok-id.ensures.made)

-- the term of the identity is the one that was made
at : (terms : List Term) (id : ℕ) (t : Term) → slice_get terms id ≡ Some t → term_at terms id ≡ t
at terms id t e = get_or_from_slice_get terms id t (node 0 []) e

pub add_states-requires-clause-there : goal.add_states-requires-clause-there
add_states-requires-clause-there c = slice_get_within c.make.new.self c.in-Some.id _ (when_some _ _ c.in_ok-id.field-0 c.in-Some.id c.in-Some.is c.in_ok-id.ensures.made)

pub returns-clause-grows : goal.returns-clause-grows
returns-clause-grows c =
    let before = c.args.store.now in let now = c.make.new.self in let states = c.args.states.now in
    let t = applied before c.args.sym c.args.ids.now in
    let e = at now c.in-Some.id t (when_some _ _ c.in_ok-id.field-0 c.in-Some.id c.in-Some.is c.in_ok-id.ensures.made) in
    grows_more (Made states t) before now now c.args.pairs.now.keys c.args.pairs.now.keys c.add_states.new.pairs.keys
    (grows_store (Made states t) before now c.args.pairs.now.keys c.in_ok-id.ensures.kept)
    (grows_by (Made states (term_at now c.in-Some.id)) (Made states t) (λ pair h. (h.0, h.1 ∙ e)) now now c.args.pairs.now.keys c.add_states.new.pairs.keys c.in_ok-within.ensures.grows)

pub returns-clause-all : goal.returns-clause-all
returns-clause-all c =
    let before = c.args.store.now in let now = c.make.new.self in
    let t = applied before c.args.sym c.args.ids.now in
    let e = at now c.in-Some.id t (when_some _ _ c.in_ok-id.field-0 c.in-Some.id c.in-Some.is c.in_ok-id.ensures.made) in
    match_by c.in_ok-within.within (λ h. (λ pair m. h.0 pair (m.0, m.1 ∙ sym e), h.1)) (λ h. inl h) c.in_ok-within.ensures.all
