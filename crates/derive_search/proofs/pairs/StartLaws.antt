-- The starts among the pairs of a state and a low term.
use Rattle.std.proofs.Common.{◌≡◌, ℕ, ◌+◌, ◌<◌, List, [], ◌∷◌, ◌++◌, take, length, slice_get, Some, sym, ap, subst, ◌∙◌, ⊎_elim, length-append, arith}
use Rattle.std.specs.List.{Contains}
use Rattle.std.proofs.lemmas.List.Elements.{All-contains, Contains-append_left, Contains-push, Contains-push_cases}
use Rattle.std.proofs.lemmas.List.{take_more}
use Rattle.std.proofs.lemmas.Option.{get_or_from_slice_get, slice_get_within}
use Rattle.list_laws.proofs.Members.{none, all_from_members}
use Rattle.ranked_terms.specs.declared.term.Term.{Term}
use Rattle.ta_core.specs.Languages.{Accepts}
use Rattle.ta_core.specs.AcceptanceLaws.{AcceptedTermsAreOver}
use Rattle.ta_core.specs.declared.spec.Spec.{Spec}
use Rattle.ta_core.specs.declared.options.Options.{Options}
use Rattle.derive_search.specs.Growing.{AreStarts, terms_in}
use Rattle.derive_search.specs.LowPairs.{AreFinal, AreLowPairs, named_pairs}
use Rattle.derive_search.proofs.GrowthLaws.{term_of, in_terms}
use Rattle.derive_search.proofs.pairs.LowPairLaws.{in_named, pair_of}

pub no_finals : (finals : List ℕ) → AreFinal finals [] []
no_finals finals = record { each = λ q id c f. absurd (none (q, id) c); only = λ id c. absurd (none id c); few = omega arith }

pub take_next : {X : Type 0} (xs : List X) (k : ℕ) (x : X) → slice_get xs k ≡ Some x → take (k + 1) xs ≡ take k xs ++ x ∷ []
take_next xs k x e = take_more xs k x (slice_get_within xs k x e) ∙ ap (λ y. take k xs ++ y ∷ []) (get_or_from_slice_get xs k x x e)

module _ (finals : List ℕ) (pairs : List (ℕ × ℕ)) (k q id : ℕ) (ids : List ℕ) (is : slice_get pairs k ≡ Some (q, id)) where
  pub final_more : Contains finals q → AreFinal finals (take k pairs) ids → AreFinal finals (take (k + 1) pairs) (ids ++ id ∷ [])
  final_more final h = subst (λ ps. AreFinal finals ps (ids ++ id ∷ [])) (sym (take_next pairs k (q, id) is)) (record {
    each = λ p x c f. ⊎_elim
        (λ old. Contains-append_left ids (id ∷ []) x (h.each p x old f))
        (λ e. subst (Contains (ids ++ id ∷ [])) (ap (λ (y : ℕ × ℕ). y.1) e) (Contains-push ids id))
        (Contains-push_cases (take k pairs) (q, id) (p, x) c);
    only = λ x c. ⊎_elim
        (λ old. let r = h.only x old in (r.0, r.1, Contains-append_left (take k pairs) ((q, id) ∷ []) (r.0, x) r.2))
        (λ e. (q, final, subst (λ y. Contains (take k pairs ++ (q, id) ∷ []) (q, y)) e (Contains-push (take k pairs) (q, id))))
        (Contains-push_cases ids id x c);
    few = let f = h.few in omega (arith, f, length-append ids (id ∷ []), length-append (take k pairs) ((q, id) ∷ []));
  })

  pub not_final_more : (Contains finals q → ⊥) → AreFinal finals (take k pairs) ids → AreFinal finals (take (k + 1) pairs) ids
  not_final_more not h = subst (λ ps. AreFinal finals ps ids) (sym (take_next pairs k (q, id) is)) (record {
    each = λ p x c f. ⊎_elim
        (λ old. h.each p x old f)
        (λ e. absurd (not (subst (Contains finals) (sym (ap (λ (y : ℕ × ℕ). y.0) e)) f)))
        (Contains-push_cases (take k pairs) (q, id) (p, x) c);
    only = λ x c. let r = h.only x c in (r.0, r.1, Contains-append_left (take k pairs) ((q, id) ∷ []) (r.0, x) r.2);
    few = let f = h.few in omega (arith, f, length-append (take k pairs) ((q, id) ∷ []));
  })

pub starts_are : AcceptedTermsAreOver → (spec : Spec) (options : Options) (terms : List Term) (pairs : List (ℕ × ℕ)) → AreLowPairs spec.initial options.height options.terms terms pairs → (ids : List ℕ) → AreFinal spec.initial.finals pairs ids → AreStarts spec options terms ids
starts_are over spec options terms pairs low ids final = record {
  exact = λ t. (
    λ c.
        let h = term_of terms ids t c in
        let f = final.only h.0 h.1 in
        let r = (low.exact (f.0, t)).0 (subst (λ u. Contains (named_pairs terms pairs) (f.0, u)) h.2 (in_named terms pairs (f.0, h.0) f.2)) in
        let accepted : Accepts spec.initial t = record { state = f.0; runs = r.runs; final = f.1 } in
        record { language = record { over = over spec.signature spec.initial spec.initial_over t accepted; accepted = accepted }; low = r.low },
    λ s.
        let a = s.language.accepted in
        let h = pair_of terms pairs a.state t ((low.exact (a.state, t)).1 (record { low = s.low; runs = a.runs })) in
        subst (Contains (terms_in terms ids)) h.2 (in_terms terms ids h.0 (final.each a.state h.0 h.1 a.final)),
  );
  there = all_from_members (λ a. a < length terms) ids (λ x c. let r = final.only x c in All-contains (λ (p : ℕ × ℕ). p.1 < length terms) pairs (r.0, x) low.placed r.2);
  few = let f = final.few in let l = low.few in omega (arith, f, l);
  fits = low.fits;
}
