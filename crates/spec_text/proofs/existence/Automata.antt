-- Automata of what is declared: a list has an ascending list of its members, and the transitions have symbols of the signature.
use Rattle.std.proofs.Common.{◌≡◌, ℕ, Bool, true, not, ◌==◌, List, [], ◌∷◌, length, filter, Some, None, All, Contains, refl, ap, subst, ◌∙◌, ⊎_elim}
use Rattle.std.specs.declared.cmp.Ordering.{Ordering}
use Rattle.std.specs.declared.cmp.Ordering.TheVariants.{Less, Equal, Greater}
use Rattle.std.specs.BTreeSet.{insert_key}
use Rattle.std.specs.Cmp.{IsTotalOrder}
use Rattle.std.specs.List.{range_with_len, list_all}
use Rattle.std.specs.List.Sorted.{IsStrictlySortedBy}
use Rattle.std.specs.Ordering.{match_ordering, ordering_reverse}
use Rattle.std.proofs.lemmas.Bool.{and_from, eq-eqb}
use Rattle.std.proofs.lemmas.Cmp.{nat_cmp_total}
use Rattle.std.proofs.lemmas.List.{length-map}
use Rattle.std.proofs.lemmas.List.Elements.{All-cons, All-head, All-tail, All-weaker, recursion_from_All}
use Rattle.std.proofs.lemmas.Map.Lookups.{CmpEqualImpliesEq, exact_unsigned}
use Rattle.std.proofs.lemmas.Map.Views.{All-after_first, All-insert_key}
use Rattle.ranked_terms.specs.Names.{Symbol, number_of, arity_of}
use Rattle.ranked_terms.specs.Terms.{is_symbol, is_arity}
use Rattle.ta_core.specs.TreeAutomaton.{TreeAutomaton}
use Rattle.ta_core.specs.declared.trans.Trans.{Trans}
use Rattle.list_laws.proofs.Members.{here, there, parts}
use Rattle.list_laws.proofs.Inserting.{inserted, kept, was}
use Rattle.ta_core.specs.lemmas.Orders.{trans_total, trans_exact, pair_total, pair_exact}
use Rattle.spec_text.specs.Declarations.{Text, Started}
use Rattle.spec_text.specs.Naming.{place_in, IsTransition, by_symbol, by_state, with_trans, transitions_in}
use Rattle.spec_text.specs.Source.{Arrow, AutomatonDeclaration}
use Rattle.spec_text.specs.Spelled.{IsAutomatonOf}
use Rattle.spec_text.specs.SpecText.{IsAscendingSet}
use Rattle.spec_text.proofs.agreement.automata.Section.{no_symbol, started_by}
use Rattle.spec_text.proofs.agreement.sections.Allowed.{IsDeclarable}
use Rattle.spec_text.proofs.agreement.sections.States.{initial_of, second_of}

-- ---- sets

module _ {K : Type 0} {R : K → K → Ordering} (o : IsTotalOrder R) (exact : CmpEqualImpliesEq R) where
  below_all : (k x : K) (xs : List K) → R k x ≡ Less → IsStrictlySortedBy R (x ∷ xs) → All (λ y. R k y ≡ Less) (x ∷ xs)
  below_all k x xs less s =
      All-cons (λ y. R k y ≡ Less) x xs less (All-weaker (λ y. R x y ≡ Less) (λ y. R k y ≡ Less) (λ y e. o.trans k x y less e) xs (All-after_first R x xs s))

  insert_ascends : (xs : List K) (k : K) → IsStrictlySortedBy R xs → IsStrictlySortedBy R (insert_key R xs k)
  unfolding IsStrictlySortedBy
  insert_ascends [] k s = (tt, tt)
  insert_ascends (x ∷ xs) k s =
      elim (R k x) as (λ r. R k x ≡ r → IsStrictlySortedBy R (match_ordering r (k ∷ x ∷ xs) (x ∷ xs) (x ∷ insert_key R xs k))) [
        | Less ↦ λ e. (recursion_from_All (λ y. R k y ≡ Less) (x ∷ xs) (below_all k x xs e s), s)
        | Equal ↦ λ e. s
        | Greater ↦ λ e. (
          recursion_from_All (λ y. R x y ≡ Less) (insert_key R xs k) (All-insert_key R k (λ y. R x y ≡ Less) xs (All-after_first R x xs s) (o.antisymm x k ∙ ap ordering_reverse e)),
          insert_ascends xs k s.1,
        )
      ] refl

  -- each member once, in ascending order
  ascending : (xs : List K) → (ys : List K) × IsAscendingSet R ys xs
  unfolding IsStrictlySortedBy
  ascending [] = ([], record { ascends = tt; members = λ x. (λ c. c, λ c. c) })
  ascending (k ∷ xs) =
      let rest = ascending xs in (
        insert_key R rest.0 k,
        record {
          ascends = insert_ascends rest.0 k rest.1.ascends;
          members = λ x. (
            λ c. ⊎_elim (λ i. there k x xs ((rest.1.members x).0 i)) (λ e. subst (Contains (k ∷ xs)) e (here k xs)) (was o exact rest.0 k x c),
            λ c. ⊎_elim (λ e. subst (Contains (insert_key R rest.0 k)) e (inserted o exact rest.0 k)) (λ i. kept o exact rest.0 k x ((rest.1.members x).1 i)) (parts k x xs c),
          );
        },
      )

-- ---- the automaton of so many states, with what is declared of it

pub automaton_of : (count : ℕ) (a : Started) → (A : TreeAutomaton) × IsAutomatonOf count a A
automaton_of count a =
    let finals = ascending nat_cmp_total exact_unsigned a.finals in
    let trans = ascending trans_total trans_exact a.trans in
    let eps = ascending pair_total pair_exact (filter (λ (e : ℕ × ℕ). not (e.0 == e.1)) a.eps) in (
      record { states = range_with_len 0 count; next = count; finals = finals.0; trans = trans.0; eps = eps.0 },
      record { states_are = refl; next_is = refl; finals_are = finals.1; trans_are = trans.1; eps_are = eps.1 },
    )

-- ---- the symbols of transitions

abbrev trans_are_over : List Symbol → List Trans → Bool
trans_are_over symbols trans = list_all (λ t. is_symbol symbols t.sym (length t.args)) trans

pub symbol_known : (symbols : List Symbol) (f n : ℕ) → arity_of symbols f ≡ Some n → is_symbol symbols f n ≡ true
symbol_known symbols f n e = ap (is_arity n) e ∙ eq-eqb n n refl

module _ (symbols : List Symbol) (states : List Text) (apart : (t : Text) → Contains states t → number_of symbols t ≡ None) where
  trans_more : (d : Arrow) (more : List Trans) → IsTransition symbols states d → trans_are_over symbols more ≡ true → trans_are_over symbols (with_trans (number_of symbols d.head) states d more) ≡ true
  trans_more d more (by_symbol {f = f} e k args target) h =
      ap (λ o. trans_are_over symbols (with_trans o states d more)) e
      ∙ and_from _ _ (ap (is_symbol symbols f) (length-map d.args (place_in states)) ∙ symbol_known symbols f (length d.args) k) h
  trans_more d more (by_state head none target) h = ap (λ o. trans_are_over symbols (with_trans o states d more)) (apart d.head head) ∙ h

  trans_over : (ds : List Arrow) → All (IsTransition symbols states) ds → trans_are_over symbols (transitions_in symbols states ds) ≡ true
  trans_over [] h = refl
  trans_over (d ∷ ds) h = trans_more d (transitions_in symbols states ds) (All-head (IsTransition symbols states) d ds h) (trans_over ds (All-tail (IsTransition symbols states) d ds h))

module _ (symbols : List Symbol) (variables : List Text) where
  started_over : (a : AutomatonDeclaration) → IsDeclarable symbols variables a → trans_are_over symbols (started_by symbols a).trans ≡ true
  started_over a h = trans_over symbols a.states (no_symbol symbols variables a.states h.states.distinct) a.transitions h.transitions

  pub initial_over : (automata : List AutomatonDeclaration) → All (IsDeclarable symbols variables) automata → trans_are_over symbols (initial_of symbols automata).trans ≡ true
  initial_over [] h = refl
  initial_over (first ∷ others) h = started_over first (All-head (IsDeclarable symbols variables) first others h)

  pub second_over : (automata : List AutomatonDeclaration) → All (IsDeclarable symbols variables) automata → trans_are_over symbols (second_of symbols automata).trans ≡ true
  second_over [] h = refl
  second_over (first ∷ []) h = refl
  second_over (first ∷ second ∷ others) h =
      started_over second (All-head (IsDeclarable symbols variables) second others (All-tail (IsDeclarable symbols variables) first (second ∷ others) h))
