-- Pairs are printed one after the other.
use Rattle.std.proofs.Common.{◌≡◌, ℕ, ◌+◌, List, [], ◌∷◌, ◌++◌, map, take, slice_get, Some, refl, sym, ap, ◌∙◌, arith}
use Rattle.std.proofs.lemmas.List.Elements.{All-push}
use Rattle.ranked_terms.specs.Names.{Symbol}
use Rattle.ranked_terms.specs.declared.term.Term.{Term}
use Rattle.derive_search.specs.TextOrder.{ArePrinted, HasText, key_of}
use Rattle.derive_search.specs.declared.low_terms.Printed.{Printed}
use Rattle.derive_search.proofs.pairs.StartLaws.{take_next}

keys_more : (all : List Printed) (e : Printed) → map key_of (all ++ e ∷ []) ≡ map key_of all ++ key_of e ∷ []
keys_more [] e = refl
keys_more (x ∷ all) e = ap (λ ks. key_of x ∷ ks) (keys_more all e)

module _ (signature : List Symbol) (terms : List Term) where
  pub none_printed : ArePrinted signature terms [] []
  none_printed = record { are = refl; texts = λ k d l. absurd (omega (arith, l)) }

  pub one_printed : (pairs : List (ℕ × ℕ)) (k : ℕ) (all : List Printed) (e : Printed) → slice_get pairs k ≡ Some (key_of e) → HasText signature terms e → ArePrinted signature terms (take k pairs) all → ArePrinted signature terms (take (k + 1) pairs) (all ++ e ∷ [])
  one_printed pairs k all e at text h = record {
    are = keys_more all e ∙ (ap (λ ks. ks ++ key_of e ∷ []) h.are ∙ sym (take_next pairs k (key_of e) at));
    texts = All-push (HasText signature terms) all e h.texts text;
  }
