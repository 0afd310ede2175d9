-- The height of a term is at most its size, and a term over a signature is over one with a symbol more.
use Rattle.std.proofs.Common.{◌≡◌, ℕ, ◌≤◌, true, ◌&&◌, List, [], ◌∷◌, ◌++◌, map, sum, length, Option, Some, None, refl, sym, ap, ◌∙◌, true≢false, arith}
use Rattle.std.specs.List.{AllByRecursion, list_all}
use Rattle.std.specs.Cmp.{first_so, second_so}
use Rattle.std.proofs.lemmas.List.Sums.{sum_by-cons}
use Rattle.ranked_terms.specs.Names.{Symbol, arity_of}
use Rattle.ranked_terms.specs.Terms.{size_of, height_of, greatest, is_arity, is_symbol, is_over}
use Rattle.ranked_terms.specs.declared.term.Term.{Term}
use Rattle.ranked_terms.proofs.signatures.SignatureLaws.{arity_of-kept}
use Rattle.ranked_terms.specs.lemmas.TermLaws.{size_node, height_node, is_over_node, term_induction}
use Rattle.ranked_terms.specs.lemmas.InstanceLaws.{both, along}

-- ---- heights

greatest-le : (ts : List Term) → AllByRecursion (λ t. height_of t ≤ size_of t) ts → greatest (map height_of ts) ≤ sum (map size_of ts)
greatest-le [] h = omega arith
greatest-le (t ∷ ts) h = omega (arith, h.0, greatest-le ts h.1, sum_by-cons (λ x. x) (size_of t) (map size_of ts))

pub height_of-le : (t : Term) → height_of t ≤ size_of t
height_of-le = term_induction (λ t. height_of t ≤ size_of t) (λ f ts each.
    omega (arith, height_node f ts, size_node f ts, greatest-le ts each))

-- ---- over a signature

is_symbol_by : (s : List Symbol) (x : Symbol) (f n : ℕ) (o : Option ℕ) → arity_of s f ≡ o → is_symbol s f n ≡ true → is_symbol (s ++ x ∷ []) f n ≡ true
is_symbol_by s x f n None e h = absurd (true≢false (sym h ∙ ap (is_arity n) e))
is_symbol_by s x f n (Some a) e h = ap (is_arity n) (arity_of-kept s x f a e) ∙ (sym (ap (is_arity n) e) ∙ h)

-- a symbol stays when another is added
pub is_symbol-kept : (s : List Symbol) (x : Symbol) (f n : ℕ) → is_symbol s f n ≡ true → is_symbol (s ++ x ∷ []) f n ≡ true
is_symbol-kept s x f n h = is_symbol_by s x f n (arity_of s f) refl h

-- and so does a term
pub is_over-kept : (s : List Symbol) (x : Symbol) (t : Term) → is_over s t ≡ true → is_over (s ++ x ∷ []) t ≡ true
is_over-kept s x = term_induction (λ t. is_over s t ≡ true → is_over (s ++ x ∷ []) t ≡ true) (λ f ts each over.
    let h : (is_symbol s f (length ts) && list_all (is_over s) ts) ≡ true = sym (is_over_node s f ts) ∙ over in
    is_over_node (s ++ x ∷ []) f ts ∙ both (is_symbol (s ++ x ∷ []) f (length ts)) (list_all (is_over (s ++ x ∷ [])) ts)
    (is_symbol-kept s x f (length ts) (first_so (is_symbol s f (length ts)) (list_all (is_over s) ts) h))
    (along (is_over s) (is_over (s ++ x ∷ [])) ts each (second_so (is_symbol s f (length ts)) (list_all (is_over s) ts) h)))
