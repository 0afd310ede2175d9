-- The text of a term over a signature has the form of a term.
use Rattle.std.proofs.Common.{◌≡◌, ℕ, true, List, [], ◌∷◌, map, length, sym, subst, ◌∙◌}
use Rattle.std.specs.List.{AllByRecursion, list_all, join_with_byte}
use Rattle.ranked_terms.specs.Names.{Symbol}
use Rattle.ranked_terms.specs.Terms.{is_over, is_symbol}
use Rattle.ranked_terms.specs.SignatureRules.{IsSignature}
use Rattle.ranked_terms.specs.Words.{IsWord}
use Rattle.ranked_terms.specs.declared.term.Term.{Term}
use Rattle.ranked_terms.specs.declared.term.Term.TheFolds.{fold-roll-Term}
use Rattle.ranked_terms.specs.lemmas.TermLaws.{term_induction, is_over_node}
use Rattle.ranked_terms.specs.Texts.{Text, with_args, symbol_text, term_text, term_step}
use Rattle.cert_text.specs.TermForms.{IsTermText, AreTermTexts, name, applied, one, more}
use Rattle.cert_text.proofs.format.Symbols.{and_both, name_word}

module _ (s : List Symbol) (valid : IsSignature s) where
  abbrev HasForm : Term → Type 0
  HasForm t = is_over s t ≡ true → IsTermText (term_text s t)

  args_form : (t : Term) (ts : List Term) → AllByRecursion HasForm (t ∷ ts) → list_all (is_over s) (t ∷ ts) ≡ true → AreTermTexts (join_with_byte 44 (map (term_text s) (t ∷ ts)))
  args_form t [] h over = one _ (h.0 (and_both (is_over s t) true over).0)
  args_form t (u ∷ ts) h over =
      let both = and_both (is_over s t) (list_all (is_over s) (u ∷ ts)) over in
      more (term_text s t) (join_with_byte 44 (map (term_text s) (u ∷ ts))) (h.0 both.0) (args_form u ts h.1 both.1)

  node_form : (f : ℕ) (ts : List Term) → IsWord (symbol_text s f) → AllByRecursion HasForm ts → list_all (is_over s) ts ≡ true → IsTermText (with_args (symbol_text s f) (map (term_text s) ts))
  node_form f [] word h over = name (symbol_text s f) word
  node_form f (t ∷ ts) word h over = applied (symbol_text s f) (join_with_byte 44 (map (term_text s) (t ∷ ts))) word (args_form t ts h over)

  pub term_form : (t : Term) → HasForm t
  term_form = term_induction HasForm (λ f ts h over.
      let both = and_both (is_symbol s f (length ts)) (list_all (is_over s) ts) (sym (is_over_node s f ts) ∙ over) in
      subst IsTermText (sym (fold-roll-Term Text (term_step s) (record { sym = f; args = ts }))) (node_form f ts (name_word s valid f (length ts) both.0) h both.1))
