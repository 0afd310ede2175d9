-- The text of a term as it is printed, piece by piece.
use Rattle.std.proofs.Common.{◌≡◌, ◌≢◌, ℕ, zero, suc, ◌+◌, ◌<◌, ◌≤◌, ◌==◌, Bool, true, false, if◌then◌else◌, List, [], ◌∷◌, ◌++◌, map, length, drop, get_or, refl, sym, ap, subst, ◌∙◌, arith, append_assoc, append-nil}
use Rattle.std.specs.List.{join_with_byte, list_all}
use Rattle.std.specs.Prelude.{IsTrue, Result, Ok, Err, OnErr}
use Rattle.std.specs.Cmp.{first_so, second_so}
use Rattle.std.proofs.lemmas.Bool.{eq-eqb, eqb-true}
use Rattle.std.proofs.lemmas.List.{drop_more, drop_all}
use Rattle.ranked_terms.specs.Names.{Symbol}
use Rattle.ranked_terms.specs.Terms.{node, is_over, is_symbol}
use Rattle.ranked_terms.specs.Texts.{Text, IsCutAt, IsCutShort, symbol_text, term_step, term_text, to_come, with_args}
use Rattle.ranked_terms.specs.declared.term.Term.{Term}
use Rattle.ranked_terms.specs.declared.term.Term.TheFolds.{fold-roll-Term}
use Rattle.ranked_terms.specs.declared.term.Term.TheViews.{out-Term}
use Rattle.ranked_terms.specs.lemmas.TermLaws.{is_over_node, node_out}
use Rattle.ranked_terms.proofs.places.PositionLaws.{args_of}

-- ---- the text of a node

joined_to_come : (text : Text) (texts : List Text) → join_with_byte 44 (text ∷ texts) ++ 41 ∷ [] ≡ text ++ to_come 44 texts
joined_to_come text [] = refl
joined_to_come text (next ∷ texts) = append_assoc text (44 ∷ join_with_byte 44 (next ∷ texts)) (41 ∷ []) ∙ ap (λ r. text ++ 44 ∷ r) (joined_to_come next texts)

pub with_args_to_come : (name : Text) (texts : List Text) → with_args name texts ≡ name ++ to_come 40 texts
with_args_to_come name [] = sym (append-nil name)
with_args_to_come name (text ∷ texts) = ap (λ r. name ++ 40 ∷ r) (joined_to_come text texts)

module _ (s : List Symbol) where
  abbrev pub texts : List Term → List Text
  texts ts = map (term_text s) ts

  pub text_node : (f : ℕ) (ts : List Term) → term_text s (node f ts) ≡ symbol_text s f ++ to_come 40 (texts ts)
  text_node f ts = fold-roll-Term Text (term_step s) (record { sym = f; args = ts }) ∙ with_args_to_come (symbol_text s f) (texts ts)

  pub text_of_term : (t : Term) → term_text s t ≡ symbol_text s (out-Term t).sym ++ to_come 40 (texts (args_of t))
  text_of_term t = ap (term_text s) (sym (node_out t)) ∙ text_node (out-Term t).sym (args_of t)

  over_at : (ts : List Term) (i : ℕ) (t : Term) → list_all (is_over s) ts ≡ true → i < length ts → t ≡ get_or ts i t → is_over s t ≡ true
  over_at [] i t h l e = absurd (omega (arith, l))
  over_at (u ∷ ts) zero t h l e = ap (is_over s) e ∙ first_so (is_over s u) (list_all (is_over s) ts) h
  over_at (u ∷ ts) (suc i) t h l e = over_at ts i t (second_so (is_over s u) (list_all (is_over s) ts) h) (omega (arith, l)) e

  pub over_argument : (t : Term) (ts : List Term) (i : ℕ) (u : Term) → IsTrue (is_over s t) → ts ≡ args_of t → i < length ts → u ≡ get_or ts i u → IsTrue (is_over s u)
  over_argument t ts i u h e l is =
      let both = sym (is_over_node s (out-Term t).sym (args_of t)) ∙ (ap (is_over s) (node_out t) ∙ h) in
      over_at ts i u (subst (λ us. list_all (is_over s) us ≡ true) (sym e) (second_so (is_symbol s (out-Term t).sym (length (args_of t))) (list_all (is_over s) (args_of t)) both)) l is

  abbrev end_text : Bool → Text
  end_text b = if b then 41 ∷ [] else []

  -- one argument more
  pub next_to_come : (mark : ℕ) (ts : List Term) (i : ℕ) (t : Term) → i < length ts → t ≡ get_or ts i t
      → to_come mark (texts (drop i ts)) ≡ (mark ∷ []) ++ (term_text s t ++ to_come 44 (texts (drop (i + 1) ts)))
  next_to_come mark ts i t l is = ap (λ us. to_come mark (texts us)) (drop_more ts i t l ∙ ap (λ u. u ∷ drop (i + 1) ts) (sym is))

  last_to_come : (mark : ℕ) (ts : List Term) (i : ℕ) → length ts ≤ i → to_come mark (texts (drop i ts)) ≡ end_text (mark == 44)
  last_to_come mark ts i l = ap (λ us. to_come mark (texts us)) (drop_all i ts l)

  last_by : (b : Bool) (r : Bool) → b ≡ r → end_text b ≡ end_text r
  last_by b r e = ap end_text e

  pub closed : (mark : ℕ) (ts : List Term) (i : ℕ) → length ts ≤ i → mark ≡ 44 → to_come mark (texts (drop i ts)) ≡ 41 ∷ []
  closed mark ts i l e = last_to_come mark ts i l ∙ last_by (mark == 44) true (eq-eqb mark 44 e)

  pub not_closed : (mark : ℕ) (ts : List Term) (i : ℕ) → length ts ≤ i → mark ≢ 44 → to_come mark (texts (drop i ts)) ≡ []
  not_closed mark ts i l n = last_to_come mark ts i l ∙ last_by (mark == 44) false (differs (mark == 44) (λ k. n (eqb-true mark 44 k)))
    where
      differs : (r : Bool) → (r ≡ true → ⊥) → r ≡ false
      differs true h = absurd (h refl)
      differs false h = refl

-- ---- what is printed and what is to come

pub cut_start : (old text : Text) → IsCutAt old text old text
cut_start old text = record { front = []; text_is = refl; new_is = sym (append-nil old) }

pub cut_more : (old text now new piece rest whole : Text) → IsCutAt old text now whole → whole ≡ piece ++ rest → new ≡ now ++ piece → IsCutAt old text new rest
cut_more old text now new piece rest whole cut is e = record {
  front = cut.front ++ piece;
  text_is = cut.text_is ∙ (ap (λ r. cut.front ++ r) is ∙ sym (append_assoc cut.front piece rest));
  new_is = e ∙ (ap (λ n. n ++ piece) cut.new_is ∙ append_assoc old cut.front piece);
}

pub cut_end : (old text now rest : Text) → IsCutAt old text now rest → rest ≡ [] → now ≡ old ++ text
cut_end old text now rest cut e = cut.new_is ∙ ap (λ f. old ++ f) (sym (append-nil cut.front) ∙ (ap (λ r. cut.front ++ r) (sym e) ∙ sym cut.text_is))

pub cut_here : (old text now new rest : Text) → IsCutAt old text now rest → new ≡ now → IsCutShort old text new
cut_here old text now new rest cut e = record { front = cut.front; rest = rest; text_is = cut.text_is; new_is = e ∙ cut.new_is }

pub cut_inside : (old text now new piece rest whole : Text) → IsCutAt old text now whole → whole ≡ piece ++ rest → IsCutShort now piece new → IsCutShort old text new
cut_inside old text now new piece rest whole cut is part = record {
  front = cut.front ++ part.front;
  rest = part.rest ++ rest;
  text_is = cut.text_is ∙ (ap (λ r. cut.front ++ r) (is ∙ (ap (λ p. p ++ rest) part.text_is ∙ append_assoc part.front part.rest rest)) ∙ sym (append_assoc cut.front part.front (part.rest ++ rest)));
  new_is = part.new_is ∙ (ap (λ n. n ++ part.front) cut.new_is ∙ append_assoc old cut.front part.front);
}

pub on_err : {T E P : Type 0} (r : Result T E) → P → OnErr r P
on_err (Ok x) h = tt
on_err (Err e) h = h
