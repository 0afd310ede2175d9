-- A term over a signature is told by its text, and by a text that begins with it.
use Rattle.std.proofs.Common.{◌≡◌, ℕ, zero, suc, true, true≢false, List, [], ◌∷◌, ◌++◌, length, Some, refl, sym, ap, ◌∙◌, append_assoc, append-nil}
use Rattle.std.specs.Prelude.{All, unwrap_or}
use Rattle.std.specs.List.{AllByRecursion, list_all}
use Rattle.std.specs.Cmp.{first_so, second_so}
use Rattle.std.proofs.lemmas.Bool.{eqb-false}
use Rattle.std.proofs.lemmas.List.Elements.{All-head, All-tail}
use Rattle.ranked_terms.specs.Words.{IsWord, is_word_byte}
use Rattle.ranked_terms.specs.Names.{Symbol, name_of, number_of}
use Rattle.ranked_terms.specs.Terms.{is_over, is_symbol, node}
use Rattle.ranked_terms.specs.Texts.{Text, NoWord, Stops, symbol_text, term_text, to_come}
use Rattle.ranked_terms.specs.SignatureRules.{IsSymbol, IsSignature}
use Rattle.ranked_terms.specs.declared.term.Term.{Term}
use Rattle.ranked_terms.specs.declared.term.Term.TheViews.{out-Term}
use Rattle.ranked_terms.specs.lemmas.TermLaws.{term_induction, is_over_node, node_out}
use Rattle.ranked_terms.proofs.places.PositionLaws.{args_of}
use Rattle.ranked_terms.proofs.signatures.SignatureLaws.{number_of-only}
use Rattle.ranked_terms.proofs.texts.TextLaws.{texts, text_node}

-- ---- names

no_word : (c : ℕ) (rest x : Text) → NoWord x → x ≡ c ∷ rest → is_word_byte c ≡ true → ⊥
no_word c rest [] h e w = cc
no_word c rest (b ∷ bs) h e w = let same : b ≡ c = cc in true≢false (sym w ∙ ap is_word_byte (sym same) ∙ h)

-- a word is cut from a text in one way
pub words_once : (f g x y : Text) → list_all is_word_byte f ≡ true → list_all is_word_byte g ≡ true → NoWord x → NoWord y → f ++ x ≡ g ++ y → (f ≡ g) × (x ≡ y)
words_once [] [] x y a b h k e = (refl, e)
words_once [] (c ∷ g) x y a b h k e = absurd (no_word c (g ++ y) x h e (first_so (is_word_byte c) (list_all is_word_byte g) b))
words_once (c ∷ f) [] x y a b h k e = absurd (no_word c (f ++ x) y k (sym e) (first_so (is_word_byte c) (list_all is_word_byte f) a))
words_once (c ∷ f) (d ∷ g) x y a b h k e =
    let front : c ≡ d = cc in
    let rest : f ++ x ≡ g ++ y = cc in
    let both = words_once f g x y (second_so (is_word_byte c) (list_all is_word_byte f) a) (second_so (is_word_byte d) (list_all is_word_byte g) b) h k rest in
    ((λ i. front i ∷ both.0 i), both.1)

-- a symbol of the signature has a name, which is a word
pub record Named (s : List Symbol) (f : ℕ) : Type 0 where
  pub name : Text
  pub is : name_of s f ≡ Some name
  pub word : IsWord name

pub named_by : (s : List Symbol) → All IsSymbol s → (f count : ℕ) → is_symbol s f count ≡ true → Named s f
named_by [] all f count e = absurd (true≢false (sym e))
named_by (x ∷ s) all zero count e = record { name = x.0; is = refl; word = (All-head IsSymbol x s all).name.word }
named_by (x ∷ s) all (suc f) count e = let r = named_by s (All-tail IsSymbol x s all) f count e in record { name = r.name; is = r.is; word = r.word }

-- ---- what may stand behind a term

pub stops_word : (x : Text) → Stops x → NoWord x
stops_word [] h = h
stops_word (b ∷ bs) h = h.0

not_opened : (x rest : Text) → Stops x → x ≡ 40 ∷ rest → ⊥
not_opened [] rest h e = cc
not_opened (b ∷ bs) rest h e = let same : b ≡ 40 = cc in eqb-false b 40 h.1 same

module _ (s : List Symbol) where
  -- behind a name
  pub name_stops : (ts : List Term) (y : Text) → Stops y → NoWord (to_come 40 (texts s ts) ++ y)
  name_stops [] y h = stops_word y h
  name_stops (t ∷ ts) y h = refl

  -- behind an argument
  pub argument_stops : (ts : List Term) (y : Text) → Stops (to_come 44 (texts s ts) ++ y)
  argument_stops [] y = (refl, refl)
  argument_stops (t ∷ ts) y = (refl, refl)

  pub name_text : (f : ℕ) (n : Named s f) → symbol_text s f ≡ n.name
  name_text f n = ap (λ o. unwrap_or o []) n.is

  pub name_word : (f : ℕ) → Named s f → list_all is_word_byte (symbol_text s f) ≡ true
  name_word f n = ap (list_all is_word_byte) (name_text f n) ∙ n.word.bytes

  module _ (valid : IsSignature s) where
    pub symbol_once : (f g : ℕ) → Named s f → Named s g → symbol_text s f ≡ symbol_text s g → f ≡ g
    symbol_once f g a b e =
        let same : a.name ≡ b.name = sym (name_text f a) ∙ e ∙ name_text g b in
        ap (λ o. unwrap_or o 0) (sym (number_of-only s a.name f valid.distinct a.is) ∙ ap (number_of s) same ∙ number_of-only s b.name g valid.distinct b.is)

    abbrev pub IsOnce : Term → Type 0
    IsOnce t = (u : Term) (x y : Text) → is_over s t ≡ true → is_over s u ≡ true → Stops x → Stops y → term_text s t ++ x ≡ term_text s u ++ y → (t ≡ u) × (x ≡ y)

    -- the arguments behind a comma, or behind the parenthesis
    rest_once : (ts us : List Term) (x y : Text) → AllByRecursion IsOnce ts → list_all (is_over s) ts ≡ true → list_all (is_over s) us ≡ true
        → to_come 44 (texts s ts) ++ x ≡ to_come 44 (texts s us) ++ y → (ts ≡ us) × (x ≡ y)
    rest_once [] [] x y h a b e = let rest : x ≡ y = cc in (refl, rest)
    rest_once [] (u ∷ us) x y h a b e = let bad : 41 ≡ 44 = cc in absurd (eqb-false 41 44 refl bad)
    rest_once (t ∷ ts) [] x y h a b e = let bad : 44 ≡ 41 = cc in absurd (eqb-false 44 41 refl bad)
    rest_once (t ∷ ts) (u ∷ us) x y h a b e =
        let inner : (term_text s t ++ to_come 44 (texts s ts)) ++ x ≡ (term_text s u ++ to_come 44 (texts s us)) ++ y = cc in
        let both = h.0 u (to_come 44 (texts s ts) ++ x) (to_come 44 (texts s us) ++ y)
        (first_so (is_over s t) (list_all (is_over s) ts) a) (first_so (is_over s u) (list_all (is_over s) us) b) (argument_stops ts x) (argument_stops us y)
        (sym (append_assoc (term_text s t) (to_come 44 (texts s ts)) x) ∙ inner ∙ append_assoc (term_text s u) (to_come 44 (texts s us)) y) in
        let others = rest_once ts us x y h.1 (second_so (is_over s t) (list_all (is_over s) ts) a) (second_so (is_over s u) (list_all (is_over s) us) b) both.1 in
        ((λ i. both.0 i ∷ others.0 i), others.1)

    pub args_once : (ts us : List Term) (x y : Text) → AllByRecursion IsOnce ts → list_all (is_over s) ts ≡ true → list_all (is_over s) us ≡ true → Stops x → Stops y
        → to_come 40 (texts s ts) ++ x ≡ to_come 40 (texts s us) ++ y → (ts ≡ us) × (x ≡ y)
    args_once [] [] x y h a b k l e = (refl, e)
    args_once [] (u ∷ us) x y h a b k l e = absurd (not_opened x ((term_text s u ++ to_come 44 (texts s us)) ++ y) k e)
    args_once (t ∷ ts) [] x y h a b k l e = absurd (not_opened y ((term_text s t ++ to_come 44 (texts s ts)) ++ x) l (sym e))
    args_once (t ∷ ts) (u ∷ us) x y h a b k l e =
        let inner : (term_text s t ++ to_come 44 (texts s ts)) ++ x ≡ (term_text s u ++ to_come 44 (texts s us)) ++ y = cc in
        rest_once (t ∷ ts) (u ∷ us) x y h a b (ap (λ r. 44 ∷ r) inner)

    pub node_once : (f g : ℕ) (ts us : List Term) (x y : Text) → Named s f → Named s g → AllByRecursion IsOnce ts → list_all (is_over s) ts ≡ true → list_all (is_over s) us ≡ true → Stops x → Stops y
        → (symbol_text s f ++ to_come 40 (texts s ts)) ++ x ≡ (symbol_text s g ++ to_come 40 (texts s us)) ++ y → (f ≡ g) × (ts ≡ us) × (x ≡ y)
    node_once f g ts us x y m n h a b k l e =
        let names = words_once (symbol_text s f) (symbol_text s g) (to_come 40 (texts s ts) ++ x) (to_come 40 (texts s us) ++ y) (name_word f m) (name_word g n) (name_stops ts x k) (name_stops us y l)
        (sym (append_assoc (symbol_text s f) (to_come 40 (texts s ts)) x) ∙ e ∙ append_assoc (symbol_text s g) (to_come 40 (texts s us)) y) in
        let args = args_once ts us x y h a b k l names.1 in
        (symbol_once f g m n names.0, args.0, args.1)

    pub term_once : (t : Term) → IsOnce t
    term_once = term_induction IsOnce (λ f ts each u x y ot ou k l e.
        let g = (out-Term u).sym in
        let us = args_of u in
        let over_t = sym (is_over_node s f ts) ∙ ot in
        let over_u = sym (is_over_node s g us) ∙ ap (is_over s) (node_out u) ∙ ou in
        let in_t = first_so (is_symbol s f (length ts)) (list_all (is_over s) ts) over_t in
        let in_u = first_so (is_symbol s g (length us)) (list_all (is_over s) us) over_u in
        let same = node_once f g ts us x y (named_by s valid.symbols f (length ts) in_t) (named_by s valid.symbols g (length us) in_u) each
        (second_so (is_symbol s f (length ts)) (list_all (is_over s) ts) over_t) (second_so (is_symbol s g (length us)) (list_all (is_over s) us) over_u) k l
        (ap (λ r. r ++ x) (sym (text_node s f ts)) ∙ e ∙ ap (λ r. r ++ y) (ap (term_text s) (sym (node_out u)) ∙ text_node s g us)) in
        ((λ i. node (same.0 i) (same.1 i)) ∙ node_out u, same.2))

    -- no two terms have one text
    pub texts_differ : (t u : Term) → is_over s t ≡ true → is_over s u ≡ true → term_text s t ≡ term_text s u → t ≡ u
    texts_differ t u a b e = (term_once t u [] [] a b tt tt (append-nil (term_text s t) ∙ e ∙ sym (append-nil (term_text s u)))).0
