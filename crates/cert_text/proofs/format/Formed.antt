-- The words of a formed line have no blank and no newline, so a text begins with one line at most.
use Rattle.std.proofs.Common.{◌≡◌, ℕ, ◌==◌, true, false, List, [], ◌∷◌, ◌++◌, map, refl, sym, ◌∙◌, arith}
use Rattle.std.specs.Prelude.{All, codes}
use Rattle.std.specs.List.{AllByRecursion, list_all, join_with_byte}
use Rattle.std.proofs.lemmas.List.Elements.{All-cons, All-nil, All-append, All-from_recursion, recursion_from_All}
use Rattle.ranked_terms.specs.Words.{IsWord, is_word_byte}
use Rattle.ranked_terms.specs.Texts.{Text, number_word, with_args}
use Rattle.cert_text.specs.Words.{Words, position_word}
use Rattle.cert_text.specs.Lines as line
use Rattle.cert_text.specs.Lines.{Line, words_of, IsFormed, Follows}
use Rattle.cert_text.specs.TermForms.{IsTermText, AreTermTexts, name, applied, one, more}
use Rattle.cert_text.specs.Laws.{BeginsOnce}
use Rattle.cert_text.proofs.fields.Texts.{Lacks, IsLine, joined_lacks, line_once}
use Rattle.cert_text.proofs.fields.Numbers.{IsDigit, number_lacks, numbers_lack}
use Rattle.cert_text.proofs.fields.Applied.{lacks, word_lacks, words_once}
use Rattle.cert_text.proofs.format.OneLine.{line_is_one}

-- a blank or a newline
pub record IsGap (b : ℕ) : Type 0 where
  pub no_word : is_word_byte b ≡ false
  pub no_digit : IsDigit b → ⊥
  pub no_open : (40 == b) ≡ false
  pub no_close : (41 == b) ≡ false
  pub no_comma : (44 == b) ≡ false
  pub no_dot : (46 == b) ≡ false
  pub no_arrow : Lacks b (codes "->")
  pub no_root : Lacks b (codes "e")

blank : IsGap 32
blank = record {
  no_word = refl;
  no_digit = λ d. omega (arith, d.least);
  no_open = refl;
  no_close = refl;
  no_comma = refl;
  no_dot = refl;
  no_arrow = All-from_recursion (λ x. (x == 32) ≡ false) (codes "->") (refl, (refl, tt));
  no_root = All-from_recursion (λ x. (x == 32) ≡ false) (codes "e") (refl, tt);
}

newline : IsGap 10
newline = record {
  no_word = refl;
  no_digit = λ d. omega (arith, d.least);
  no_open = refl;
  no_close = refl;
  no_comma = refl;
  no_dot = refl;
  no_arrow = All-from_recursion (λ x. (x == 10) ≡ false) (codes "->") (refl, (refl, tt));
  no_root = All-from_recursion (λ x. (x == 10) ≡ false) (codes "e") (refl, tt);
}

module _ (b : ℕ) (gap : IsGap b) where
  applied_lacks : (f : Text) (args : Words) → Lacks b f → All (Lacks b) args → Lacks b (with_args f args)
  applied_lacks f [] h k = h
  applied_lacks f (a ∷ args) h k =
      All-append (λ x. (x == b) ≡ false) f (40 ∷ (join_with_byte 44 (a ∷ args) ++ 41 ∷ [])) h
      (All-cons (λ x. (x == b) ≡ false) 40 (join_with_byte 44 (a ∷ args) ++ 41 ∷ []) gap.no_open
      (All-append (λ x. (x == b) ≡ false) (join_with_byte 44 (a ∷ args)) (41 ∷ []) (joined_lacks b 44 (a ∷ args) gap.no_comma k)
      (All-cons (λ x. (x == b) ≡ false) 41 [] gap.no_close (All-nil (λ x. (x == b) ≡ false)))))

  position_lacks : (at : List ℕ) → Lacks b (position_word at)
  position_lacks [] = gap.no_root
  position_lacks (k ∷ ks) = joined_lacks b 46 (map number_word (k ∷ ks)) gap.no_dot (numbers_lack b (k ∷ ks) gap.no_digit)

  mutual
    term_lacks : (t : Text) → IsTermText t → Lacks b t
    term_lacks t (name f word) = word_lacks b f gap.no_word word
    term_lacks t (applied f args word are) =
        All-append (λ x. (x == b) ≡ false) f (40 ∷ (args ++ 41 ∷ [])) (word_lacks b f gap.no_word word)
        (All-cons (λ x. (x == b) ≡ false) 40 (args ++ 41 ∷ []) gap.no_open
        (All-append (λ x. (x == b) ≡ false) args (41 ∷ []) (terms_lack args are)
        (All-cons (λ x. (x == b) ≡ false) 41 [] gap.no_close (All-nil (λ x. (x == b) ≡ false)))))

    terms_lack : (ts : Text) → AreTermTexts ts → Lacks b ts
    terms_lack ts (one t is) = term_lacks t is
    terms_lack ts (more t others is are) =
        All-append (λ x. (x == b) ≡ false) t (44 ∷ others) (term_lacks t is)
        (All-cons (λ x. (x == b) ≡ false) 44 others gap.no_comma (terms_lack others are))

  literal : (w : Text) → list_all is_word_byte w ≡ true → Lacks b w
  literal w e = lacks b w gap.no_word e

  abbrev pair : {A B : Type 0} → A → B → A × B
  pair a b = (a, b)

  number : (n : ℕ) → Lacks b (number_word n)
  number n = number_lacks b n gap.no_digit

  numbers : (ns : List ℕ) → AllByRecursion (Lacks b) (map number_word ns)
  numbers ns = recursion_from_All (Lacks b) (map number_word ns) (numbers_lack b ns gap.no_digit)

  each_lacks : (l : Line) → IsFormed l → AllByRecursion (Lacks b) (words_of l)
  each_lacks line.head x = pair (literal (codes "Timbuk") refl) (pair (literal (codes "certificate") refl) (pair (literal (codes "1") refl) tt))
  each_lacks line.unreachable x = pair (literal (codes "Verdict") refl) (pair (literal (codes "unreachable") refl) tt)
  each_lacks line.reachable x = pair (literal (codes "Verdict") refl) (pair (literal (codes "reachable") refl) tt)
  each_lacks (line.rounds i) x = pair (literal (codes "Note") refl) (pair (literal (codes "rounds") refl) (pair (number i) tt))
  each_lacks line.precise x = pair (literal (codes "Note") refl) (pair (literal (codes "precise") refl) (pair (literal (codes "modulo") refl) (pair (literal (codes "equations") refl) tt)))
  each_lacks (line.next n) x = pair (literal (codes "Next") refl) (pair (number n) tt)
  each_lacks (line.states qs) x = pair (literal (codes "States") refl) (numbers qs)
  each_lacks (line.finals qs) x = pair (literal (codes "Finals") refl) (numbers qs)
  each_lacks (line.maps qs) x = pair (literal (codes "Map") refl) (numbers qs)
  each_lacks (line.trans f qs q) x = pair (literal (codes "T") refl) (pair (applied_lacks f (map number_word qs) (word_lacks b f gap.no_word x) (numbers_lack b qs gap.no_digit)) (pair gap.no_arrow (pair (number q) tt)))
  each_lacks (line.eps p q) x = pair (literal (codes "E") refl) (pair (number p) (pair gap.no_arrow (pair (number q) tt)))
  each_lacks (line.start t) x = pair (literal (codes "Start") refl) (pair (term_lacks t x) tt)
  each_lacks (line.step r at t) x = pair (literal (codes "Step") refl) (pair (number r) (pair (position_lacks at) (pair (term_lacks t x.3) tt)))
  each_lacks line.end x = pair (literal (codes "End") refl) tt

  words_lack : (l : Line) → IsFormed l → All (Lacks b) (words_of l)
  words_lack l x = All-from_recursion (Lacks b) (words_of l) (each_lacks l x)

record SomeWords (words : Words) : Type 0 where
  word : Text
  others : Words
  are : words ≡ word ∷ others

some_words : (l : Line) → SomeWords (words_of l)
some_words line.head = record { word = _; others = _; are = refl }
some_words line.unreachable = record { word = _; others = _; are = refl }
some_words line.reachable = record { word = _; others = _; are = refl }
some_words (line.rounds i) = record { word = _; others = _; are = refl }
some_words line.precise = record { word = _; others = _; are = refl }
some_words (line.next n) = record { word = _; others = _; are = refl }
some_words (line.states qs) = record { word = _; others = _; are = refl }
some_words (line.finals qs) = record { word = _; others = _; are = refl }
some_words (line.maps qs) = record { word = _; others = _; are = refl }
some_words (line.trans f qs q) = record { word = _; others = _; are = refl }
some_words (line.eps p q) = record { word = _; others = _; are = refl }
some_words (line.start t) = record { word = _; others = _; are = refl }
some_words (line.step r at t) = record { word = _; others = _; are = refl }
some_words line.end = record { word = _; others = _; are = refl }

pub is_line : (l : Line) → IsFormed l → IsLine (words_of l)
is_line l x = let some = some_words l in record { word = some.word; others = some.others; some = some.are; blanks = words_lack 32 blank l x; newlines = words_lack 10 newline l x }

-- a text begins with one line at most
pub begins_once : BeginsOnce
begins_once k bytes l m x y a b =
    let same = line_once (words_of l) (words_of m) x y (is_line l a.formed) (is_line m b.formed) (sym a.told ∙ b.told) in
    (line_is_one words_once k.before l m a.follows b.follows a.formed b.formed same.words, same.rest)

pub newline_free_line : (l : Line) → IsFormed l → Lacks 10 (join_with_byte 32 (words_of l))
newline_free_line l x = joined_lacks 10 32 (words_of l) refl (words_lack 10 newline l x)

pub applied_free : (f : Text) (qs : List ℕ) → IsWord f → Lacks 32 (with_args f (map number_word qs))
applied_free f qs is = applied_lacks 32 blank f (map number_word qs) (word_lacks 32 f refl is) (numbers_lack 32 qs (λ d. omega (arith, d.least)))

pub position_free : (at : List ℕ) → Lacks 32 (position_word at)
position_free at = position_lacks 32 blank at
